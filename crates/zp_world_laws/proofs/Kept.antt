-- What the store does by itself, and what it carries out, keeps a world whole.
use Rattle.std.proofs.Common.{◌≡◌, ◌≢◌, ℕ, ◌-◌, List, [], ◌∷◌, ◌++◌, refl, sym, ap, ◌∙◌, subst, Bool, true, false, ℤ, inl, inr, append-nil}
use Rattle.std.specs.Prelude.{Option, Some, None, ◌⊎◌, slice_get, if◌then◌else◌}
use Rattle.std.specs.FinMap.{get}
use Rattle.std.specs.Ordering.{int_eq}
use Rattle.ev_types.specs.Denials.{carry}
use Rattle.ev_types.specs.Lapses.{foreign, lapse}
use Rattle.ev_types.specs.Store.{Store, chosen, revision, succeeds, worked}
use Rattle.ev_types.specs.declared.answer.Answer.{Answer}
use Rattle.ev_types.specs.declared.ask.Ask.{Ask}
use Rattle.ev_types.specs.declared.ask.Ask.TheVariants as ask
use Rattle.zk_transcript.specs.History.{first_shown, frame, frame_shown}
use Rattle.zk_transcript.specs.Legal.{is_legal}
use Rattle.zk_transcript.specs.declared.transcript.TranscriptLine.{TranscriptLine}
use Rattle.zk_transcript.specs.declared.transcript.TranscriptLine.TheVariants.{Lapse as LapseLine}
use Rattle.zk_service.specs.declared.update.UpdateKind.{UpdateKind}
use Rattle.zp_step.specs.Stages.{Core, is_served}
use Rattle.zp_laws.specs.Inputs.{Precedes}
use Rattle.zp_script.specs.Carrying.{CarriedBy, Executes, ExecutesStray}
use Rattle.zp_script.specs.Effects.{LapsesTo, PutTo}
use Rattle.zp_script.specs.Faults.{is_kept_key}
use Rattle.zp_script.specs.Worlds.{Conn, Connection, World, conn_at, is_closed_actor, zxid_at}
use Rattle.zp_script.specs.declared.flight.Asking.{Asking}
use Rattle.zp_script.specs.declared.flight.Flight.{Flight}
use Rattle.zp_script.specs.declared.flight.Flight.TheVariants.{Out, Carried, Denied}
use Rattle.zx_base.proofs.Options.{none_some, some_is}
use Rattle.zx_base.specs.Maps.{Bytes}
use Rattle.zp_world_laws.proofs.Carrying.{asker-of, one}
use Rattle.zp_world_laws.proofs.Effects.{clock-air, executes-holds, foreign-holds, foreign-precedes, lapse-holds, lapse-precedes, left-at, line-air, store-air, stored-in, stray-air, stray-holds, tick-holds}
use Rattle.zp_world_laws.proofs.Executing.{carried-serving, precedes-self}
use Rattle.zp_world_laws.proofs.Growing.{grown-precedes, same-precedes}
use Rattle.zp_world_laws.proofs.Numbers.{conn-here, conn-there, either-number}
use Rattle.zp_world_laws.proofs.Serving.{Elsewhere, elsewhere-none, elsewhere-plain, elsewhere-update, serving-push}
use Rattle.zp_world_laws.proofs.Transactions.{other-carried, txn-carried}
use Rattle.zp_world_laws.specs.Connections.{HasSmallFrames, IsClosedAt, IsServingConn, Whole}
use Rattle.zp_world_laws.specs.Holding.{Holds, Left, Of, air, asker_in, left_in, made_for, out_in, out_of}
use Rattle.zp_world_laws.specs.Serving.{kind_lines, update_lines}
use Rattle.zx_base.proofs.Booleans.{true-not_false}

-- ---- each connection's record is shown anew, or the connection is as it was and the lines are others'

abbrev pub StillServing : World → World → List TranscriptLine → Type 0
StillServing w w' more = (d : ℕ) (y : Conn) (core : Core) → conn_at d w' ≡ Some y → y.actor ≡ Connection core → is_served core.stage ≡ true
    → IsServingConn w'.store w'.lines d core y.flight ⊎ ((conn_at d w ≡ Some y) × Elsewhere w.lines more d)

pub serving-kept : (w w' : World) (more : List TranscriptLine) → Whole w → Holds w' → Precedes w.store w'.store → w'.lines ≡ w.lines ++ more → StillServing w w' more
    → (c : ℕ) (x : Conn) (core : Core) → conn_at c w' ≡ Some x → x.actor ≡ Connection core → is_served core.stage ≡ true → IsServingConn w'.store w'.lines c core x.flight
serving-kept w w' more h h' longer lines still c x core e a s = elim (still c x core e a s) [
  | inl new ↦ new
  | inr old ↦ subst (λ l. IsServingConn w'.store l c core x.flight) (sym lines)
      (serving-push w.store w'.store w.lines more c core x.flight ((h.holds).serves).legal (subst (λ l. is_legal l ≡ true) lines (h'.serves).legal) longer old.1 (h.serving c x core old.0 a s))
]

-- ---- frames

pub frame-append : (c i : ℕ) (lines more : List TranscriptLine) → first_shown (frame_shown c i) more ≡ None → first_shown (frame_shown c i) (lines ++ more) ≡ first_shown (frame_shown c i) lines
frame-append c i [] more h = h
frame-append c i (l ∷ ls) more h = go (frame_shown c i l) (frame-append c i ls more h)
  where
    go : (o : Option (List ℕ)) → first_shown (frame_shown c i) (ls ++ more) ≡ first_shown (frame_shown c i) ls
        → ◌≡◌ {A = Option (List ℕ)} (elim o [ Some y ↦ Some y | None ↦ first_shown (frame_shown c i) (ls ++ more) ]) (elim o [ Some y ↦ Some y | None ↦ first_shown (frame_shown c i) ls ])
    go (Some y) e = refl
    go None e = e

abbrev pub Frameless : List TranscriptLine → Type 0
Frameless more = (c i : ℕ) → frame c i more ≡ None

pub small-more : (lines lines' more : List TranscriptLine) → lines' ≡ lines ++ more → Frameless more → ((c : ℕ) → HasSmallFrames lines c) → (c : ℕ) → HasSmallFrames lines' c
small-more lines lines' more e n h c = subst (λ l. HasSmallFrames l c) (sym e) (λ i bytes f. h c i bytes (sym (frame-append c i lines more (n c i)) ∙ f))

-- ---- closed connections

pub closed-same : (w w' : World) (c : ℕ) → conn_at c w' ≡ conn_at c w → IsClosedAt w c → IsClosedAt w' c
closed-same w w' c e t = (t.0, e ∙ t.1, t.2)

-- an open connection has no strays
pub no-stray : (w : World) (c : ℕ) (x : Conn) → ((k d : ℕ) (a : Asking) → air w (Left k) ≡ Some a → asker_in a ≡ Some d → IsClosedAt w d) → conn_at c w ≡ Some x → is_closed_actor x.actor ≡ false → (k : ℕ) (a : Asking) → air w (Left k) ≡ Some a → asker_in a ≡ Some c → ⊥
no-stray w c x left e opens k a g r =
    let t = left k c a g r in
    true-not_false (sym t.2 ∙ ap (λ (y : Conn). is_closed_actor y.actor) (some_is (sym t.1 ∙ e)) ∙ opens)

-- ---- the clock, and other users

pub tick-whole : (w : World) (n : ℕ) → Whole w → Whole (record w { clock = n })
tick-whole w n h =
    let w' : World = record w { clock = n } in
    let holds = tick-holds w n h.holds in
    record {
      holds = holds;
      serving = serving-kept w w' [] h holds (precedes-self w.store) (sym (append-nil w.lines)) (λ d y core e a s. inr (e, elsewhere-none w.lines d));
      unshut = h.unshut;
      own = h.own;
      left = λ k c a z r. closed-same w w' c refl (h.left k c a (clock-air w n (Left k) a z) r);
      small = h.small;
    }

pub foreign-whole : (w w' : World) (k v : Bytes) → is_kept_key k ≡ false → PutTo w w' (foreign w.store k v) → Whole w → Whole w'
foreign-whole w w' k v outside put h = go (foreign w.store k v) refl put (foreign-holds w w' k v outside put h.holds)
  where
    go : (o : Option Store) → foreign w.store k v ≡ o → PutTo w w' o → Holds w' → Whole w'
    go None e p holds = absurd p
    go (Some u) e p holds = subst Whole (sym p) (record {
      holds = subst Holds p holds;
      serving = serving-kept w (record w { store = u }) [] h (subst Holds p holds) (foreign-precedes w.store u k v e) (sym (append-nil w.lines)) (λ d y core f a t. inr (f, elsewhere-none w.lines d));
      unshut = h.unshut;
      own = h.own;
      left = λ j c a z r. closed-same w (record w { store = u }) c refl (h.left j c a (store-air w u (Left j) a z) r);
      small = h.small;
    })

pub lapse-whole : (w w' : World) (id : ℤ) → LapsesTo id w w' (lapse w.store id) → Whole w → Whole w'
lapse-whole w w' id does h = go (lapse w.store id) refl does (lapse-holds w w' id does h.holds)
  where
    go : (o : Option Store) → lapse w.store id ≡ o → LapsesTo id w w' o → Holds w' → Whole w'
    go None e p holds = absurd p
    go (Some u) e p holds =
        let l = LapseLine (revision u) id in
        let v : World = record w { store = u; lines = w.lines ++ l ∷ [] } in
        subst Whole (sym p) (record {
          holds = subst Holds p holds;
          serving = serving-kept w v (l ∷ []) h (subst Holds p holds) (lapse-precedes w.store u id e).0 refl (λ d y core f a t. inr (f, elsewhere-plain w.lines d l refl));
          unshut = h.unshut;
          own = h.own;
          left = λ j c a z r. closed-same w v c refl (h.left j c a (line-air w u (w.lines ++ l ∷ []) (Left j) a z) r);
          small = small-more w.lines (w.lines ++ l ∷ []) (l ∷ []) refl (λ c i. refl) h.small;
        })

-- ---- exec and stray

pub carry-precedes : (s u : Store) (a : Ask) (b : Answer) → carry s a ≡ Some (u, b) → Precedes s u
carry-precedes s u (ask.Txn t) b h = subst (λ v. Precedes s v) (sym ((txn-carried s u t b h).store)) (grown-precedes s (worked s (chosen (succeeds s t) t)).changes)
carry-precedes s u (ask.Range q) b h = same-precedes s u (other-carried s u (ask.Range q) b tt h)
carry-precedes s u (ask.Grant id ttl) b h = same-precedes s u (other-carried s u (ask.Grant id ttl) b tt h)
carry-precedes s u (ask.Alive id) b h = same-precedes s u (other-carried s u (ask.Alive id) b tt h)

-- the line of an update of another connection
elsewhere-carried : (lines : List TranscriptLine) (d : ℕ) (s u : Store) (o : Option UpdateKind) → ((kind : UpdateKind) → o ≡ Some kind → made_for kind ≡ one d → ⊥) → Elsewhere lines (update_lines s u o) d
elsewhere-carried lines d s u o h = go (int_eq (zxid_at s) (zxid_at u))
  where
    one_kind : (p : Option UpdateKind) → ((kind : UpdateKind) → p ≡ Some kind → made_for kind ≡ one d → ⊥) → Elsewhere lines (kind_lines u p) d
    one_kind None f = elsewhere-none lines d
    one_kind (Some kind) f = elsewhere-update lines d (zxid_at u) kind (f kind refl)

    go : (b : Bool) → Elsewhere lines (if b then [] else kind_lines u o) d
    go true = elsewhere-none lines d
    go false = one_kind o h

frameless-carried : (s u : Store) (o : Option UpdateKind) → Frameless (update_lines s u o)
frameless-carried s u o c i = go (int_eq (zxid_at s) (zxid_at u))
  where
    one_kind : (p : Option UpdateKind) → frame c i (kind_lines u p) ≡ None
    one_kind None = refl
    one_kind (Some kind) = refl

    go : (b : Bool) → frame c i (if b then [] else kind_lines u o) ≡ None
    go true = refl
    go false = one_kind o

denied-serving : (s : Store) (lines : List TranscriptLine) (c : ℕ) (core : Core) (x : Asking) → IsServingConn s lines c core (Some (Out x)) → IsServingConn s lines c core (Some Denied)
denied-serving s lines c core x k = record {
  place = k.place;
  attached = k.attached;
  least = k.least;
  most = k.most;
  rises = k.rises;
  walker = k.walker;
  talks = k.talks;
  looked = k.looked;
  stands = k.stands;
  flies = (x.ask, (k.flies).asked);
  fresh = k.fresh;
  first = k.first;
  packets_were = k.packets_were;
  welcomed = k.welcomed;
}

-- one connection has another flight, and the lines of an update of its own, or none
module _ (w w' : World) (c : ℕ) (x v : Conn) (f : Flight) (h : Whole w) (h' : Holds w') (there : conn_at c w ≡ Some x) (here : conn_at c w' ≡ Some v) (others : (d : ℕ) → d ≢ c → conn_at d w' ≡ conn_at d w) (same_actor : v.actor ≡ x.actor) (flight : v.flight ≡ Some f) (landed : out_in (Some f) ≡ None) (strays : w'.strays ≡ w.strays) where
  still_closed : (d : ℕ) → IsClosedAt w d → IsClosedAt w' d
  still_closed d t = elim (either-number d c) [
    | inl same ↦ (v, ap (λ n. conn_at n w') same ∙ here, ap is_closed_actor same_actor ∙ ap (λ (y : Conn). is_closed_actor y.actor) (some_is (sym there ∙ ap (λ n. conn_at n w) (sym same) ∙ t.1)) ∙ t.2)
    | inr apart ↦ closed-same w w' d (others d apart) t
  ]

  flown-own : (e d : ℕ) (y : Conn) (a : Asking) → conn_at e w' ≡ Some y → y.flight ≡ Some (Out a) → asker_in a ≡ Some d → d ≡ e
  flown-own e d y a p q r = elim (either-number e c) [
    | inl same ↦ absurd (none_some (sym landed ∙ ap out_in (sym flight ∙ ap (λ (z : Conn). z.flight) (some_is (sym here ∙ ap (λ n. conn_at n w') (sym same) ∙ p)) ∙ q)))
    | inr apart ↦ h.own e d y a (sym (others e apart) ∙ p) q r
  ]

  flown-left : (k d : ℕ) (a : Asking) → air w' (Left k) ≡ Some a → asker_in a ≡ Some d → IsClosedAt w' d
  flown-left k d a z r = still_closed d (h.left k d a (ap (λ l. left_in (slice_get l k)) (sym strays) ∙ z) r)

  flown-whole : (more : List TranscriptLine) → Precedes w.store w'.store → w'.lines ≡ w.lines ++ more → Frameless more → ((d : ℕ) → d ≢ c → Elsewhere w.lines more d)
      → ((core : Core) → x.actor ≡ Connection core → is_served core.stage ≡ true → IsServingConn w'.store w'.lines c core (Some f)) → Whole w'
  flown-whole more longer lines frameless apart_lines self = record {
    holds = h';
    serving = serving-kept w w' more h h' longer lines (λ d y core e a s. elim (either-number d c) [
      | inl same ↦
          let is : v ≡ y = some_is (sym here ∙ ap (λ n. conn_at n w') (sym same) ∙ e) in
          inl (subst (λ (z : Conn). IsServingConn w'.store w'.lines d core z.flight) is (subst (λ g. IsServingConn w'.store w'.lines d core g) (sym flight) (subst (λ n. IsServingConn w'.store w'.lines n core (Some f)) (sym same)
          (self core (sym same_actor ∙ ap (λ (z : Conn). z.actor) is ∙ a) s))))
      | inr apart ↦ inr (sym (others d apart) ∙ e, apart_lines d apart)
    ]);
    unshut = λ d y core e a. elim (either-number d c) [
      | inl same ↦ h.unshut c x core there (sym same_actor ∙ ap (λ (z : Conn). z.actor) (some_is (sym here ∙ ap (λ n. conn_at n w') (sym same) ∙ e)) ∙ a)
      | inr apart ↦ h.unshut d y core (sym (others d apart) ∙ e) a
    ];
    own = flown-own;
    left = flown-left;
    small = small-more w.lines w'.lines more lines frameless h.small;
  }

pub executes-whole : (w w' : World) (c : ℕ) → Executes c w w' → Whole w → Whole w'
executes-whole w w' c ex h = go (carry w.store (ex.asking).ask) refl ex.carries
  where
    holds : Holds w'
    holds = executes-holds w w' c ex h.holds

    v : Conn
    v = record (ex.conn) { flight = Some ex.flight }

    here : conn_at c w' ≡ Some v
    here = ap (conn_at c) ex.result ∙ conn-here ex.mid c v

    others : (conns : ex.mid.conns ≡ w.conns) (d : ℕ) → d ≢ c → conn_at d w' ≡ conn_at d w
    others conns d apart = ap (conn_at d) ex.result ∙ conn-there ex.mid c d v apart ∙ ap (λ m. get m d) conns

    served : (core : Core) → (ex.conn).actor ≡ Connection core → is_served core.stage ≡ true → IsServingConn w.store w.lines c core (Some (Out ex.asking))
    served core a s = subst (IsServingConn w.store w.lines c core) ex.out (h.serving c ex.conn core ex.found a s)

    go : (o : Option (Store × Answer)) → carry w.store (ex.asking).ask ≡ o → CarriedBy w (ex.asking).kind ex.flight ex.mid o → Whole w'
    go None e p =
        let store : w'.store ≡ w.store = ap (λ (u : World). u.store) ex.result ∙ ap (λ (u : World). u.store) p.1 in
        let lines : w'.lines ≡ w.lines = ap (λ (u : World). u.lines) ex.result ∙ ap (λ (u : World). u.lines) p.1 in
        flown-whole w w' c ex.conn v Denied h holds ex.found here (others (ap (λ (u : World). u.conns) p.1)) refl (ap (λ f. Some f) p.0) refl (ap (λ (u : World). u.strays) ex.result ∙ ap (λ (u : World). u.strays) p.1)
        [] (same-precedes w.store w'.store (ap (λ (s : Store). s.revisions) store)) (lines ∙ sym (append-nil w.lines)) (λ d i. refl) (λ d apart. elsewhere-none w.lines d)
        (λ core a s. subst (λ u. IsServingConn u w'.lines c core (Some Denied)) (sym store) (subst (λ l. IsServingConn w.store l c core (Some Denied)) (sym lines) (denied-serving w.store w.lines c core ex.asking (served core a s))))
    go (Some r) e p =
        let st = stored-in w ex.mid r.0 (ex.asking).kind p.1 in
        let store : w'.store ≡ r.0 = ap (λ (u : World). u.store) ex.result ∙ st.store in
        let lines : w'.lines ≡ w.lines ++ update_lines w.store r.0 (ex.asking).kind = ap (λ (u : World). u.lines) ex.result ∙ st.lines in
        flown-whole w w' c ex.conn v (Carried r.1) h holds ex.found here (others st.conns) refl (ap (λ f. Some f) p.0) refl (ap (λ (u : World). u.strays) ex.result ∙ st.strays)
        (update_lines w.store r.0 (ex.asking).kind) (subst (λ u. Precedes w.store u) (sym store) (carry-precedes w.store r.0 (ex.asking).ask r.1 e)) lines (frameless-carried w.store r.0 (ex.asking).kind)
        (λ d apart. elsewhere-carried w.lines d w.store r.0 (ex.asking).kind (λ kind is of. apart (h.own c d ex.conn ex.asking ex.found ex.out (asker-of ex.asking kind d is of))))
        (λ core a s. subst (λ u. IsServingConn u w'.lines c core (Some (Carried r.1))) (sym store) (subst (λ l. IsServingConn r.0 l c core (Some (Carried r.1))) (sym lines)
        (carried-serving w.store r.0 w.lines c core ex.asking r.1 s (h.holds).serves ((h.holds).bound (Of c) ex.asking (ap out_of ex.found ∙ ap out_in ex.out)) (served core a s) e)))

pub stray-whole : (w w' : World) (k : ℕ) → ExecutesStray k w w' → Whole w → Whole w'
stray-whole w w' k ex h = go (carry w.store (ex.asking).ask) refl ex.carries
  where
    holds : Holds w'
    holds = stray-holds w w' k ex h.holds

    in_air : air w (Left (k - 1)) ≡ Some ex.asking
    in_air = left-at k w.strays ex.asking ex.left

    same_conn : (conns : ex.mid.conns ≡ w.conns) (d : ℕ) → conn_at d w' ≡ conn_at d w
    same_conn conns d = ap (conn_at d) ex.result ∙ ap (λ m. get m d) conns

    whole : (more : List TranscriptLine) → ex.mid.conns ≡ w.conns → ex.mid.strays ≡ w.strays → Precedes w.store w'.store → w'.lines ≡ w.lines ++ more → Frameless more
        → ((d : ℕ) (y : Conn) (core : Core) → conn_at d w ≡ Some y → y.actor ≡ Connection core → Elsewhere w.lines more d) → Whole w'
    whole more conns strays longer lines frameless apart = record {
      holds = holds;
      serving = serving-kept w w' more h holds longer lines (λ d y core e a s. let was = sym (same_conn conns d) ∙ e in inr (was, apart d y core was a));
      unshut = λ d y core e a. h.unshut d y core (sym (same_conn conns d) ∙ e) a;
      own = λ c d x a e f r. h.own c d x a (sym (same_conn conns c) ∙ e) f r;
      left = λ j d a z r. closed-same w w' d (same_conn conns d) (h.left j d a (stray-air w ex.mid (k - 1) w' conns strays ex.result (Left j) a z).1 r);
      small = small-more w.lines w'.lines more lines frameless h.small;
    }

    go : (o : Option (Store × Answer)) → carry w.store (ex.asking).ask ≡ o → CarriedBy w (ex.asking).kind ex.flight ex.mid o → Whole w'
    go None e p =
        let store : w'.store ≡ w.store = ap (λ (u : World). u.store) ex.result ∙ ap (λ (u : World). u.store) p.1 in
        let lines : w'.lines ≡ w.lines = ap (λ (u : World). u.lines) ex.result ∙ ap (λ (u : World). u.lines) p.1 in
        whole [] (ap (λ (u : World). u.conns) p.1) (ap (λ (u : World). u.strays) p.1) (same-precedes w.store w'.store (ap (λ (s : Store). s.revisions) store)) (lines ∙ sym (append-nil w.lines)) (λ d i. refl) (λ d y core f a. elsewhere-none w.lines d)
    go (Some r) e p =
        let st = stored-in w ex.mid r.0 (ex.asking).kind p.1 in
        let store : w'.store ≡ r.0 = ap (λ (u : World). u.store) ex.result ∙ st.store in
        whole (update_lines w.store r.0 (ex.asking).kind) st.conns st.strays (subst (λ u. Precedes w.store u) (sym store) (carry-precedes w.store r.0 (ex.asking).ask r.1 e)) (ap (λ (u : World). u.lines) ex.result ∙ st.lines) (frameless-carried w.store r.0 (ex.asking).kind)
        (λ d y core f a. elsewhere-carried w.lines d w.store r.0 (ex.asking).kind (λ kind is of. no-stray w d y h.left f (ap is_closed_actor a) (k - 1) ex.asking in_air (asker-of ex.asking kind d is of)))
