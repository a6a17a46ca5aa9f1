-- What the store does by itself, and what it carries out, keeps what holds of a world.
use Rattle.std.proofs.Common.{◌≡◌, ◌≢◌, ℕ, ◌+◌, ◌-◌, ◌≤◌, List, [], ◌∷◌, ◌++◌, length, refl, sym, ap, ◌∙◌, subst, arith, Bool, true, false, ℤ, pos, inl, inr, append-nil}
use Rattle.std.specs.Prelude.{Option, Some, None, not, ◌||◌, ◌+ℤ◌, nat_eq, nat_lt, slice_get, slice_set, if◌then◌else◌, MatchBool}
use Rattle.std.specs.Option.{option_and_then}
use Rattle.std.specs.List.{starts_with}
use Rattle.std.specs.Ordering.{int_eq}
use Rattle.std.proofs.lemmas.Int.{ints}
use Rattle.std.proofs.lemmas.List.{length-append}
use Rattle.std.specs.FinMap.{get, remove}
use Rattle.ev_types.proofs.Lapsed.{foreign-earlier, foreign-one, lapse-earlier}
use Rattle.ev_types.specs.Denials.{carry, has_lease, is_full_store}
use Rattle.ev_types.specs.Lapses.{foreign, lapse, leased_keys, removals}
use Rattle.ev_types.specs.Store.{Change, Store, grown, present, revision}
use Rattle.ev_types.specs.declared.answer.Answer.{Answer}
use Rattle.zk_transcript.proofs.Appending.{after-push}
use Rattle.zk_transcript.specs.History.{after}
use Rattle.zk_transcript.specs.declared.transcript.TranscriptLine.{TranscriptLine}
use Rattle.zk_transcript.specs.declared.transcript.TranscriptLine.TheVariants.{Lapse as LapseLine}
use Rattle.zk_service.specs.declared.update.UpdateKind.{UpdateKind}
use Rattle.zn_layout.proofs.Foreign.{foreign-stands}
use Rattle.zn_layout.proofs.Lapses.{lapse-stands}
use Rattle.zn_layout.specs.Keys.{front}
use Rattle.zn_layout.specs.StandsFor.{StandsFor}
use Rattle.zx_base.proofs.Options.{none_some, some_is}
use Rattle.zx_base.specs.Maps.{Bytes, same}
use Rattle.zp_laws.specs.Inputs.{Precedes}
use Rattle.zp_script.specs.declared.flight.Asking.{Asking}
use Rattle.zp_script.specs.declared.flight.Flight.{Flight}
use Rattle.zp_script.specs.declared.flight.Flight.TheVariants.{Carried, Denied}
use Rattle.zp_script.specs.Carrying.{CarriedBy, Executes, ExecutesStray, HasStore, ShowsUpdate}
use Rattle.zp_script.specs.Effects.{LapsesTo, PutTo}
use Rattle.zp_script.specs.Faults.{is_kept_key, left_at}
use Rattle.zp_script.specs.Worlds.{Conn, World, conn_at, with_conn, zxid_at}
use Rattle.zp_world_laws.proofs.Carrying.{carries-holds}
use Rattle.zp_world_laws.proofs.Commits.{stands-now}
use Rattle.zp_world_laws.proofs.Growing.{same-precedes, serves-lapse, serves-silent}
use Rattle.zp_world_laws.proofs.Lines.{line-holds, same-air, silent-holds}
use Rattle.zp_world_laws.proofs.Numbers.{conn-here, conn-there, either-number, left-same, left-some, of-same, slice-set}
use Rattle.zp_world_laws.specs.Holding.{Holds, Left, Of, Source, air, left_in, out_in, out_of}
use Rattle.zp_world_laws.specs.Serving.{StoreServes, kind_lines, update_lines}

-- ---- the clock, and other users

-- nothing but the clock changed
pub clock-air : (w : World) (n : ℕ) (o : Source) (x : Asking) → air (record w { clock = n }) o ≡ Some x → air w o ≡ Some x
clock-air w n (Of c) x e = e
clock-air w n (Left k) x e = e

pub tick-holds : (w : World) (n : ℕ) → Holds w → Holds (record w { clock = n })
tick-holds w n h = silent-holds w (record w { clock = n }) (same-precedes w.store w.store refl) h.serves refl (same-air w (record w { clock = n }) (clock-air w n)) h

pub store-air : (w : World) (s : Store) (o : Source) (x : Asking) → air (record w { store = s }) o ≡ Some x → air w o ≡ Some x
store-air w s (Of c) x e = e
store-air w s (Left k) x e = e

pub foreign-precedes : (s u : Store) (k v : Bytes) → foreign s k v ≡ Some u → Precedes s u
foreign-precedes s u k v h = let one = foreign-one s u k v h in record { longer = omega (arith, revisions-of s u one); same = λ r le. foreign-earlier s u k v r h le }
  where
    revisions-of : (a b : Store) → revision b ≡ revision a +ℤ pos 1 → length b.revisions ≡ length a.revisions + 1
    revisions-of a b e = omega (arith, ints, e)

one-more : (s u : Store) → revision u ≡ revision s +ℤ pos 1 → length u.revisions ≡ length s.revisions + 1
one-more s u e = omega (arith, ints, e)

-- a key that isn't kept for the service doesn't begin as its keys do
not-kept : (k : Bytes) → is_kept_key k ≡ false → (rest : Bytes) → k ≡ front ++ rest → ⊥
not-kept k h rest e = absurd (kept (front ++ rest) (starts rest) (sym (ap is_kept_key e) ∙ h))
  where
    starts : (r : Bytes) → starts_with nat_eq (front ++ r) front ≡ true
    starts r = refl

    kept : (q : Bytes) → starts_with nat_eq q front ≡ true → is_kept_key q ≡ false → ⊥
    kept q a b = go (same q []) (starts_with nat_eq q front) a b
      where
        go : (x y : Bool) → y ≡ true → (x || y) ≡ false → ⊥
        go true y f g = cc
        go false true f g = cc
        go false false f g = cc

pub foreign-holds : (w w' : World) (k v : Bytes) → is_kept_key k ≡ false → PutTo w w' (foreign w.store k v) → Holds w → Holds w'
foreign-holds w w' k v outside put hold = go (foreign w.store k v) refl put
  where
    go : (o : Option Store) → foreign w.store k v ≡ o → PutTo w w' o → Holds w'
    go None e p = absurd p
    go (Some u) e p =
        let x = foreign-precedes w.store u k v e in
        let stands = foreign-stands w.store u k v e (not-kept k outside) (after w.lines) (stands-now w.store w.lines hold.serves) in
        subst Holds (sym p)
        (silent-holds w (record w { store = u }) x (serves-silent w.store u w.lines x (one-more w.store u (foreign-one w.store u k v e)) stands hold.serves) refl (same-air w (record w { store = u }) (store-air w u)) hold)

pub line-air : (w : World) (s : Store) (ls : List TranscriptLine) (o : Source) (x : Asking) → air (record w { store = s; lines = ls }) o ≡ Some x → air w o ≡ Some x
line-air w s ls (Of c) x e = e
line-air w s ls (Left k) x e = e

within-one : (s : Store) (cs : List Change) → (length s.revisions ≤ length (grown s cs).revisions) × (length (grown s cs).revisions ≤ length s.revisions + 1)
within-one s [] = (omega arith, omega arith)
within-one s (c ∷ cs) = let e = length-append s.revisions ((c ∷ cs) ∷ []) in (omega (arith, e), omega (arith, e))

chosen-is : (b : Bool) (x u : Store) → (if b then None else Some x) ≡ Some u → x ≡ u
chosen-is true x u h = absurd (none_some h)
chosen-is false x u h = some_is h

lapse-lengths : (s u : Store) (id : ℤ) → lapse s id ≡ Some u → (length s.revisions ≤ length u.revisions) × (length u.revisions ≤ length s.revisions + 1)
unfolding lapse
lapse-lengths s u id h =
    let e = chosen-is (not (has_lease s id) || is_full_store s (removals (leased_keys s id))) _ u h in
    subst (λ (t : Store). (length s.revisions ≤ length t.revisions) × (length t.revisions ≤ length s.revisions + 1)) e (within-one (record s { leases = remove s.leases id }) (removals (leased_keys s id)))

pub lapse-precedes : (s u : Store) (id : ℤ) → lapse s id ≡ Some u → Precedes s u × (length u.revisions ≤ length s.revisions + 1)
lapse-precedes s u id h = let l = lapse-lengths s u id h in (record { longer = l.0; same = λ r le. lapse-earlier s u id r h le }, l.1)

pub lapse-holds : (w w' : World) (id : ℤ) → LapsesTo id w w' (lapse w.store id) → Holds w → Holds w'
lapse-holds w w' id does hold = go (lapse w.store id) refl does
  where
    go : (o : Option Store) → lapse w.store id ≡ o → LapsesTo id w w' o → Holds w'
    go None e p = absurd p
    go (Some u) e p =
        let x = lapse-precedes w.store u id e in
        let l = LapseLine (revision u) id in
        let stands : StandsFor (present u) (after (w.lines ++ l ∷ [])) = subst (StandsFor (present u)) (sym (after-push w.lines l)) (lapse-stands w.store u id (after w.lines) (stands-now w.store w.lines hold.serves) e) in
        let w'' : World = record w { store = u; lines = w.lines ++ l ∷ [] } in
        subst Holds (sym p)
        (line-holds w w'' l refl x.0 (serves-lapse w.store u w.lines id x.0 x.1 stands hold.serves) refl (λ c i z bytes f. absurd (cc)) (same-air w w'' (line-air w u (w.lines ++ l ∷ []))) hold)

-- ---- what is carried out

-- the store that it has from then on, and the line that is shown
pub record IsStoredIn (w : World) (s : Store) (kind : Option UpdateKind) (mid : World) : Type 0 where
  pub store : mid.store ≡ s
  pub lines : mid.lines ≡ w.lines ++ update_lines w.store s kind
  pub conns : mid.conns ≡ w.conns
  pub strays : mid.strays ≡ w.strays

shows-update : (w mid : World) (s : Store) (kind : Option UpdateKind) → ShowsUpdate w s kind mid → (mid.store ≡ s) × (mid.lines ≡ w.lines ++ kind_lines s kind) × (mid.conns ≡ w.conns) × (mid.strays ≡ w.strays)
shows-update w mid s None h = (ap (λ (v : World). v.store) h, ap (λ (v : World). v.lines) h ∙ sym (append-nil w.lines), ap (λ (v : World). v.conns) h, ap (λ (v : World). v.strays) h)
shows-update w mid s (Some kind) h = let e = h.2 in (ap (λ (v : World). v.store) e, ap (λ (v : World). v.lines) e, ap (λ (v : World). v.conns) e, ap (λ (v : World). v.strays) e)

pub stored-in : (w mid : World) (s : Store) (kind : Option UpdateKind) → HasStore w s kind mid → IsStoredIn w s kind mid
stored-in w mid s kind h = go (int_eq (zxid_at w.store) (zxid_at s)) refl h
  where
    go : (b : Bool) → int_eq (zxid_at w.store) (zxid_at s) ≡ b → MatchBool b (mid ≡ record w { store = s }) (ShowsUpdate w s kind mid) → IsStoredIn w s kind mid
    go true e p = record {
      store = ap (λ (v : World). v.store) p;
      lines = ap (λ (v : World). v.lines) p ∙ sym (append-nil w.lines) ∙ ap (λ b. w.lines ++ (if b then [] else kind_lines s kind)) (sym e);
      conns = ap (λ (v : World). v.conns) p;
      strays = ap (λ (v : World). v.strays) p;
    }
    go false e p =
        let u = shows-update w mid s kind p in
        record { store = u.0; lines = u.1 ∙ ap (λ b. w.lines ++ (if b then [] else kind_lines s kind)) (sym e); conns = u.2; strays = u.3 }

-- of another connection, since this one has nothing out any more
pub out-with : (w : World) (c d : ℕ) (y : Conn) (z : Asking) → out_of (Some y) ≡ None → out_of (conn_at d (with_conn w c y)) ≡ Some z → (d ≢ c) × (out_of (conn_at d w) ≡ Some z)
out-with w c d y z gone e = elim (either-number d c) [
  | inl same ↦ absurd (none_some (sym gone ∙ ap out_of (sym (conn-here w c y)) ∙ ap (λ n. out_of (conn_at n (with_conn w c y))) (sym same) ∙ e))
  | inr apart ↦ (apart, ap out_of (sym (conn-there w c d y apart)) ∙ e)
]

-- the world in which c's ask has this flight, over this one
pub record IsLaidOver (w mid : World) (c : ℕ) (x : Conn) (f : Flight) (w' : World) : Type 0 where
  pub conns : mid.conns ≡ w.conns
  pub strays : mid.strays ≡ w.strays
  pub is : w' ≡ with_conn mid c (record x { flight = Some f })

over-air : (w mid : World) (c : ℕ) (x : Conn) (f : Flight) (w' : World) → out_in (Some f) ≡ None → IsLaidOver w mid c x f w' → (o : Source) (z : Asking) → air w' o ≡ Some z → (o ≢ Of c) × (air w o ≡ Some z)
over-air w mid c x f w' gone l (Of d) z e =
    let r = out-with mid c d (record x { flight = Some f }) z gone (ap (λ (v : World). out_of (conn_at d v)) (sym l.is) ∙ e) in
    ((λ same. r.0 (of-same d c same)), ap (λ m. out_of (get m d)) (sym l.conns) ∙ r.1)
over-air w mid c x f w' gone l (Left k) z e =
    ((λ same. absurd (cc)), ap (λ m. left_in (slice_get m k)) (sym l.strays) ∙ ap (λ (v : World). left_in (slice_get v.strays k)) (sym l.is) ∙ e)

gone-of : (o : Option Asking) → ((z : Asking) → o ≡ Some z → ⊥) → o ≡ None
gone-of None h = refl
gone-of (Some z) h = absurd (h z refl)

-- what is out of a connection is carried out, or denied
pub executes-holds : (w w' : World) (c : ℕ) → Executes c w w' → Holds w → Holds w'
executes-holds w w' c ex h = go (carry w.store (ex.asking).ask) refl ex.carries
  where
    go : (o : Option (Store × Answer)) → carry w.store (ex.asking).ask ≡ o → CarriedBy w (ex.asking).kind ex.flight ex.mid o → Holds w'
    go None e p =
        let l : IsLaidOver w ex.mid c ex.conn Denied w' = record { conns = ap (λ (v : World). v.conns) p.1; strays = ap (λ (v : World). v.strays) p.1; is = ex.result ∙ ap (λ f. with_conn ex.mid c (record (ex.conn) { flight = Some f })) p.0 } in
        let store : w'.store ≡ w.store = ap (λ (v : World). v.store) ex.result ∙ ap (λ (v : World). v.store) p.1 in
        let lines : w'.lines ≡ w.lines = ap (λ (v : World). v.lines) ex.result ∙ ap (λ (v : World). v.lines) p.1 in
        silent-holds w w' (same-precedes w.store w'.store (ap (λ (s : Store). s.revisions) store)) (subst (λ s. StoreServes s w.lines) (sym store) h.serves) lines
        (same-air w w' (λ o z g. (over-air w ex.mid c ex.conn Denied w' refl l o z g).1)) h
    go (Some r) e p =
        let st = stored-in w ex.mid r.0 (ex.asking).kind p.1 in
        let l : IsLaidOver w ex.mid c ex.conn (Carried r.1) w' = record { conns = st.conns; strays = st.strays; is = ex.result ∙ ap (λ f. with_conn ex.mid c (record (ex.conn) { flight = Some f })) p.0 } in
        carries-holds w w' (Of c) h (record {
          what = ex.asking;
          was = ap out_of ex.found ∙ ap out_in ex.out;
          store = r.0;
          answer = r.1;
          carried = e;
          now = ap (λ (v : World). v.store) ex.result ∙ st.store;
          lines = ap (λ (v : World). v.lines) ex.result ∙ st.lines;
          gone = gone-of (air w' (Of c)) (λ z g. (over-air w ex.mid c ex.conn (Carried r.1) w' refl l (Of c) z g).0 refl);
          others = λ o z g. over-air w ex.mid c ex.conn (Carried r.1) w' refl l o z g;
        })

-- ---- a stray

pub left-at : (k : ℕ) (strays : List (Option Asking)) (x : Asking) → left_at k strays ≡ Some x → left_in (slice_get strays (k - 1)) ≡ Some x
left-at k strays x h = go (nat_lt 0 k) h
  where
    as_left : (o : Option (Option Asking)) → option_and_then (λ (p : Option Asking). p) o ≡ left_in o
    as_left None = refl
    as_left (Some p) = refl

    go : (b : Bool) → (if b then option_and_then (λ (p : Option Asking). p) (slice_get strays (k - 1)) else None) ≡ Some x → left_in (slice_get strays (k - 1)) ≡ Some x
    go true e = sym (as_left (slice_get strays (k - 1))) ∙ e
    go false e = absurd (none_some e)

pub stray-air : (w mid : World) (k : ℕ) (w' : World) → mid.conns ≡ w.conns → mid.strays ≡ w.strays → w' ≡ record mid { strays = slice_set mid.strays k None } → (o : Source) (z : Asking) → air w' o ≡ Some z → (o ≢ Left k) × (air w o ≡ Some z)
stray-air w mid k w' conns strays is (Of d) z e = ((λ same. absurd (cc)), ap (λ m. out_of (get m d)) (sym conns) ∙ ap (λ (v : World). out_of (conn_at d v)) (sym is) ∙ e)
stray-air w mid k w' conns strays is (Left j) z e =
    let there : slice_get (slice_set mid.strays k None) j ≡ Some (Some z) = left-some _ z (ap (λ (v : World). left_in (slice_get v.strays j)) (sym is) ∙ e) in
    elim (slice-set mid.strays k j None (Some z) there) [
      | inl this ↦ absurd (none_some (sym this.1))
      | inr other ↦ ((λ same. other.0 (left-same j k same)), ap (λ m. left_in (slice_get m j)) (sym strays) ∙ ap left_in other.1)
    ]

pub stray-holds : (w w' : World) (k : ℕ) → ExecutesStray k w w' → Holds w → Holds w'
stray-holds w w' k ex h = go (carry w.store (ex.asking).ask) refl ex.carries
  where
    go : (o : Option (Store × Answer)) → carry w.store (ex.asking).ask ≡ o → CarriedBy w (ex.asking).kind ex.flight ex.mid o → Holds w'
    go None e p =
        let store : w'.store ≡ w.store = ap (λ (v : World). v.store) ex.result ∙ ap (λ (v : World). v.store) p.1 in
        let lines : w'.lines ≡ w.lines = ap (λ (v : World). v.lines) ex.result ∙ ap (λ (v : World). v.lines) p.1 in
        silent-holds w w' (same-precedes w.store w'.store (ap (λ (s : Store). s.revisions) store)) (subst (λ s. StoreServes s w.lines) (sym store) h.serves) lines
        (same-air w w' (λ o z g. (stray-air w ex.mid (k - 1) w' (ap (λ (v : World). v.conns) p.1) (ap (λ (v : World). v.strays) p.1) ex.result o z g).1)) h
    go (Some r) e p =
        let st = stored-in w ex.mid r.0 (ex.asking).kind p.1 in
        carries-holds w w' (Left (k - 1)) h (record {
          what = ex.asking;
          was = left-at k w.strays ex.asking ex.left;
          store = r.0;
          answer = r.1;
          carried = e;
          now = ap (λ (v : World). v.store) ex.result ∙ st.store;
          lines = ap (λ (v : World). v.lines) ex.result ∙ st.lines;
          gone = gone-of (air w' (Left (k - 1))) (λ z g. (stray-air w ex.mid (k - 1) w' st.conns st.strays ex.result (Left (k - 1)) z g).0 refl);
          others = λ o z g. stray-air w ex.mid (k - 1) w' st.conns st.strays ex.result o z g;
        })
