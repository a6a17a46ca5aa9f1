-- Each line of a script keeps a world of which all is accounted for.
use Rattle.ev_types.specs.Denials.{carry}
use Rattle.ev_types.specs.Lapses.{foreign, lapse}
use Rattle.ev_types.specs.Store.{Store, revision}
use Rattle.ev_types.specs.declared.answer.Answer.{Answer}
use Rattle.ev_types.specs.declared.ask.TxnReq.{TxnReq}
use Rattle.std.proofs.Common.{Bool, List, [], ap, append-nil, arith, false, inl, inr, pos, refl, subst, sym, true, ℕ, ℤ, ◌++◌, ◌-◌, ◌∙◌, ◌∷◌, ◌≡◌, ◌≢◌}
use Rattle.std.specs.FinMap.{get}
use Rattle.std.specs.Ordering.{int_eq}
use Rattle.std.specs.Prelude.{None, Option, Some, if◌then◌else◌, not, option_and_then, ◌==◌, ◌⊎◌}
use Rattle.zk_model.specs.declared.layout.Layout.{Layout}
use Rattle.zk_transcript.proofs.Appending.{after-push}
use Rattle.zk_transcript.proofs.Attachments.{attach_of-skip}
use Rattle.zk_transcript.proofs.Lookups.{first_shown-new}
use Rattle.zk_transcript.specs.Conversations.{IsInConnection, close_shown}
use Rattle.zk_service.specs.States.{Session, State, lapsed_in, session_at}
use Rattle.zk_transcript.specs.History.{after, frame_shown, open_shown, opening, when}
use Rattle.zk_transcript.specs.Legal.{Attachment, attach_shown}
use Rattle.zk_transcript.specs.Walks.{packets}
use Rattle.zk_transcript.specs.declared.transcript.TranscriptLine.TheVariants.{Lapse as LapseLine, Open, Update}
use Rattle.zk_transcript.specs.declared.transcript.TranscriptLine.{TranscriptLine}
use Rattle.zk_service.specs.declared.update.UpdateKind.{UpdateKind}
use Rattle.zn_view.specs.Asks.{reading}
use Rattle.zp_script.specs.Carrying.{CarriedBy, Executes, ExecutesStray}
use Rattle.zp_script.specs.Effects.{LapsesTo, PutTo, new_conn, new_reap, new_reaper, opened}
use Rattle.zp_script.specs.Handing.{Reaps}
use Rattle.zp_script.specs.Kinds.{kind_of_reap}
use Rattle.zp_script.specs.Worlds.{Actor, Closed, Conn, Connection, Reaper, World, conn_at, with_conn, zxid_at}
use Rattle.zp_script.specs.declared.flight.Asking.{Asking}
use Rattle.zp_script.specs.declared.flight.Flight.TheVariants.{Carried, Denied}
use Rattle.zp_laws.specs.Inputs.{Precedes}
use Rattle.zp_step.specs.Stages.{Checking, Committing, Connecting, Core, KeepingAlive, Reading, Ready, Shut, Stage, Unconnected, Waiting, new_core}
use Rattle.zp_world_laws.proofs.Carrying.{air-outcome, asker-of, new-silent, one}
use Rattle.zp_world_laws.proofs.Commits.{line_of}
use Rattle.zp_world_laws.proofs.Connecting.{connect-carried, connect-denied}
use Rattle.zp_world_laws.proofs.Effects.{foreign-precedes, lapse-precedes, left-at, stored-in}
use Rattle.zp_world_laws.proofs.Entering.{entries-line, exec-entries, stray-entries}
use Rattle.zp_world_laws.proofs.Executing.{precedes-self}
use Rattle.zp_world_laws.proofs.Growing.{same-precedes}
use Rattle.zp_world_laws.proofs.Kept.{carry-precedes, executes-whole, stray-whole, tick-whole}
use Rattle.zp_world_laws.proofs.Knowing.{ActsAlone, counted-aside, known-alone, known-none, update-aside, close-left}
use Rattle.zp_world_laws.proofs.Lines.{packets-plain}
use Rattle.zp_world_laws.proofs.Naming.{close-none, frame-none, made-number, made-of, never-attached, never-carried, never-opened, never-sent}
use Rattle.zp_world_laws.proofs.Numbers.{conn-here, conn-there, other-number}
use Rattle.zp_world_laws.proofs.Opening.{open-whole}
use Rattle.zp_world_laws.proofs.Packets.{packets-append}
use Rattle.zp_world_laws.proofs.Reapers.{reap-carried}
use Rattle.zp_world_laws.proofs.Reaping.{damaged-memory, looking_reaper, looks-first, reap-whole}
use Rattle.zp_world_laws.proofs.Talking.{ahead-push, first_place-front}
use Rattle.zp_world_laws.proofs.Within.{within-aside, within-plain, within-same, within-silent, within-unnamed}
use Rattle.zp_world_laws.specs.Accounting.{IsAccounted}
use Rattle.zp_world_laws.specs.Bounds.{IsBound, IsBoundAsk}
use Rattle.zp_world_laws.specs.Connecting.{IsConnecting, IsInStage, IsOffer}
use Rattle.zp_world_laws.specs.Connections.{IsClosedAt, Whole}
use Rattle.zp_world_laws.specs.Counting.{IsLined}
use Rattle.zp_world_laws.specs.Holding.{Left, Of, Source, air, made_for, out_in, out_of}
use Rattle.zp_world_laws.specs.Knowing.{IsKnownAs, Known}
use Rattle.zp_world_laws.specs.Naming.{is_made_for, is_unnamed}
use Rattle.zp_world_laws.specs.Reaping.{IsReapAsk, IsReapFlight}
use Rattle.zp_world_laws.specs.Serving.{StoreServes, kind_lines, next_revision, update_lines}
use Rattle.zs_reap.specs.Steps.{reaper_wants}
use Rattle.zk_service.specs.declared.fresh.Fresh.{Fresh}
use Rattle.zx_base.proofs.Options.{none_some, some_is}
use Rattle.zx_base.proofs.Booleans.{and-both as both-true, same-test as same-nat, true-not_false as true-false, same-number}

-- ---- what the store does by itself

pub tick-accounted : (w : World) (n : ℕ) → IsAccounted w → IsAccounted (record w { clock = n })
tick-accounted w n k =
    let v : World = record w { clock = n } in
    let whole = tick-whole w n k.whole in
    record {
      whole = whole;
      known = known-none w v [] k.known (record { longer = precedes-self w.store; legal = (((k.whole).holds).serves).legal; still_legal = ((whole.holds).serves).legal; lines = sym (append-nil w.lines); all = λ d. refl; unnamed = λ d. inr refl });
      entries = k.entries;
      within = k.within;
    }

pub foreign-at : (w w' : World) (key v : List ℕ) (o : Option Store) → foreign w.store key v ≡ o → PutTo w w' o → Whole w' → IsAccounted w → IsAccounted w'
foreign-at w w' key v None e h whole k = absurd h
foreign-at w w' key v (Some u) e h whole k =
    let now : Whole (record w { store = u }) = subst Whole h whole in
    subst IsAccounted (sym h) (record {
      whole = now;
      known = known-none w (record w { store = u }) [] k.known (record { longer = foreign-precedes w.store u key v e; legal = (((k.whole).holds).serves).legal; still_legal = ((now.holds).serves).legal; lines = sym (append-nil w.lines); all = λ d. refl; unnamed = λ d. inr refl });
      entries = k.entries;
      within = k.within;
    })

pub lapse-at : (w w' : World) (id : ℤ) (o : Option Store) → lapse w.store id ≡ o → LapsesTo id w w' o → Whole w' → IsAccounted w → IsAccounted w'
lapse-at w w' id None e h whole k = absurd h
lapse-at w w' id (Some u) e h whole k =
    let l : TranscriptLine = LapseLine (revision u) id in
    let v : World = record w { store = u; lines = w.lines ++ LapseLine (revision u) id ∷ [] } in
    let now : Whole v = subst Whole h whole in
    subst IsAccounted (sym h) (record {
      whole = now;
      known = known-none w v (LapseLine (revision u) id ∷ []) k.known (record { longer = (lapse-precedes w.store u id e).0; legal = (((k.whole).holds).serves).legal; still_legal = ((now.holds).serves).legal; lines = refl; all = λ d. refl; unnamed = λ d. inr refl });
      entries = entries-line w.lines (LapseLine (revision u) id) w.entries (ap (λ (s : State). s.updates) (after-push w.lines (LapseLine (revision u) id)) ∙ lapsed-updates (after w.lines) id (session_at id (after w.lines))) k.entries;
      within = λ d. within-unnamed w.lines (LapseLine (revision u) id ∷ []) d refl (k.within d);
    })
  where
    lapsed-updates : (s : State) (n : ℤ) (o : Option Session) → (lapsed_in s n o).updates ≡ s.updates
    lapsed-updates s n None = refl
    lapsed-updates s n (Some x) = refl

-- ---- what is carried out

update-unnamed : (d : ℕ) (s u : Store) (o : Option UpdateKind) → ((kind : UpdateKind) → o ≡ Some kind → made_for kind ≡ one d → ⊥) → is_unnamed d (update_lines s u o) ≡ true
update-unnamed d s u o h = go (int_eq (zxid_at s) (zxid_at u)) o h
  where
    go : (b : Bool) (p : Option UpdateKind) → ((kind : UpdateKind) → p ≡ Some kind → made_for kind ≡ one d → ⊥) → is_unnamed d (if b then [] else kind_lines u p) ≡ true
    go true p f = refl
    go false None f = refl
    go false (Some kind) f = both-true (not (is_made_for d (made_for kind))) true (ap not (made-number d (made_for kind) (f kind refl))) refl

-- an update that attaches a connection finds nothing sent to it
attach-or-silent : (s : Store) (lines : List TranscriptLine) (kind : UpdateKind) (t : TxnReq) (d : ℕ) (z : ℤ) → IsBound s lines kind t → (attach_shown d (Update (record { zxid = z; kind = kind })) ≡ None) ⊎ (packets d lines ≡ [])
attach-or-silent s lines kind t d z b = go (attach_shown d (Update (record { zxid = z; kind = kind }))) refl
  where
    go : (o : Option Attachment) → attach_shown d (Update (record { zxid = z; kind = kind })) ≡ o → (attach_shown d (Update (record { zxid = z; kind = kind })) ≡ None) ⊎ (packets d lines ≡ [])
    go None e = inl e
    go (Some a) e = inr (new-silent s lines kind t d z b (λ f. none_some (sym f ∙ e))).1

carried-within : (w : World) (src : Source) (x : Asking) (u : Store) (b : Answer) → IsAccounted w → air w src ≡ Some x → carry w.store x.ask ≡ Some (u, b) → (d : ℕ) → IsInConnection (w.lines ++ update_lines w.store u x.kind) d
carried-within w src x u b k was h d = elim (air-outcome w src x u b (k.whole).holds was h) [
  | inl q ↦ subst (λ l. IsInConnection (w.lines ++ l) d) (sym q.lines) (within-same w.lines d (k.within d))
  | inr q ↦ subst (λ l. IsInConnection (w.lines ++ l) d) (sym (ap (update_lines w.store u) q.is ∙ (q.done).line)) (by-line q.kind q.txn q.bound)
]
  where
    by-line : (kind : UpdateKind) (t : TxnReq) → IsBound w.store w.lines kind t → IsInConnection (w.lines ++ line_of w.store kind ∷ []) d
    by-line kind t bound =
        let same : packets d (w.lines ++ line_of w.store kind ∷ []) ≡ packets d w.lines = packets-append d w.lines (line_of w.store kind ∷ []) ∙ append-nil (packets d w.lines) in
        elim (attach-or-silent w.store w.lines kind t d (next_revision w.store) bound) [
          | inl none ↦ within-aside w.lines (line_of w.store kind ∷ []) d same (attach_of-skip w.lines (line_of w.store kind) d none) (λ n. refl) (k.within d)
          | inr silent ↦ within-silent (w.lines ++ line_of w.store kind ∷ []) d (same ∙ silent)
        ]

module _ (w w' : World) (c : ℕ) (ex : Executes c w w') (k : IsAccounted w) where
  x : Asking
  x = ex.asking

  v : Conn
  v = record (ex.conn) { flight = Some ex.flight }

  here : conn_at c w' ≡ Some (record (ex.conn) { flight = Some ex.flight })
  here = ap (conn_at c) ex.result ∙ conn-here ex.mid c (record (ex.conn) { flight = Some ex.flight })

  was : IsKnownAs w.store w.lines c ex.conn (ex.conn).actor
  was = (k.known).used c ex.conn ex.found

  bound : IsBoundAsk w.store w.lines ex.asking
  bound = ((k.whole).holds).bound (Of c) ex.asking (ap out_of ex.found ∙ ap out_in ex.out)

  whole : Whole w'
  whole = executes-whole w w' c ex k.whole

  -- carried out at this store, with this answer
  carried-stage : (u : Store) (b : Answer) (core : Core) (st : Stage) → carry w.store (ex.asking).ask ≡ Some (u, b) → IsInStage w.store w.lines c core (ex.conn).flight st → IsInStage u (w.lines ++ update_lines w.store u (ex.asking).kind) c core (Some (Carried b)) st
  carried-stage u b core (Unconnected fresh) h (n, none) = absurd (none_some (sym none ∙ ex.out))
  carried-stage u b core (Connecting y) h n = connect-carried w.store u w.lines c core y ex.asking b ((k.whole).holds).serves h (subst (IsConnecting w.store w.lines c core y) ex.out n) ((k.whole).small c)
  carried-stage u b core Ready h n = tt
  carried-stage u b core (KeepingAlive f) h n = tt
  carried-stage u b core (Checking f) h n = tt
  carried-stage u b core (Reading xid r vw ws) h n = tt
  carried-stage u b core (Committing xid r vw p m) h n = tt
  carried-stage u b core (Waiting p) h n = tt
  carried-stage u b core Shut h n = tt

  denied-stage : (core : Core) (st : Stage) → IsInStage w.store w.lines c core (ex.conn).flight st → IsInStage w.store w.lines c core (Some Denied) st
  denied-stage core (Unconnected fresh) (n, none) = absurd (none_some (sym none ∙ ex.out))
  denied-stage core (Connecting y) n = connect-denied w.store w.lines c core y ex.asking (subst (IsConnecting w.store w.lines c core y) ex.out n)
  denied-stage core Ready n = tt
  denied-stage core (KeepingAlive f) n = tt
  denied-stage core (Checking f) n = tt
  denied-stage core (Reading xid r vw ws) n = tt
  denied-stage core (Committing xid r vw p m) n = tt
  denied-stage core (Waiting p) n = tt
  denied-stage core Shut n = tt

  carried-as : (u : Store) (b : Answer) (a : Actor) → carry w.store (ex.asking).ask ≡ Some (u, b) → StoreServes u (w.lines ++ update_lines w.store u (ex.asking).kind) → IsKnownAs w.store w.lines c ex.conn a → IsKnownAs u (w.lines ++ update_lines w.store u (ex.asking).kind) c (record (ex.conn) { flight = Some (Carried b) }) a
  carried-as u b (Connection core) h serves (n, st) = (counted-aside w.lines (update_lines w.store u (ex.asking).kind) c (ex.conn).frames core (update-aside w.store u (ex.asking).kind c) n, carried-stage u b core core.stage h st)
  carried-as u b (Reaper r) h serves n = reap-carried w.store u (w.lines ++ update_lines w.store u (ex.asking).kind) r ex.asking b serves (carry-precedes w.store u (ex.asking).ask b h) h (subst (IsReapFlight w.store r) ex.out n)
  carried-as u b Closed h serves n = close-left w.lines (update_lines w.store u (ex.asking).kind) c n

  denied-as : (a : Actor) → IsKnownAs w.store w.lines c ex.conn a → IsKnownAs w.store w.lines c (record (ex.conn) { flight = Some Denied }) a
  denied-as (Connection core) (n, st) = (n, denied-stage core core.stage st)
  denied-as (Reaper r) n = tt
  denied-as Closed n = n

  alone : (more : List TranscriptLine) → ex.mid.conns ≡ w.conns → Precedes w.store w'.store → w'.lines ≡ w.lines ++ more → ((d : ℕ) → d ≢ c → is_unnamed d more ≡ true) → ActsAlone w w' c more
  alone more conns longer lines unnamed = record {
    longer = longer;
    legal = (((k.whole).holds).serves).legal;
    still_legal = ((whole.holds).serves).legal;
    lines = lines;
    others = λ d apart. ap (conn_at d) ex.result ∙ conn-there ex.mid c d (record (ex.conn) { flight = Some ex.flight }) apart ∙ ap (λ m. get m d) conns;
    unnamed = λ d apart. inr (unnamed d apart);
  }

  known-by : (more : List TranscriptLine) → ActsAlone w w' c more → IsKnownAs w'.store w'.lines c (record (ex.conn) { flight = Some ex.flight }) (ex.conn).actor → Known w'
  known-by more a n = known-alone w w' c more k.known a
      (λ y e. subst (λ (q : Conn). IsKnownAs w'.store w'.lines c q q.actor) (some_is (sym here ∙ e)) n)
      (λ e. absurd (none_some (sym e ∙ here)))

  known-so : (o : Option (Store × Answer)) → carry w.store (ex.asking).ask ≡ o → CarriedBy w (ex.asking).kind ex.flight ex.mid o → Known w'
  known-so None e p =
      let store : w'.store ≡ w.store = ap (λ (u : World). u.store) ex.result ∙ ap (λ (u : World). u.store) p.1 in
      let lines : w'.lines ≡ w.lines = ap (λ (u : World). u.lines) ex.result ∙ ap (λ (u : World). u.lines) p.1 in
      known-by [] (alone [] (ap (λ (u : World). u.conns) p.1) (same-precedes w.store w'.store (ap (λ (s : Store). s.revisions) store)) (lines ∙ sym (append-nil w.lines)) (λ d apart. refl))
      (subst (λ f. IsKnownAs w'.store w'.lines c (record (ex.conn) { flight = Some f }) (ex.conn).actor) (sym p.0)
      (subst (λ s. IsKnownAs s w'.lines c (record (ex.conn) { flight = Some Denied }) (ex.conn).actor) (sym store) (subst (λ l. IsKnownAs w.store l c (record (ex.conn) { flight = Some Denied }) (ex.conn).actor) (sym lines) (denied-as (ex.conn).actor was))))
  known-so (Some r) e p =
      let st = stored-in w ex.mid r.0 (ex.asking).kind p.1 in
      let store : w'.store ≡ r.0 = ap (λ (u : World). u.store) ex.result ∙ st.store in
      let lines : w'.lines ≡ w.lines ++ update_lines w.store r.0 (ex.asking).kind = ap (λ (u : World). u.lines) ex.result ∙ st.lines in
      let serves : StoreServes r.0 (w.lines ++ update_lines w.store r.0 (ex.asking).kind) = subst (λ l. StoreServes r.0 l) lines (subst (λ s. StoreServes s w'.lines) store (whole.holds).serves) in
      known-by (update_lines w.store r.0 (ex.asking).kind)
      (alone (update_lines w.store r.0 (ex.asking).kind) st.conns (subst (λ u. Precedes w.store u) (sym store) (carry-precedes w.store r.0 (ex.asking).ask r.1 e)) lines
      (λ d apart. update-unnamed d w.store r.0 (ex.asking).kind (λ kind is of. apart ((k.whole).own c d ex.conn ex.asking ex.found ex.out (asker-of ex.asking kind d is of)))))
      (subst (λ f. IsKnownAs w'.store w'.lines c (record (ex.conn) { flight = Some f }) (ex.conn).actor) (sym p.0)
      (subst (λ s. IsKnownAs s w'.lines c (record (ex.conn) { flight = Some (Carried r.1) }) (ex.conn).actor) (sym store) (subst (λ l. IsKnownAs r.0 l c (record (ex.conn) { flight = Some (Carried r.1) }) (ex.conn).actor) (sym lines) (carried-as r.0 r.1 (ex.conn).actor e serves was))))

  within-so : (o : Option (Store × Answer)) → carry w.store (ex.asking).ask ≡ o → CarriedBy w (ex.asking).kind ex.flight ex.mid o → (d : ℕ) → IsInConnection w'.lines d
  within-so None e p d = subst (λ l. IsInConnection l d) (sym (ap (λ (u : World). u.lines) ex.result ∙ ap (λ (u : World). u.lines) p.1)) (k.within d)
  within-so (Some r) e p d =
      let st = stored-in w ex.mid r.0 (ex.asking).kind p.1 in
      subst (λ l. IsInConnection l d) (sym (ap (λ (u : World). u.lines) ex.result ∙ st.lines)) (carried-within w (Of c) ex.asking r.0 r.1 k (ap out_of ex.found ∙ ap out_in ex.out) e d)

  pub exec-accounted : IsAccounted w'
  exec-accounted = record { whole = whole; known = known-so (carry w.store (ex.asking).ask) refl ex.carries; entries = exec-entries w w' c ex (k.whole).holds k.entries; within = within-so (carry w.store (ex.asking).ask) refl ex.carries }

-- a stray
module _ (w w' : World) (n : ℕ) (ex : ExecutesStray n w w') (k : IsAccounted w) where
  stray_whole : Whole w'
  stray_whole = stray-whole w w' n ex k.whole

  in_air : air w (Left (n - 1)) ≡ Some ex.asking
  in_air = left-at n w.strays ex.asking ex.left

  -- one for which it was made has ended
  ended-or : (d : ℕ) (u : Store) → IsClosedAt w d ⊎ (is_unnamed d (update_lines w.store u (ex.asking).kind) ≡ true)
  ended-or d u = go (is_made_for d (option_and_then made_for (ex.asking).kind)) refl
    where
      go : (b : Bool) → is_made_for d (option_and_then made_for (ex.asking).kind) ≡ b → IsClosedAt w d ⊎ (is_unnamed d (update_lines w.store u (ex.asking).kind) ≡ true)
      go true e = inl ((k.whole).left (n - 1) d ex.asking in_air (made-of d (option_and_then made_for (ex.asking).kind) e))
      go false e = inr (update-unnamed d w.store u (ex.asking).kind (λ kind is of. true-false (sym (ap (is_made_for d) (ap (option_and_then made_for) is ∙ of) ∙ same-number d d refl) ∙ e)))

  same_conn : (conns : ex.mid.conns ≡ w.conns) (d : ℕ) → conn_at d w' ≡ conn_at d w
  same_conn conns d = ap (conn_at d) ex.result ∙ ap (λ m. get m d) conns

  stray-known : (o : Option (Store × Answer)) → carry w.store (ex.asking).ask ≡ o → CarriedBy w (ex.asking).kind ex.flight ex.mid o → Known w'
  stray-known None e p =
      let store : w'.store ≡ w.store = ap (λ (u : World). u.store) ex.result ∙ ap (λ (u : World). u.store) p.1 in
      let lines : w'.lines ≡ w.lines = ap (λ (u : World). u.lines) ex.result ∙ ap (λ (u : World). u.lines) p.1 in
      known-none w w' [] k.known (record { longer = same-precedes w.store w'.store (ap (λ (s : Store). s.revisions) store); legal = (((k.whole).holds).serves).legal; still_legal = ((stray_whole.holds).serves).legal; lines = lines ∙ sym (append-nil w.lines); all = same_conn (ap (λ (u : World). u.conns) p.1); unnamed = λ d. inr refl })
  stray-known (Some r) e p =
      let st = stored-in w ex.mid r.0 (ex.asking).kind p.1 in
      let store : w'.store ≡ r.0 = ap (λ (u : World). u.store) ex.result ∙ st.store in
      let lines : w'.lines ≡ w.lines ++ update_lines w.store r.0 (ex.asking).kind = ap (λ (u : World). u.lines) ex.result ∙ st.lines in
      known-none w w' (update_lines w.store r.0 (ex.asking).kind) k.known (record {
        longer = subst (λ u. Precedes w.store u) (sym store) (carry-precedes w.store r.0 (ex.asking).ask r.1 e);
        legal = (((k.whole).holds).serves).legal;
        still_legal = ((stray_whole.holds).serves).legal;
        lines = lines;
        all = same_conn st.conns;
        unnamed = λ d. ended-or d r.0;
      })

  stray-within : (o : Option (Store × Answer)) → carry w.store (ex.asking).ask ≡ o → CarriedBy w (ex.asking).kind ex.flight ex.mid o → (d : ℕ) → IsInConnection w'.lines d
  stray-within None e p d = subst (λ l. IsInConnection l d) (sym (ap (λ (u : World). u.lines) ex.result ∙ ap (λ (u : World). u.lines) p.1)) (k.within d)
  stray-within (Some r) e p d =
      let st = stored-in w ex.mid r.0 (ex.asking).kind p.1 in
      subst (λ l. IsInConnection l d) (sym (ap (λ (u : World). u.lines) ex.result ∙ st.lines)) (carried-within w (Left (n - 1)) ex.asking r.0 r.1 k in_air e d)

  pub stray-accounted : IsAccounted w'
  stray-accounted = record { whole = stray_whole; known = stray-known (carry w.store (ex.asking).ask) refl ex.carries; entries = stray-entries w w' n ex (k.whole).holds k.entries; within = stray-within (carry w.store (ex.asking).ask) refl ex.carries }

-- ---- a number is taken

module _ (w : World) (c p : ℕ) (id : ℤ) (passwd : List ℕ) (layout : Layout) (free : conn_at c w ≡ None) (offer : IsOffer (record { id = id; passwd = passwd; layout = layout })) (k : IsAccounted w) where
  l : TranscriptLine
  l = Open c p id passwd layout

  fresh : Fresh
  fresh = record { id = id; passwd = passwd; layout = layout }

  none : is_unnamed c w.lines ≡ true
  none = (k.known).unused c free

  shows : open_shown c (Open c p id passwd layout) ≡ Some (record { id = id; passwd = passwd; layout = layout })
  shows = ap (λ b. when b (record { id = id; passwd = passwd; layout = layout })) (same-nat c)

  offered : opening c (w.lines ++ Open c p id passwd layout ∷ []) ≡ Some (record { id = id; passwd = passwd; layout = layout })
  offered = first_shown-new (open_shown c) w.lines (Open c p id passwd layout) (never-opened c w.lines none) ∙ shows

  lined : IsLined (w.lines ++ Open c p id passwd layout ∷ []) c 0
  lined = record {
    offer = (record { id = id; passwd = passwd; layout = layout });
    opened = offered;
    unended = first_place-front (close_shown c) 0 w.lines (Open c p id passwd layout ∷ []) (λ j. refl) ∙ close-none c 0 w.lines none;
    to_come = λ i le. first_place-front (frame_shown c i) 0 w.lines (Open c p id passwd layout ∷ []) (λ j. refl) ∙ frame-none c i 0 w.lines none;
  }

  opened-known : IsKnownAs w.store (w.lines ++ Open c p id passwd layout ∷ []) c (new_conn p (Connection (new_core (record { id = id; passwd = passwd; layout = layout })))) (Connection (new_core (record { id = id; passwd = passwd; layout = layout })))
  opened-known = (
    record { lined = lined; numbered = refl; came = refl; most = omega arith; rested = λ e. refl },
    (
      record {
        untouched = record {
          silent = packets-plain c w.lines (Open c p id passwd layout) refl ∙ never-sent c w.lines none;
          turn = ahead-push w.lines (Open c p id passwd layout) c 1 refl (never-carried c 1 w.lines none);
          offered = offered;
          offer = offer;
        };
        unattached = attach_of-skip w.lines (Open c p id passwd layout) c refl ∙ never-attached c w.lines none;
        none_waits = refl;
      },
      refl,
    ),
  )

  pub open-accounted : IsAccounted (opened w c p (record { id = id; passwd = passwd; layout = layout }))
  open-accounted =
      let whole = open-whole w c p id passwd layout free k.whole in
      let v : Conn = new_conn p (Connection (new_core (record { id = id; passwd = passwd; layout = layout }))) in
      record {
        whole = whole;
        known = known-alone w (opened w c p (record { id = id; passwd = passwd; layout = layout })) c (Open c p id passwd layout ∷ []) k.known (record {
          longer = precedes-self w.store;
          legal = (((k.whole).holds).serves).legal;
          still_legal = ((whole.holds).serves).legal;
          lines = refl;
          others = λ d apart. conn-there w c d v apart;
          unnamed = λ d apart. inr (both-true (not (d == c)) true (ap not (other-number d c apart)) refl);
        })
            (λ x e. subst (λ (q : Conn). IsKnownAs w.store (w.lines ++ Open c p id passwd layout ∷ []) c q q.actor) (some_is (sym (conn-here w c v) ∙ e)) opened-known)
            (λ e. absurd (none_some (sym e ∙ conn-here w c v)));
        entries = entries-line w.lines (Open c p id passwd layout) w.entries (ap (λ (s : State). s.updates) (after-push w.lines (Open c p id passwd layout))) k.entries;
        within = λ d. within-plain w.lines (Open c p id passwd layout) d refl (λ n. refl) (k.within d);
      }

pub reap-accounted : (w w' : World) (c p : ℕ) (id : ℤ) → conn_at c w ≡ None → Reaps c w None w' (new_reaper p id) (new_reap id) → IsAccounted w → IsAccounted w'
reap-accounted w w' c p id free (inl e) k = absurd (damaged-memory e.key e.value e.found)
reap-accounted w w' c p id free (inr r) k =
    let v : Conn = looking_reaper p id r.next in
    let is : w' ≡ with_conn w c v = looks-first w w' c p id r in
    let whole : Whole (with_conn w c v) = subst Whole is (reap-whole w w' c p id free (inr r) k.whole) in
    let m = (r.stepped).moves in
    subst IsAccounted (sym is) (record {
      whole = whole;
      known = known-alone w (with_conn w c v) c [] k.known (record {
        longer = precedes-self w.store;
        legal = (((k.whole).holds).serves).legal;
        still_legal = ((whole.holds).serves).legal;
        lines = sym (append-nil w.lines);
        others = λ d apart. conn-there w c d v apart;
        unnamed = λ d apart. inr refl;
      })
          (λ x e. subst (λ (q : Conn). IsKnownAs w.store w.lines c q q.actor) (some_is (sym (conn-here w c v) ∙ e)) (record {
            asked = subst (λ ph. IsReapAsk w.store (r.next).session ph (reading (pos 0) (reaper_wants id))) (sym m.0) (ap (λ n. reading (pos 0) (reaper_wants n)) (sym (r.stepped).same));
            kind = ap (kind_of_reap (r.next).session) (sym m.0);
          }))
          (λ e. absurd (none_some (sym e ∙ conn-here w c v)));
      entries = k.entries;
      within = k.within;
    })
