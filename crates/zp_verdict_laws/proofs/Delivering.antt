-- What was asked is carried out, answered, or fails; reapers; and entries.
use Rattle.ev_types.specs.Denials.{carry}
use Rattle.ev_types.specs.Store.{Store}
use Rattle.ev_types.specs.declared.answer.Answer.{Answer}
use Rattle.std.proofs.Common.{◌≡◌, ℕ, zero, suc, ℤ, pos, negsuc, ◌+◌, ◌-◌, List, [], ◌∷◌, ◌++◌, length, refl, sym, ap, ◌∙◌, subst, append-nil, Bool, true, false, inl, inr}
use Rattle.std.proofs.lemmas.List.Elements.{All-append, All-cons, All-head, All-nil, All-tail}
use Rattle.std.specs.FinMap.{get}
use Rattle.std.specs.List.{list_all}
use Rattle.std.specs.Ordering.{int_eq}
use Rattle.std.specs.Option.{option_and_then}
use Rattle.std.specs.Prelude.{All, MatchBool, Option, Some, None, if◌then◌else◌, slice_get, slice_set}
use Rattle.zk_service.specs.declared.cause.Cause.TheVariants as cause
use Rattle.zk_service.specs.declared.cause.Ended.TheVariants as ended
use Rattle.zk_service.specs.declared.update.UpdateKind.{UpdateKind}
use Rattle.zn_layout.specs.declared.entry.Entry.{Entry}
use Rattle.zp_script.specs.Carrying.{CarriedBy, CarriesOut, Executes, ExecutesStray, HasStore, ShowsUpdate, update_line_of}
use Rattle.zp_script.specs.Effects.{Delivers, EndsBy, EntersBy, IsEntry, LagsBy}
use Rattle.zp_script.specs.Entries.{cursor_at, cursor_of, cursor_wanted, entry_after, max_kept_entries, next_entry}
use Rattle.zp_script.specs.Faults.{flight_at}
use Rattle.zp_script.specs.Handing.{AnswerComesTo, FailureComes, FailureComesTo, Reaps, landed, landed_conn}
use Rattle.zp_script.specs.Kinds.{kind_asked}
use Rattle.zp_script.specs.StepOutcomes.{ended_by, leaves, quiet, reap_acts}
use Rattle.zp_script.specs.Worlds.{Actor, Closed, Conn, Connection, Reaper, World, after_reap, conn_at, is_over, with_conn, zxid_at}
use Rattle.zp_script.specs.declared.flight.Asking.{Asking}
use Rattle.zp_script.specs.declared.flight.Flight.TheVariants.{Carried, Denied, Out}
use Rattle.zp_script.specs.declared.flight.Flight.{Flight}
use Rattle.zk_model.specs.Watches.{is_unarmed}
use Rattle.zp_verdict_laws.proofs.Handing.{Leaves, ended-proceeds, ends-leave, handed-proceeds, leaves-proceeds, none-indexed, in_step-ends}
use Rattle.zp_verdict_laws.proofs.Naturals.{IsNaturalActor, IsNaturalEntry, IsNaturalFlight, IsNaturalWorld, no-lines, one-line}
use Rattle.zp_verdict_laws.proofs.Reaping.{IsNaturalPhase, NaturallyReaps, reaps-natural}
use Rattle.zp_verdict_laws.proofs.Stepping.{IsNaturalInput}
use Rattle.zp_verdict_laws.proofs.Stored.{IsNatural, IsNaturalAnswer, answer-natural, natural}
use Rattle.zp_verdict_laws.proofs.Tidy.{Free, IsTidy, IsInStep, Proceeds, alike-proceeds, others-proceed, proceeds-on, proceeds-same, proceeds-then, proceeds-to, in_step-aside}
use Rattle.zp_step.specs.Stages.{Checking, Committing, Connecting, Core, KeepingAlive, Reading, Ready, Shut, Stage, Unconnected, Waiting, wanted_in}
use Rattle.zp_step.specs.declared.input.Input.TheVariants as input
use Rattle.zp_step.specs.declared.input.Input.{Input}
use Rattle.zp_step.specs.declared.wants.Wants.TheVariants as wants
use Rattle.zp_world_laws.proofs.Acting.{ends-own, is_own}
use Rattle.zs_reap.proofs.Waiting.{step-waits}
use Rattle.zs_reap.specs.Steps.{IsAsked, IsReaperWaiting}
use Rattle.zs_reap.specs.declared.reap.Phase.TheVariants.{Counting, Looking, Over, Removing, Unasked}
use Rattle.zs_reap.specs.declared.reap.Phase.{Phase}
use Rattle.zs_reap.specs.declared.reap.Reap.{Reap}
use Rattle.zs_reap.specs.declared.reap.ReapStep.TheVariants as reaped
use Rattle.zs_reap.specs.declared.reap.ReapStep.{ReapStep}
use Rattle.zx_base.proofs.Options.{none_some, some_is}

-- ---- the store carries out an ask

pub same-entries : (w w' : World) → w'.entries ≡ w.entries → IsNaturalWorld w → All IsNaturalEntry w'.entries
same-entries w w' e k = subst (All IsNaturalEntry) (sym e) k.entries

stored-same : (w mid : World) (s : Store) → mid ≡ record w { store = s } → Proceeds Free w mid
stored-same w mid s e = others-proceed Free w mid [] (ap (λ (v : World). v.conns) e) (ap (λ (v : World). v.clock) e) (ap (λ (v : World). v.lines) e ∙ sym (append-nil w.lines)) (λ p. no-lines) (same-entries w mid (ap (λ (v : World). v.entries) e)) (λ c p. refl)

shows-proceeds : (w mid : World) (s : Store) (kind : Option UpdateKind) → ShowsUpdate w s kind mid → Proceeds Free w mid
shows-proceeds w mid s None h = stored-same w mid s h
shows-proceeds w mid s (Some kind) (e, of, is) = others-proceed Free w mid (update_line_of s kind ∷ []) (ap (λ (v : World). v.conns) is) (ap (λ (v : World). v.clock) is) (ap (λ (v : World). v.lines) is) (λ p. one-line (update_line_of s kind) tt)
    (λ k. subst (All IsNaturalEntry) (sym (ap (λ (v : World). v.entries) is)) (All-append IsNaturalEntry w.entries (e ∷ []) k.entries (All-cons IsNaturalEntry e [] (subst IsNatural (sym of.number) (natural (length w.entries + 1))) (All-nil IsNaturalEntry)))) (λ c p. refl)

stored-proceeds : (w mid : World) (s : Store) (kind : Option UpdateKind) → HasStore w s kind mid → Proceeds Free w mid
stored-proceeds w mid s kind h = go (int_eq (zxid_at w.store) (zxid_at s)) h
  where
    go : (b : Bool) → MatchBool b (mid ≡ record w { store = s }) (ShowsUpdate w s kind mid) → Proceeds Free w mid
    go true e = stored-same w mid s e
    go false e = shows-proceeds w mid s kind e

carried-proceeds : (w mid : World) (a : Asking) (f : Flight) → CarriesOut w a f mid → Proceeds Free w mid
carried-proceeds w mid a f h = go (carry w.store a.ask) h
  where
    go : (o : Option (Store × Answer)) → CarriedBy w a.kind f mid o → Proceeds Free w mid
    go None p = proceeds-same w mid p.1
    go (Some r) p = stored-proceeds w mid r.0 a.kind p.1

shown-conns : (w mid : World) (s : Store) (kind : Option UpdateKind) → ShowsUpdate w s kind mid → mid.conns ≡ w.conns
shown-conns w mid s None h = ap (λ (v : World). v.conns) h
shown-conns w mid s (Some kind) (e, of, is) = ap (λ (v : World). v.conns) is

carried-conns : (w mid : World) (a : Asking) (f : Flight) → CarriesOut w a f mid → mid.conns ≡ w.conns
carried-conns w mid a f h = go (carry w.store a.ask) h
  where
    stored : (s : Store) (b : Bool) → MatchBool b (mid ≡ record w { store = s }) (ShowsUpdate w s a.kind mid) → mid.conns ≡ w.conns
    stored s true e = ap (λ (v : World). v.conns) e
    stored s false e = shown-conns w mid s a.kind e

    go : (o : Option (Store × Answer)) → CarriedBy w a.kind f mid o → mid.conns ≡ w.conns
    go None p = ap (λ (v : World). v.conns) p.1
    go (Some r) p = stored r.0 (int_eq (zxid_at w.store) (zxid_at r.0)) p.1

-- what it answers
carried-natural : (w mid : World) (a : Asking) (f : Flight) → CarriesOut w a f mid → IsNaturalFlight (Some f)
carried-natural w mid a f h = go (carry w.store a.ask) refl h
  where
    go : (o : Option (Store × Answer)) → carry w.store a.ask ≡ o → CarriedBy w a.kind f mid o → IsNaturalFlight (Some f)
    go None e p = subst (λ x. IsNaturalFlight (Some x)) (sym p.0) tt
    go (Some r) e p = subst (λ x. IsNaturalFlight (Some x)) (sym p.0) (answer-natural w.store r.0 a.ask r.1 e)

pub exec-proceeds : (w w' : World) (c : ℕ) → Executes c w w' → Proceeds Free w w'
exec-proceeds w w' c ex =
    let v : Conn = record (ex.conn) { flight = Some ex.flight } in
    proceeds-to Free w (with_conn ex.mid c v) w' ex.result
    (proceeds-then w ex.mid (with_conn ex.mid c v) (carried-proceeds w ex.mid ex.asking ex.flight ex.carries)
    (alike-proceeds ex.mid c ex.conn v (ap (λ m. get m c) (carried-conns w ex.mid ex.asking ex.flight ex.carries) ∙ ex.found) refl refl (λ f. carried-natural w ex.mid ex.asking ex.flight ex.carries)))

pub stray-proceeds : (w w' : World) (k : ℕ) → ExecutesStray k w w' → Proceeds Free w w'
stray-proceeds w w' k ex =
    let v : World = record (ex.mid) { strays = slice_set ex.mid.strays (k - 1) None } in
    proceeds-to Free w v w' ex.result
    (proceeds-then w ex.mid v (carried-proceeds w ex.mid ex.asking ex.flight ex.carries) (others-proceed Free ex.mid v [] refl refl (sym (append-nil ex.mid.lines)) (λ p. no-lines) (λ k. k.entries) (λ c p. refl)))

-- ---- a reaper's step

asked-open : (p : Phase) → IsAsked p → is_over p ≡ false
asked-open Unasked h = refl
asked-open Looking h = refl
asked-open (Counting z ws) h = refl
asked-open (Removing again) h = refl
asked-open Over h = absurd h

reap-own : (c : ℕ) (kind : Option UpdateKind) (f : Option Flight) (step : ReapStep) → list_all (is_own c) (reap_acts c kind f step).lines ≡ true
reap-own c kind f (reaped.Ask a) = refl
reap-own c kind f (reaped.Reaped z) = ends-own c [] (ended.Reaped z) (quiet f) refl refl
reap-own c kind f (reaped.Kept z) = ends-own c [] (ended.Kept z) (quiet f) refl refl
reap-own c kind f (reaped.Gone z) = ends-own c [] (ended.Gone z) (quiet f) refl refl

reap-in_step : (w : World) (c frames : ℕ) (kind : Option UpdateKind) (f : Option Flight) (r next : Reap) (step : ReapStep) → IsReaperWaiting step next.phase → IsInStep w.lines c frames (Reaper r) → IsInStep (w.lines ++ (reap_acts c kind f step).lines) c frames (after_reap next)
reap-in_step w c frames kind f r next (reaped.Ask a) waits t = subst (λ b. IsInStep (w.lines ++ []) c frames (if b then Closed else Reaper next)) (sym (asked-open next.phase waits.0)) (in_step-aside w.lines [] c frames (Reaper next) (λ p. refl) t)
reap-in_step w c frames kind f r next (reaped.Reaped z) over t = subst (λ p. IsInStep (w.lines ++ (reap_acts c kind f (reaped.Reaped z)).lines) c frames (if is_over p then Closed else Reaper next)) (sym over) (in_step-ends w c frames (Reaper r) (ended.Reaped z) (λ e. cc) t)
reap-in_step w c frames kind f r next (reaped.Kept z) over t = subst (λ p. IsInStep (w.lines ++ (reap_acts c kind f (reaped.Kept z)).lines) c frames (if is_over p then Closed else Reaper next)) (sym over) (in_step-ends w c frames (Reaper r) (ended.Kept z) (λ e. cc) t)
reap-in_step w c frames kind f r next (reaped.Gone z) over t = subst (λ p. IsInStep (w.lines ++ (reap_acts c kind f (reaped.Gone z)).lines) c frames (if is_over p then Closed else Reaper next)) (sym over) (in_step-ends w c frames (Reaper r) (ended.Gone z) (λ e. cc) t)

reap-actor : (next : Reap) → IsNaturalPhase next.phase → IsNaturalActor (after_reap next)
reap-actor next n = go (is_over next.phase)
  where
    go : (b : Bool) → IsNaturalActor (if b then Closed else Reaper next)
    go true = tt
    go false = n

reap-leaves : (c : ℕ) (kind : Option UpdateKind) (f : Option Flight) (next : Reap) (step : ReapStep) → NaturallyReaps next.phase step → Leaves (after_reap next) (reap_acts c kind f step)
reap-leaves c kind f next (reaped.Ask a) n = record { actor_is = reap-actor next n.phase_is; outcome = record { lines = no-lines; flight = tt } }
reap-leaves c kind f next (reaped.Reaped z) n = record { actor_is = reap-actor next n.phase_is; outcome = (ends-leave c (ended.Reaped z) f n.step_is).outcome }
reap-leaves c kind f next (reaped.Kept z) n = record { actor_is = reap-actor next n.phase_is; outcome = (ends-leave c (ended.Kept z) f n.step_is).outcome }
reap-leaves c kind f next (reaped.Gone z) n = record { actor_is = reap-actor next n.phase_is; outcome = (ends-leave c (ended.Gone z) f n.step_is).outcome }

pub reaps-proceed : (P : Type 0) (w w' : World) (c : ℕ) (x : Conn) (r : Reap) (a : Option Answer) → (P → IsNaturalWorld w → IsNaturalPhase r.phase) → (P → (b : Answer) → a ≡ Some b → IsNaturalAnswer b) → (IsTidy w → IsInStep w.lines c x.frames (Reaper r)) → Reaps c w a w' x r → Proceeds P w w'
reaps-proceed P w w' c x r a phase fits was (inl e) =
    proceeds-to P w (leaves c w x Closed (ended_by c (cause.Damaged e.key e.value) x.flight)) w' e.result
    (leaves-proceeds P w c x Closed (ended_by c (cause.Damaged e.key e.value) x.flight) (ends-own c [] (ended.Cause (cause.Damaged e.key e.value)) (quiet x.flight) refl refl)
    (λ p k. ends-leave c (ended.Cause (cause.Damaged e.key e.value)) x.flight tt)
    (λ t n. in_step-ends w c x.frames (Reaper r) (ended.Cause (cause.Damaged e.key e.value)) (λ f. cc) (was t)))
reaps-proceed P w w' c x r a phase fits was (inr s) =
    proceeds-to P w (leaves c w x (after_reap s.next) (reap_acts c (kind_asked c (Reaper s.next)) x.flight s.step)) w' s.result
    (leaves-proceeds P w c x (after_reap s.next) (reap_acts c (kind_asked c (Reaper s.next)) x.flight s.step) (reap-own c (kind_asked c (Reaper s.next)) x.flight s.step)
    (λ p k. reap-leaves c (kind_asked c (Reaper s.next)) x.flight s.next s.step (reaps-natural r s.next a s.step (fits p) (phase p k) s.stepped))
    (λ t n. reap-in_step w c x.frames (kind_asked c (Reaper s.next)) x.flight r s.next s.step (step-waits (s.next).phase s.step r a (s.stepped).moves) (was t)))

-- ---- its answer comes, or a failure

pub landed-proceeds : (w : World) (c : ℕ) → Proceeds Free w (landed c w)
landed-proceeds w c = go (conn_at c w) refl
  where
    go : (o : Option Conn) → conn_at c w ≡ o → Proceeds Free w (landed_conn c w o)
    go None e = proceeds-same w w refl
    go (Some x) e = alike-proceeds w c x (record x { flight = None }) e refl refl (λ f. tt)

answer-proceeds : (w w' : World) (c : ℕ) (x : Conn) (a : Answer) (actor : Actor) → x.actor ≡ actor → conn_at c w ≡ Some x → AnswerComesTo c w x a w' actor → Proceeds (IsNaturalAnswer a) w w'
answer-proceeds w w' c x a (Connection core) is there hd = handed-proceeds (IsNaturalAnswer a) w w' c [] (input.Answer a) hd refl no-lines (λ n k. n) (none-indexed c hd.conn.frames)
answer-proceeds w w' c x a (Reaper r) is there h =
    reaps-proceed (IsNaturalAnswer a) w w' c x r (Some a) (λ n k. subst IsNaturalActor is (k.conns c x there).actor) (λ n b e. subst IsNaturalAnswer (some_is e) n) (λ t. subst (IsInStep w.lines c x.frames) is (t.used c x there)) h
answer-proceeds w w' c x a Closed is there h = absurd h

failure-to : (w w' : World) (c : ℕ) (x : Conn) (actor : Actor) → x.actor ≡ actor → conn_at c w ≡ Some x → FailureComesTo c w x w' actor → Proceeds Free w w'
failure-to w w' c x (Connection core) is there hd = handed-proceeds Free w w' c [] input.Failed hd refl no-lines (λ p k. tt) (none-indexed c hd.conn.frames)
failure-to w w' c x (Reaper r) is there h = proceeds-to Free w (leaves c w x Closed (ended_by c cause.LinkFault x.flight)) w' h (ended-proceeds w c x (ended.Cause cause.LinkFault) x.flight tt (λ e. unclosed (sym is ∙ e)) there)
  where
    unclosed : Reaper r ≡ Closed → ⊥
    unclosed e = cc
failure-to w w' c x Closed is there h = absurd h

pub failure-proceeds : (w w' : World) (c : ℕ) → FailureComes c w w' → Proceeds Free w w'
failure-proceeds w w' c (x, there, h) = failure-to w w' c x x.actor refl there h

-- the answer that waits to be delivered
waits-natural : (w : World) (c : ℕ) (a : Answer) → flight_at c w ≡ Some (Carried a) → IsNaturalWorld w → IsNaturalAnswer a
waits-natural w c a e k = go (conn_at c w) refl e
  where
    go : (o : Option Conn) → conn_at c w ≡ o → option_and_then (λ (x : Conn). x.flight) o ≡ Some (Carried a) → IsNaturalAnswer a
    go None there f = absurd (none_some f)
    go (Some x) there f = subst IsNaturalFlight f (k.conns c x there).flight

pub delivers-proceed : (w w' : World) (c : ℕ) (f : Option Flight) → flight_at c w ≡ f → Delivers c w w' f → Proceeds Free w w'
delivers-proceed w w' c None e h = absurd h
delivers-proceed w w' c (Some (Out a)) e h = absurd h
delivers-proceed w w' c (Some (Carried a)) e (x, there, h) =
    proceeds-on Free (IsNaturalAnswer a) w (landed c w) w' (λ p k. waits-natural w c a e k) (landed-proceeds w c) (answer-proceeds (landed c w) w' c x a x.actor refl there h)
delivers-proceed w w' c (Some Denied) e h = proceeds-then w (landed c w) w' (landed-proceeds w c) (failure-proceeds (landed c w) w' c h)

-- ---- an entry comes, it lags, or the client's stream ends

All-get : {A : Type 0} (P : A → Type 0) (xs : List A) (n : ℕ) (x : A) → All P xs → slice_get xs n ≡ Some x → P x
All-get P [] n x h e = absurd (none_some e)
All-get P (y ∷ xs) zero x h e = subst P (some_is e) (All-head P y xs h)
All-get P (y ∷ xs) (suc n) x h e = All-get P xs n x (All-tail P y xs h) e

-- the entry after the cursor is one of the world's
entry-natural : (w : World) (c : ℕ) (e : Entry) (i : Input) → next_entry c w ≡ Some e → IsEntry e i → IsNaturalWorld w → IsNaturalInput i
entry-natural w c e (input.Entry s) there is k = subst IsNaturalEntry (sym is) (go (cursor_at c w) there)
  where
    by-cursor : (z : ℤ) → entry_after w.entries z ≡ Some e → IsNaturalEntry e
    by-cursor (pos n) f = All-get IsNaturalEntry w.entries n e k.entries f
    by-cursor (negsuc n) f = absurd (none_some f)

    go : (o : Option ℤ) → option_and_then (entry_after w.entries) o ≡ Some e → IsNaturalEntry e
    go None f = absurd (none_some f)
    go (Some z) f = by-cursor z f
entry-natural w c e (input.Frame b) there is k = absurd is
entry-natural w c e (input.Answer b) there is k = absurd is
entry-natural w c e input.Failed there is k = absurd is
entry-natural w c e (input.BadLength p n) there is k = absurd is
entry-natural w c e (input.Lagged p n) there is k = absurd is
entry-natural w c e input.FeedClosed there is k = absurd is
entry-natural w c e (input.ClientEnd p) there is k = absurd is

pub enters-proceed : (w w' : World) (c : ℕ) (o : Option Entry) → next_entry c w ≡ o → EntersBy c w w' o → Proceeds Free w w'
enters-proceed w w' c None there h = absurd h
enters-proceed w w' c (Some e) there (i, is, hd) = handed-proceeds Free w w' c [] i hd refl no-lines (λ p k. entry-natural w c e i there is k) (none-indexed c hd.conn.frames)

-- the cursor is the connection's
cursor-natural : (w : World) (c : ℕ) (z : ℤ) → cursor_at c w ≡ Some z → IsNaturalWorld w → IsNatural z
cursor-natural w c z e k = by-conn (conn_at c w) refl e
  where
    by-stage : (core : Core) (st : Stage) → IsNatural core.cursor → cursor_wanted (wanted_in core st) ≡ Some z → IsNatural z
    by-stage core (Unconnected fresh) n f = absurd (none_some f)
    by-stage core (Connecting connect) n f = absurd (none_some f)
    by-stage core Ready n f = by-armed (is_unarmed core.watches) f
      where
        by-armed : (b : Bool) → cursor_wanted (if b then wants.Frame else wants.FrameOrEntry core.cursor) ≡ Some z → IsNatural z
        by-armed true g = absurd (none_some g)
        by-armed false g = subst IsNatural (some_is g) n
    by-stage core (KeepingAlive frame) n f = absurd (none_some f)
    by-stage core (Checking frame) n f = absurd (none_some f)
    by-stage core (Reading xid r v ws) n f = absurd (none_some f)
    by-stage core (Committing xid r v p time) n f = absurd (none_some f)
    by-stage core (Waiting p) n f = subst IsNatural (some_is f) n
    by-stage core Shut n f = absurd (none_some f)

    by-actor : (a : Actor) → IsNaturalActor a → cursor_of a ≡ Some z → IsNatural z
    by-actor (Connection core) n f = by-stage core core.stage n.cursor f
    by-actor (Reaper r) n f = absurd (none_some f)
    by-actor Closed n f = absurd (none_some f)

    by-conn : (o : Option Conn) → conn_at c w ≡ o → option_and_then (λ (x : Conn). cursor_of x.actor) o ≡ Some z → IsNatural z
    by-conn None there f = absurd (none_some f)
    by-conn (Some x) there f = by-actor x.actor (k.conns c x there).actor f

pub lags-proceed : (w w' : World) (c : ℕ) (o : Option ℤ) → cursor_at c w ≡ o → LagsBy c w w' o → Proceeds Free w w'
lags-proceed w w' c None e h = absurd h
lags-proceed w w' c (Some z) e hd = handed-proceeds Free w w' c [] _ hd refl no-lines (λ p k. (cursor-natural w c z e k, natural (length w.entries - max_kept_entries))) (none-indexed c hd.conn.frames)

pub ends-proceed : (w w' : World) (c : ℕ) (o : Option Conn) → EndsBy c w w' o → Proceeds Free w w'
ends-proceed w w' c None h = absurd h
ends-proceed w w' c (Some x) hd = handed-proceeds Free w w' c [] _ hd refl no-lines (λ p k. tt) (none-indexed c hd.conn.frames)
