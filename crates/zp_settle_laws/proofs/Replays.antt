-- Each line of a script ends connections and reapers for no cause that stands outside a replay.
use Rattle.ev_types.specs.Denials.{carry}
use Rattle.ev_types.specs.Lapses.{foreign, lapse}
use Rattle.ev_types.specs.Store.{Store, revision}
use Rattle.ev_types.specs.declared.answer.Answer.{Answer}
use Rattle.std.proofs.Common.{Bool, List, [], ap, append-nil, false, inl, inr, refl, subst, sym, true, ℕ, ℤ, ◌++◌, ◌+◌, ◌-◌, ◌∙◌, ◌∷◌, ◌≡◌}
use Rattle.std.proofs.lemmas.List.Elements.{All-append, All-cons, All-nil}
use Rattle.std.specs.FinMap.{entries, get, get-empty}
use Rattle.std.specs.Ordering.{int_eq, nat_cmp}
use Rattle.std.specs.Prelude.{All, MatchBool, None, Option, Some, fold, if◌then◌else◌, slice_set, option_and_then}
use Rattle.zk_jute.specs.JuteWriting.{with_length}
use Rattle.zk_service.specs.declared.cause.Cause.TheVariants as cause
use Rattle.zk_service.specs.declared.cause.Ended.TheVariants as ended
use Rattle.zk_service.specs.declared.cause.Ended.{Ended}
use Rattle.zk_transcript.specs.declared.transcript.TranscriptLine.TheVariants.{Close, Frame as FrameLine, Lapse as LapseLine, Open, Send}
use Rattle.zk_transcript.specs.declared.transcript.TranscriptLine.{TranscriptLine}
use Rattle.zk_service.specs.declared.update.UpdateKind.{UpdateKind}
use Rattle.zn_layout.specs.declared.entry.Entry.{Entry}
use Rattle.zs_reap.specs.Steps.{IsReapFault}
use Rattle.zs_reap.specs.declared.reap.Reap.{Reap}
use Rattle.zs_reap.specs.declared.reap.ReapStep.TheVariants as reaped
use Rattle.zs_reap.specs.declared.reap.ReapStep.{ReapStep}
use Rattle.zs_session.specs.declared.fault.StepFault.TheVariants as faults
use Rattle.zt_text.specs.declared.script.Happening.TheVariants as line
use Rattle.zt_text.specs.declared.script.Happening.{Happening}
use Rattle.zx_base.proofs.Options.{none_some, some_is}
use Rattle.zx_base.specs.Maps.{Bytes}
use Rattle.zp_step.specs.Stages.{Core, counted_up, is_shut, new_core}
use Rattle.zp_step.specs.declared.action.Action.TheVariants as action
use Rattle.zp_step.specs.declared.action.Action.{Action}
use Rattle.zp_step.specs.declared.input.Input.TheVariants as input
use Rattle.zp_step.specs.declared.input.Input.{Input}
use Rattle.zp_script.specs.Arriving.{Arrives, EndsBadly, FramesArrive, frame_lines, shown_frame}
use Rattle.zp_script.specs.Carrying.{CarriedBy, CarriesOut, Executes, ExecutesStray}
use Rattle.zp_script.specs.Effects.{Delivers, Does, EndsBy, EntersBy, IsEntry, LagsBy, LapsesTo, PutTo, is_open_at, new_conn, new_reap, new_reaper, opened, restarted, stopped}
use Rattle.zp_script.specs.Entries.{cursor_at, next_entry}
use Rattle.zp_script.specs.Faults.{flight_at}
use Rattle.zp_script.specs.Handing.{AnswerComes, AnswerComesTo, FailureComesTo, Handed, Reaps, landed, landed_conn}
use Rattle.zp_script.specs.Happens.{Happens, Settles, max_settling}
use Rattle.zp_script.specs.Kinds.{kind_asked}
use Rattle.zp_script.specs.Runs.{IsFirst}
use Rattle.zp_script.specs.StepOutcomes.{StepOutcome, acts, acts_all, ended_by, leaves, quiet, reap_acts}
use Rattle.zp_script.specs.Worlds.{Actor, Closed, Conn, Connection, Reaper, World, after_reap, after_step, conn_at, is_open_conn, is_over, with_conn, zxid_at}
use Rattle.zp_script.specs.declared.flight.Asking.{Asking}
use Rattle.zp_script.specs.declared.flight.Flight.TheVariants.{Carried, Denied, Out}
use Rattle.zp_script.specs.declared.flight.Flight.{Flight}
use Rattle.zp_world_laws.proofs.Effects.{stored-in}
use Rattle.zp_world_laws.proofs.Ends.{landed-is}
use Rattle.zp_world_laws.proofs.Numbers.{conn-here, conn-there, either-number}
use Rattle.zp_world_laws.proofs.Running.{Settling, answers, by-effect, carries, enters, settles-keep}
use Rattle.zp_world_laws.specs.Serving.{kind_lines, update_lines}
use Rattle.zp_settle_laws.proofs.Causes.{AreFine, Fine, IsFineIn, Undamaged, fine-steps, is_feed}

-- ---- lines, and what is there

abbrev pub EndFine : Bool → Ended → Type 0
EndFine damage (ended.Cause why) = Fine damage why
EndFine damage (ended.Reaped z) = Unit {0}
EndFine damage (ended.Kept z) = Unit {0}
EndFine damage (ended.Gone z) = Unit {0}

abbrev pub IsFineLine : Bool → TranscriptLine → Type 0
IsFineLine damage (Close c end) = EndFine damage end
IsFineLine damage _ = Unit {0}

abbrev pub IsFineActor : Bool → Actor → Type 0
IsFineActor damage (Connection core) = IsFineIn damage core.stage
IsFineActor damage (Reaper r) = Unit {0}
IsFineActor damage Closed = Unit {0}

pub record IsFineWorld (damage : Bool) (w : World) : Type 0 where
  pub lines : All (IsFineLine damage) w.lines
  pub actors : (c : ℕ) (x : Conn) → conn_at c w ≡ Some x → IsFineActor damage x.actor

-- no answer that waits to be delivered shows a damaged value, unless that is not to be shown
pub record IsSoundWorld (damage : Bool) (w : World) : Type 0 where
  pub cores : (c : ℕ) (x : Conn) (core : Core) (a : Answer) → conn_at c w ≡ Some x → x.actor ≡ Connection core → x.flight ≡ Some (Carried a) → Undamaged damage core (input.Answer a)
  pub reapers : (c : ℕ) (x : Conn) (r : Reap) (a : Answer) (key value : Bytes) → conn_at c w ≡ Some x → x.actor ≡ Reaper r → x.flight ≡ Some (Carried a) → IsReapFault r (Some a) (faults.Damaged key value) → damage ≡ false

module _ (damage : Bool) where
  abbrev AllFine : List TranscriptLine → Type 0
  AllFine ls = All (IsFineLine damage) ls

  none-fine : All (IsFineLine damage) []
  none-fine = All-nil (IsFineLine damage)

  one-fine : (l : TranscriptLine) → IsFineLine damage l → All (IsFineLine damage) (l ∷ [])
  one-fine l f = All-cons (IsFineLine damage) l [] f (All-nil (IsFineLine damage))

  more-fine : (a b : List TranscriptLine) → AllFine a → AllFine b → AllFine (a ++ b)
  more-fine a b f g = All-append (IsFineLine damage) a b f g

  -- one of them changes, and lines are added
  changed-fine : (w w' : World) (c : ℕ) (v : Conn) (more : List TranscriptLine) → w'.lines ≡ w.lines ++ more → w'.conns ≡ (with_conn w c v).conns → AllFine more → IsFineActor damage v.actor → IsFineWorld damage w → IsFineWorld damage w'
  changed-fine w w' c v more lines conns fine actor k = record {
    lines = subst (λ l. AllFine l) (sym lines) (more-fine w.lines more k.lines fine);
    actors = λ d x there. elim (either-number d c) [
      | inl same ↦ subst (λ (y : Conn). IsFineActor damage y.actor) (some_is (sym (ap (λ n. conn_at n (with_conn w c v)) same ∙ conn-here w c v) ∙ sym (ap (λ m. get m d) conns) ∙ there)) actor
      | inr apart ↦ k.actors d x (sym (conn-there w c d v apart) ∙ sym (ap (λ m. get m d) conns) ∙ there)
    ];
  }

  -- the same are there, and lines are added
  alike-fine : (w w' : World) (more : List TranscriptLine) → w'.lines ≡ w.lines ++ more → w'.conns ≡ w.conns → AllFine more → IsFineWorld damage w → IsFineWorld damage w'
  alike-fine w w' more lines conns fine k = record {
    lines = subst (λ l. AllFine l) (sym lines) (more-fine w.lines more k.lines fine);
    actors = λ d x there. k.actors d x (sym (ap (λ m. get m d) conns) ∙ there);
  }

  fine-to : (v w' : World) → w' ≡ v → IsFineWorld damage v → IsFineWorld damage w'
  fine-to v w' e k = subst (IsFineWorld damage) (sym e) k

  leaves-fine : (w : World) (c : ℕ) (x : Conn) (actor : Actor) (o : StepOutcome) → AllFine o.lines → IsFineActor damage actor → IsFineWorld damage w → IsFineWorld damage (leaves c w x actor o)
  leaves-fine w c x actor o fine a k = changed-fine w (leaves c w x actor o) c (record x { actor = actor; flight = o.flight }) o.lines refl refl fine a k

  -- ---- a step

  acts-fine : (c : ℕ) (kind : Option UpdateKind) (after : List TranscriptLine) (out : List Action) (o : StepOutcome) → AllFine after → AreFine damage out → AllFine o.lines → AllFine (fold (acts c kind after) o out).lines
  acts-fine c kind after [] o b f k = k
  acts-fine c kind after (action.Send bytes ∷ out) o b f k = acts-fine c kind after out (acts c kind after o (action.Send bytes)) b f (more-fine o.lines (Send c bytes ∷ []) k (one-fine (Send c bytes) tt))
  acts-fine c kind after (action.Ask a ∷ out) o b f k = acts-fine c kind after out (acts c kind after o (action.Ask a)) b f k
  acts-fine c kind after (action.Close why ∷ out) o b f k =
      acts-fine c kind after out (acts c kind after o (action.Close why)) b f.1
      (more-fine (o.lines ++ after) (Close c (ended.Cause why) ∷ []) (more-fine o.lines after k b) (one-fine (Close c (ended.Cause why)) f.0))

  step-actor : (next : Core) → IsFineIn damage next.stage → IsFineActor damage (after_step next)
  step-actor next f = go (is_shut next.stage)
    where
      go : (b : Bool) → IsFineActor damage (if b then Closed else Connection next)
      go true = tt
      go false = f

  handed-fine : (w w' : World) (c : ℕ) (after : List TranscriptLine) (i : Input) (hd : Handed c after w i w') → AllFine after → is_feed i ≡ false → Undamaged damage hd.core i → IsFineWorld damage w → IsFineWorld damage w'
  handed-fine w w' c after i hd b q u k =
      let was : IsFineActor damage (Connection hd.core) = subst (IsFineActor damage) hd.serving (k.actors c hd.conn hd.found) in
      let s = fine-steps damage hd.core hd.next i w.clock hd.out q u was hd.stepped in
      fine-to (leaves c w hd.conn (after_step hd.next) (acts_all c (kind_asked c (Connection hd.next)) after hd.conn.flight hd.out)) w' hd.result
      (leaves-fine w c hd.conn (after_step hd.next) (acts_all c (kind_asked c (Connection hd.next)) after hd.conn.flight hd.out)
      (acts-fine c (kind_asked c (Connection hd.next)) after hd.out (quiet hd.conn.flight) b s.acts none-fine) (step-actor hd.next s.stage) k)

  -- ---- what is carried out

  update-fine : (s u : Store) (kind : Option UpdateKind) → AllFine (update_lines s u kind)
  update-fine s u kind = go (int_eq (zxid_at s) (zxid_at u)) kind
    where
      go : (b : Bool) (o : Option UpdateKind) → AllFine (if b then [] else kind_lines u o)
      go true o = none-fine
      go false None = none-fine
      go false (Some k) = one-fine _ tt

  carried-fine : (w mid : World) (a : Asking) (f : Flight) → CarriesOut w a f mid → IsFineWorld damage w → IsFineWorld damage mid × (mid.conns ≡ w.conns)
  carried-fine w mid a f h k = go (carry w.store a.ask) h
    where
      go : (o : Option (Store × Answer)) → CarriedBy w a.kind f mid o → IsFineWorld damage mid × (mid.conns ≡ w.conns)
      go None p = (fine-to w mid p.1 k, ap (λ (u : World). u.conns) p.1)
      go (Some r) p = (let st = stored-in w mid r.0 a.kind p.1 in (alike-fine w mid (update_lines w.store r.0 a.kind) st.lines st.conns (update-fine w.store r.0 a.kind) k, st.conns))

  exec-fine : (w w' : World) (c : ℕ) → Executes c w w' → IsFineWorld damage w → IsFineWorld damage w'
  exec-fine w w' c ex k =
      let g = carried-fine w ex.mid ex.asking ex.flight ex.carries k in
      let v : Conn = record (ex.conn) { flight = Some ex.flight } in
      fine-to (with_conn ex.mid c v) w' ex.result (changed-fine ex.mid (with_conn ex.mid c v) c v [] (sym (append-nil ex.mid.lines)) refl none-fine (k.actors c ex.conn ex.found) g.0)

  stray-fine : (w w' : World) (n : ℕ) → ExecutesStray n w w' → IsFineWorld damage w → IsFineWorld damage w'
  stray-fine w w' n ex k =
      let v : World = record (ex.mid) { strays = slice_set ex.mid.strays (n - 1) None } in
      fine-to v w' ex.result (alike-fine ex.mid v [] (sym (append-nil ex.mid.lines)) refl none-fine (carried-fine w ex.mid ex.asking ex.flight ex.carries k).0)

  -- ---- what is delivered

  landed-fine : (w : World) (c : ℕ) → IsFineWorld damage w → IsFineWorld damage (landed c w)
  landed-fine w c k = go (conn_at c w) refl
    where
      go : (o : Option Conn) → conn_at c w ≡ o → IsFineWorld damage (landed_conn c w o)
      go None e = k
      go (Some x) e = changed-fine w (with_conn w c (record x { flight = None })) c (record x { flight = None }) [] (sym (append-nil w.lines)) refl none-fine (k.actors c x e) k

  reap-lines : (c : ℕ) (kind : Option UpdateKind) (f : Option Flight) (step : ReapStep) → AllFine (reap_acts c kind f step).lines
  reap-lines c kind f (reaped.Ask a) = none-fine
  reap-lines c kind f (reaped.Reaped z) = one-fine (Close c (ended.Reaped z)) tt
  reap-lines c kind f (reaped.Kept z) = one-fine (Close c (ended.Kept z)) tt
  reap-lines c kind f (reaped.Gone z) = one-fine (Close c (ended.Gone z)) tt

  reap-actor : (next : Reap) → IsFineActor damage (after_reap next)
  reap-actor next = go (is_over next.phase)
    where
      go : (b : Bool) → IsFineActor damage (if b then Closed else Reaper next)
      go true = tt
      go false = tt

  reaps-fine : (w w' : World) (c : ℕ) (x : Conn) (r : Reap) (a : Option Answer) → ((key value : Bytes) → IsReapFault r a (faults.Damaged key value) → damage ≡ false) → Reaps c w a w' x r → IsFineWorld damage w → IsFineWorld damage w'
  reaps-fine w w' c x r a u (inl e) k =
      fine-to (leaves c w x Closed (ended_by c (cause.Damaged e.key e.value) x.flight)) w' e.result (leaves-fine w c x Closed (ended_by c (cause.Damaged e.key e.value) x.flight) (one-fine (Close c (ended.Cause (cause.Damaged e.key e.value))) (u e.key e.value e.found)) tt k)
  reaps-fine w w' c x r a u (inr s) k =
      fine-to (leaves c w x (after_reap s.next) (reap_acts c (kind_asked c (Reaper s.next)) x.flight s.step)) w' s.result
      (leaves-fine w c x (after_reap s.next) (reap_acts c (kind_asked c (Reaper s.next)) x.flight s.step) (reap-lines c (kind_asked c (Reaper s.next)) x.flight s.step) (reap-actor s.next) k)

  failure-fine : (w w' : World) (c : ℕ) (x : Conn) (actor : Actor) → FailureComesTo c w x w' actor → IsFineWorld damage w → IsFineWorld damage w'
  failure-fine w w' c x (Connection core) h k = handed-fine w w' c [] input.Failed h none-fine refl (λ key value f. absurd f) k
  failure-fine w w' c x (Reaper r) h k = fine-to (leaves c w x Closed (ended_by c cause.LinkFault x.flight)) w' h (leaves-fine w c x Closed (ended_by c cause.LinkFault x.flight) (one-fine (Close c (ended.Cause cause.LinkFault)) refl) tt k)
  failure-fine w w' c x Closed h k = absurd h

  core-is : (a b : Core) → Connection a ≡ Connection b → a ≡ b
  core-is a b e = cc

  answer-fine : (w w' : World) (c : ℕ) (x : Conn) (a : Answer) (actor : Actor) → conn_at c w ≡ Some x → x.flight ≡ Some (Carried a) → x.actor ≡ actor → IsSoundWorld damage w → AnswerComesTo c (with_conn w c (record x { flight = None })) (record x { flight = None }) a w' actor
      → IsFineWorld damage (with_conn w c (record x { flight = None })) → IsFineWorld damage w'
  answer-fine w w' c x a (Connection core) there flight e sound hd k =
      let is : record x { flight = None } ≡ hd.conn = some_is (sym (conn-here w c (record x { flight = None })) ∙ hd.found) in
      handed-fine (with_conn w c (record x { flight = None })) w' c [] (input.Answer a) hd none-fine refl (sound.cores c x hd.core a there (ap (λ (u : Conn). u.actor) is ∙ hd.serving) flight) k
  answer-fine w w' c x a (Reaper r) there flight e sound h k = reaps-fine (with_conn w c (record x { flight = None })) w' c (record x { flight = None }) r (Some a) (λ key value f. sound.reapers c x r a key value there e flight f) h k
  answer-fine w w' c x a Closed there flight e sound h k = absurd h

  failure-landed : (w w' : World) (c : ℕ) → (x : Conn) × (conn_at c (landed c w) ≡ Some x) × FailureComesTo c (landed c w) x w' x.actor → IsFineWorld damage w → IsFineWorld damage w'
  failure-landed w w' c (x, there, h) k = failure-fine (landed c w) w' c x x.actor h (landed-fine w c k)

  delivers-fine : (w w' : World) (c : ℕ) → IsSoundWorld damage w → Delivers c w w' (flight_at c w) → IsFineWorld damage w → IsFineWorld damage w'
  delivers-fine w w' c sound d k = go (conn_at c w) refl d
    where
      by-flight : (x : Conn) → conn_at c w ≡ Some x → (f : Option Flight) → x.flight ≡ f → Delivers c w w' f → IsFineWorld damage w'
      by-flight x there None e h = absurd h
      by-flight x there (Some (Out b)) e h = absurd h
      by-flight x there (Some Denied) e h = failure-landed w w' c h k
      by-flight x there (Some (Carried a)) e h =
          let t : AnswerComes c (with_conn w c (record x { flight = None })) a w' = subst (λ v. AnswerComes c v a w') (landed-is w c x there) h in
          let is : t.0 ≡ record x { flight = None } = some_is (sym t.1 ∙ conn-here w c (record x { flight = None })) in
          answer-fine w w' c x a x.actor there e refl sound (subst (λ (v : Conn). AnswerComesTo c (with_conn w c (record x { flight = None })) v a w' v.actor) is t.2) (subst (IsFineWorld damage) (landed-is w c x there) (landed-fine w c k))

      go : (o : Option Conn) → conn_at c w ≡ o → Delivers c w w' (option_and_then (λ (x : Conn). x.flight) o) → IsFineWorld damage w'
      go None e h = absurd h
      go (Some x) e h = by-flight x e x.flight refl h

  -- ---- a proxy restarts

  stopped-fine : (p : ℕ) (w : World) (es : List (ℕ × Conn)) → IsFineWorld damage w → IsFineWorld damage (fold (stopped p) w es)
  stopped-fine p w [] k = k
  stopped-fine p w (e ∷ es) k = stopped-fine p (stopped p w e) es (go (is_open_at p e.1))
    where
      go : (b : Bool) → IsFineWorld damage (if b then leaves e.0 w e.1 Closed (ended_by e.0 cause.Restart e.1.flight) else w)
      go true = leaves-fine w e.0 e.1 Closed (ended_by e.0 cause.Restart e.1.flight) (one-fine (Close e.0 (ended.Cause cause.Restart)) refl) tt k
      go false = k

  -- ---- lines that bring no bytes

  lapse-fine : (w w' : World) (id : ℤ) (o : Option Store) → LapsesTo id w w' o → IsFineWorld damage w → IsFineWorld damage w'
  lapse-fine w w' id None h k = absurd h
  lapse-fine w w' id (Some s) h k = fine-to _ w' h (alike-fine w (record w { store = s; lines = w.lines ++ LapseLine (revision s) id ∷ [] }) (LapseLine (revision s) id ∷ []) refl refl (one-fine (LapseLine (revision s) id) tt) k)

  foreign-fine : (w w' : World) (o : Option Store) → PutTo w w' o → IsFineWorld damage w → IsFineWorld damage w'
  foreign-fine w w' None h k = absurd h
  foreign-fine w w' (Some s) h k = fine-to _ w' h (alike-fine w (record w { store = s }) [] (sym (append-nil w.lines)) refl none-fine k)

  entry-feed : (e : Entry) (i : Input) → IsEntry e i → (is_feed i ≡ false) × ((core : Core) → Undamaged damage core i)
  entry-feed e (input.Entry s) h = (refl, λ core key value f. absurd f)
  entry-feed e (input.Frame b) h = absurd h
  entry-feed e (input.Answer b) h = absurd h
  entry-feed e input.Failed h = absurd h
  entry-feed e (input.BadLength p n) h = absurd h
  entry-feed e (input.Lagged p n) h = absurd h
  entry-feed e input.FeedClosed h = absurd h
  entry-feed e (input.ClientEnd p) h = absurd h

  enters-fine : (w w' : World) (c : ℕ) (o : Option Entry) → EntersBy c w w' o → IsFineWorld damage w → IsFineWorld damage w'
  enters-fine w w' c None h k = absurd h
  enters-fine w w' c (Some e) (i, is, hd) k = let f = entry-feed e i is in handed-fine w w' c [] i hd none-fine f.0 (f.1 hd.core) k

  lags-fine : (w w' : World) (c : ℕ) (o : Option ℤ) → LagsBy c w w' o → IsFineWorld damage w → IsFineWorld damage w'
  lags-fine w w' c None h k = absurd h
  lags-fine w w' c (Some z) hd k = handed-fine w w' c [] _ hd none-fine refl (λ key value f. absurd f) k

  end-fine : (w w' : World) (c : ℕ) (o : Option Conn) → EndsBy c w w' o → IsFineWorld damage w → IsFineWorld damage w'
  end-fine w w' c None h k = absurd h
  end-fine w w' c (Some x) hd k = handed-fine w w' c [] _ hd none-fine refl (λ key value f. absurd f) k

  -- ---- bytes of a client

  frame-lines-fine : (c i : ℕ) (z : ℤ) (fs : List (List ℕ)) → AllFine (frame_lines c i z fs)
  frame-lines-fine c i z [] = none-fine
  frame-lines-fine c i z (f ∷ fs) = All-cons (IsFineLine damage) (FrameLine c i z f) (frame_lines c (counted_up (i + 1)) z fs) tt (frame-lines-fine c (counted_up (i + 1)) z fs)

  shown-fine : (c : ℕ) (w : World) (x : Conn) (f : List ℕ) → conn_at c w ≡ Some x → IsFineWorld damage w → IsFineWorld damage (shown_frame c w x f)
  shown-fine c w x f there k =
      changed-fine w (shown_frame c w x f) c (record x { frames = counted_up (x.frames + 1) }) (FrameLine c x.frames (zxid_at w.store) f ∷ []) refl refl (one-fine (FrameLine c x.frames (zxid_at w.store) f) tt) (k.actors c x there) k

  frames-fine : (c : ℕ) (w w' : World) (fs : List (List ℕ)) → FramesArrive c w fs w' → IsFineWorld damage w → IsFineWorld damage w'
  frames-fine c w w' [] h k = fine-to w w' h k
  frames-fine c w w' (f ∷ fs) (x, mid, found, hd, rest) k =
      go (is_open_conn (conn_at c mid)) (frames-fine c mid w' fs) rest
      (handed-fine (shown_frame c w x f) mid c (frame_lines c (counted_up (x.frames + 1)) (zxid_at w.store) fs) (input.Frame f) hd (frame-lines-fine c (counted_up (x.frames + 1)) (zxid_at w.store) fs) refl (λ key value d. absurd d) (shown-fine c w x f found k))
    where
      go : (b : Bool) → (FramesArrive c mid fs w' → IsFineWorld damage mid → IsFineWorld damage w') → MatchBool b (FramesArrive c mid fs w') (w' ≡ mid) → IsFineWorld damage mid → IsFineWorld damage w'
      go true later r m = later r m
      go false later r m = fine-to mid w' r m

  badly-fine : (c : ℕ) (w w' : World) (place : ℕ) (bad : Option ℤ) → EndsBadly c w place bad w' → IsFineWorld damage w → IsFineWorld damage w'
  badly-fine c w w' place None h k = fine-to w w' h k
  badly-fine c w w' place (Some n) h k = go (is_open_conn (conn_at c w)) h
    where
      go : (b : Bool) → MatchBool b (Handed c [] w (input.BadLength place n) w') (w' ≡ w) → IsFineWorld damage w'
      go true hd = handed-fine w w' c [] (input.BadLength place n) hd none-fine refl (λ key value f. absurd f) k
      go false e = fine-to w w' e k

  arrives-fine : (c : ℕ) (w w' : World) (bytes : List ℕ) → Arrives c w bytes w' → IsFineWorld damage w → IsFineWorld damage w'
  arrives-fine c w w' bytes a k =
      badly-fine c a.mid w' a.stream.place a.bad a.ends (frames-fine c (with_conn w c (record (a.conn) { stream = a.stream })) a.mid a.frames a.arrive
      (changed-fine w (with_conn w c (record (a.conn) { stream = a.stream })) c (record (a.conn) { stream = a.stream }) [] (sym (append-nil w.lines)) refl none-fine (k.actors c a.conn a.found) k))

  -- ---- each line

  does-fine : (w w' : World) (h : Happening) → IsSoundWorld damage w → Does w h w' → IsFineWorld damage w → IsFineWorld damage w'
  does-fine w w' (line.Open c p id passwd layout) s h k =
      fine-to (opened w c p (record { id = id; passwd = passwd; layout = layout })) w' h (changed-fine w (opened w c p (record { id = id; passwd = passwd; layout = layout })) c (new_conn p (Connection (new_core (record { id = id; passwd = passwd; layout = layout })))) (Open c p id passwd layout ∷ []) refl refl (one-fine (Open c p id passwd layout) tt) tt k)
  does-fine w w' (line.Frame c bytes) s h k = arrives-fine c w w' (with_length bytes) h k
  does-fine w w' (line.Arrive c bytes) s h k = arrives-fine c w w' bytes h k
  does-fine w w' (line.Exec c) s h k = exec-fine w w' c h k
  does-fine w w' (line.Answer c) s h k = delivers-fine w w' c s h k
  does-fine w w' (line.Cut c) s (x, there, h) k = failure-fine w w' c x x.actor h k
  does-fine w w' (line.Refuse c) s h k = failure-landed w w' c h k
  does-fine w w' (line.Stray n) s h k = stray-fine w w' n h k
  does-fine w w' (line.Entry c) s h k = enters-fine w w' c (next_entry c w) h k
  does-fine w w' (line.Lag c) s h k = lags-fine w w' c (cursor_at c w) h k
  does-fine w w' (line.End c) s h k = end-fine w w' c (conn_at c w) h k
  does-fine w w' (line.Restart p) s h k = fine-to (restarted p w) w' h (stopped-fine p w (entries w.conns) k)
  does-fine w w' (line.Lapse id) s h k = lapse-fine w w' id (lapse w.store id) h k
  does-fine w w' (line.Foreign key v) s h k = foreign-fine w w' (foreign w.store key v) h k
  does-fine w w' (line.Reap c p id) s h k = reaps-fine w w' c (new_reaper p id) (new_reap id) None (λ key value f. absurd (cc)) h k
  does-fine w w' (line.Tick n) s h k = fine-to _ w' h (alike-fine w (record w { clock = w.clock + n }) [] (sym (append-nil w.lines)) refl none-fine k)
  does-fine w w' (line.Settle c) s h k = absurd h

  -- ---- settle, and any line, where something that is kept makes each world sound

  settling-fine : (c : ℕ) (w w' : World) (h : Happening) → Settling c w h → Does w h w' → IsSoundWorld damage w → IsFineWorld damage w → IsFineWorld damage w'
  settling-fine c w w' _ carries h s k = exec-fine w w' c h k
  settling-fine c w w' _ answers h s k = delivers-fine w w' c s h k
  settling-fine c w w' _ (enters idle) h s k = enters-fine w w' c (next_entry c w) h k

  module _ (P : World → Type 0) (gives : (w : World) → P w → IsSoundWorld damage w) (keeps : (c : ℕ) (w w' : World) (h : Happening) → Settling c w h → Does w h w' → P w → P w') where
    settles-fine : (n c : ℕ) (w w' : World) → Settles n c w w' → P w → IsFineWorld damage w → IsFineWorld damage w'
    settles-fine n c w w' h p k =
        (settles-keep (λ v. P v × IsFineWorld damage v) c (λ v v' x s does q. (keeps c v v' x s does q.0, settling-fine c v v' x s does (gives v q.0) q.1)) n w w' h (p, k)).1

    pub happens-fine : (w w' : World) (h : Happening) → Happens w h w' → P w → IsFineWorld damage w → IsFineWorld damage w'
    happens-fine w w' h one p k = by-effect (IsFineWorld damage w') w w' h one.effect (λ c s. settles-fine (max_settling c w) c w w' s p k) (λ d. does-fine w w' h (gives w p) d k)

  -- ---- before anything happened

  pub first-fine : (w : World) → IsFirst w → IsFineWorld damage w
  first-fine w (s, a, e, is) = subst (IsFineWorld damage) (sym is) (record {
    lines = one-fine _ tt;
    actors = λ c x there. absurd (none_some (sym (get-empty nat_cmp c) ∙ there));
  })
