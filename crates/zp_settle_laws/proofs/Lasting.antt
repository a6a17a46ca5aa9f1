-- How many lines a settle has left: each line that it does leaves fewer.
use Rattle.std.proofs.Common.{◌≡◌, ℕ, suc, ◌+◌, ◌*◌, ◌≤◌, List, [], ◌∷◌, length, refl, sym, ap, ◌∙◌, subst, arith, Bool, true, false, ℤ, inl, inr}
use Rattle.std.specs.Ordering.{int_eq}
use Rattle.std.specs.Prelude.{Option, Some, None, MatchBool, fold, if◌then◌else◌, nat_abs, option_and_then}
use Rattle.std.proofs.Math.Seq.{take-length}
use Rattle.std.proofs.lemmas.Int.{ints}
use Rattle.std.proofs.lemmas.List.{length-append}
use Rattle.ev_types.specs.Denials.{carry}
use Rattle.ev_types.specs.Store.{Store}
use Rattle.ev_types.specs.declared.answer.Answer.{Answer}
use Rattle.ev_types.specs.declared.ask.Ask.{Ask}
use Rattle.zk_least.proofs.Rising.{at-line, not-below}
use Rattle.zk_service.specs.States.{State}
use Rattle.zk_transcript.specs.History.{after, state_at}
use Rattle.zk_service.specs.declared.cause.Cause.{Cause}
use Rattle.zk_service.specs.declared.cause.Cause.TheVariants as cause
use Rattle.zk_transcript.specs.declared.transcript.TranscriptLine.{TranscriptLine}
use Rattle.zk_service.specs.declared.update.UpdateKind.{UpdateKind}
use Rattle.zn_layout.specs.declared.entry.Entry.{Entry}
use Rattle.zn_view.specs.declared.plan.Who.{Who}
use Rattle.zs_reap.specs.declared.reap.Phase.{Phase as ReapPhase}
use Rattle.zs_reap.specs.declared.reap.Phase.TheVariants as reap
use Rattle.zs_session.specs.Connecting.{asked_in_phase}
use Rattle.zs_session.specs.declared.connect.Connect.{Connect}
use Rattle.zs_session.specs.declared.connect.Phase.{Phase}
use Rattle.zs_session.specs.declared.connect.Phase.TheVariants.{Attaching, Creating, Granting, Keeping, Looking, LookingAgain, Over, Unasked}
use Rattle.zs_reap.specs.declared.reap.Reap.{Reap}
use Rattle.zs_reap.specs.declared.reap.ReapStep.{ReapStep}
use Rattle.zs_reap.specs.declared.reap.ReapStep.TheVariants as reaped
use Rattle.zx_base.proofs.Options.{none_some, some_is}
use Rattle.zp_step.proofs.Counting.{steps_count}
use Rattle.zp_laws.proofs.Steps.{sends_are_walks, served-open}
use Rattle.zp_laws.proofs.Strides.{placed}
use Rattle.zp_step.specs.Ending.{comes_in}
use Rattle.zp_step.specs.Stages.{is_served, Core, Stage, Unconnected, Connecting, Ready, KeepingAlive, Checking, Reading, Committing, Waiting, Shut, asked_of, is_shut}
use Rattle.zp_laws.specs.Inputs.{IsTrueInput}
use Rattle.zp_step.proofs.Shutting.{ends-named, steps-open}
use Rattle.zp_step.specs.Laws.{end_by}
use Rattle.zp_step.specs.Steps.{Steps as CoreSteps}
use Rattle.zp_step.specs.declared.action.Action.{Action}
use Rattle.zp_step.specs.declared.action.Action.TheVariants as action
use Rattle.zp_step.specs.declared.input.Input.{Input}
use Rattle.zp_step.specs.declared.input.Input.TheVariants as input
use Rattle.zp_script.specs.Carrying.{CarriedBy, Executes, HasStore, ShowsUpdate}
use Rattle.zp_script.specs.Effects.{Delivers}
use Rattle.zp_script.specs.Faults.{flight_at}
use Rattle.zp_script.specs.Handing.{AnswerComes, AnswerComesTo, FailureComes, FailureComesTo, Handed, Reaps}
use Rattle.zp_script.specs.Kinds.{kind_asked}
use Rattle.zp_script.specs.StepOutcomes.{StepOutcome, acts, acts_all, ended_by, leaves, quiet, reap_acts}
use Rattle.zp_script.specs.Worlds.{Actor, Closed, Conn, Connection, Reaper, World, after_reap, after_step, conn_at, is_closed_actor, is_over, with_conn, zxid_at}
use Rattle.zp_script.specs.declared.flight.Asking.{Asking}
use Rattle.zp_script.specs.declared.flight.Flight.{Flight}
use Rattle.zp_script.specs.declared.flight.Flight.TheVariants.{Out, Carried, Denied}
use Rattle.zp_world_laws.proofs.Arrivals.{core-of}
use Rattle.zp_world_laws.proofs.Effects.{stored-in}
use Rattle.zp_world_laws.proofs.Ends.{landed-is}
use Rattle.zp_world_laws.proofs.Handing.{core-same}
use Rattle.zp_world_laws.proofs.Lives.{known-at}
use Rattle.zp_world_laws.proofs.Numbers.{conn-here}
use Rattle.zp_world_laws.specs.Accounting.{IsAccounted}
use Rattle.zp_world_laws.specs.Connecting.{IsConnecting, IsInStage}
use Rattle.zp_world_laws.specs.Connections.{IsFlying, IsServingConn}
use Rattle.zp_world_laws.specs.Counting.{HasFrames}
use Rattle.zp_world_laws.specs.Reaping.{IsReapAsk, IsReapFlight}
use Rattle.zp_settle_laws.proofs.Answered.{Then, answer-then}
use Rattle.zp_settle_laws.proofs.Carried.{commits-some, reads-some, stage-after}
use Rattle.zp_settle_laws.proofs.Coming.{AsksOut, ConnectOut, IsTruthful, Remains, RemainsAfter, TruthIn}
use Rattle.zp_settle_laws.proofs.Reaps.{ReapAfter, ReapOut, ReapThen, reap-after}
use Rattle.zp_settle_laws.proofs.Truths.{serving-true}
use Rattle.zp_settle_laws.specs.Looks.{asks_of_all}
use Rattle.zx_base.proofs.Booleans.{true-not_false as true-false}

-- ---- what is left

-- an answer is to be delivered
abbrev pub answers_of : Option Flight → ℕ
answers_of None = 0
answers_of (Some (Out a)) = 0
answers_of (Some (Carried a)) = 1
answers_of (Some Denied) = 1

-- the entries that an attached connection was told, or knows of
abbrev pub told : Core → ℕ
told core = if is_served core.stage then nat_abs core.cursor else 0

abbrev pub CoreLeft : Store → Core → Option Flight → ℕ → Type 0
CoreLeft s core None t = Remains s core t
CoreLeft s core (Some (Out a)) t = Remains s core t
CoreLeft s core (Some (Carried a)) t = RemainsAfter s core a t
CoreLeft s core (Some Denied) t = Unit {0}

-- with so many entries there
pub record ConnLeft (s : Store) (there : ℕ) (core : Core) (flight : Option Flight) (n : ℕ) : Type 0 where
  pub total : ℕ
  pub left : CoreLeft s core flight total
  pub most : 3 * total + answers_of flight + there ≤ n + told core

abbrev pub ReapLeft : Store → Reap → Option Flight → ℕ → Type 0
ReapLeft s r None t = Unit {0}
ReapLeft s r (Some (Out x)) t = ReapOut s r.session r.phase x.ask t
ReapLeft s r (Some (Carried a)) t = ReapAfter s r a t
ReapLeft s r (Some Denied) t = Unit {0}

pub record ReaperLeft (s : Store) (r : Reap) (flight : Option Flight) (n : ℕ) : Type 0 where
  pub total : ℕ
  pub left : ReapLeft s r flight total
  pub most : 3 * total + answers_of flight ≤ n

abbrev pub LeftBy : World → Conn → Actor → ℕ → Type 0
LeftBy w x (Connection core) n = ConnLeft w.store (length w.entries) core x.flight n
LeftBy w x (Reaper r) n = ReaperLeft w.store r x.flight n
LeftBy w x Closed n = Unit {0}

abbrev pub LeftOf : World → Option Conn → ℕ → Type 0
LeftOf w None n = Unit {0}
LeftOf w (Some x) n = LeftBy w x x.actor n

-- at most so many lines
abbrev pub Left : ℕ → World → ℕ → Type 0
Left c w n = LeftOf w (conn_at c w) n

pub left-at : (c : ℕ) (w : World) (x : Conn) (n : ℕ) → conn_at c w ≡ Some x → Left c w n → LeftBy w x x.actor n
left-at c w x n there l = subst (λ o. LeftOf w o n) there l

at-left : (c : ℕ) (w : World) (x : Conn) (n : ℕ) → conn_at c w ≡ Some x → LeftBy w x x.actor n → Left c w n
at-left c w x n there l = subst (λ o. LeftOf w o n) (sym there) l

-- ---- an attached connection was told no more than there is

told-serving : (w : World) (c : ℕ) (core : Core) (f : Option Flight) → IsAccounted w → IsServingConn w.store w.lines c core f → nat_abs core.cursor ≤ length w.entries
told-serving w c core f h k =
    let legal = ((h.whole.holds).serves).legal in
    let at = placed w.lines core k.walker legal (k.stands).matches in
    let raised = at-line w.lines at.line at.update legal at.shown in
    let most = not-below w.lines (at.line + 1) (length w.lines) legal at.within (omega (arith, raised.updates)) in
    let end : state_at w.lines (length w.lines) ≡ after w.lines = ap after (take-length w.lines) in
    omega (arith, ap nat_abs at.cursor, most.0, ap (λ (s : State). s.updates) end, (h.entries).count)

pub told-most : (w : World) (c : ℕ) (x : Conn) (core : Core) → IsAccounted w → conn_at c w ≡ Some x → x.actor ≡ Connection core → told core ≤ length w.entries
told-most w c x core h there actor = go (is_served core.stage) refl
  where
    go : (b : Bool) → is_served core.stage ≡ b → (if b then nat_abs core.cursor else 0) ≤ length w.entries
    go true e = told-serving w c core x.flight h (h.whole.serving c x core there actor e)
    go false e = omega arith

-- ---- after a step

-- a step leaves no answer
acts-none : (c : ℕ) (kind : Option UpdateKind) (rest : List TranscriptLine) (out : List Action) (o : StepOutcome) → answers_of o.flight ≡ 0 → answers_of (fold (acts c kind rest) o out).flight ≡ 0
acts-none c kind rest [] o h = h
acts-none c kind rest (action.Send bytes ∷ out) o h = acts-none c kind rest out (acts c kind rest o (action.Send bytes)) h
acts-none c kind rest (action.Ask a ∷ out) o h = acts-none c kind rest out (acts c kind rest o (action.Ask a)) refl
acts-none c kind rest (action.Close why ∷ out) o h = acts-none c kind rest out (acts c kind rest o (action.Close why)) refl

unanswered : (s : Store) (core : Core) (f : Option Flight) (t : ℕ) → answers_of f ≡ 0 → Remains s core t → CoreLeft s core f t
unanswered s core None t h r = r
unanswered s core (Some (Out a)) t h r = r
unanswered s core (Some (Carried a)) t h r = absurd (omega (arith, h))
unanswered s core (Some Denied) t h r = absurd (omega (arith, h))

module _ (w w' : World) (c : ℕ) (i : Input) (hd : Handed c [] w i w') (idle : hd.conn.flight ≡ None) where
  o : StepOutcome
  o = acts_all c (kind_asked c (Connection hd.next)) [] hd.conn.flight hd.out

  quiet-now : answers_of (acts_all c (kind_asked c (Connection hd.next)) [] hd.conn.flight hd.out).flight ≡ 0
  quiet-now = acts-none c (kind_asked c (Connection hd.next)) [] hd.out (quiet hd.conn.flight) (ap answers_of idle)

  then-conn : Conn
  then-conn = record (hd.conn) { actor = after_step hd.next; flight = (acts_all c (kind_asked c (Connection hd.next)) [] hd.conn.flight hd.out).flight }

  pub now-there : conn_at c w' ≡ Some (record (hd.conn) { actor = after_step hd.next; flight = (acts_all c (kind_asked c (Connection hd.next)) [] hd.conn.flight hd.out).flight })
  now-there = ap (conn_at c) hd.result ∙ conn-here w c (record (hd.conn) { actor = after_step hd.next; flight = (acts_all c (kind_asked c (Connection hd.next)) [] hd.conn.flight hd.out).flight })

  same-store : w'.store ≡ w.store
  same-store = ap (λ (u : World). u.store) hd.result

  same-entries : w'.entries ≡ w.entries
  same-entries = ap (λ (u : World). u.entries) hd.result

  -- it has ended, or so much remains
  pub step-left : (t n : ℕ) → Then w.store t hd.next → (is_shut hd.next.stage ≡ false → 3 * t + length w.entries ≤ n + told hd.next) → Left c w' n
  step-left t n k most = at-left c w' (record (hd.conn) { actor = after_step hd.next; flight = (acts_all c (kind_asked c (Connection hd.next)) [] hd.conn.flight hd.out).flight }) n now-there
      (go (is_shut hd.next.stage) refl k)
    where
      go : (b : Bool) → is_shut hd.next.stage ≡ b → Then w.store t hd.next → LeftBy w' (record (hd.conn) { actor = if b then Closed else Connection hd.next; flight = (acts_all c (kind_asked c (Connection hd.next)) [] hd.conn.flight hd.out).flight }) (if b then Closed else Connection hd.next) n
      go true e h = tt
      go false e (inl shut) = absurd (true-false (sym shut ∙ e))
      go false e (inr r) = record {
        total = t;
        left = subst (λ s. CoreLeft s hd.next (acts_all c (kind_asked c (Connection hd.next)) [] hd.conn.flight hd.out).flight t) (sym same-store) (unanswered w.store hd.next (acts_all c (kind_asked c (Connection hd.next)) [] hd.conn.flight hd.out).flight t quiet-now r);
        most = omega (arith, most e, quiet-now, ap (λ (l : List Entry). length l) same-entries);
      }

  -- what it holds then is true of the store
  pub then-true : IsAccounted w' → IsTruthful w.store hd.next
  then-true k = by-stage hd.next.stage refl
    where
      served-true : is_served hd.next.stage ≡ true → IsTruthful w.store hd.next
      served-true served =
          let actor : after_step hd.next ≡ Connection hd.next = ap (λ b. if b then Closed else Connection hd.next) (served-open hd.next.stage served) in
          let serves = (k.whole).serving c (record (hd.conn) { actor = after_step hd.next; flight = (acts_all c (kind_asked c (Connection hd.next)) [] hd.conn.flight hd.out).flight }) hd.next now-there actor served in
          subst (λ s. IsTruthful s hd.next) same-store (serving-true w'.store w'.lines c hd.next (acts_all c (kind_asked c (Connection hd.next)) [] hd.conn.flight hd.out).flight ((k.whole.holds).serves) serves)

      by-stage : (st : Stage) → hd.next.stage ≡ st → TruthIn w.store hd.next.who hd.next.stage
      by-stage (Unconnected fresh) e = subst (TruthIn w.store hd.next.who) (sym e) tt
      by-stage (Connecting x) e = subst (TruthIn w.store hd.next.who) (sym e) tt
      by-stage Ready e = subst (TruthIn w.store hd.next.who) (sym e) tt
      by-stage (KeepingAlive f) e = subst (TruthIn w.store hd.next.who) (sym e) tt
      by-stage (Checking f) e = subst (TruthIn w.store hd.next.who) (sym e) tt
      by-stage (Reading xid r v ws) e = served-true (ap is_served e)
      by-stage (Committing xid r v p m) e = subst (TruthIn w.store hd.next.who) (sym e) tt
      by-stage (Waiting p) e = subst (TruthIn w.store hd.next.who) (sym e) tt
      by-stage Shut e = subst (TruthIn w.store hd.next.who) (sym e) tt

-- an input that ends it
ends-left : (w w' : World) (c : ℕ) (i : Input) (why : Cause) (n : ℕ) → end_by i ≡ Some why → (hd : Handed c [] w i w') → is_shut hd.core.stage ≡ false → hd.conn.flight ≡ None → Left c w' n
ends-left w w' c i why n e hd opens idle =
    let s = ends-named hd.core hd.next i why w.clock hd.out opens e hd.stepped in
    step-left w w' c i hd idle 0 n (inl (ap is_shut s.0)) (λ going. absurd (true-false (sym (ap is_shut s.0) ∙ going)))

-- ---- the cursor does not go back, and an attached connection stays so

module _ (w : World) (c : ℕ) (x : Conn) (core next : Core) (i : Input) (out : List Action) (k : IsAccounted w) (there : conn_at c w ≡ Some x) (actor : x.actor ≡ Connection core) (stepped : CoreSteps core i w.clock next out) where
  opens : is_shut core.stage ≡ false
  opens = (k.whole).unshut c x core there actor

  told-served : (served : is_served core.stage ≡ true) → IsTrueInput w.store w.lines c core ((k.whole).serving c x core there actor served).walker ((k.whole).serving c x core there actor served).looked i → is_shut next.stage ≡ false → is_served next.stage ≡ true → nat_abs core.cursor ≤ nat_abs next.cursor
  told-served served true_input going then_served =
      let s = (k.whole).serving c x core there actor served in
      let walks = sends_are_walks w.store w.lines c core next s.walker s.looked w.clock i out (record { legal = ((k.whole.holds).serves).legal; least = s.least; most = s.most; rises = s.rises; served = served; stands = s.stands; true_input = true_input }) stepped in
      let at = placed w.lines core s.walker ((k.whole.holds).serves).legal (s.stands).matches in
      omega (arith, ints, walks.cursor, at.cursor)

  -- where nothing comes in
  pub still-served : HasFrames w.lines c x.frames core → comes_in i ≡ 0 → is_served core.stage ≡ true → is_shut next.stage ≡ false → is_served next.stage ≡ true
  still-served f none served going = elim (steps_count core next i w.clock out opens f.numbered (omega (arith, f.came, f.most, none)) stepped) [
    | inl shut ↦ absurd (true-false (sym shut ∙ going))
    | inr on ↦ on.served served
  ]

  -- so it was told no less
  told-still : HasFrames w.lines c x.frames core → comes_in i ≡ 0 → ((served : is_served core.stage ≡ true) → IsTrueInput w.store w.lines c core ((k.whole).serving c x core there actor served).walker ((k.whole).serving c x core there actor served).looked i) → is_shut next.stage ≡ false → told core ≤ told next
  told-still f none true_input going = go (is_served core.stage) refl
    where
      go : (b : Bool) → is_served core.stage ≡ b → (if b then nat_abs core.cursor else 0) ≤ told next
      go false e = omega arith
      go true e =
          let then_served = still-served f none e going in
          omega (arith, told-served e (true_input e) going then_served, ap (λ b. if b then nat_abs next.cursor else 0) then_served)

-- ---- an answer comes

-- to a connection
module _ (w w' : World) (c : ℕ) (x : Conn) (core : Core) (a : Answer) (j : ℕ) (there : conn_at c w ≡ Some x) (actor : x.actor ≡ Connection core) (flight : x.flight ≡ Some (Carried a)) (k : IsAccounted w) (k' : IsAccounted w')
    (hd : Handed c [] (with_conn w c (record x { flight = None })) (input.Answer a) w') (l : ConnLeft w.store (length w.entries) core (Some (Carried a)) (suc j)) where
  is-conn : record x { flight = None } ≡ hd.conn
  is-conn = some_is (sym (conn-here w c (record x { flight = None })) ∙ hd.found)

  is-core : core ≡ hd.core
  is-core = core-same core hd.core (sym actor ∙ ap (λ (u : Conn). u.actor) is-conn ∙ hd.serving)

  idle : hd.conn.flight ≡ None
  idle = ap (λ (u : Conn). u.flight) (sym is-conn)

  stepped : CoreSteps core (input.Answer a) w.clock hd.next hd.out
  stepped = subst (λ (q : Core). CoreSteps q (input.Answer a) w.clock hd.next hd.out) (sym is-core) hd.stepped

  open-now : is_shut core.stage ≡ false
  open-now = (k.whole).unshut c x core there actor

  remains : Then w.store l.total hd.next
  remains = answer-then w.store l.total core hd.next a w.clock hd.out l.left (then-true (with_conn w c (record x { flight = None })) w' c (input.Answer a) hd idle k') (steps-open core hd.next (input.Answer a) w.clock hd.out open-now stepped)

  frames : HasFrames w.lines c x.frames core
  frames = (core-of w c x core k.known there actor).0

  true-answer : (served : is_served core.stage ≡ true) → IsTrueInput w.store w.lines c core ((k.whole).serving c x core there actor served).walker ((k.whole).serving c x core there actor served).looked (input.Answer a)
  true-answer served =
      let s = (k.whole).serving c x core there actor served in
      subst (IsFlying w.store w.lines c core s.walker s.looked) flight s.flies

  pub answer-left : Left c w' j
  answer-left = step-left (with_conn w c (record x { flight = None })) w' c (input.Answer a) hd idle l.total j remains (λ going. (
      let up = told-still w c x core hd.next (input.Answer a) hd.out k there actor stepped frames refl true-answer going in
      let most = l.most in
      omega (arith, most, up)
      ))

-- to a reaper
over-closed : (r : Reap) → r.phase ≡ reap.Over → after_reap r ≡ Closed
over-closed r e = ap (λ p. if is_over p then Closed else Reaper r) e

reap-left : (w : World) (c : ℕ) (x : Conn) (r next : Reap) (step : ReapStep) (t n : ℕ) → next.session ≡ r.session → ReapThen w.store r.session step next.phase t → 3 * t ≤ n
    → LeftBy (leaves c w x (after_reap next) (reap_acts c (kind_asked c (Reaper next)) None step)) (record x { actor = after_reap next; flight = (reap_acts c (kind_asked c (Reaper next)) None step).flight }) (after_reap next) n
reap-left w c x r next (reaped.Ask q) t n same h most = go (is_over next.phase)
  where
    go : (b : Bool) → LeftBy (leaves c w x (after_reap next) (reap_acts c (kind_asked c (Reaper next)) None (reaped.Ask q))) (record x { actor = after_reap next; flight = (reap_acts c (kind_asked c (Reaper next)) None (reaped.Ask q)).flight }) (if b then Closed else Reaper next) n
    go true = tt
    go false = record { total = t; left = subst (λ id. ReapOut w.store id next.phase q t) (sym same) h; most = omega (arith, most) }
reap-left w c x r next (reaped.Reaped z) t n same h most = subst (λ a. LeftBy (leaves c w x (after_reap next) (reap_acts c (kind_asked c (Reaper next)) None (reaped.Reaped z))) (record x { actor = after_reap next; flight = None }) a n) (sym (over-closed next h)) tt
reap-left w c x r next (reaped.Kept z) t n same h most = subst (λ a. LeftBy (leaves c w x (after_reap next) (reap_acts c (kind_asked c (Reaper next)) None (reaped.Kept z))) (record x { actor = after_reap next; flight = None }) a n) (sym (over-closed next h)) tt
reap-left w c x r next (reaped.Gone z) t n same h most = subst (λ a. LeftBy (leaves c w x (after_reap next) (reap_acts c (kind_asked c (Reaper next)) None (reaped.Gone z))) (record x { actor = after_reap next; flight = None }) a n) (sym (over-closed next h)) tt

reaper-left : (w w' : World) (c : ℕ) (x : Conn) (r : Reap) (a : Answer) (j : ℕ) → Reaps c (with_conn w c (record x { flight = None })) (Some a) w' (record x { flight = None }) r → ReaperLeft w.store r (Some (Carried a)) (suc j) → Left c w' j
reaper-left w w' c x r a j (inl e) l =
    let v : World = with_conn w c (record x { flight = None }) in
    let y : Conn = record x { actor = Closed; flight = (ended_by c (cause.Damaged e.key e.value) None).flight } in
    at-left c w' y j (ap (conn_at c) e.result ∙ conn-here v c y) tt
reaper-left w w' c x r a j (inr t) l =
    let v : World = with_conn w c (record x { flight = None }) in
    let o : StepOutcome = reap_acts c (kind_asked c (Reaper t.next)) None t.step in
    let y : Conn = record x { actor = after_reap t.next; flight = o.flight } in
    let next : World = leaves c v (record x { flight = None }) (after_reap t.next) o in
    subst (λ u. Left c u j) (sym t.result) (at-left c next y j (conn-here v c y)
    (reap-left v c (record x { flight = None }) r t.next t.step l.total j (t.stepped).same (l.left t.step t.next t.stepped) (let most = l.most in omega (arith, most))))

-- ---- it is delivered

failure-left : (w w' : World) (c : ℕ) (x : Conn) (a : Actor) (n : ℕ) → x.actor ≡ a → conn_at c w ≡ Some x → IsAccounted w → FailureComesTo c (with_conn w c (record x { flight = None })) (record x { flight = None }) w' a → Left c w' n
failure-left w w' c x (Connection core) n actor there k hd =
    let is_conn : record x { flight = None } ≡ hd.conn = some_is (sym (conn-here w c (record x { flight = None })) ∙ hd.found) in
    let is_core : core ≡ hd.core = core-same core hd.core (sym actor ∙ ap (λ (u : Conn). u.actor) is_conn ∙ hd.serving) in
    ends-left (with_conn w c (record x { flight = None })) w' c input.Failed cause.LinkFault n refl hd (ap (λ (q : Core). is_shut q.stage) (sym is_core) ∙ (k.whole).unshut c x core there actor) (ap (λ (u : Conn). u.flight) (sym is_conn))
failure-left w w' c x (Reaper r) n actor there k e =
    let v : World = with_conn w c (record x { flight = None }) in
    let y : Conn = record x { actor = Closed; flight = (ended_by c cause.LinkFault None).flight } in
    at-left c w' y n (ap (conn_at c) e ∙ conn-here v c y) tt
failure-left w w' c x Closed n actor there k h = absurd h

answer-at : (w w' : World) (c : ℕ) (x : Conn) (a : Answer) (b : Actor) (j : ℕ) → conn_at c w ≡ Some x → x.actor ≡ b → x.flight ≡ Some (Carried a) → IsAccounted w → IsAccounted w' → LeftBy w x b (suc j) → AnswerComesTo c (with_conn w c (record x { flight = None })) (record x { flight = None }) a w' b → Left c w' j
answer-at w w' c x a (Connection core) j there actor flight k k' l h = answer-left w w' c x core a j there actor flight k k' h (subst (λ f. ConnLeft w.store (length w.entries) core f (suc j)) flight l)
answer-at w w' c x a (Reaper r) j there actor flight k k' l h = reaper-left w w' c x r a j h (subst (λ f. ReaperLeft w.store r f (suc j)) flight l)
answer-at w w' c x a Closed j there actor flight k k' l h = absurd h

pub delivers-left : (w w' : World) (c j : ℕ) → Delivers c w w' (flight_at c w) → IsAccounted w → IsAccounted w' → Left c w (suc j) → Left c w' j
delivers-left w w' c j d k k' l = go (conn_at c w) refl d
  where
    by-flight : (x : Conn) → conn_at c w ≡ Some x → (f : Option Flight) → x.flight ≡ f → Delivers c w w' f → Left c w' j
    by-flight x there None e h = absurd h
    by-flight x there (Some (Out b)) e h = absurd h
    by-flight x there (Some Denied) e h =
        let v : World = with_conn w c (record x { flight = None }) in
        let t : FailureComes c v w' = subst (λ u. FailureComes c u w') (landed-is w c x there) h in
        let is : t.0 ≡ record x { flight = None } = some_is (sym t.1 ∙ conn-here w c (record x { flight = None })) in
        failure-left w w' c x x.actor j refl there k (subst (λ (y : Conn). FailureComesTo c v y w' y.actor) is t.2)
    by-flight x there (Some (Carried a)) e h =
        let v : World = with_conn w c (record x { flight = None }) in
        let t : AnswerComes c v a w' = subst (λ u. AnswerComes c u a w') (landed-is w c x there) h in
        let is : t.0 ≡ record x { flight = None } = some_is (sym t.1 ∙ conn-here w c (record x { flight = None })) in
        answer-at w w' c x a x.actor j there refl e k k' (left-at c w x (suc j) there l) (subst (λ (y : Conn). AnswerComesTo c v y a w' y.actor) is t.2)

    go : (o : Option Conn) → conn_at c w ≡ o → Delivers c w w' (option_and_then (λ (x : Conn). x.flight) o) → Left c w' j
    go None e h = absurd h
    go (Some x) e h = by-flight x e x.flight refl h

-- ---- it is carried out

-- where something is out, some ask is left
pub connect-some : (s : Store) (id : ℤ) (x : Connect) (p : Phase) (q : Ask) (k : ℕ) → asked_in_phase x p ≡ Some q → ConnectOut s id p k → 1 ≤ k
connect-some s id x Unasked q k e h = absurd (none_some e)
connect-some s id x Looking q k e h = omega (arith, h)
connect-some s id x Granting q k e h = omega (arith, h)
connect-some s id x Creating q k e h = h
connect-some s id x (Keeping seen life) q k e h = omega (arith, h)
connect-some s id x LookingAgain q k e h = omega (arith, h)
connect-some s id x (Attaching seen life) q k e h = omega (arith, h)
connect-some s id x Over q k e h = absurd (none_some e)

pub out-some : (s : Store) (who : Who) (st : Stage) (q : Ask) (k : ℕ) → asked_of who st ≡ Some q → AsksOut s who st k → 1 ≤ k
out-some s who (Unconnected fresh) q k e h = absurd (none_some e)
out-some s who (Connecting x) q k e h = connect-some s x.request.session x x.phase q k e h
out-some s who Ready q k e h = absurd (none_some e)
out-some s who (KeepingAlive f) q k e h = omega (arith, h)
out-some s who (Checking f) q k e h = omega (arith, h)
out-some s who (Reading xid r v ws) q k e h = reads-some s who r v ws k h
out-some s who (Committing xid r v p m) q k e h = commits-some s who r p k h
out-some s who (Waiting p) q k e h = absurd (none_some e)
out-some s who Shut q k e h = absurd (none_some e)

pub reap-some : (s : Store) (id : ℤ) (q : Ask) (p : ReapPhase) (k : ℕ) → IsReapAsk s id p q → ReapOut s id p q k → 1 ≤ k
reap-some s id q reap.Unasked k w h = absurd w
reap-some s id q reap.Looking k w h = omega (arith, h)
reap-some s id q (reap.Counting z ws) k w (inl h) = omega (arith, h.1)
reap-some s id q (reap.Counting z ws) k w (inr h) = omega (arith, h)
reap-some s id q (reap.Removing again) k w h = omega (arith, h)
reap-some s id q reap.Over k w h = absurd w

-- an ask adds one entry at most
entries-stored : (w w' : World) (s : Store) (kind : Option UpdateKind) → HasStore w s kind w' → length w'.entries ≤ length w.entries + 1
entries-stored w w' s kind h = go (int_eq (zxid_at w.store) (zxid_at s)) kind h
  where
    go : (b : Bool) (o : Option UpdateKind) → MatchBool b (w' ≡ record w { store = s }) (ShowsUpdate w s o w') → length w'.entries ≤ length w.entries + 1
    go true o e = omega (arith, ap (λ (u : World). length u.entries) e)
    go false None e = omega (arith, ap (λ (u : World). length u.entries) e)
    go false (Some kind) (e, of, is) = omega (arith, ap (λ (u : World). length u.entries) is, length-append w.entries (e ∷ []))

-- what a connection has out is what its stage asks
module _ (w : World) (c : ℕ) (x : Conn) (core : Core) (a : Asking) (k : IsAccounted w) (there : conn_at c w ≡ Some x) (actor : x.actor ≡ Connection core) (flight : x.flight ≡ Some (Out a)) where
  served-asked : is_served core.stage ≡ true → asked_of core.who core.stage ≡ Some a.ask
  served-asked served =
      let s = (k.whole).serving c x core there actor served in
      let f : IsFlying w.store w.lines c core s.walker s.looked (Some (Out a)) = subst (IsFlying w.store w.lines c core s.walker s.looked) flight s.flies in
      f.asked

  by-stage : (st : Stage) → core.stage ≡ st → IsInStage w.store w.lines c core x.flight st → asked_of core.who core.stage ≡ Some a.ask
  by-stage (Unconnected fresh) e (q, none) = absurd (none_some (sym none ∙ flight))
  by-stage (Connecting y) e q =
      let f : IsConnecting w.store w.lines c core y (Some (Out a)) = subst (IsConnecting w.store w.lines c core y) flight q in
      ap (asked_of core.who) e ∙ (f.flies).asked
  by-stage Ready e q = served-asked (ap is_served e)
  by-stage (KeepingAlive f) e q = served-asked (ap is_served e)
  by-stage (Checking f) e q = served-asked (ap is_served e)
  by-stage (Reading xid r v ws) e q = served-asked (ap is_served e)
  by-stage (Committing xid r v p m) e q = served-asked (ap is_served e)
  by-stage (Waiting p) e q = served-asked (ap is_served e)
  by-stage Shut e q = absurd (true-false (sym (ap is_shut e) ∙ (k.whole).unshut c x core there actor))

  pub asked-is : asked_of core.who core.stage ≡ Some a.ask
  asked-is = by-stage core.stage refl (core-of w c x core k.known there actor).1

module _ (w w' : World) (c j : ℕ) (ex : Executes c w w') (k : IsAccounted w) where
  then-conn-at : conn_at c w' ≡ Some (record (ex.conn) { flight = Some ex.flight })
  then-conn-at = ap (conn_at c) ex.result ∙ conn-here ex.mid c (record (ex.conn) { flight = Some ex.flight })

  then-store : w'.store ≡ ex.mid.store
  then-store = ap (λ (u : World). u.store) ex.result

  then-entries : length w'.entries ≡ length ex.mid.entries
  then-entries = ap (λ (u : World). length u.entries) ex.result

  left-by : (b : Actor) → ex.conn.actor ≡ b → (f : Flight) → ex.flight ≡ f → LeftBy w' (record (ex.conn) { flight = Some f }) b j → Left c w' j
  left-by b actor f flight l = at-left c w' (record (ex.conn) { flight = Some ex.flight }) j then-conn-at
      (subst (λ q. LeftBy w' (record (ex.conn) { flight = Some ex.flight }) q j) (sym actor) (subst (λ g. LeftBy w' (record (ex.conn) { flight = Some g }) b j) (sym flight) l))

  -- by what the store made of it
  core-carried : (core : Core) → ex.conn.actor ≡ Connection core → ConnLeft w.store (length w.entries) core (Some (Out ex.asking)) (suc j) → (o : Option (Store × Answer)) → carry w.store ex.asking.ask ≡ o → CarriedBy w ex.asking.kind ex.flight ex.mid o → Left c w' j
  core-carried core actor l None e (denied, same) =
      let t = l.left in
      let some = out-some w.store core.who core.stage ex.asking.ask t.asks (asked-is w c ex.conn core ex.asking k ex.found actor ex.out) t.out in
      let most = l.most in
      left-by (Connection core) actor Denied denied (record { total = 0; left = tt; most = omega (arith, some, most, t.most, then-entries, ap (λ (u : World). length u.entries) same) })
  core-carried core actor l (Some (u, b)) e (carried, stored) =
      let t = l.left in
      let d = stage-after w.store u core.who (let begun = ((k.whole.holds).serves).begun in omega (arith, begun)) core.stage ex.asking.ask b t.asks (asked-is w c ex.conn core ex.asking k ex.found actor ex.out) e t.out in
      let at_u : w'.store ≡ u = then-store ∙ (stored-in w ex.mid u ex.asking.kind stored).store in
      let one_more = entries-stored w ex.mid u ex.asking.kind stored in
      let most = l.most in
      left-by (Connection core) actor (Carried b) carried (record {
        total = d.left + asks_of_all core.waiting;
        left = subst (λ s. RemainsAfter s core b (d.left + asks_of_all core.waiting)) (sym at_u) (record { asks = d.left; after = d.after; most = omega arith });
        most = omega (arith, most, t.most, d.is, one_more, then-entries);
      })

  reaper-carried : (r : Reap) → ex.conn.actor ≡ Reaper r → IsReapFlight w.store r (Some (Out ex.asking)) → ReaperLeft w.store r (Some (Out ex.asking)) (suc j) → (o : Option (Store × Answer)) → carry w.store ex.asking.ask ≡ o → CarriedBy w ex.asking.kind ex.flight ex.mid o → Left c w' j
  reaper-carried r actor known l None e (denied, same) =
      let some = reap-some w.store r.session ex.asking.ask r.phase l.total known.asked l.left in
      let most = l.most in
      left-by (Reaper r) actor Denied denied (record { total = 0; left = tt; most = omega (arith, most, some) })
  reaper-carried r actor known l (Some (u, b)) e (carried, stored) =
      let d = reap-after w.store u r b l.total ex.asking.ask r.phase refl known.asked e l.left in
      let at_u : w'.store ≡ u = then-store ∙ (stored-in w ex.mid u ex.asking.kind stored).store in
      let most = l.most in
      left-by (Reaper r) actor (Carried b) carried (record { total = d.left; left = subst (λ s. ReapAfter s r b d.left) (sym at_u) d.after; most = omega (arith, most, d.is) })

  pub executes-left : is_closed_actor ex.conn.actor ≡ false → Left c w (suc j) → Left c w' j
  executes-left opens l = go ex.conn.actor refl (left-at c w ex.conn (suc j) ex.found l)
    where
      go : (b : Actor) → ex.conn.actor ≡ b → LeftBy w ex.conn b (suc j) → Left c w' j
      go (Connection core) e h = core-carried core e (subst (λ f. ConnLeft w.store (length w.entries) core f (suc j)) ex.out h) (carry w.store ex.asking.ask) refl ex.carries
      go (Reaper r) e h =
          reaper-carried r e (subst (IsReapFlight w.store r) ex.out (known-at w c ex.conn (Reaper r) k.known ex.found e)) (subst (λ f. ReaperLeft w.store r f (suc j)) ex.out h) (carry w.store ex.asking.ask) refl ex.carries
      go Closed e h = absurd (true-false (sym (ap is_closed_actor e) ∙ opens))
