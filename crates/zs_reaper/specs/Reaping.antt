-- The calls of one reap: a reaper is stepped, and each ask of a step is called.
use Rattle.std.specs.Prelude.{◌≡◌, ◌⊎◌, ℕ, ℤ, Bool, true, false, ◌||◌, List, [], ◌∷◌, ◌++◌, length, Option, Some, None, Result, Ok, Err}
use Rattle.ev_types.specs.declared.answer.Answer.{Answer}
use Rattle.ev_types.specs.declared.ask.Ask.{Ask}
use Rattle.ev_call.specs.Calls.{Call}
use Rattle.ev_call.specs.declared.etcd.CallFault.{CallFault}
use Rattle.ev_call.specs.declared.etcd.CallFault.TheVariants as call
use Rattle.zs_session.specs.declared.fault.StepFault.TheVariants.{Damaged}
use Rattle.zs_reap.specs.declared.reap.Phase.TheVariants.{Unasked}
use Rattle.zs_reap.specs.declared.reap.Reap.{Reap}
use Rattle.zs_reap.specs.declared.reap.ReapStep.{ReapStep}
use Rattle.zs_reap.specs.declared.reap.ReapStep.TheVariants as steps
use Rattle.zs_reap.specs.Steps.{IsReapFault, MayStepReaper, ReaperSteps}
use Rattle.zs_reaper.specs.declared.calling.TurnFault.{TurnFault}
use Rattle.zs_reaper.specs.declared.calling.TurnFault.TheVariants as turn

-- at most so many asks of one reap are called in one turn
abbrev pub max_asks : ℕ
max_asks = 64

-- a reap of this session, of which nothing was asked yet
abbrev pub begun : ℤ → Reap
begun session = record { session = session; phase = Unasked }

-- ---- steps whose asks were answered

-- From a reap and the answer that it steps with, by these calls, to a reap and its answer: each call is of the ask of a step, and the
-- next step is made with its answer.
abbrev pub Walks : Reap → Option Answer → List Call → Reap → Option Answer → Type 0
Walks r a [] r' a' = (r' ≡ r) × (a' ≡ a)
Walks r a (c ∷ cs) r' a' = (next : Reap) × (got : Answer) × MayStepReaper r a × ReaperSteps r a (steps.Ask c.ask) next × (c.result ≡ Ok got) × Walks next (Some got) cs r' a'

-- ---- how they end

-- a step asks nothing: this ended the session, or it lives
abbrev pub WasThere : ReapStep → Type 0
WasThere (steps.Ask q) = ⊥
WasThere (steps.Reaped zxid) = Unit {0}
WasThere (steps.Kept rev) = Unit {0}
WasThere (steps.Gone rev) = ⊥

abbrev pub IsEnded : Reap → Option Answer → Type 0
IsEnded r a = (step : ReapStep) × (over : Reap) × ReaperSteps r a step over × WasThere step

-- a step asks nothing, since another ended the session
abbrev pub IsGone : Reap → Option Answer → Type 0
IsGone r a = (rev : ℤ) × (over : Reap) × ReaperSteps r a (steps.Gone rev) over

-- the last step's ask was called, and this came of it
abbrev pub IsCalled : Reap → Option Answer → List Call → Result Answer CallFault → List Call → Type 0
IsCalled r a answered came calls = (q : Ask) × (next : Reap) × ReaperSteps r a (steps.Ask q) next × (calls ≡ answered ++ record { ask = q; result = came } ∷ [])

-- whether a key is damaged; or why the turn stops
abbrev pub IsReapedTo : Reap → Option Answer → List Call → Result Bool TurnFault → List Call → Type 0
IsReapedTo r a answered (Ok false) calls = (calls ≡ answered) × (IsEnded r a ⊎ (length answered ≡ max_asks))
IsReapedTo r a answered (Ok true) calls = (calls ≡ answered) × ((key value : List ℕ) × IsReapFault r a (Damaged key value))
IsReapedTo r a answered (Err turn.Failed) calls = IsCalled r a answered (Err call.Failed) calls
IsReapedTo r a answered (Err turn.Memory) calls = (calls ≡ answered) ⊎ IsCalled r a answered (Err call.Memory) calls
IsReapedTo r a answered (Err turn.Met) calls = (calls ≡ answered) × IsGone r a
IsReapedTo r a answered (Err turn.NoList) calls = ⊥

-- one reap, from its begin
pub record Reaps (session : ℤ) (result : Result Bool TurnFault) (calls : List Call) : Type 0 where
  pub reap : Reap
  pub answer : Option Answer
  pub answered : List Call
  pub walks : Walks (begun session) None answered reap answer
  pub may : MayStepReaper reap answer
  pub ends : IsReapedTo reap answer answered result calls

-- ---- one after the other

-- damage is told, whichever of them has it
abbrev pub or_damaged : Bool → Result Bool TurnFault → Result Bool TurnFault
or_damaged damaged (Ok also) = Ok (damaged || also)
or_damaged damaged (Err fault) = Err fault

-- the first, and then the others; a fault stops them
abbrev pub AfterFirst : Result Bool TurnFault → Result Bool TurnFault → List Call → (Result Bool TurnFault → Type 0) → Type 0
AfterFirst (Ok damaged) result later Others = (others : Result Bool TurnFault) × Others others × (result ≡ or_damaged damaged others)
AfterFirst (Err fault) result later Others = (result ≡ Err fault) × (later ≡ [])

-- a reap of each of these sessions, in their order, up to the first that another has ended
abbrev pub ReapsEach : List ℤ → Result Bool TurnFault → List Call → Type 0
ReapsEach [] result calls = (result ≡ Ok false) × (calls ≡ [])
ReapsEach (n ∷ ns) result calls =
    (first : Result Bool TurnFault) × (own : List Call) × (later : List Call) × (calls ≡ own ++ later) × Reaps n first own × AfterFirst first result later (λ others. ReapsEach ns others later)
