-- What is known of a reaper at work.
use Rattle.ev_types.specs.Denials.{carry}
use Rattle.ev_types.specs.Store.{Store, present, store_at}
use Rattle.ev_types.specs.declared.answer.Answer.{Answer}
use Rattle.ev_types.specs.declared.ask.Ask.{Ask}
use Rattle.std.specs.Prelude.{None, Option, Some, length, pos, ℕ, ℤ, ◌≡◌, ◌≤◌}
use Rattle.zk_service.specs.States.{State}
use Rattle.zn_layout.specs.StandsFor.{StandsFor}
use Rattle.zn_view.specs.Asks.{plan_txn, reading, transaction}
use Rattle.zn_view.specs.declared.plan.Plan.{Plan}
use Rattle.zp_script.specs.Kinds.{kind_of_reap}
use Rattle.zp_script.specs.declared.flight.Asking.{Asking}
use Rattle.zp_script.specs.declared.flight.Flight.TheVariants.{Carried, Denied, Out}
use Rattle.zp_script.specs.declared.flight.Flight.{Flight}
use Rattle.zp_laws.specs.Inputs.{Precedes}
use Rattle.zp_world_laws.specs.Bounds.{IsBoundReap}
use Rattle.zs_reap.specs.Steps.{reaper_wants}
use Rattle.zs_reap.specs.declared.reap.Phase.TheVariants.{Counting, Looking, Over, Removing, Unasked}
use Rattle.zs_reap.specs.declared.reap.Reap.{Reap}
use Rattle.zs_reap.specs.declared.reap.Phase.{Phase}

-- a revision of the store, whose keys stand for a state
pub record IsStanding (store : Store) (revision : ℤ) : Type 0 where
  pub number : ℕ
  pub is : revision ≡ pos number
  pub begun : 1 ≤ number
  pub known : number ≤ length store.revisions
  pub state : State
  pub stands : StandsFor (store_at store number) state

-- what it asked: a look at the present, or at a revision that the store had; or its plan, which is bound
abbrev pub IsReapAsk : Store → ℤ → Phase → Ask → Type 0
IsReapAsk store id Unasked a = ⊥
IsReapAsk store id Looking a = a ≡ reading (pos 0) (reaper_wants id)
IsReapAsk store id (Counting revision wants) a = IsStanding store revision × (a ≡ reading revision wants)
IsReapAsk store id (Removing again) a = (p : Plan) × (p.again ≡ again) × (a ≡ transaction p) × IsBoundReap store id (plan_txn p)
IsReapAsk store id Over a = ⊥

pub record IsReapOut (store : Store) (reap : Reap) (x : Asking) : Type 0 where
  pub asked : IsReapAsk store reap.session reap.phase x.ask
  pub kind : x.kind ≡ kind_of_reap reap.session reap.phase

-- what it asked was carried out at an earlier time, and this is the answer
pub record IsReapAnswer (store : Store) (reap : Reap) (a : Answer) : Type 0 where
  pub asked : Ask
  pub before : Store
  pub then_store : Store
  pub carried_out : carry before asked ≡ Some (then_store, a)
  pub out : IsReapAsk before reap.session reap.phase asked
  pub was : Precedes before store
  pub is : Precedes then_store store
  pub begun : 1 ≤ length then_store.revisions
  -- the store's keys then stood for a state
  pub state : State
  pub stands : StandsFor (present then_store) state

abbrev pub IsReapFlight : Store → Reap → Option Flight → Type 0
IsReapFlight store reap None = ⊥
IsReapFlight store reap (Some (Out x)) = IsReapOut store reap x
IsReapFlight store reap (Some (Carried a)) = IsReapAnswer store reap a
IsReapFlight store reap (Some Denied) = Unit {0}
