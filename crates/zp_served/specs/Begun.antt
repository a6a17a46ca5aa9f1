-- A connection that is served over an etcd of its own, on which the tree was begun.
use Rattle.std.specs.Prelude.{◌≡◌, ℕ, ◌<◌, List, [], ◌∷◌, length, Some, Ok}
use Rattle.ev_call.specs.Calls.{Call}
use Rattle.ev_types.specs.Denials.{carry}
use Rattle.ev_types.specs.Store.{Store, new_store}
use Rattle.ev_types.specs.declared.answer.Answer.{Answer}
use Rattle.zk_service.specs.declared.cause.Cause.{Cause}
use Rattle.zn_layout.specs.Begin.{begin_ask}
use Rattle.zk_service.specs.declared.fresh.Fresh.{Fresh}
use Rattle.zp_step.specs.Stages.{max_count}
use Rattle.zp_run.specs.Runs.{frames_of}
use Rattle.zp_conn.specs.Serving.{Serves, Told}
use Rattle.zp_script.specs.Effects.{opened}
use Rattle.zp_script.specs.Runs.{world_over}
use Rattle.zp_lives.specs.Alone.{IsAlone}
use Rattle.zp_served.specs.Honest.{IsInTime}
use Rattle.zp_world_laws.specs.Connecting.{IsOffer}

-- the tree was begun, at time 0, and nothing was asked since
abbrev pub IsBegun : List Call → Type 0
IsBegun told = (a : Answer) × (told ≡ record { ask = begin_ask 0; result = Ok a } ∷ [])

-- Over the store as Begin left it, whichever number and proxy it opened at, the connection has its world.
abbrev pub IsLawful : (fresh : Fresh) (old new : Told) (why : Cause) → Serves fresh old new why → Type 0
IsLawful fresh old new why h = (s : Store) (a : Answer) (c p : ℕ) → carry new_store (begin_ask 0) ≡ Some (s, a) → IsOffer fresh → IsInTime s h.steps → length (frames_of h.steps) < max_count
    → ∥ IsAlone (opened (world_over s) c p fresh) c h.steps ∥₁

pub record ServesAlone (fresh : Fresh) (old new : Told) (why : Cause) : Type 0 where
  pub serves : Serves fresh old new why
  pub lawful : IsLawful fresh old new why serves
