-- What the laws of connections say that were served alone.
use Rattle.std.specs.Prelude.{◌≡◌, ℕ, Some, None}
use Rattle.ev_types.specs.Denials.{carry}
use Rattle.ev_types.specs.Store.{Store, new_store}
use Rattle.ev_types.specs.declared.answer.Answer.{Answer}
use Rattle.zk_service.specs.declared.cause.Cause.{Cause}
use Rattle.zn_layout.specs.Begin.{begin_ask}
use Rattle.zk_service.specs.declared.fresh.Fresh.{Fresh}
use Rattle.zp_conn.specs.Serving.{Serves, Told}
use Rattle.zp_script.specs.Effects.{opened}
use Rattle.zp_script.specs.Runs.{world_over}
use Rattle.zp_script.specs.Worlds.{World, conn_at}
use Rattle.zp_lives.specs.Alone.{IsAlone, IsRunAlone}
use Rattle.zp_served.specs.Honest.{AreEntriesOf, IsInTime, IsServedOver}
use Rattle.zp_world_laws.specs.Accounting.{IsAccounted}

-- a call's run is that of one connection alone over the store
abbrev pub ServedAreFed : Type 0
ServedAreFed = (s : Store) (fresh : Fresh) (old new : Told) (why : Cause) (h : Serves fresh old new why) → IsServedOver s fresh old new h.steps → IsRunAlone s fresh h.steps h.core

-- whichever proxy it opened at, under a number that was never used
abbrev pub ServedAreAlone : Type 0
ServedAreAlone = (w : World) (c p : ℕ) (fresh : Fresh) (old new : Told) (why : Cause) (h : Serves fresh old new why) → IsAccounted w
    → conn_at c w ≡ None → IsServedOver w.store fresh old new h.steps → IsAlone (opened w c p fresh) c h.steps

-- over the store that Begin makes of a new one, carried out at time 0
abbrev pub ServedFromTheFirst : Type 0
ServedFromTheFirst = (s : Store) (a : Answer) (c p : ℕ) (fresh : Fresh) (old new : Told) (why : Cause) (h : Serves fresh old new why)
    → carry new_store (begin_ask 0) ≡ Some (s, a) → IsServedOver s fresh old new h.steps
    → IsAlone (opened (world_over s) c p fresh) c h.steps

-- a list without entries of updates to come is in time
abbrev pub EarlierAreInTime : Type 0
EarlierAreInTime = (s : Store) (fresh : Fresh) (old new : Told) (why : Cause) (h : Serves fresh old new why) → AreEntriesOf s (new.feed).list → IsInTime s h.steps
