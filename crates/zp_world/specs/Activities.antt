-- What answers to a number, as a world has it.
use Rattle.std.specs.Prelude.{◌≡◌, ◌<◌, ℕ, List, Some, filter, map}
use Rattle.std.specs.FinMap.{entries, get}
use Rattle.zp_script.specs.Effects.{is_open_at}
use Rattle.zp_script.specs.Worlds as worlds
use Rattle.zp_script.specs.Worlds.{Conn, Conns}
use Rattle.zp_step.specs.Stages.{max_count}
use Rattle.zp_world.specs.declared.activity.Actor.{Actor}
use Rattle.zp_world.specs.declared.activity.Actor.TheVariants.{Connection, Reaper, Closed}

abbrev pub actor_of : Actor → worlds.Actor
actor_of (Connection b) = worlds.Connection b.value
actor_of (Reaper b) = worlds.Reaper b.value
actor_of Closed = worlds.Closed

-- no count of frames is at its end
abbrev pub AreWithin : Conns → Type 0
AreWithin conns = (c : ℕ) (x : Conn) → get conns c ≡ Some x → x.frames < max_count

-- the numbers of those that are open at a proxy, in rising order
abbrev pub open_numbers : ℕ → Conns → List ℕ
open_numbers p conns = map (λ (e : ℕ × Conn). e.0) (filter (λ (e : ℕ × Conn). is_open_at p e.1) (entries conns))
