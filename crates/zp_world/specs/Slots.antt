-- What a world keeps under a number, as a connection or a reaper.
use Rattle.std.specs.Prelude.{pos, ◌≤ℤ◌}
use Rattle.zp_script.specs.Effects.{new_conn}
use Rattle.zp_script.specs.Worlds.{Conn, Connection}
use Rattle.zp_step.specs.Stages.{new_core}
use Rattle.zp_world.specs.declared.slot.Content.{Content}
use Rattle.zp_world.specs.declared.slot.Content.TheVariants.{Opened, Full}

abbrev pub conn_of : Content → Conn
conn_of (Opened proxy fresh) = new_conn proxy (Connection (new_core fresh))
conn_of (Full b) = b.value

-- the number of a session that is offered is at least 1
abbrev pub IsOffered : Content → Type 0
IsOffered (Opened proxy fresh) = pos 1 ≤ℤ fresh.id
IsOffered (Full b) = Unit {0}
