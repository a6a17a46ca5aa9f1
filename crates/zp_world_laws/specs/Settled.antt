-- A connection at rest.
use Rattle.std.specs.Prelude.{None, Some, [], ℕ, ◌≡◌}
use Rattle.zp_script.specs.Happens.{settling}
use Rattle.zp_script.specs.Worlds.{Actor, Closed, Conn, Connection, Reaper, World, conn_at}
use Rattle.zp_step.specs.Stages.{Core, Ready, Stage, Unconnected}
use Rattle.zp_world_laws.specs.Accounting.{IsAccounted}

-- no frame waits, and none is at work: none came yet, or each was answered
abbrev pub IsAnswered : Core → Stage → Type 0
IsAnswered core (Unconnected fresh) = core.waiting ≡ []
IsAnswered core Ready = core.waiting ≡ []
IsAnswered core _ = ⊥

-- it waits for its client alone, or it has ended; a reaper is at work until it ends
abbrev pub IsIdle : Conn → Actor → Type 0
IsIdle x (Connection core) = (x.flight ≡ None) × IsAnswered core core.stage
IsIdle x (Reaper reap) = ⊥
IsIdle x Closed = Unit {0}

-- where settle has nothing to do
abbrev pub SettledIsIdle : Type 0
SettledIsIdle = (w : World) (c : ℕ) (x : Conn) → IsAccounted w → conn_at c w ≡ Some x → settling c w ≡ None → IsIdle x x.actor
