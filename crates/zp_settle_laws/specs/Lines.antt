-- How many lines a settle has left at most.
use Rattle.std.specs.Prelude.{ℕ, ◌+◌, ◌*◌, length, Option, Some, None}
use Rattle.zp_script.specs.Worlds.{Actor, Closed, Conn, Connection, Reaper, World, conn_at}
use Rattle.zp_step.specs.Stages.{Stage, Unconnected, Connecting, Ready, KeepingAlive, Checking, Reading, Committing, Waiting, Shut}
use Rattle.zp_settle_laws.specs.Looks.{asks_of, asks_of_all, looks}

-- ---- the asks that are not carried out yet

-- At most so many asks of the request at work. What it looked up before may be of an earlier state, so that its plan fails once,
-- and it is looked up anew. A connect looks, grants or keeps alive, and asks for its session; an attachment may fail once too.
abbrev pub asks_in : Stage → ℕ
asks_in (Unconnected fresh) = 0
asks_in (Connecting connect) = 4
asks_in Ready = 0
asks_in (KeepingAlive frame) = asks_of frame
asks_in (Checking frame) = asks_of frame
asks_in (Reading xid r v ws) = 2 * looks r + 3
asks_in (Committing xid r v p time) = 2 * looks r + 3
asks_in (Waiting p) = 0
asks_in Shut = 0

-- At most so many asks of the request at work and of the frames that wait. A reaper looks at the session, counts its parents and
-- removes it; what it looked up before may be of an earlier state.
abbrev pub asks_left : Actor → ℕ
asks_left (Connection core) = asks_in core.stage + asks_of_all core.waiting
asks_left (Reaper reap) = 5
asks_left Closed = 0

-- ---- the lines

-- Each ask is carried out and answered, and each may be an update, whose entry is taken; one answer may be there already.
abbrev pub lines_of : World → Option Conn → ℕ
lines_of w None = 0
lines_of w (Some x) = 3 * asks_left x.actor + 1 + length w.entries

abbrev pub lines_left : ℕ → World → ℕ
lines_left c w = lines_of w (conn_at c w)
