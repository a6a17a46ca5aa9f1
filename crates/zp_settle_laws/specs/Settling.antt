-- A settle comes to its end.
use Rattle.std.specs.Prelude.{All, List, None, Some, ◌<◌, ◌≡◌, ◌≤◌, ℕ}
use Rattle.zk_transcript.specs.Legal.{Tick}
use Rattle.zp_script.specs.Happens.{Happens, Settles, max_settling, settling}
use Rattle.zp_script.specs.Runs.{IsFirst, Runs}
use Rattle.zp_script.specs.Worlds.{Conn, World, conn_at}
use Rattle.zp_step.specs.Stages.{max_count}
use Rattle.zp_world_laws.specs.Accounting.{IsAccounted, IsWithinCounts, OffersSession}
use Rattle.zp_world_laws.specs.Settled.{IsIdle}
use Rattle.zt_text.specs.declared.script.Happening.TheVariants as line
use Rattle.zt_text.specs.declared.script.Happening.{Happening}
use Rattle.zp_settle_laws.specs.Bytes.{CountsBytes}
use Rattle.zp_settle_laws.specs.Lines.{lines_left}

-- a settle that may do as many lines as are left leaves nothing to do
abbrev pub SettlesToItsEnd : Type 0
SettlesToItsEnd = (w w' : World) (c n : ℕ) → IsAccounted w → lines_left c w ≤ n → Settles n c w w' → settling c w' ≡ None

-- ---- by its bound

-- a bound that is cut off at the end of 64 bits says nothing
abbrev pub IsWithinBound : ℕ → World → Type 0
IsWithinBound c w = max_settling c w < max_count

abbrev pub EndsByItsBound : Type 0
EndsByItsBound = (w w' : World) (c : ℕ) → IsAccounted w → CountsBytes w → IsWithinBound c w → Settles (max_settling c w) c w w' → settling c w' ≡ None

-- the bytes are counted in the first world, and each line whose tests pass keeps them counted
abbrev pub FirstCounts : Type 0
FirstCounts = (w : World) → IsFirst w → CountsBytes w

abbrev pub KeepsCounts : Type 0
KeepsCounts = (w w' : World) (h : Happening) → Happens w h w' → CountsBytes w → CountsBytes w'

-- ---- in every run

-- in any run, after a settle the connection waits for its client alone, with no frame left to answer, or it has ended
abbrev pub EverySettleEnds : Type 0
EverySettleEnds = (hs : List Happening) (ticks : List Tick) (w w' : World) (c : ℕ) (x : Conn) → All OffersSession hs → IsWithinCounts w
    → Runs hs ticks w → IsWithinBound c w → Happens w (line.Settle c) w' → conn_at c w' ≡ Some x → IsIdle x x.actor
