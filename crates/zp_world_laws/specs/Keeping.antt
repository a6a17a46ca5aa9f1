-- What the laws say: which lines of a script keep a world whole.
use Rattle.std.specs.Prelude.{All, List, None, Some, true, ℕ, ◌≡◌}
use Rattle.zk_transcript.specs.Legal.{Tick}
use Rattle.zp_script.specs.Effects.{Does}
use Rattle.zp_script.specs.Faults.{fault}
use Rattle.zp_script.specs.Happens.{Happens}
use Rattle.zp_script.specs.Runs.{IsFirst, Runs}
use Rattle.zp_script.specs.Worlds.{Conn, Connection, World, conn_at}
use Rattle.zp_step.specs.Stages.{is_served, Core}
use Rattle.zp_world_laws.specs.Accounting.{IsAccounted, IsWithinCounts, OffersSession}
use Rattle.zp_world_laws.specs.Connections.{Whole}
use Rattle.zp_world_laws.specs.Entering.{AreEntries}
use Rattle.zp_world_laws.specs.Giving.{IsOneHistory, IsServedRun}
use Rattle.zt_text.specs.declared.script.Happening.{Happening}

-- before anything happened
abbrev pub FirstIsWhole : Type 0
FirstIsWhole = (w : World) → IsFirst w → Whole w

abbrev pub WholeGives : Type 0
WholeGives = (w : World) → Whole w → IsOneHistory w.lines

-- where its tests pass, this line makes a whole world of one that satisfies P and is whole
abbrev pub KeepsIf : (World → Type 0) → Happening → Type 0
KeepsIf P h = (w w' : World) → P w → fault w h ≡ None → Does w h w' → Whole w → Whole w'

abbrev pub Keeps : Happening → Type 0
Keeps h = (w w' : World) → fault w h ≡ None → Does w h w' → Whole w → Whole w'

-- the entries are the updates, and stay so
abbrev pub FirstHasEntries : Type 0
FirstHasEntries = (w : World) → IsFirst w → AreEntries w.lines w.entries

abbrev pub KeepsEntries : Happening → Type 0
KeepsEntries h = (w w' : World) → Does w h w' → Whole w → AreEntries w.lines w.entries → AreEntries w'.lines w'.entries

-- ---- premises

-- a session is attached to connection c, which is open
pub record IsAttachedIn (w : World) (c : ℕ) : Type 0 where
  pub conn : Conn
  pub core : Core
  pub there : conn_at c w ≡ Some conn
  pub connection : conn.actor ≡ Connection core
  pub served : is_served core.stage ≡ true

-- and the entries are the updates
pub record MayEnter (w : World) (c : ℕ) : Type 0 where
  pub attached : IsAttachedIn w c
  pub entries : AreEntries w.lines w.entries

-- ---- whole scripts

-- before anything happened all is accounted for
abbrev pub FirstIsAccounted : Type 0
FirstIsAccounted = (w : World) → IsFirst w → IsAccounted w

-- and so it is after each line whose tests pass, settle too, while counts are within their ranges
abbrev pub KeepsAccounts : Type 0
KeepsAccounts = (w w' : World) (h : Happening) → OffersSession h → IsWithinCounts w' → Happens w h w' → IsAccounted w → IsAccounted w'

-- what every run of a script gives
abbrev pub EveryRunGives : Type 0
EveryRunGives = (hs : List Happening) (ticks : List Tick) (w : World) → All OffersSession hs → IsWithinCounts w → Runs hs ticks w → IsServedRun ticks w.lines
