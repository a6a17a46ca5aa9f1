-- A world: one etcd, a clock, and the connections and reapers of all proxies, with the transcript of what happened.
use Rattle.std.specs.Prelude.{ℕ, ℤ, Bool, true, false, not, if◌then◌else◌, List, Option, Some, None}
use Rattle.std.specs.FinMap.{FinMap, get, insert}
use Rattle.std.specs.Ordering.{nat_cmp}
use Rattle.ev_types.specs.Store.{Store, mod_of, present}
use Rattle.zk_transcript.specs.declared.transcript.TranscriptLine.{TranscriptLine}
use Rattle.zk_wire.specs.Cutting.{Stream}
use Rattle.zn_layout.specs.declared.entry.Entry.{Entry}
use Rattle.zn_layout.specs.Keys.{HeadKey}
use Rattle.zn_layout.specs.StandsFor.{at}
use Rattle.zp_step.specs.Stages.{Core, is_shut}
use Rattle.zs_reap.specs.declared.reap.Reap.{Reap}
use Rattle.zs_reap.specs.declared.reap.Phase.{Phase}
use Rattle.zs_reap.specs.declared.reap.Phase.TheVariants.{Over}
use Rattle.zp_script.specs.declared.flight.Asking.{Asking}
use Rattle.zp_script.specs.declared.flight.Flight.{Flight}

-- what a number stands for: an open connection, a reaper at work, or one of these that has ended
pub data Actor : Type 0 where
  Connection : (core : Core) → Actor
  Reaper : (reap : Reap) → Actor
  Closed : Actor

-- a connection or a reaper
pub record Conn : Type 0 where
  pub proxy : ℕ
  pub actor : Actor
  -- the bytes that are no whole frame yet, and how many came before them
  pub stream : Stream
  -- how many frames were handed in, the connect first. This count and that of bytes stay at 2^64 - 1 once they reach it
  pub frames : ℕ
  -- what it asked, until the answer is delivered
  pub flight : Option Flight

-- connections and reapers, by their numbers
abbrev pub Conns : Type 0
Conns = FinMap nat_cmp Conn

pub record World : Type 0 where
  pub store : Store
  -- in milliseconds
  pub clock : ℕ
  -- open and closed
  pub conns : Conns
  -- what was asked by those that ended before it was carried out, in the order of their ends; None once the store has carried it
  -- out or denied it
  pub strays : List (Option Asking)
  pub lines : List TranscriptLine
  -- the updates as they are told to those who watch, one for each, in order
  pub entries : List Entry

-- ---- parts of a world

abbrev pub conn_at : ℕ → World → Option Conn
conn_at c w = get w.conns c

abbrev pub with_conn : World → ℕ → Conn → World
with_conn w c x = record w { conns = insert w.conns c x }

-- the zxid of the last update, which is the revision of the head's last put
abbrev pub zxid_at : Store → ℤ
zxid_at s = mod_of (at (present s) HeadKey)

-- ---- open and closed

abbrev pub is_over : Phase → Bool
is_over Over = true
is_over _ = false

-- what a connection, or a reaper, is after a step
abbrev pub after_step : Core → Actor
after_step core = if is_shut core.stage then Closed else Connection core

abbrev pub after_reap : Reap → Actor
after_reap reap = if is_over reap.phase then Closed else Reaper reap

abbrev pub is_closed_actor : Actor → Bool
is_closed_actor Closed = true
is_closed_actor _ = false

abbrev pub is_reaper : Actor → Bool
is_reaper (Reaper reap) = true
is_reaper _ = false

abbrev pub is_open_conn : Option Conn → Bool
is_open_conn None = false
is_open_conn (Some x) = not (is_closed_actor x.actor)
