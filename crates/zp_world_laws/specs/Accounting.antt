-- A world of which all is accounted for: it is whole, each number is known, and each update has its entry.
use Rattle.std.specs.Prelude.{Some, ℕ, ◌<◌, ◌≡◌}
use Rattle.zk_transcript.specs.Conversations.{IsInConnection}
use Rattle.zp_script.specs.Worlds.{Conn, World, conn_at}
use Rattle.zp_step.specs.Stages.{max_count}
use Rattle.zp_world_laws.specs.Connecting.{IsOffer}
use Rattle.zp_world_laws.specs.Connections.{Whole}
use Rattle.zp_world_laws.specs.Entering.{AreEntries}
use Rattle.zp_world_laws.specs.Knowing.{Known}
use Rattle.zt_text.specs.declared.script.Happening.TheVariants as line
use Rattle.zt_text.specs.declared.script.Happening.{Happening}

pub record IsAccounted (w : World) : Type 0 where
  pub whole : Whole w
  pub known : Known w
  pub entries : AreEntries w.lines w.entries
  -- what each connection was sent begins with the answer to its connect, and stands before its close
  pub within : (c : ℕ) → IsInConnection w.lines c

-- ---- what a script has to be for that

-- A connection offers a number that sessions have, and a password of 16 bytes. So does each line that is read from a text.
abbrev pub OffersSession : Happening → Type 0
OffersSession (line.Open c p id passwd layout) = IsOffer (record { id = id; passwd = passwd; layout = layout })
OffersSession _ = Unit {0}

-- each connection has had fewer than 2^64 - 1 frames
pub record IsWithinCounts (w : World) : Type 0 where
  pub frames : (c : ℕ) (x : Conn) → conn_at c w ≡ Some x → x.frames < max_count
