-- Frames come to a connection, one after the other.
use Rattle.std.specs.Prelude.{◌≡◌, ◌⊎◌, ℕ, ◌+◌, ℤ, true, false, List, [], ◌∷◌, ◌++◌, if◌then◌else◌, Option, Some}
use Rattle.zk_transcript.specs.declared.transcript.TranscriptLine.TheVariants.{Frame as FrameLine}
use Rattle.zk_wire.specs.Cutting.{Stream}
use Rattle.zp_script.specs.Arriving.{CutsFrames, frame_lines, shown_frame}
use Rattle.zp_script.specs.declared.flight.Flight.{Flight}
use Rattle.zp_script.specs.Handing.{Handed}
use Rattle.zp_script.specs.Worlds.{Conn, Connection, World, conn_at, is_closed_actor, is_open_conn, is_reaper, with_conn, zxid_at}
use Rattle.zp_step.specs.Stages.{Core, counted_up}
use Rattle.zp_step.specs.declared.input.Input.TheVariants as input
use Rattle.zp_world.specs.Doing.{Stepped, left, lines_after}
use Rattle.zp_world.specs.declared.activity.Seat.{Seat}
use Rattle.zp_world.specs.declared.arriving.Arrival.{Arrival}

-- ---- one frame

-- the frame is shown, of a connection that is held apart
abbrev pub shown : Arrival → World → Seat → List ℕ → World
shown a w seat bytes = record w { lines = w.lines ++ FrameLine a.connection seat.frames a.zxid bytes ∷ [] }

-- its seat after the frame
abbrev pub left_next : Seat → Conn
left_next seat = record (left seat) { frames = counted_up (seat.frames + 1) }

-- the frame is shown, and its connection, which is held apart with this flight, takes a step by it; these frames came after it
abbrev pub StepsByFrame : Arrival → World → Seat → Core → Option Flight → List ℕ → List (List ℕ) → World → Type 0
StepsByFrame a w seat core flight bytes after w' =
    Stepped a.connection (lines_after a (counted_up (seat.frames + 1)) after) (shown a w seat bytes) (left_next seat) core flight (input.Frame bytes) w'

-- it is shown and handed in; where that closes the connection, the frames after it are shown before its end, and none is left
pub record Takes (c : ℕ) (w : World) (x : Conn) (bytes : List ℕ) (after : List (List ℕ)) (w' : World) (left_after : List (List ℕ)) : Type 0 where
  pub handed : Handed c (frame_lines c (counted_up (x.frames + 1)) (zxid_at w.store) after) (shown_frame c w x bytes) (input.Frame bytes) w'
  pub rest : left_after ≡ (if is_open_conn (conn_at c w') then after else [])

-- where an open connection has this number, and the zxid is the last update's, the connection takes the frame
abbrev pub FrameComes : Arrival → World → List ℕ → List (List ℕ) → World → List (List ℕ) → Type 0
FrameComes a w bytes after w' left_after =
    (x : Conn) (core : Core) → conn_at a.connection w ≡ Some x → x.actor ≡ Connection core → a.zxid ≡ zxid_at w.store → Takes a.connection w x bytes after w' left_after

-- all the frames after it are left, or none is
abbrev pub IsLeft : List (List ℕ) → List (List ℕ) → Type 0
IsLeft old new = (new ≡ old) ⊎ (new ≡ [])

-- ---- what is cut of what came

-- these frames, and this length out of range, if there is one, are cut from a connection's stream with the bytes that came; the rest of
-- the stream is kept, and so many bytes stand before it
pub record IsCut (c : ℕ) (w : World) (x : Conn) (bytes : List ℕ) (frames : List (List ℕ)) (bad : Option ℤ) (place : ℕ) (w' : World) : Type 0 where
  pub stream : Stream
  pub cuts : CutsFrames x.stream bytes frames bad stream
  pub at : place ≡ stream.place
  pub kept : w' ≡ with_conn w c (record x { stream = stream })

-- ---- several

-- there is a connection of this number, open or closed
pub record IsConnectionAt (c : ℕ) (w : World) : Type 0 where
  pub conn : Conn
  pub found : conn_at c w ≡ Some conn
  pub served : is_reaper conn.actor ≡ false

-- these frames may come to it: where it is closed there are none. The zxid is the last update's
pub record IsServing (c : ℕ) (zxid : ℤ) (frames : List (List ℕ)) (w : World) : Type 0 where
  pub conn : Conn
  pub found : conn_at c w ≡ Some conn
  pub served : is_reaper conn.actor ≡ false
  pub none : is_closed_actor conn.actor ≡ true → frames ≡ []
  pub zxid_is : zxid ≡ zxid_at w.store
