-- Bytes of a client arrive: each frame that is whole with them is shown and then handed in, in order.
use Rattle.std.specs.Prelude.{◌≡◌, ℕ, ◌+◌, ◌-◌, ℤ, List, [], ◌∷◌, ◌++◌, length, Option, Some, None, MatchBool}
use Rattle.zk_jute.specs.Frames.{Framed, bad_length}
use Rattle.zk_transcript.specs.declared.transcript.TranscriptLine.{TranscriptLine}
use Rattle.zk_transcript.specs.declared.transcript.TranscriptLine.TheVariants.{Frame as FrameLine}
use Rattle.zk_wire.specs.Cutting.{Stream}
use Rattle.zp_step.specs.declared.input.Input.TheVariants as input
use Rattle.zp_step.specs.Stages.{counted_up}
use Rattle.zp_script.specs.Worlds.{World, Conn, conn_at, with_conn, is_open_conn, zxid_at}
use Rattle.zp_script.specs.Handing.{Handed}

-- ---- the frames

-- With these bytes the stream has these whole frames. If what is left begins with a length out of range, `bad` is that length, and
-- what the new stream holds begins with it too; otherwise the new stream holds what is left.
pub record CutsFrames (old : Stream) (bytes : List ℕ) (frames : List (List ℕ)) (bad : Option ℤ) (new : Stream) : Type 0 where
  pub rest : List ℕ
  pub framed : Framed (old.rest ++ bytes) frames rest
  pub bad_is : bad_length rest ≡ bad
  pub held : bad ≡ None → new.rest ≡ rest
  pub stays : bad_length new.rest ≡ bad
  pub place : new.place ≡ counted_up (old.place + (length (old.rest ++ bytes) - length rest))

-- the lines of these frames, of which the first has index i; each shows the zxid of the last update
abbrev pub frame_lines : ℕ → ℕ → ℤ → List (List ℕ) → List TranscriptLine
frame_lines c i zxid [] = []
frame_lines c i zxid (frame ∷ frames) = FrameLine c i zxid frame ∷ frame_lines c (counted_up (i + 1)) zxid frames

-- a frame is shown, before it is handed in
abbrev pub shown_frame : ℕ → World → Conn → List ℕ → World
shown_frame c w x frame = record (with_conn w c (record x { frames = counted_up (x.frames + 1) })) { lines = w.lines ++ FrameLine c x.frames (zxid_at w.store) frame ∷ [] }

-- ---- they are handed in, as long as the connection is open: those after the frame that closes it are shown before its end
abbrev pub FramesArrive : ℕ → World → List (List ℕ) → World → Type 0
FramesArrive c w [] w' = w' ≡ w
FramesArrive c w (frame ∷ more) w' = (x : Conn) × (mid : World) × (conn_at c w ≡ Some x)
    × Handed c (frame_lines c (counted_up (x.frames + 1)) (zxid_at w.store) more) (shown_frame c w x frame) (input.Frame frame) mid
    × MatchBool (is_open_conn (conn_at c mid)) (FramesArrive c mid more w') (w' ≡ mid)

-- a length out of range after them closes it, if it is still open
abbrev pub EndsBadly : ℕ → World → ℕ → Option ℤ → World → Type 0
EndsBadly c w place None w' = w' ≡ w
EndsBadly c w place (Some n) w' = MatchBool (is_open_conn (conn_at c w)) (Handed c [] w (input.BadLength place n) w') (w' ≡ w)

pub record Arrives (c : ℕ) (w : World) (bytes : List ℕ) (w' : World) : Type 0 where
  pub conn : Conn
  pub found : conn_at c w ≡ Some conn
  pub frames : List (List ℕ)
  pub bad : Option ℤ
  pub stream : Stream
  pub cuts : CutsFrames conn.stream bytes frames bad stream
  pub mid : World
  pub arrive : FramesArrive c (with_conn w c (record conn { stream = stream })) frames mid
  pub ends : EndsBadly c mid stream.place bad w'
