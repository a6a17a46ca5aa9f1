-- The next frame of a connection to answer.
use Rattle.std.specs.Prelude.{◌≡◌, ◌≤◌, ◌<◌, ◌+◌, ◌^◌, ℕ, pos, false, List, Option, Some, length, slice_get, IfSome}
use Rattle.zk_jute.specs.Requests.{read_request}
use Rattle.zk_model.specs.Limits.{max_frame}
use Rattle.zk_model.specs.Watches.{no_watches}
use Rattle.zk_service.specs.declared.update.UpdateRec.{UpdateRec}
use Rattle.zk_service.specs.Answers.{xid_of}
use Rattle.zk_transcript.specs.declared.transcript.TranscriptLine.{TranscriptLine}
use Rattle.zk_transcript.specs.declared.transcript.TranscriptLine.TheVariants.{Update}
use Rattle.zk_transcript.specs.Walks.{Due, Walker, answer_as_of, own_update, placed_frame, reply_step_if, told_as_of}
use Rattle.zk_judge.specs.Seen.{frame_as}
use Rattle.zk_judge.specs.declared.next_frame.NextFrame.{NextFrame}
use Rattle.zk_judge.specs.declared.walker.Fired.{Fired}
use Rattle.zk_judge.specs.declared.walker.Party.{Party}

-- x is a frame of connection c, and has what the lines show of it
pub record IsNextFrame (lines : List TranscriptLine) (c : ℕ) (x : NextFrame) : Type 0 where
  pub bytes : List ℕ
  pub placed : placed_frame c x.index lines ≡ Some (x.place, bytes)
  pub reads : frame_as x.read ≡ read_request bytes
  pub short : length bytes ≤ max_frame
  pub own : x.own ≡ own_update c x.index lines
  pub stands : IfSome x.own (λ u. slice_get lines u.0 ≡ Some (Update u.1))
  pub place : x.place + 1 < 2 ^ 64
  pub next : x.index + 1 < 2 ^ 64

-- a walker of which no more is known than the frame that it answers next
abbrev pub before_frame : ℕ → Walker
before_frame i = record { zxid = pos 0; since = 0; watches = no_watches; next = i; moment = 0; over = false }

-- the answer to a frame after what fired, as of the moment after these lines
abbrev pub answered_after : List TranscriptLine → Party → NextFrame → Fired → Option (Walker × List Due)
answered_after past p x f =
    reply_step_if past (before_frame x.index) x.place (xid_of (frame_as x.read)) f.due.items (told_as_of past p.connection p.session (frame_as x.read) f.watches x.own)

-- the answer to the next frame as of the moment after the lines `past`, where this update carries out its request
abbrev pub answered_as_of : List TranscriptLine → List TranscriptLine → Party → Walker → Option (ℕ × UpdateRec) → Option (Walker × List Due)
answered_as_of lines past p w own = answer_as_of past p.connection p.session w own (placed_frame p.connection w.next lines)
