-- Formed lines: each stands where a run of the service can have written it, whatever the tree.
use Rattle.std.specs.Prelude.{ℕ, ◌+◌, Bool, true, false, not, ◌&&◌, List, [], ◌∷◌, length, nat_le, ◌==◌, is_some, if◌then◌else◌}
use Rattle.std.specs.Ordering.{int_eq}
use Rattle.zk_service.specs.declared.update.UpdateKind.{UpdateKind}
use Rattle.zk_service.specs.declared.update.UpdateKind.TheVariants.{Session as NewSession, Attach, Asked, Closed}
use Rattle.zk_transcript.specs.declared.transcript.TranscriptLine.{TranscriptLine}
use Rattle.zk_transcript.specs.declared.transcript.TranscriptLine.TheVariants as line
use Rattle.zk_service.specs.States.{State}
use Rattle.zk_transcript.specs.History.{opening, first_shown}
use Rattle.zk_transcript.specs.Conversations.{close_shown}
use Rattle.zk_model.specs.Limits.{max_frame}

unfoldable pub is_opened : List TranscriptLine → ℕ → Bool
is_opened before c = is_some (opening c before)

unfoldable pub is_closed : List TranscriptLine → ℕ → Bool
is_closed before c = is_some (first_shown (close_shown c) before)

abbrev pub is_frame_of : ℕ → TranscriptLine → Bool
is_frame_of c (line.Frame connection index zxid bytes) = c == connection
is_frame_of c _ = false

-- how many frames of c stand among these lines
abbrev pub frames_of : ℕ → List TranscriptLine → ℕ
frames_of c [] = 0
frames_of c (l ∷ ls) = if is_frame_of c l then frames_of c ls + 1 else frames_of c ls

-- there was an update
abbrev pub has_begun : State → Bool
has_begun s = not (s.updates == 0)

-- the connection of an update was opened; what it asked may be carried out after its close
abbrev pub is_kind_formed : List TranscriptLine → UpdateKind → Bool
is_kind_formed before (NewSession id c) = is_opened before c
is_kind_formed before (Attach id c) = is_opened before c
is_kind_formed before (Asked c i now) = is_opened before c
is_kind_formed before (Closed id c i) = is_opened before c
is_kind_formed before _ = true

-- Each number is opened at most once and closed at most once, and its frames and packets stand between. A close without an open is
-- a reaper's. Frames come after the first update, are numbered 0, 1, 2 and so on, have at most 1,048,575 bytes, and show the zxid
-- of the last update.
unfoldable pub is_formed_line : List TranscriptLine → State → TranscriptLine → Bool
is_formed_line before s (line.Open c proxy id passwd layout) = not (is_opened before c)
is_formed_line before s (line.Frame c i zxid bytes) =
    is_opened before c && not (is_closed before c) && i == frames_of c before && nat_le (length bytes) max_frame && has_begun s && int_eq zxid s.zxid
is_formed_line before s (line.Send c bytes) = is_opened before c && not (is_closed before c)
is_formed_line before s (line.Close c end) = not (is_closed before c)
is_formed_line before s (line.Update u) = is_kind_formed before u.kind
is_formed_line before s (line.Lapse revision id) = true
