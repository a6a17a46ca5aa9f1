-- The first line at which a transcript is no run of the service: by its form and its updates, and by the order of each
-- connection's requests.
use Rattle.std.specs.Prelude.{◌≡◌, ℕ, ◌+◌, Bool, true, false, ◌&&◌, ◌||◌, List, [], ◌∷◌, ◌++◌, length, nat_le, int_le, pos, Option, Some, None, if◌then◌else◌}
use Rattle.zk_model.specs.Limits.{max_time}
use Rattle.zk_service.specs.declared.update.UpdateKind.{UpdateKind}
use Rattle.zk_service.specs.declared.update.UpdateKind.TheVariants.{Begin, Asked}
use Rattle.zk_transcript.specs.declared.transcript.TranscriptLine.{TranscriptLine}
use Rattle.zk_transcript.specs.declared.transcript.TranscriptLine.TheVariants as line
use Rattle.zk_service.specs.States.{State, nothing_yet}
use Rattle.zk_transcript.specs.History.{after, change}
use Rattle.zk_transcript.specs.Legal.{is_begin, is_legal_line, is_in_order}
use Rattle.zk_legal.specs.Formed.{has_begun, is_formed_line}

abbrev pub is_timely : UpdateKind → Bool
is_timely (Begin now) = nat_le now max_time
is_timely (Asked c i now) = nat_le now max_time
is_timely _ = true

-- no lapse, and no update but Begin, comes before the first update
abbrev pub comes_after_begin : State → TranscriptLine → Bool
comes_after_begin s (line.Update u) = has_begun s || is_begin u.kind
comes_after_begin s (line.Lapse revision id) = has_begun s
comes_after_begin s _ = true

-- the zxid of an update is not below 0, and its time is one that the clock can show
abbrev pub is_in_range : TranscriptLine → Bool
is_in_range (line.Update u) = int_le (pos 0) u.zxid && is_timely u.kind
is_in_range _ = true

-- a run can have written this line after the lines `before`, which lead to the state s
unfoldable pub is_history_line : List TranscriptLine → State → TranscriptLine → Bool
is_history_line before s l = is_formed_line before s l && comes_after_begin s l && is_in_range l && is_legal_line before s l

-- the number of the first line that no run can have written there, where the lines `before` come first
abbrev pub history_fault_from : List TranscriptLine → State → List TranscriptLine → Option ℕ
history_fault_from before s [] = None
history_fault_from before s (l ∷ ls) = if is_history_line before s l then history_fault_from (before ++ l ∷ []) (change before s l) ls else Some (length before + 1)

-- lines without a fault so far, and the state that they lead to
pub record IsRunTo (before : List TranscriptLine) (s : State) : Type 0 where
  pub faultless : history_fault_from [] nothing_yet before ≡ None
  pub reached : s ≡ after before

abbrev pub is_event : TranscriptLine → Bool
is_event (line.Update u) = true
is_event (line.Lapse revision id) = true
is_event _ = false

abbrev pub has_event : List TranscriptLine → Bool
has_event [] = false
has_event (l ∷ ls) = is_event l || has_event ls

-- where a transcript has no fault, and neither an update nor a lapse, it fails at the number after its last line's
abbrev pub or_empty : List TranscriptLine → Option ℕ → Option ℕ
or_empty lines (Some n) = Some n
or_empty lines None = if has_event lines then None else Some (length lines + 1)

-- the number of the first line, counted from 1, that no run can have written there
unfoldable pub history_fault : List TranscriptLine → Option ℕ
history_fault lines = or_empty lines (history_fault_from [] nothing_yet lines)

abbrev pub order_fault_from : List TranscriptLine → List TranscriptLine → Option ℕ
order_fault_from before [] = None
order_fault_from before (l ∷ ls) = if is_in_order before l then order_fault_from (before ++ l ∷ []) ls else Some (length before + 1)

-- the number of the first line, counted from 1, that carries out a request out of its connection's order
unfoldable pub order_fault : List TranscriptLine → Option ℕ
order_fault lines = order_fault_from [] lines
