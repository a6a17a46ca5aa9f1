use Rattle.std.proofs.Common.{◌≡◌, ◌+◌, ◌≤◌, length}
use Rattle.zt_text.specs.Scripts.{pieces}
use Rattle.zt_lines.specs.Transcripts.{lines_from, onto}
use Rattle.zt_lines.proofs.transcript.read_lines.Given as goal

-- the lines so far, and what is read after them, are what the whole says
abbrev pub invariant-lines : goal.invariant-lines
invariant-lines l = record {
  told : lines_from l.is_cut 1 (pieces 10 l.bytes) ≡ onto l.lines.items (lines_from l.is_cut l.number (pieces 10 l.rest));
  counted : l.number + length l.rest ≤ 1 + length l.bytes;
}

abbrev pub decreases-lines : goal.decreases-lines
decreases-lines l = length l.rest
