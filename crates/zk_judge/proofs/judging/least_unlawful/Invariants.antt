use Rattle.std.proofs.Common.{◌+◌, List, length, take}
use Rattle.std.specs.List.{All}
use Rattle.zk_transcript.specs.declared.transcript.TranscriptLine.{TranscriptLine}
use Rattle.zk_transcript.specs.Conversations.{IsLawfulAndFresh}
use Rattle.zk_judge.specs.Staged.{IsLeastOf, IsStanding, connections}
use Rattle.zk_judge.proofs.judging.least_unlawful.Given as goal

abbrev pub invariant-loop-conversation : goal.invariant-loop-conversation
invariant-loop-conversation l = (lines : List TranscriptLine) → All (IsStanding lines (length lines + 1)) l.conversations → IsLeastOf (IsLawfulAndFresh lines) (connections (take l.conversation-index l.conversations)) l.found
