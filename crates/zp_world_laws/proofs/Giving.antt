-- What a whole world gives.
use Rattle.std.proofs.Common.{ℕ, ◌+◌, List, ap, ◌∙◌}
use Rattle.std.specs.Prelude.{Option}
use Rattle.zk_transcript.specs.Conversations.{later_packets}
use Rattle.zk_transcript.specs.Legal.{Attachment}
use Rattle.zk_transcript.specs.Walks.{Due, IsWalk, Walker, is_walked}
use Rattle.zk_transcript.specs.declared.transcript.TranscriptLine.{TranscriptLine}
use Rattle.zp_script.specs.Worlds.{World}
use Rattle.zp_world_laws.specs.Connections.{Whole}
use Rattle.zp_world_laws.specs.Giving.{IsOneHistory}
use Rattle.zp_world_laws.specs.Holding.{Talks}

talks-walk : (lines : List TranscriptLine) (c k : ℕ) (a : Attachment) (w : Walker) → Talks lines c k a w → IsWalk lines c a.session a.zxid (k + 1) (later_packets c lines)
talks-walk lines c k a w t = record { choices = t.choices; lawful = ap (λ (o : Option (Walker × List Due)). is_walked o (later_packets c lines)) t.walked ∙ t.sent; fresh = t.fresh; in_turn = t.in_turn }

pub whole-gives : (w : World) → Whole w → IsOneHistory w.lines
whole-gives w h = record {
  legal = ((h.holds).serves).legal;
  ordered = ((h.holds).serves).ordered;
  shown = (h.holds).fresh;
  walks = λ c k a e. let s = (h.holds).spoken c k a e in talks-walk w.lines c k a s.walker s.talks;
}
