use Rattle.zk_history.proofs.AttachmentLaws.{attached-empty}
use Rattle.zk_history.proofs.sessions.Sessions.new.Goals as goal

pub invariant_of-result : goal.invariant_of-result
invariant_of-result c = attached-empty c.new.result.entries c.new-2.result c.new.ensures.empty c.new-2.ensures.empty
