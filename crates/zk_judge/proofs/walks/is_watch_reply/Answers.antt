use Rattle.zk_model.specs.Codes.{no_watcher}
use Rattle.zk_judge.proofs.Sendable.{empty-fits, refused-fits}
use Rattle.zk_judge.proofs.walks.is_watch_reply.Goals as goal

pub is_reply-requires : goal.is_reply-requires
is_reply-requires c = empty-fits

pub is_reply-requires-2 : goal.is_reply-requires-2
is_reply-requires-2 c = refused-fits no_watcher
