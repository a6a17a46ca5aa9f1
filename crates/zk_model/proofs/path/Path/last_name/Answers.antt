use Rattle.zk_model.proofs.ValidPaths.{valid-from}
use Rattle.zk_model.proofs.path.Path.last_name.Goals as goal

pub last_slash-place-requires : goal.last_slash-place-requires
last_slash-place-requires c = rw c.as_slice.ensures.value (valid-from c.self.inside.text.items c.self.invariant).begins
