use Rattle.zk_judge.proofs.Running.{offered-one}
use Rattle.zk_judge.proofs.index.see_password.Goals as goal

pub returns-in-Open : goal.returns-in-Open
returns-in-Open c = offered-one _ _ _ _ _ _ c.in-Open.is c.see_bytes.ensures
