use Rattle.zk_legal.proofs.Fitting.{all-fit}
use Rattle.zk_judge.proofs.Running.{never-beyond}
use Rattle.zk_judge.proofs.judging.moved_on.Goals as goal

pub unreachable-requires : goal.unreachable-requires
unreachable-requires c = never-beyond _ _ c.in-Err-Beyond.field-0-is c.in-Err-Beyond.ensures.beyond (all-fit c.args.cursor.past.all.now c.requires.run)
