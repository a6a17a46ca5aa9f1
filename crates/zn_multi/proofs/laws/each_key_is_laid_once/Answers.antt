use Rattle.zn_multi.proofs.Laid.{acts-laid, distinct-all_laid, last-all_laid}
use Rattle.zn_multi.proofs.laws.each_key_is_laid_once.Goals as goal

pub returns-clause-once : goal.returns-clause-once
returns-clause-once c = λ ws cs h. distinct-all_laid ws cs h

pub returns-clause-last : goal.returns-clause-last
returns-clause-last c = λ ws cs k h. last-all_laid ws cs k h

pub returns-clause-laid : goal.returns-clause-laid
returns-clause-laid c = λ ws cs. acts-laid ws cs
