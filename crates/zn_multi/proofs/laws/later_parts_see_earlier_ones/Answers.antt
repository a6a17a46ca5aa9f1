use Rattle.zn_multi.proofs.Leading.{shows-laid}
use Rattle.zn_multi.proofs.laws.later_parts_see_earlier_ones.Goals as goal

pub returns : goal.returns
returns c = λ z v ws s new shown fits once. shows-laid z v ws s new shown fits once
