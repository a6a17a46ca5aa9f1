use Rattle.std.proofs.Common.{arith, drop}
use Rattle.std.proofs.lemmas.List.{take_all, length-drop}
use Rattle.zn_layout.proofs.test.node_content.Goals as goal

pub returns : goal.returns
returns c = take_all _ (drop 37 c.args.value.now) (omega (arith, length-drop 37 c.args.value.now))
