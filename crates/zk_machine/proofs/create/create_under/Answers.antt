use Rattle.std.proofs.Common.{sym, arith}
use Rattle.std.proofs.lemmas.Grind.{common_steps}
use Rattle.zk_machine.proofs.FaultLaws.{beyond-weaker, within-creates}
use Rattle.zk_machine.proofs.create.create_under.Goals as goal

pub returns-in_err-create_node-in-Some-clause-beyond : goal.returns-in_err-create_node-in-Some-clause-beyond
returns-in_err-create_node-in-Some-clause-beyond c =
    let weaker = beyond-weaker _ _ c.in_err-create_node-in-Some.field-0.0 (within-creates c.args.tree.now c.bytes.result.now c.in-Some.up.now (sym c.in-Some.ensures)) c.in_err-create_node-in-Some.ensures.beyond in
    grind (arith, common_steps)
