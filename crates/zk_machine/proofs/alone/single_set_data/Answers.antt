use Rattle.std.proofs.Common.{subst, IfErr, ◌≤◌, length}
use Rattle.zk_model.specs.Znodes.{Tree}
use Rattle.zk_model.specs.Limits.{max_frame}
use Rattle.zk_machine.specs.Faults.{BeyondUnless, IsWithin}
use Rattle.zk_machine.proofs.alone.single_set_data.Goals as goal

pub returns-clause-beyond : goal.returns-clause-beyond
returns-clause-beyond c = subst (λ (t : Tree). IfErr c.single_set_data.result (BeyondUnless (IsWithin t × (length c.args.content.now ≤ max_frame)))) c.of.ensures c.single_set_data.ensures.beyond
