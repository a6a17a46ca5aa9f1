use Rattle.std.proofs.Common.{subst, IfErr, ◌≤◌}
use Rattle.zk_model.specs.Znodes.{Tree}
use Rattle.zk_model.specs.Limits.{max_frame}
use Rattle.zk_model.specs.Multi.{data_len}
use Rattle.zk_machine.specs.Faults.{BeyondUnless, IsWithin}
use Rattle.zk_machine.proofs.alone.single.Goals as goal

pub returns-clause-beyond : goal.returns-clause-beyond
returns-clause-beyond c = subst (λ (t : Tree). IfErr c.single.result (BeyondUnless (IsWithin t × (data_len c.args.part.now ≤ max_frame)))) c.of.ensures c.single.ensures.beyond
