use Rattle.std.proofs.Common.{subst, IfErr}
use Rattle.zk_model.specs.Znodes.{Tree}
use Rattle.zk_machine.specs.Faults.{BeyondUnless, IsWithin}
use Rattle.zk_machine.proofs.alone.single_create.Goals as goal

pub returns-clause-beyond : goal.returns-clause-beyond
returns-clause-beyond c = subst (λ (t : Tree). IfErr c.single_create.result (BeyondUnless (IsWithin t))) c.of.ensures c.single_create.ensures.beyond
