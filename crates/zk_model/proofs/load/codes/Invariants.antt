use Rattle.std.proofs.Common.{◌≡◌}
use Rattle.std.specs.Prelude.{replicate}
use Rattle.zk_model.specs.declared.reply.PartResult.TheVariants.{Code}
use Rattle.zk_model.proofs.load.codes.Given as goal

abbrev pub invariant-loop : goal.invariant-loop
invariant-loop l = l.row.items ≡ replicate l.counter (Code l.code)
