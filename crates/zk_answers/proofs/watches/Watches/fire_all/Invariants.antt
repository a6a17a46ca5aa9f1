use Rattle.std.proofs.Common.{◌≡◌, drop}
use Rattle.zk_model.specs.Watches.{fire_all}
use Rattle.zk_answers.proofs.FireLaws.{fired_on}
use Rattle.zk_answers.proofs.watches.Watches.fire_all.Given as goal

abbrev pub invariant-loop-trigger : goal.invariant-loop-trigger
invariant-loop-trigger l = fired_on l.watches l.notices.items (drop l.trigger-index l.triggers) ≡ fire_all l.fn.self l.triggers
