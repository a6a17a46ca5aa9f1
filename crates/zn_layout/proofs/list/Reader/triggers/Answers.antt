use Rattle.std.proofs.Common.{Option, subst}
use Rattle.zk_model.specs.declared.node.Trigger.{Trigger}
use Rattle.zn_layout.specs.Records.{trigger_bytes}
use Rattle.zn_layout.specs.ReadingSteps.{IsValidTrigger, TakesItem}
use Rattle.zn_layout.proofs.Lists.{triggers_same, not_taken}
use Rattle.zn_layout.proofs.list.Reader.triggers.Goals as goal

pub returns-in-None : goal.returns-in-None
returns-in-None c =
    let left = c.loop.self in
    let new = c.trigger.new.self in
    not_taken trigger_bytes IsValidTrigger triggers_same c.args.self.now left new new c.loop.counter c.args.count c.loop.triggers.items c.loop.invariant c.loop-test.true
    (subst (λ (o : Option Trigger). TakesItem trigger_bytes IsValidTrigger left new o) c.in-None.is c.in_ok-trigger.ensures)
