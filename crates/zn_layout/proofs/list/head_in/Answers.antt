use Rattle.std.proofs.Common.{Option, List, subst, refl}
use Rattle.std.proofs.lemmas.Bool.{false≢true}
use Rattle.zk_model.specs.declared.node.Trigger.{Trigger}
use Rattle.zn_layout.specs.Reading.{head_bytes, IsHeadWithin}
use Rattle.zn_layout.specs.Records.{trigger_bytes}
use Rattle.zn_layout.specs.ReadingSteps.{IsValidTrigger, TakesItems}
use Rattle.zn_layout.proofs.ListRecords.{triggers_of, one, heads, other_first, uncounted, untaken, trailing, head-read}
use Rattle.zn_layout.proofs.list.head_in.Goals as goal

pub returns-in_default : goal.returns-in_default
returns-in_default c = other_first one triggers_of head_bytes IsHeadWithin trigger_bytes IsValidTrigger heads c.args.value.now (λ r. c.in_default.ensures)

pub returns-in_default-split_count : goal.returns-in_default-split_count
returns-in_default-split_count c = uncounted one triggers_of head_bytes IsHeadWithin trigger_bytes IsValidTrigger heads 1 c.args.value.now c.in-Some.numbers.now c.in-Some.ensures c.in_default-split_count.ensures

pub returns-in_default-2 : goal.returns-in_default-2
returns-in_default-2 c =
    let counted = c.in-Some-split_count in
    untaken one triggers_of head_bytes IsHeadWithin trigger_bytes IsValidTrigger heads 1 c.args.value.now c.in-Some.numbers.now counted.rest.now c.triggers.new.self counted.count c.in-Some.ensures counted.ensures
    (subst (λ (o : Option (List Trigger)). TakesItems trigger_bytes IsValidTrigger counted.count counted.rest.now c.triggers.new.self o) c.in_default-2.is c.in_ok-triggers.ensures)

pub returns-then-is_done : goal.returns-then-is_done
returns-then-is_done c =
    let counted = c.in-Some-split_count in
    head-read c.args.value.now c.in-Some.numbers.now counted.rest.now c.triggers.new.self counted.count c.in-Some-2.triggers c.in-Some.ensures counted.ensures
    (subst (λ (o : Option (List Trigger)). TakesItems trigger_bytes IsValidTrigger counted.count counted.rest.now c.triggers.new.self o) c.in-Some-2.is c.in_ok-triggers.ensures)
    (c.if-is_done.ensures.0 refl)

pub returns-else-is_done : goal.returns-else-is_done
returns-else-is_done c =
    let counted = c.in-Some-split_count in
    trailing one triggers_of head_bytes IsHeadWithin trigger_bytes IsValidTrigger heads 1 c.args.value.now c.in-Some.numbers.now counted.rest.now c.triggers.new.self counted.count c.in-Some-2.triggers c.in-Some.ensures counted.ensures
    (subst (λ (o : Option (List Trigger)). TakesItems trigger_bytes IsValidTrigger counted.count counted.rest.now c.triggers.new.self o) c.in-Some-2.is c.in_ok-triggers.ensures)
    (λ e. false≢true (c.if-is_done.ensures.1 e))
