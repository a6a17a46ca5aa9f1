use Rattle.std.proofs.Common.{◌≡◌, subst}
use Rattle.std.specs.Bool.{MatchBool}
use Rattle.std.proofs.lemmas.Result.{err_from_is_err_and}
use Rattle.serde_json.specs.Data.{Data, Items, no_items, item}
use Rattle.ev_fields.specs.Places.{data_at, items_at}
use Rattle.ev_json.specs.Answers.{parts_in}
use Rattle.ev_json.proofs.Pairs.{part_goes_on, part_ends, part_missing, part_too_many, part_done}
use Rattle.ev_json.proofs.answer_value.parts.Goals as goal

pub returns-in_default : goal.returns-in_default
returns-in_default c =
    rw c.broken.ensures (part_missing c.loop-act.list.items c.args.acts.now c.loop-act.act-index c.act-item.result (items_at c.loop-act.values) (parts_in c.args.acts.now (items_at c.args.values)) c.loop-act-test.true c.act-item.is c.in_default.ensures.value c.loop-act.invariant)

pub returns-in_err-part : goal.returns-in_err-part
returns-in_err-part c =
    let p = err_from_is_err_and c.from_residual-in_err-part.result c.from_residual-in_err-part.ensures.1 in
    rw (p.1, p.2) (part_ends c.in_err-part.field-0.0 c.loop-act.list.items c.args.acts.now c.loop-act.act-index c.act-item.result (items_at c.loop-act.values) (items_at c.next.new.self) (data_at c.in-Some.value) (parts_in c.args.acts.now (items_at c.args.values)) c.loop-act-test.true c.act-item.is c.in-Some.ensures.value c.in_err-part.ensures c.loop-act.invariant)

pub loop-act-preserved : goal.loop-act-preserved
loop-act-preserved c =
    rw c.in_ok-push.ensures.items (part_goes_on c.loop-act.list.items c.args.acts.now c.loop-act.act-index c.act-item.result (items_at c.loop-act.values) (items_at c.next.new.self) (data_at c.in-Some.value) c.in_ok-part.field-0 (parts_in c.args.acts.now (items_at c.args.values)) c.loop-act-test.true c.act-item.is c.in-Some.ensures.value c.in_ok-part.ensures c.loop-act.invariant)

pub returns-then-not-are_over : goal.returns-then-not-are_over
returns-then-not-are_over c =
    let more = subst (λ b. MatchBool b (items_at c.loop-act.values ≡ no_items) ((d : Data) × (rest : Items) × (items_at c.loop-act.values ≡ item d rest))) c.if-not-are_over.true c.are_over.ensures in
    rw c.broken-then-not-are_over.ensures (part_too_many c.loop-act.list.items c.args.acts.now c.loop-act.act-index (items_at c.loop-act.values) more.1 more.0 (parts_in c.args.acts.now (items_at c.args.values)) c.loop-act-test.false more.2 c.loop-act.invariant)

pub returns : goal.returns
returns c =
    let over = subst (λ b. MatchBool b (items_at c.loop-act.values ≡ no_items) ((d : Data) × (rest : Items) × (items_at c.loop-act.values ≡ item d rest))) c.if-not-are_over.false c.are_over.ensures in
    part_done c.loop-act.list.items c.args.acts.now c.loop-act.act-index (items_at c.loop-act.values) (parts_in c.args.acts.now (items_at c.args.values)) c.loop-act-test.false over c.loop-act.invariant
