use Rattle.std.proofs.Common.{◌≡◌, Some, None, sym, ap, ◌∙◌, subst, arith}
use Rattle.serde_json.specs.Data.{item, no_items}
use Rattle.ev_fields.specs.Places.{AreHeld, or_closed, data_at, items_at}
use Rattle.ev_fields.proofs.Placed.{closed, closed_none, steps}
use Rattle.ev_fields.proofs.place.Places.next.Goals as goal

pub returns-in_err-items-clause-value : goal.returns-in_err-items-clause-value
returns-in_err-items-clause-value c =
    let gone : c.from_residual.result ≡ None = grind arith in
    let now = ap or_closed c.in_err-items.ensures.value ∙ c.self.view_is in
    rw gone (subst (λ ts. items_at ts ≡ no_items) now closed_none)

pub invariant_of-self-in_err-element : goal.invariant_of-self-in_err-element
invariant_of-self-in_err-element c = subst (λ o. AreHeld (or_closed o)) (sym c.take.ensures.after) closed

pub returns-in_err-element-clause-value : goal.returns-in_err-element-clause-value
returns-in_err-element-clause-value c =
    let gone : c.from_residual-in_err-element.result ≡ None = grind arith in
    let held = subst (λ o. AreHeld (or_closed o)) (sym c.in_ok-items.ensures.value) c.self.invariant in
    let now = ap or_closed c.in_ok-items.ensures.value ∙ c.self.view_is in
    rw gone (subst (λ ts. items_at ts ≡ no_items) now (steps c.in_ok-items.items None c.next.new.self held c.in_err-element.ensures.value))

pub invariant_of-result : goal.invariant_of-result
invariant_of-result c = (steps c.in_ok-items.items (Some c.in_ok-element.element) c.next.new.self (subst (λ o. AreHeld (or_closed o)) (sym c.in_ok-items.ensures.value) c.self.invariant) c.in_ok-element.ensures.value).0

pub invariant_of-self-2 : goal.invariant_of-self-2
invariant_of-self-2 c = (steps c.in_ok-items.items (Some c.in_ok-element.element) c.next.new.self (subst (λ o. AreHeld (or_closed o)) (sym c.in_ok-items.ensures.value) c.self.invariant) c.in_ok-element.ensures.value).1

pub returns-clause-value : goal.returns-clause-value
returns-clause-value c =
    let now = ap or_closed c.in_ok-items.ensures.value ∙ c.self.view_is in
    subst (λ ts. items_at ts ≡ item (data_at c.in_ok-element.element) (items_at c.next.new.self)) now (steps c.in_ok-items.items (Some c.in_ok-element.element) c.next.new.self (subst (λ o. AreHeld (or_closed o)) (sym c.in_ok-items.ensures.value) c.self.invariant) c.in_ok-element.ensures.value).2
