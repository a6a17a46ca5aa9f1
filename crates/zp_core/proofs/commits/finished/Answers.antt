-- The reply has the number that the answer shows, and the revision as its zxid.
use Rattle.std.proofs.Common.{None, ◌∙◌, rules, w32, w64}
use Rattle.std.proofs.lemmas.Int.{to_z-of_z}
use mir.Val.{SFits}
use Rattle.zn_view.specs.Needs.{finished}
use Rattle.zp_step.specs.Plans.{end_after}
use Rattle.zp_step.specs.Stages.{AddsWatch}
use Rattle.zp_core.proofs.commits.finished.Goals as goal

pub returns : goal.returns
returns c =
    let number_fits : SFits w64 c.number_in-number.result = search rules in
    let xid_fits : SFits w32 c.deref-2.result.now.xid = search rules in
    let number = to_z-of_z w64 _ number_fits ∙ c.number_in-number.ensures in
    let zxid = to_z-of_z w64 _ c.ranges.revision in
    let xid = to_z-of_z w32 _ xid_fits ∙ (λ i. (c.deref-2.ensures i).xid) ∙ (λ i. (c.deref.ensures i).task.value.xid) in
    let answer = c.in_ok-answer.ensures ∙ (λ i. finished (zxid i) (c.into_inner.ensures i).plan.draft) in
    let ends = c.end_after-ends.ensures ∙ (λ i. end_after (c.deref-4.ensures i).request) ∙ (λ i. end_after (c.deref-3.ensures i).task.value.request) in
    (λ i. record { number = number i; zxid = zxid i; xid = xid i; answer = answer i; change = AddsWatch None; ends = ends i })
