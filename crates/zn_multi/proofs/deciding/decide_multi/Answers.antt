use Rattle.std.proofs.Common.{◌≡◌, ◌≤◌, ◌∙◌, true, length, sym, subst, arith}
use Rattle.std.specs.Prelude.{nat_lt}
use Rattle.std.proofs.lemmas.Bool.Decides.{nat_tests}
use Rattle.std.proofs.lemmas.Result.{IfOk-weaker}
use Rattle.zx_base.proofs.Options.{none_some}
use Rattle.zk_model.specs.declared.request.Request.TheVariants as req
use Rattle.zk_model.specs.Limits.{max_parts}
use Rattle.zn_view.specs.Asks.{WritesOnce}
use Rattle.zn_view.specs.Deciding.{IsGood}
use Rattle.zn_view.specs.Views.{IsDecision}
use Rattle.zn_view.proofs.Tested.{form-decides}
use Rattle.zn_ops.proofs.SessionTests.{form-told, plain-told}
use Rattle.zn_multi.proofs.Needs.{many_test, plain_few, whole_life}
use Rattle.zn_multi.proofs.Promised.{is_decision, is_promised, is_tested, planned-weaker, IsPromised}
use Rattle.zn_multi.proofs.deciding.decide_multi.Goals as goal

pub returns-then-parts-gt-MAX_PARTS-clause-decision : goal.returns-then-parts-gt-MAX_PARTS-clause-decision
returns-then-parts-gt-MAX_PARTS-clause-decision c =
    let many : nat_lt max_parts (length c.args.parts.now) ≡ true = grind (arith, nat_tests) in
    subst (IsDecision (req.Multi c.args.parts.now) c.args.who c.args.view.now) (sym c.refused.ensures) (form-decides (req.Multi c.args.parts.now) c.args.who c.args.view.now _ (many_test c.args.parts.now many))

pub returns-then-parts-gt-MAX_PARTS-clause-tested : goal.returns-then-parts-gt-MAX_PARTS-clause-tested
returns-then-parts-gt-MAX_PARTS-clause-tested c = λ none.
    let many : nat_lt max_parts (length c.args.parts.now) ≡ true = grind (arith, nat_tests) in
    absurd (none_some (sym none ∙ many_test c.args.parts.now many))

pub returns-then-parts-gt-MAX_PARTS-clause-form : goal.returns-then-parts-gt-MAX_PARTS-clause-form
returns-then-parts-gt-MAX_PARTS-clause-form c =
    let many : nat_lt max_parts (length c.args.parts.now) ≡ true = grind (arith, nat_tests) in
    form-told (req.Multi c.args.parts.now) c.refused.result _ (many_test c.args.parts.now many) c.refused.ensures

pub returns-clause-form : goal.returns-clause-form
returns-clause-form c =
    let few : length c.args.parts.now ≤ max_parts = omega arith in
    IfOk-weaker c.decide_by_session.result _ _ (λ d is. plain-told (req.Multi c.args.parts.now) d (plain_few c.args.parts.now few)) c.decide_by_session.ensures

pub returns-clause-decision : goal.returns-clause-decision
returns-clause-decision c =
    let few : length c.args.parts.now ≤ max_parts = omega arith in
    IfOk-weaker c.decide_by_session.result _ _ (λ d is. is_decision c.args.parts.now c.args.who c.args.now c.args.view.now c.requires.time c.requires.short c.requires.real few c.requires.whole d is) c.decide_by_session.ensures

pub returns-clause-tested : goal.returns-clause-tested
returns-clause-tested c =
    let few : length c.args.parts.now ≤ max_parts = omega arith in
    IfOk-weaker c.decide_by_session.result _ _ (λ d is. is_tested c.args.parts.now c.args.who c.args.now c.args.view.now c.requires.time c.requires.short c.requires.real few c.requires.whole d is) c.decide_by_session.ensures

pub decide_by_session-requires-clause-life : goal.decide_by_session-requires-clause-life
decide_by_session-requires-clause-life c =
    let few : length c.args.parts.now ≤ max_parts = omega arith in
    whole_life c.args.parts.now c.args.who c.args.view.now few c.requires.whole

pub returns-clause-plan : goal.returns-clause-plan
returns-clause-plan c =
    let few : length c.args.parts.now ≤ max_parts = omega arith in
    IfOk-weaker c.decide_by_session.result _ _ (λ d is. planned-weaker (IsPromised c.args.parts.now c.args.who c.args.now c.args.view.now) (IsGood (req.Multi c.args.parts.now) c.args.who c.args.now c.args.view.now) (λ p h. h.good) d
    (is_promised c.args.parts.now c.args.who c.args.now c.args.view.now c.requires.time c.requires.short c.requires.real few c.requires.whole d is)) c.decide_by_session.ensures

pub returns-clause-once : goal.returns-clause-once
returns-clause-once c =
    let few : length c.args.parts.now ≤ max_parts = omega arith in
    IfOk-weaker c.decide_by_session.result _ _ (λ d is. planned-weaker (IsPromised c.args.parts.now c.args.who c.args.now c.args.view.now) WritesOnce (λ p h. h.once) d
    (is_promised c.args.parts.now c.args.who c.args.now c.args.view.now c.requires.time c.requires.short c.requires.real few c.requires.whole d is)) c.decide_by_session.ensures
