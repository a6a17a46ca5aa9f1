-- The record of the session's life was looked up, and is not there, or was put at another revision.
use Rattle.std.proofs.Common.{◌≡◌, ℤ, false, Option, sym, subst, w64, rules, arith}
use Rattle.std.specs.Prelude.{nat_abs}
use Rattle.std.specs.Ordering.{int_eq}
use Rattle.std.proofs.lemmas.Grind.{common_steps}
use Rattle.std.proofs.lemmas.Int.{to_z-of_z}
use mir.Val.{SFits}
use Rattle.zn_layout.specs.Keys.{LeaseKey}
use Rattle.zn_ops.specs.Deciding.{IsAttachedAt}
use Rattle.zn_ops.proofs.SessionTests.{expired, expired-tested, life-looked_up, moved, moved-tested}
use Rattle.zn_view.specs.Deciding.{IsTested}
use Rattle.zn_view.specs.declared.plan.Decision.TheVariants.{Moved}
use Rattle.zn_view.specs.Lookups.{HasSeen, sees}
use Rattle.zn_view.specs.Views.{IsDecision}
use Rattle.zn_ops.proofs.deciding.decide_by_session.Goals as goal

pub attached_at-requires-clause-seen : goal.attached_at-requires-clause-seen
attached_at-requires-clause-seen c =
    let fits : SFits w64 c.args.who.session = search rules in
    subst (λ (z : ℤ). HasSeen c.args.view.now (LeaseKey (nat_abs z))) (sym (to_z-of_z w64 _ fits)) (life-looked_up c.args.request.now c.args.who c.args.view.now c.requires.formed c.requires.whole)

pub returns-in_default-clause-decision : goal.returns-in_default-clause-decision
returns-in_default-clause-decision c =
    let fits : SFits w64 c.args.who.session = search rules in
    let saw = subst (λ (z : ℤ). IsAttachedAt (sees c.args.view.now (LeaseKey (nat_abs z))) c.in_ok-found.field-0) (to_z-of_z w64 _ fits) c.in_ok-found.ensures in
    expired c.args.request.now c.args.who c.args.view.now c.requires.real c.requires.formed (subst (λ (o : Option ℤ). IsAttachedAt (sees c.args.view.now (LeaseKey (nat_abs c.args.who.session))) o) c.in_default.is saw)

pub returns-then-found-who-clause-decision : goal.returns-then-found-who-clause-decision
returns-then-found-who-clause-decision c =
    let fits : SFits w64 c.args.who.session = search rules in
    let found_fits : SFits w64 c.in-Some.found = search rules in
    let apart : int_eq c.in-Some.found c.args.who.mine ≡ false = first_of (search rules, grind (arith, common_steps)) in
    let saw = subst (λ (z : ℤ). IsAttachedAt (sees c.args.view.now (LeaseKey (nat_abs z))) c.in_ok-found.field-0) (to_z-of_z w64 _ fits) c.in_ok-found.ensures in
    subst (λ (n : ℤ). IsDecision c.args.request.now c.args.who c.args.view.now (Moved n)) (sym (to_z-of_z w64 _ found_fits))
    (moved c.args.request.now c.args.who c.args.view.now c.in-Some.found c.requires.real c.requires.formed (subst (λ (o : Option ℤ). IsAttachedAt (sees c.args.view.now (LeaseKey (nat_abs c.args.who.session))) o) c.in-Some.is saw) apart)

pub returns-in_default-clause-tested : goal.returns-in_default-clause-tested
returns-in_default-clause-tested c =
    let fits : SFits w64 c.args.who.session = search rules in
    let saw = subst (λ (z : ℤ). IsAttachedAt (sees c.args.view.now (LeaseKey (nat_abs z))) c.in_ok-found.field-0) (to_z-of_z w64 _ fits) c.in_ok-found.ensures in
    expired-tested c.args.request.now c.args.who c.args.view.now (subst (λ (o : Option ℤ). IsAttachedAt (sees c.args.view.now (LeaseKey (nat_abs c.args.who.session))) o) c.in_default.is saw)

pub returns-then-found-who-clause-tested : goal.returns-then-found-who-clause-tested
returns-then-found-who-clause-tested c =
    let fits : SFits w64 c.args.who.session = search rules in
    let found_fits : SFits w64 c.in-Some.found = search rules in
    let apart : int_eq c.in-Some.found c.args.who.mine ≡ false = first_of (search rules, grind (arith, common_steps)) in
    let saw = subst (λ (z : ℤ). IsAttachedAt (sees c.args.view.now (LeaseKey (nat_abs z))) c.in_ok-found.field-0) (to_z-of_z w64 _ fits) c.in_ok-found.ensures in
    subst (λ (n : ℤ). IsTested c.args.request.now c.args.who c.args.view.now (Moved n)) (sym (to_z-of_z w64 _ found_fits))
    (moved-tested c.args.request.now c.args.who c.args.view.now c.in-Some.found (subst (λ (o : Option ℤ). IsAttachedAt (sees c.args.view.now (LeaseKey (nat_abs c.args.who.session))) o) c.in-Some.is saw) apart)
