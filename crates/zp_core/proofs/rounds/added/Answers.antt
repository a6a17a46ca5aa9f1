-- What was left to ask is what is lacking.
use Rattle.std.proofs.Common.{rules, arith, w64, ℤ, ◌≡◌, ◌≤◌, sym, subst, true, length}
use Rattle.std.proofs.lemmas.Int.{to_z-of_z}
use Rattle.zn_view.specs.Adding.{IsOtherRevision, at_revision}
use Rattle.zn_view.specs.Asks.{with_parts}
use Rattle.zn_view.specs.Needs.{AreNeeds}
use Rattle.zp_core.specs.Left.{is_set_watches}
use Rattle.zp_core.specs.declared.stage.Task.{Task}
use Rattle.zp_core.proofs.StillLacking.{still-lacking}
use Rattle.zp_core.proofs.rounds.added.Goals as goal

pub returns-then-is_left-clause-needs : goal.returns-then-is_left-clause-needs
returns-then-is_left-clause-needs c =
    let round = c.args.round in
    let who = c.open-task.result.who in
    let left = c.open-task.result.left.items in
    let after : c.add.new.task ≡ record round { view = with_parts (at_revision round.view c.args.revision) round.asked c.args.parts.now } = search rules in
    let is : is_set_watches round.request ≡ true = search rules in
    let same : who.session ≡ c.args.who.session = search rules in
    let asked : c.len.result ≡ length round.asked = search rules in
    let fits = c.if-is_left.ensures.each in
    let each : length round.asked ≤ length c.args.parts.now = omega (arith, asked, fits) in
    subst (λ (t : Task). AreNeeds t.request c.args.who t.view left) (sym after)
    (still-lacking round.request who c.args.who round.view round.asked left c.args.revision c.args.parts.now is same each c.open-task.ensures.needs)

pub returns-then-is_left-clause-same_revision : goal.returns-then-is_left-clause-same_revision
returns-then-is_left-clause-same_revision c =
    let before : c.deref_mut.result.now ≡ c.args.round = search rules in
    let number = sym (to_z-of_z w64 c.args.revision c.ranges.revision) in
    λ other.
    c.in_ok-add.ensures.same_revision
    (subst (λ (n : ℤ). IsOtherRevision c.deref_mut.result.now.view n) number (subst (λ (t : Task). IsOtherRevision t.view c.args.revision) (sym before) other))
