use Rattle.std.proofs.Common.{◌≡◌, sym, subst, arith, length}
use Rattle.std.specs.Prelude.{IfSome, Some, ℤ}
use Rattle.std.proofs.lemmas.Int.{ints}
use Rattle.ev_types.specs.Denials.{carry}
use Rattle.zp_world.proofs.Carried.{answers, asks-some}
use Rattle.zp_world.proofs.Stillness.{still}
use Rattle.zp_world.proofs.world.World.ask.Goals as goal
use Rattle.zp_world.proofs.world.World.ask.Goals.{then-revision, else-revision}

pub invariant_of-self : goal.invariant_of-self
invariant_of-self c =
    let carried : carry c.self.inside.store c.args.ask.now ≡ Some (c.carry_out.new.self, c.in-Ok.answer) = c.in-Ok.ensures.carried in
    let same : length c.carry_out.new.self.revisions ≡ length c.self.inside.store.revisions = grind (arith, ints, c.revision.ensures, c.revision-revision.ensures, c.if-revision.true) in
    (c.self.invariant.0, subst (λ (x : ℤ). IfSome c.self.inside.zxid (λ z. z ≡ x)) (sym (still c.self.inside.store c.carry_out.new.self c.args.ask.now c.in-Ok.answer carried same)) c.self.invariant.1)

pub returns-in-Ok-clause-answer : goal.returns-in-Ok-clause-answer
returns-in-Ok-clause-answer c = answers c.self.inside.store c.carry_out.new.self c.args.ask.now c.in-Ok.answer c.in-Ok.ensures.carried c.in-Ok.ensures.numbers

pub returns-in-Ok-clause-asks : goal.returns-in-Ok-clause-asks
returns-in-Ok-clause-asks c = elim c.if-revision.branch [
  | then-revision w ↦ asks-some _ _ _ c.carry_out.new.self c.args.ask.now c.in-Ok.answer c.self.view_is c.in-Ok.ensures.carried w.self-is
  | else-revision w ↦ asks-some _ _ _ c.carry_out.new.self c.args.ask.now c.in-Ok.answer c.self.view_is c.in-Ok.ensures.carried w.self-is
]
