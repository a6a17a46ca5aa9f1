use Rattle.std.proofs.Common.{◌≡◌, ℕ, suc, ◌+◌, ◌-◌, refl, sym, subst, arith}
use Rattle.zp_script.specs.Happens.{Settles}
use Rattle.zp_world.proofs.Settled.{move-possible, settles-more, settles-none}
use Rattle.zp_world.specs.Moving.{line_of}
use Rattle.zp_world.proofs.world.World.settle.Goals as goal

pub make-requires : goal.make-requires
make-requires c = move-possible c.args.connection c.loop-done.self c.in-Some.next (sym c.in-Some.ensures)

pub loop-done-init : goal.loop-done-init
loop-done-init c = λ w' h.
    let all : c.max_settling-bound.result - 0 ≡ c.max_settling-bound.result = omega arith in
    subst (λ (n : ℕ). Settles n c.args.connection c.args.self.now w') all h

pub loop-done-preserved : goal.loop-done-preserved
loop-done-preserved c = λ w' h.
    let left : ℕ = c.max_settling-bound.result - (c.loop-done._done + 1) in
    let one : suc left ≡ c.max_settling-bound.result - c.loop-done._done = omega arith in
    c.loop-done.invariant w' (subst (λ (n : ℕ). Settles n c.args.connection c.loop-done.self w') one
    (settles-more left c.args.connection c.loop-done.self c.make.new.self w' (line_of c.args.connection c.in-Some.next) (sym c.in-Some.ensures) c.in_ok-make.ensures h))

pub returns-in_default : goal.returns-in_default
returns-in_default c =
    subst (λ (n : ℕ). Settles n c.args.connection c.args.self.now c.loop-done.self) c.max_settling-bound.ensures
    (c.loop-done.invariant c.loop-done.self (settles-none _ c.args.connection c.loop-done.self (sym c.in_default.ensures)))

pub returns : goal.returns
returns c =
    let none : 0 ≡ c.max_settling-bound.result - c.loop-done._done = omega arith in
    subst (λ (n : ℕ). Settles n c.args.connection c.args.self.now c.loop-done.self) c.max_settling-bound.ensures
    (c.loop-done.invariant c.loop-done.self (subst (λ (n : ℕ). Settles n c.args.connection c.loop-done.self c.loop-done.self) none refl))
