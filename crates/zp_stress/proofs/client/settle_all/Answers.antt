use Rattle.std.proofs.Common.{◌≡◌, ℕ, suc, ◌+◌, ◌-◌, refl, subst, arith}
use Rattle.zp_stress.specs.Clients.{settlings}
use Rattle.zp_stress.specs.Passing.{PassesAll}
use Rattle.zp_stress.proofs.client.settle_all.Goals as goal

pub loop-number-init : goal.loop-number-init
loop-number-init c = λ end h.
    let all : c.args.connections - 0 ≡ c.args.connections = omega arith in
    subst (λ (n : ℕ). PassesAll c.args.world.now (settlings n 1) end) all h

pub loop-number-preserved : goal.loop-number-preserved
loop-number-preserved c = λ end h.
    let i : ℕ = c.loop-number.number + 1 in
    let left : ℕ = c.args.connections - (c.loop-number.number + 1) in
    let one : suc left ≡ c.args.connections - c.loop-number.number = omega arith in
    c.loop-number.invariant end (subst (λ (n : ℕ). PassesAll c.loop-number.world (settlings n i) end) one
    (c.pass.new.world, c.in_ok-pass.ensures.passes, h))

pub returns : goal.returns
returns c =
    let none : 0 ≡ c.args.connections - c.loop-number.number = omega arith in
    c.loop-number.invariant c.loop-number.world (subst (λ (n : ℕ). PassesAll c.loop-number.world (settlings n (c.loop-number.number + 1)) c.loop-number.world) none refl)
