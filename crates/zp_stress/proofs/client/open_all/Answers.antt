use Rattle.std.proofs.Common.{◌≡◌, ℕ, suc, ◌+◌, ◌-◌, refl, subst, arith}
use Rattle.zp_stress.specs.Clients.{opening, openings}
use Rattle.zp_stress.specs.Passing.{PassesAll}
use Rattle.zp_stress.proofs.Joining.{passes_append}
use Rattle.zp_stress.proofs.client.open_all.Goals as goal

pub loop-number-init : goal.loop-number-init
loop-number-init c = λ end h.
    let all : c.args.connections - 0 ≡ c.args.connections = omega arith in
    subst (λ (n : ℕ). PassesAll c.args.world.now (openings n 1) end) all h

pub loop-number-preserved : goal.loop-number-preserved
loop-number-preserved c = λ end h.
    let i : ℕ = c.loop-number.number + 1 in
    let left : ℕ = c.args.connections - (c.loop-number.number + 1) in
    let one : suc left ≡ c.args.connections - c.loop-number.number = omega arith in
    c.loop-number.invariant end (subst (λ (n : ℕ). PassesAll c.loop-number.world (openings n i) end) one
    (passes_append (opening i) (openings left (i + 1)) c.loop-number.world c.open.new.world end c.in_ok-open.ensures h))

pub returns : goal.returns
returns c =
    let none : 0 ≡ c.args.connections - c.loop-number.number = omega arith in
    c.loop-number.invariant c.loop-number.world (subst (λ (n : ℕ). PassesAll c.loop-number.world (openings n (c.loop-number.number + 1)) c.loop-number.world) none refl)
