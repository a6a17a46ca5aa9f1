use Rattle.std.proofs.Common.{◌≡◌, ◌+◌, ◌-◌, ◌/◌, [], set, ap, ◌∙◌, subst, arith, sym, ℕ}
use Rattle.zn_layout.specs.Keys.{hex_digits}
use Rattle.zn_layout.proofs.Digits.{AreWritten, one_more, ended}
use Rattle.zn_layout.proofs.key.digits_of.Goals as goal

pub loop-i-preserved : goal.loop-i-preserved
loop-i-preserved c =
    let l = c.loop-i in
    subst (λ (d : ℕ). AreWritten c.args.n (hex_digits 15 c.args.n []) (l.i + 1) (l.rest / 16) (set l.digits (15 - l.i) d)) (sym c.hex_digit.ensures)
    (one_more c.args.n l.i l.rest (hex_digits 15 c.args.n []) l.digits c.loop-i-test.true l.invariant)

pub returns : goal.returns
returns c =
    let l = c.loop-i in
    let all : l.i ≡ 15 = omega arith in
    ap (λ d. set l.digits 0 d) c.hex_digit-2.ensures
    ∙ ended c.args.n l.rest (hex_digits 15 c.args.n []) l.digits (subst (λ i. AreWritten c.args.n (hex_digits 15 c.args.n []) i l.rest l.digits) all l.invariant)
