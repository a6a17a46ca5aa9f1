use Rattle.std.proofs.Common.{◌≡◌, ℕ, subst}
use Rattle.zk_model.specs.Multi.{Stopped as StoppedAt, parts_of}
use Rattle.zn_multi.proofs.Leading.{limit_is, parts_pass, parts_stop}
use Rattle.zn_multi.proofs.laws.parts_are_carried_out_in_turn.Goals as goal

pub returns-clause-stops : goal.returns-clause-stops
returns-clause-stops c = λ who now v near parts s z x place code run saw narrow time short sound shown opened.
    subst (λ (limit : ℕ). parts_of s.tree limit who.session parts z now ≡ StoppedAt place code) (limit_is who now time v near narrow parts s z sound shown x opened)
    (parts_stop who now time v near narrow parts s z sound shown x opened place code run saw short)

pub returns-clause-passes : goal.returns-clause-passes
returns-clause-passes c = λ who now v near parts s z x p run saw narrow time short sound shown opened. parts_pass who now time v near narrow parts s z sound shown x opened p run saw short
