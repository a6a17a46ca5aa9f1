use Rattle.std.proofs.Common.{rules, ◌≡◌, subst, List, false, ℤ, w64}
use Rattle.std.proofs.lemmas.Int.{to_z-of_z}
use Rattle.std.specs.Prelude.{IfOk}
use Rattle.ev_types.specs.declared.answer.ActAns.{ActAns}
use Rattle.ev_types.specs.declared.answer.Answer.TheVariants as answer
use Rattle.zs_session.specs.declared.moves.Move.{Move}
use Rattle.zs_session.specs.Connecting.{Attached}
use Rattle.zs_session.proofs.Looked.{of_txn}
use Rattle.zs_session.proofs.answers.attached_anew.Goals as goal

pub returns-in-Txn-default-false-default-clause-ok : goal.returns-in-Txn-default-false-default-clause-ok
returns-in-Txn-default-false-default-clause-ok c =
    of_txn (λ z b ps m. Attached c.args.connect.now c.args.life z b ps m.phase m.step) c.args.answer.now _ _ _ c.looked_again_at.result (let is : c.args.answer.now ≡ answer.Txn c.in-Txn-default-false-default.revision false c.in-Txn-default-false-default.parts = search rules in is)
    (subst (λ (ps : List ActAns). IfOk c.looked_again_at.result (λ (m : Move). Attached c.args.connect.now c.args.life c.in-Txn-default-false-default.revision false ps m.phase m.step)) c.as_slice-in-Txn-default-false-default.ensures
    (subst (λ (n : ℤ). IfOk c.looked_again_at.result (λ (m : Move). Attached c.args.connect.now c.args.life n false c.as_slice-in-Txn-default-false-default.result.now m.phase m.step)) (to_z-of_z w64 c.in-Txn-default-false-default.revision (search rules)) c.looked_again_at.ensures.ok))
