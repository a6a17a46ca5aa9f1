use Rattle.std.proofs.Common.{subst, List, ℤ, w64, rules}
use Rattle.std.proofs.lemmas.Int.{to_z-of_z}
use Rattle.std.specs.Prelude.{IfOk}
use Rattle.ev_types.specs.declared.answer.ActAns.{ActAns}
use Rattle.zs_session.specs.declared.moves.Move.{Move}
use Rattle.zs_session.specs.Connecting.{ConnectLookedAgain}
use Rattle.zs_session.proofs.Looked.{of_txn}
use Rattle.zs_session.proofs.answers.looked_again.Goals as goal

pub returns-clause-ok : goal.returns-clause-ok
returns-clause-ok c =
    of_txn (λ z b ps m. ConnectLookedAgain c.args.connect.now z ps m.phase m.step) c.args.answer.now _ _ _ c.looked_again_at.result (c.in-Txn.is)
    (subst (λ (ps : List ActAns). IfOk c.looked_again_at.result (λ (m : Move). ConnectLookedAgain c.args.connect.now c.in-Txn.revision ps m.phase m.step)) c.as_slice.ensures
    (subst (λ (n : ℤ). IfOk c.looked_again_at.result (λ (m : Move). ConnectLookedAgain c.args.connect.now n c.as_slice.result.now m.phase m.step)) (to_z-of_z w64 c.in-Txn.revision (search rules)) c.looked_again_at.ensures.ok))
