use Rattle.std.proofs.Common.{take, refl, arith}
use Rattle.std.proofs.lemmas.Grind.{common_steps}
use Rattle.std.proofs.lemmas.Result.{err_from_is_err_and}
use Rattle.zetcd_cmd.proofs.Progress.{EndsEarly-front, EndsEarly-over, EndsEarly-piece}
use Rattle.zetcd_cmd.proofs.script.Script.take.Goals as goal

pub returns-in_err-take_lines-clause-err : goal.returns-in_err-take_lines-clause-err
returns-in_err-take_lines-clause-err c =
    let p = err_from_is_err_and c.from_residual.result c.from_residual.ensures.1 in
    rw (p.1, p.2) (λ seen st.
    EndsEarly-front seen c.args.piece.now (take c.args.self.now.room c.args.piece.now) c.args.self.now c.take_lines.new.self c.in_err-take_lines.field-0.0 refl (grind (arith, common_steps))
    c.in_err-take_lines.ensures.err c.in_err-take_lines.ensures.over st)

pub returns-then-piece-self-clause-err : goal.returns-then-piece-self-clause-err
returns-then-piece-self-clause-err c = λ seen st.
    EndsEarly-over seen c.args.piece.now (take c.args.self.now.room c.args.piece.now) c.args.self.now c.take_lines.new.self refl (grind (arith, common_steps)) (omega arith) c.in_ok-take_lines.ensures.ok st

pub returns-in_err-take_lines-2-clause-err : goal.returns-in_err-take_lines-2-clause-err
returns-in_err-take_lines-2-clause-err c =
    let p = err_from_is_err_and c.from_residual-in_err-take_lines-2.result c.from_residual-in_err-take_lines-2.ensures.1 in
    rw (p.1, p.2) (λ seen st.
    EndsEarly-piece seen c.args.piece.now c.args.self.now c.take_lines-2.new.self c.in_err-take_lines-2.field-0.0 (omega arith) c.in_err-take_lines-2.ensures.err c.in_err-take_lines-2.ensures.over st)

pub returns-in_err-take_lines-clause-kept : goal.returns-in_err-take_lines-clause-kept
returns-in_err-take_lines-clause-kept c =
    let p = err_from_is_err_and c.from_residual.result c.from_residual.ensures.1 in
    rw (p.1, p.2) c.in_err-take_lines.ensures.kept

pub returns-then-piece-self-clause-kept : goal.returns-then-piece-self-clause-kept
returns-then-piece-self-clause-kept c = λ known. c.in_ok-take_lines.ensures.grown

pub returns-in_err-take_lines-2-clause-kept : goal.returns-in_err-take_lines-2-clause-kept
returns-in_err-take_lines-2-clause-kept c =
    let p = err_from_is_err_and c.from_residual-in_err-take_lines-2.result c.from_residual-in_err-take_lines-2.ensures.1 in
    rw (p.1, p.2) c.in_err-take_lines-2.ensures.kept
