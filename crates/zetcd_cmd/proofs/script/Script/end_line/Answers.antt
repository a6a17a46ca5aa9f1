use Rattle.std.proofs.Common.{◌++◌, arith}
use Rattle.std.proofs.lemmas.Result.{err_from_is_err_and}
use Rattle.zetcd_cmd.proofs.Appending.{Halts-appends}
use Rattle.zetcd_cmd.proofs.Progress.{HasRead-line, Ends-line, IsOver-line}
use Rattle.zetcd_cmd.proofs.script.Script.end_line.Goals as goal

pub returns-in_err-apply_with-clause-err : goal.returns-in_err-apply_with-clause-err
returns-in_err-apply_with-clause-err c =
    let p = err_from_is_err_and c.from_residual.result c.from_residual.ensures.1 in
    rw (p.1, p.2) (λ seen rest r fits.
    Ends-line seen c.args.bytes.now rest c.args.self.now c.apply_with.new.self c.in_err-apply_with.field-0.0 c.requires c.in_err-apply_with.ensures.err c.in_err-apply_with.ensures.line r fits)

pub returns-clause-ok : goal.returns-clause-ok
returns-clause-ok c = λ seen r fits.
    HasRead-line seen c.args.bytes.now c.args.self.now _ c.requires c.in_ok-apply_with.ensures.ok c.in_ok-apply_with.ensures.empty
    (let line = c.in_ok-apply_with.ensures.line in grind (arith, c.saturating_add-self.ensures)) r fits

pub returns-in_err-apply_with-clause-over : goal.returns-in_err-apply_with-clause-over
returns-in_err-apply_with-clause-over c =
    let p = err_from_is_err_and c.from_residual.result c.from_residual.ensures.1 in
    rw p.1 (λ seen rest r fits. IsOver-line seen c.args.bytes.now rest c.args.self.now _ c.in_err-apply_with.ensures.line r fits)

pub returns-clause-grown : goal.returns-clause-grown
returns-clause-grown c = c.in_ok-apply_with.ensures.ok.0

pub returns-in_err-apply_with-clause-kept : goal.returns-in_err-apply_with-clause-kept
returns-in_err-apply_with-clause-kept c =
    let p = err_from_is_err_and c.from_residual.result c.from_residual.ensures.1 in
    rw (p.1, p.2) (λ known.
    Halts-appends (c.args.self.now.pending.items ++ c.args.bytes.now) c.args.self.now.world c.in_err-apply_with.field-0.0 c.apply_with.new.self.world c.in_err-apply_with.ensures.err known)
