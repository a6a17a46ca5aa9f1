use Rattle.std.proofs.Common.{arith, ◌≡◌, ◌++◌, [], List, ℕ, OnOk, subst, sym}
use Rattle.std.proofs.lemmas.Grind.{common_steps}
use Rattle.std.proofs.lemmas.Result.{err_from_is_err_and}
use Rattle.zetcd_cmd.specs.Scripting.{Plays}
use Rattle.zetcd_cmd.proofs.Progress.{Halts-kept_out}
use Rattle.zetcd_cmd.proofs.script.Script.apply_with.Goals as goal

pub returns-then-is_empty-clause-ok : goal.returns-then-is_empty-clause-ok
returns-then-is_empty-clause-ok c =
    let none : c.args.self.now.pending.items ≡ [] = grind (arith, common_steps) in
    subst (λ (line : List ℕ). OnOk c.apply_line.result (Plays (line ++ c.args.bytes.now) c.args.self.now.world c.apply_line.new.world)) (sym none) c.apply_line.ensures.ok

pub returns-in_err-keep-clause-err : goal.returns-in_err-keep-clause-err
returns-in_err-keep-clause-err c =
    let p = err_from_is_err_and c.from_residual.result c.from_residual.ensures.1 in
    rw (p.1, p.2) (Halts-kept_out _ _ c.in_err-keep.field-0.0 c.in_err-keep.ensures.err)

pub returns-clause-ok : goal.returns-clause-ok
returns-clause-ok c =
    subst (λ (line : List ℕ). OnOk c.apply_pending.result (Plays line c.args.self.now.world c.apply_pending.new.self.world)) c.in_ok-keep.ensures.ok.0 c.apply_pending.ensures.ok
