use Rattle.std.proofs.Common.{◌≡◌, ◌≤◌, ◌++◌, length, refl, ◌∙◌}
use Rattle.std.proofs.lemmas.Result.{err_from_is_err_and, on_ok_weaker, IfErr-weaker}
use Rattle.zt_text.specs.Scripts.{max_line}
use Rattle.zetcd_cmd.specs.declared.script.Stop.{Stop}
use Rattle.zetcd_cmd.specs.Scripting.{IsKeptOut}
use Rattle.zetcd_cmd.proofs.Appending.{Appends-same, Appends-then}
use Rattle.zetcd_cmd.proofs.Progress.{Goes-line, Goes-halts, Goes-begun, Goes-kept_out, Over-halts, Over-kept_out}
use Rattle.zetcd_cmd.proofs.script.Script.take_lines.Goals as goal

pub returns-in_err-end_line-clause-err : goal.returns-in_err-end_line-clause-err
returns-in_err-end_line-clause-err c =
    let p = err_from_is_err_and c.from_residual.result c.from_residual.ensures.1 in
    rw (p.1, p.2) (Goes-halts c.args.self.now c.lines.self c.end_line.new.self c.args.bytes.now c.lines.rest.now c.in-Some.line.now c.in-Some.later.now c.in_err-end_line.field-0.0
    c.in-Some.ensures.0 c.in_err-end_line.ensures.err c.lines.invariant.goes)

pub lines-init : goal.lines-init
lines-init c = record {
  goes = λ seen r fits. (seen, r, refl);
  room = refl;
  grown = Appends-same c.args.self.now.world c.args.self.now.world refl;
}

pub lines-preserved : goal.lines-preserved
lines-preserved c = record {
  goes = Goes-line c.args.self.now c.lines.self c.end_line.new.self c.args.bytes.now c.lines.rest.now c.in-Some.line.now c.in-Some.later.now c.in-Some.ensures.0 c.in_ok-end_line.ensures.ok c.lines.invariant.goes;
  room = c.in_ok-end_line.ensures.room ∙ c.lines.invariant.room;
  grown = Appends-then c.args.self.now.world c.lines.self.world c.end_line.new.self.world c.lines.invariant.grown c.in_ok-end_line.ensures.grown;
}

pub returns-clause-ok : goal.returns-clause-ok
returns-clause-ok c =
    on_ok_weaker c.keep.result
    (λ (kept : (c.keep.new.pending.items ≡ c.lines.self.pending.items ++ c.lines.rest.now) × (length c.keep.new.pending.items ≤ max_line)).
    Goes-begun c.args.self.now c.lines.self _ c.args.bytes.now c.lines.rest.now c.in_default.ensures kept.0 kept.1 refl refl c.lines.invariant.goes)
    c.keep.ensures.ok

pub returns-clause-err : goal.returns-clause-err
returns-clause-err c =
    IfErr-weaker c.keep.result (λ (why : Stop). IsKeptOut (c.lines.self.pending.items ++ c.lines.rest.now) why) _
    (λ why out. Goes-kept_out c.args.self.now c.lines.self _ c.args.bytes.now c.lines.rest.now why c.in_default.ensures out refl refl c.lines.invariant.goes)
    c.keep.ensures.err

pub returns-in_err-end_line-clause-over : goal.returns-in_err-end_line-clause-over
returns-in_err-end_line-clause-over c =
    let p = err_from_is_err_and c.from_residual.result c.from_residual.ensures.1 in
    rw (p.1, p.2) (Over-halts c.args.self.now c.lines.self c.end_line.new.self c.args.bytes.now c.lines.rest.now c.in-Some.line.now c.in-Some.later.now c.in_err-end_line.field-0.0
    c.in-Some.ensures.0 c.in_err-end_line.ensures.over c.lines.invariant.goes)

pub returns-clause-over : goal.returns-clause-over
returns-clause-over c =
    IfErr-weaker c.keep.result (λ (why : Stop). IsKeptOut (c.lines.self.pending.items ++ c.lines.rest.now) why) _
    (λ why out. Over-kept_out c.args.self.now c.lines.self (record c.lines.self { pending = c.keep.new.pending }) c.args.bytes.now c.lines.rest.now why out refl c.lines.invariant.goes)
    c.keep.ensures.err

pub returns-in_err-end_line-clause-kept : goal.returns-in_err-end_line-clause-kept
returns-in_err-end_line-clause-kept c =
    let p = err_from_is_err_and c.from_residual.result c.from_residual.ensures.1 in
    rw (p.1, p.2) (λ known.
    Appends-then c.args.self.now.world c.lines.self.world c.end_line.new.self.world c.lines.invariant.grown (c.in_err-end_line.ensures.kept known))

pub returns-clause-grown : goal.returns-clause-grown
returns-clause-grown c =
    on_ok_weaker c.keep.result
    (λ (kept : (c.keep.new.pending.items ≡ c.lines.self.pending.items ++ c.lines.rest.now) × (length c.keep.new.pending.items ≤ max_line)). c.lines.invariant.grown)
    c.keep.ensures.ok

pub returns-clause-kept : goal.returns-clause-kept
returns-clause-kept c =
    IfErr-weaker c.keep.result (λ (why : Stop). IsKeptOut (c.lines.self.pending.items ++ c.lines.rest.now) why) _ (λ why out known. c.lines.invariant.grown) c.keep.ensures.err
