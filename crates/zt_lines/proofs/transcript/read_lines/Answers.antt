use Rattle.std.proofs.Common.{◌≡◌, ◌+◌, arith, ◌∙◌, sym}
use Rattle.std.proofs.lemmas.Result.{err_from_is_err_and}
use Rattle.zt_lines.specs.Transcripts.{lines_from, nothing_after}
use Rattle.zt_text.specs.Scripts.{pieces}
use Rattle.zt_lines.proofs.LineLaws.{same_fault, fault-last, fault-unread, lines_from-further}
use Rattle.zt_lines.proofs.transcript.read_lines.Goals as goal

pub returns-then-is_last_line-clause-err : goal.returns-then-is_last_line-clause-err
returns-then-is_last_line-clause-err c =
    let next : c.saturating_add.result ≡ c.lines.number + 1 = omega arith in
    same_fault c.nothing_after.result (nothing_after c.args.is_cut c.saturating_add.result (pieces 10 c.in-Some.after.now)) (lines_from c.args.is_cut 1 (pieces 10 c.args.bytes.now))
    (fault-last c.args.is_cut c.lines.number c.saturating_add.result c.args.bytes.now c.lines.rest.now c.in-Some.line.now c.in-Some.after.now c.lines.lines.items c.lines.invariant.told c.in-Some.ensures.pieces
    (sym c.is_last_line.ensures ∙ c.if-is_last_line.true) next)
    c.nothing_after.ensures.err

pub returns-in_err-add_line-clause-err : goal.returns-in_err-add_line-clause-err
returns-in_err-add_line-clause-err c =
    let p = err_from_is_err_and c.from_residual.result c.from_residual.ensures.1 in
    rw (p.1, p.2) (fault-unread c.args.is_cut c.lines.number c.args.bytes.now c.lines.rest.now c.in-Some.line.now c.in-Some.after.now c.lines.lines.items c.in_err-add_line.field-0.0 c.lines.invariant.told c.in-Some.ensures.pieces
    (sym c.is_last_line.ensures ∙ c.if-is_last_line.false) c.in_err-add_line.ensures.err)

pub lines-preserved : goal.lines-preserved
lines-preserved c =
    let read = c.in_ok-add_line.ensures.ok in
    let next : c.saturating_add-number.result ≡ c.lines.number + 1 = omega arith in
    record {
      told = lines_from-further c.args.is_cut c.lines.number c.saturating_add-number.result c.args.bytes.now c.lines.rest.now c.in-Some.line.now c.in-Some.after.now c.lines.lines.items c.add_line.new.lines.items read.0
          c.lines.invariant.told c.in-Some.ensures.pieces (sym c.is_last_line.ensures ∙ c.if-is_last_line.false) read.1 read.2 next;
      counted = omega (arith, c.in-Some.ensures.shorter);
    }
