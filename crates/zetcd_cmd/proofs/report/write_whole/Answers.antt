use Rattle.std.proofs.Common.{◌++◌, List, ℕ, subst}
use Rattle.std.proofs.lemmas.Result.{on_ok_weaker, IfErr-weaker, err_from_is_err_and}
use Rattle.zt_text.specs.Transcripts.{transcript_text}
use Rattle.zx_outside.specs.Writing.{Takes}
use Rattle.zetcd_cmd.specs.declared.report.Unwritten.{Unwritten}
use Rattle.zetcd_cmd.specs.Outcomes.{TakesSome}
use Rattle.zetcd_cmd.specs.Reporting.{ReportPasses}
use Rattle.zetcd_cmd.proofs.Reports.{Passes-front, Passes-whole}
use Rattle.zetcd_cmd.proofs.report.write_whole.Goals as goal

pub returns-clause-ok : goal.returns-clause-ok
returns-clause-ok g c =
    on_ok_weaker c.write_out.result
    (λ (wrote : Takes c.write_lines.new.text.items (g.O.Sink.taken c.write_lines.new.out) (g.O.Sink.taken c.write_out.new.out)).
    Passes-whole (transcript_text c.args.lines.now) c.write_lines.new.text.items _ _ _
    (subst (λ (t : List ℕ). ReportPasses (transcript_text c.args.lines.now) t c.write_lines.new.text.items (g.O.Sink.taken c.args.out.now) (g.O.Sink.taken c.write_lines.new.out)) c.new-text.ensures.items
    c.in_ok-write_lines.ensures.ok)
    wrote)
    c.write_out.ensures.ok

pub returns-in_err-write_lines-clause-front : goal.returns-in_err-write_lines-clause-front
returns-in_err-write_lines-clause-front g c =
    let p = err_from_is_err_and c.from_residual.result c.from_residual.ensures.1 in
    rw p.1
    (subst (λ (t : List ℕ). TakesSome (t ++ transcript_text c.args.lines.now) (g.O.Sink.taken c.args.out.now) (g.O.Sink.taken c.write_lines.new.out)) c.new-text.ensures.items
    c.in_err-write_lines.ensures.front)

pub returns-clause-front : goal.returns-clause-front
returns-clause-front g c =
    IfErr-weaker c.write_out.result (λ (e : Unwritten). TakesSome c.write_lines.new.text.items (g.O.Sink.taken c.write_lines.new.out) (g.O.Sink.taken c.write_out.new.out)) _
    (λ e some. Passes-front (transcript_text c.args.lines.now) c.write_lines.new.text.items _ _ _
    (subst (λ (t : List ℕ). ReportPasses (transcript_text c.args.lines.now) t c.write_lines.new.text.items (g.O.Sink.taken c.args.out.now) (g.O.Sink.taken c.write_lines.new.out)) c.new-text.ensures.items
    c.in_ok-write_lines.ensures.ok)
    some)
    c.write_out.ensures.front
