use Rattle.std.proofs.Common.{◌≡◌, ◌<◌, ◌+◌, ◌++◌, ◌∙◌, ap, length, take, List, ℕ, arith, refl, subst, sym}
use Rattle.std.proofs.lemmas.Result.{err_from_is_err_and}
use Rattle.zk_transcript.specs.declared.transcript.TranscriptLine.{TranscriptLine}
use Rattle.zt_text.specs.Transcripts.{line_text, transcript_text}
use Rattle.zetcd_cmd.specs.Outcomes.{TakesSome}
use Rattle.zetcd_cmd.specs.Reporting.{ReportPasses}
use Rattle.zetcd_cmd.proofs.Reports.{Passes-nil, Passes-append, transcript_text-nil, transcript_text-more, TakesSome-passed, TakesSome-lines}
use Rattle.zetcd_cmd.proofs.report.write_lines.Goals as goal

pub loop-line-init : goal.loop-line-init
loop-line-init g c = record {
  passes = subst (λ (t : List ℕ). ReportPasses t c.args.text.now.items c.args.text.now.items (g.O.Sink.taken c.args.out.now) (g.O.Sink.taken c.args.out.now)) (sym transcript_text-nil)
      (Passes-nil c.args.text.now.items (g.O.Sink.taken c.args.out.now));
  unharmed = refl;
}

pub loop-line-preserved : goal.loop-line-preserved
loop-line-preserved g c = record {
  passes =
      let lines = c.args.lines.now in
      let at = c.loop-line.line-index in
      let within : at < length lines = omega arith in
      let more : transcript_text (take (at + 1) lines) ≡ transcript_text (take at lines) ++ line_text c.line-item.result =
      transcript_text-more lines at c.line-item.result within ∙ ap (λ (l : TranscriptLine). transcript_text (take at lines) ++ line_text l) (sym c.line-item.is) in
      subst (λ (t : List ℕ). ReportPasses t c.args.text.now.items c.write_line.new.text.items (g.O.Sink.taken c.args.out.now) (g.O.Sink.taken c.write_line.new.out)) (sym more)
      (Passes-append (transcript_text (take at lines)) (line_text c.line-item.result) _ _ _ _ _ _ c.loop-line.invariant.passes c.in_ok-write_line.ensures.ok);
  unharmed = c.in_ok-write_line.ensures.unharmed ∙ c.loop-line.invariant.unharmed;
}

pub returns-in_err-write_line-clause-front : goal.returns-in_err-write_line-clause-front
returns-in_err-write_line-clause-front g c =
    let p = err_from_is_err_and c.from_residual.result c.from_residual.ensures.1 in
    let lines = c.args.lines.now in
    let at = c.loop-line.line-index in
    let buffer = c.args.text.now.items in
    let within : at < length lines = omega arith in
    let more : transcript_text (take (at + 1) lines) ≡ transcript_text (take at lines) ++ line_text c.line-item.result =
    transcript_text-more lines at c.line-item.result within ∙ ap (λ (l : TranscriptLine). transcript_text (take at lines) ++ line_text l) (sym c.line-item.is) in
    rw p.1 (TakesSome-lines buffer lines (at + 1) (g.O.Sink.taken c.args.out.now) (g.O.Sink.taken c.write_line.new.out)
    (subst (λ (t : List ℕ). TakesSome (buffer ++ t) (g.O.Sink.taken c.args.out.now) (g.O.Sink.taken c.write_line.new.out)) (sym more)
    (TakesSome-passed (transcript_text (take at lines)) (line_text c.line-item.result) buffer c.loop-line.text.items _ _ _ c.loop-line.invariant.passes c.in_err-write_line.ensures.front)))
