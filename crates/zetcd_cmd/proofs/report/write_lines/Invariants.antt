use Rattle.std.proofs.Common.{◌≡◌, take}
use Rattle.zt_text.specs.Transcripts.{transcript_text}
use Rattle.zetcd_cmd.specs.Reporting.{ReportPasses}
use Rattle.zetcd_cmd.proofs.report.write_lines.Given as goal

abbrev pub invariant-loop-line : goal.invariant-loop-line
invariant-loop-line g l = record {
  passes : ReportPasses (transcript_text (take l.line-index l.lines)) l.fn.text.items l.text.items (g.O.Sink.taken l.fn.out) (g.O.Sink.taken l.out);
  unharmed : g.O.Sink.counts l.out ≡ g.O.Sink.counts l.fn.out;
}
