use Rattle.std.proofs.Common.{◌^◌, ◌-◌, ◌<◌, List, drop, length, subst}
use Rattle.std.proofs.lemmas.Result.{err_from_is_err_and}
use Rattle.zk_transcript.specs.declared.transcript.TranscriptLine.{TranscriptLine}
use Rattle.zt_text.specs.Transcripts.{transcript_text}
use Rattle.zp_verdict_laws.specs.Written.{AreTyped}
use Rattle.zx_outside.specs.Writing.{Takes}
use Rattle.zetcd_cmd.specs.Outcomes.{TakesSome}
use Rattle.zetcd_cmd.proofs.Appending.{left}
use Rattle.zetcd_cmd.proofs.replay.write_further.Goals as goal

pub returns-clause-ok : goal.returns-clause-ok
returns-clause-ok g c =
    subst (λ (ls : List TranscriptLine). Takes (transcript_text (drop c.args.written.now ls)) (g.O.Sink.taken c.args.out.now) (g.O.Sink.taken c.write_whole.new.out)) c.lines-lines.ensures.lines
    (subst (λ (ls : List TranscriptLine). Takes (transcript_text ls) (g.O.Sink.taken c.args.out.now) (g.O.Sink.taken c.write_whole.new.out)) (left c.args.written.now c.lines-lines.result.now) c.in_ok-write_whole.ensures.ok)

pub returns-in_err-write_whole-clause-front : goal.returns-in_err-write_whole-clause-front
returns-in_err-write_whole-clause-front g c =
    let p = err_from_is_err_and c.from_residual.result c.from_residual.ensures.1 in
    rw p.1
    (subst (λ (ls : List TranscriptLine). TakesSome (transcript_text (drop c.args.written.now ls)) (g.O.Sink.taken c.args.out.now) (g.O.Sink.taken c.write_whole.new.out)) c.lines-lines.ensures.lines
    (subst (λ (ls : List TranscriptLine). TakesSome (transcript_text ls) (g.O.Sink.taken c.args.out.now) (g.O.Sink.taken c.write_whole.new.out)) (left c.args.written.now c.lines-lines.result.now) c.in_err-write_whole.ensures.front))

pub returns-clause-few : goal.returns-clause-few
returns-clause-few g c = subst (λ (ls : List TranscriptLine). length ls < 2 ^ 64 - 1) c.lines-lines.ensures.lines c.lines-lines.ensures.few

pub returns-clause-typed : goal.returns-clause-typed
returns-clause-typed g c = subst (λ (ls : List TranscriptLine). AreTyped (drop c.args.written.now ls)) c.lines-lines.ensures.lines (subst AreTyped (left c.args.written.now c.lines-lines.result.now) c.lines_are_typed.ensures)

pub returns-in_err-write_whole-clause-few : goal.returns-in_err-write_whole-clause-few
returns-in_err-write_whole-clause-few g c = subst (λ (ls : List TranscriptLine). length ls < 2 ^ 64 - 1) c.lines-lines.ensures.lines c.lines-lines.ensures.few

pub returns-in_err-write_whole-clause-typed : goal.returns-in_err-write_whole-clause-typed
returns-in_err-write_whole-clause-typed g c = subst (λ (ls : List TranscriptLine). AreTyped (drop c.args.written.now ls)) c.lines-lines.ensures.lines (subst AreTyped (left c.args.written.now c.lines-lines.result.now) c.lines_are_typed.ensures)
