use Rattle.std.proofs.Common.{◌≡◌, ◌++◌, ◌∙◌, List, drop, sym, subst}
use Rattle.zk_transcript.specs.declared.transcript.TranscriptLine.{TranscriptLine}
use Rattle.zt_text.specs.Transcripts.{transcript_text}
use Rattle.zx_outside.specs.Writing.{Takes}
use Rattle.zetcd_cmd.specs.declared.report.End.TheVariants as end
use Rattle.zetcd_cmd.specs.declared.script.Stop.TheVariants as stop
use Rattle.zetcd_cmd.specs.declared.status.Status.{Status}
use Rattle.zetcd_cmd.specs.Outcomes.{Did, Replays, TakesSome}
use Rattle.zetcd_cmd.specs.Reporting.{ending_text}
use Rattle.zetcd_cmd.proofs.Appending.{HasWritten-all, HasWritten-front, left}
use Rattle.zetcd_cmd.proofs.Headlines.{Did-all, Did-front, Did-memory, Did-refused, fault_from, no_read_fault, never_write_fault, once}
use Rattle.zetcd_cmd.proofs.Reaching.{AreHeld}
use Rattle.zetcd_cmd.proofs.replay.replay.Goals as goal

-- ---- memory was refused, or the sink failed, before the end of the script

pub returns-in-Err-Memory-clause-told : goal.returns-in-Err-Memory-clause-told
returns-in-Err-Memory-clause-told g c =
    Did-refused (g.I.Source.ended c.read_script.new.input) (g.I.Source.given c.args.input.now) (g.I.Source.given c.read_script.new.input) (g.I.Source.left c.args.input.now)
    (g.I.Source.left c.read_script.new.input) (g.O.Sink.taken c.args.out.now) (g.O.Sink.taken c.read_script.new.out) c.in-Err-Memory.ensures.front

pub returns-then-wants_memory-clause-told : goal.returns-then-wants_memory-clause-told
returns-then-wants_memory-clause-told g c = c.in-Ok-read_script.ensures.refused (c.wants_memory.ensures.wants c.if-wants_memory.true)

pub returns-then-wants_memory-clause-once : goal.returns-then-wants_memory-clause-once
returns-then-wants_memory-clause-once g c = once c.in-Ok-read_script.end _ _ c.in-Ok-read_script.ensures.unharmed c.in-Ok-read_script.ensures.fault

-- ---- the rest was written

pub returns-in-Ok-report-clause-read : goal.returns-in-Ok-report-clause-read
returns-in-Ok-report-clause-read g c = λ is. c.in-Ok-read_script.ensures.fault (fault_from c.in-Ok-read_script.end c.line-line.result (sym c.status_of.ensures ∙ is))

pub returns-in-Ok-report-clause-unless_fault : goal.returns-in-Ok-report-clause-unless_fault
returns-in-Ok-report-clause-unless_fault g c = λ not write memory.
    c.in-Ok-read_script.ensures.unharmed (no_read_fault c.in-Ok-read_script.end c.line-line.result c.status_of.result c.status_of.ensures not)

pub returns-in-Ok-report-clause-once : goal.returns-in-Ok-report-clause-once
returns-in-Ok-report-clause-once g c = once c.in-Ok-read_script.end _ _ c.in-Ok-read_script.ensures.unharmed c.in-Ok-read_script.ensures.fault

pub returns-in-Ok-report-clause-write : goal.returns-in-Ok-report-clause-write
returns-in-Ok-report-clause-write g c = λ is. absurd (never_write_fault c.in-Ok-read_script.end c.line-line.result (sym c.status_of.ensures ∙ is))

pub returns-in-Ok-report-clause-told : goal.returns-in-Ok-report-clause-told
returns-in-Ok-report-clause-told g c =
    let how = c.in-Ok-read_script.end in
    let n = c.line-line.result in
    let s = c.read_script.new.script in
    let count = c.read_script.new.written in
    let known : how ≡ end.Stopped stop.Memory → ⊥ = c.wants_memory.ensures.known c.if-wants_memory.false in
    let held : AreHeld s.world.lines = subst AreHeld c.transcript.ensures.lines (record { few = c.transcript.ensures.few; typed = c.transcript.ensures.typed }) in
    subst (λ (st : Status). Did (Replays st (g.I.Source.ended c.read_script.new.input) (g.I.Source.left c.read_script.new.input)) (g.I.Source.given c.args.input.now) (g.I.Source.given c.read_script.new.input)
    (g.I.Source.left c.args.input.now) (g.I.Source.left c.read_script.new.input) (g.O.Sink.taken c.args.out.now) (g.O.Sink.taken c.report.new.out)) (sym c.status_of.ensures)
    (Did-all how n s (g.I.Source.ended c.read_script.new.input) (g.I.Source.given c.args.input.now) (g.I.Source.given c.read_script.new.input) (g.I.Source.left c.args.input.now)
    (g.I.Source.left c.read_script.new.input) (g.O.Sink.taken c.args.out.now) (g.O.Sink.taken c.report.new.out) held (c.line-line.ensures.line, c.line-line.ensures.place) known c.in-Ok-read_script.ensures.end
    (HasWritten-all count s.world.lines (ending_text how n) (g.O.Sink.taken c.args.out.now) (g.O.Sink.taken c.read_script.new.out) (g.O.Sink.taken c.report.new.out) (c.in-Ok-read_script.ensures.written known)
    (subst (λ (ls : List TranscriptLine). Takes (transcript_text (drop count ls) ++ ending_text how n) (g.O.Sink.taken c.read_script.new.out) (g.O.Sink.taken c.report.new.out)) c.transcript.ensures.lines
    (subst (λ (ls : List TranscriptLine). Takes (transcript_text ls ++ ending_text how n) (g.O.Sink.taken c.read_script.new.out) (g.O.Sink.taken c.report.new.out)) (left count c.transcript.result.now) c.in-Ok-report.ensures.ok))))

-- ---- or a front of it

pub returns-in-Err-Sink-report-clause-told : goal.returns-in-Err-Sink-report-clause-told
returns-in-Err-Sink-report-clause-told g c =
    let how = c.in-Ok-read_script.end in
    let n = c.line-line.result in
    let s = c.read_script.new.script in
    let count = c.read_script.new.written in
    let known : how ≡ end.Stopped stop.Memory → ⊥ = c.wants_memory.ensures.known c.if-wants_memory.false in
    let held : AreHeld s.world.lines = subst AreHeld c.transcript.ensures.lines (record { few = c.transcript.ensures.few; typed = c.transcript.ensures.typed }) in
    let did = Did-front how n s (g.I.Source.ended c.read_script.new.input) (g.I.Source.given c.args.input.now) (g.I.Source.given c.read_script.new.input) (g.I.Source.left c.args.input.now)
    (g.I.Source.left c.read_script.new.input) (g.O.Sink.taken c.args.out.now) (g.O.Sink.taken c.report.new.out) held (c.line-line.ensures.line, c.line-line.ensures.place) known c.in-Ok-read_script.ensures.end
    (HasWritten-front count s.world.lines (ending_text how n) (g.O.Sink.taken c.args.out.now) (g.O.Sink.taken c.read_script.new.out) (g.O.Sink.taken c.report.new.out) (c.in-Ok-read_script.ensures.written known)
    (subst (λ (ls : List TranscriptLine). TakesSome (transcript_text (drop count ls) ++ ending_text how n) (g.O.Sink.taken c.read_script.new.out) (g.O.Sink.taken c.report.new.out)) c.transcript.ensures.lines
    (subst (λ (ls : List TranscriptLine). TakesSome (transcript_text ls ++ ending_text how n) (g.O.Sink.taken c.read_script.new.out) (g.O.Sink.taken c.report.new.out)) (left count c.transcript.result.now) c.in-Err-Sink-report.ensures.front))) in
    record { read = did.read; output = did.output; gives = did.gives; takes = did.takes; holds = did.holds }

pub returns-clause-told : goal.returns-clause-told
returns-clause-told g c =
    let how = c.in-Ok-read_script.end in
    let n = c.line-line.result in
    let s = c.read_script.new.script in
    let count = c.read_script.new.written in
    let known : how ≡ end.Stopped stop.Memory → ⊥ = c.wants_memory.ensures.known c.if-wants_memory.false in
    let held : AreHeld s.world.lines = subst AreHeld c.transcript.ensures.lines (record { few = c.transcript.ensures.few; typed = c.transcript.ensures.typed }) in
    Did-memory (g.I.Source.ended c.read_script.new.input) (g.I.Source.given c.args.input.now) (g.I.Source.given c.read_script.new.input) (g.I.Source.left c.args.input.now)
    (g.I.Source.left c.read_script.new.input) (g.O.Sink.taken c.args.out.now) (g.O.Sink.taken c.report.new.out)
    (Did-front how n s (g.I.Source.ended c.read_script.new.input) (g.I.Source.given c.args.input.now) (g.I.Source.given c.read_script.new.input) (g.I.Source.left c.args.input.now)
    (g.I.Source.left c.read_script.new.input) (g.O.Sink.taken c.args.out.now) (g.O.Sink.taken c.report.new.out) held (c.line-line.ensures.line, c.line-line.ensures.place) known c.in-Ok-read_script.ensures.end
    (HasWritten-front count s.world.lines (ending_text how n) (g.O.Sink.taken c.args.out.now) (g.O.Sink.taken c.read_script.new.out) (g.O.Sink.taken c.report.new.out) (c.in-Ok-read_script.ensures.written known)
    (subst (λ (ls : List TranscriptLine). TakesSome (transcript_text (drop count ls) ++ ending_text how n) (g.O.Sink.taken c.read_script.new.out) (g.O.Sink.taken c.report.new.out)) c.transcript.ensures.lines
    (subst (λ (ls : List TranscriptLine). TakesSome (transcript_text ls ++ ending_text how n) (g.O.Sink.taken c.read_script.new.out) (g.O.Sink.taken c.report.new.out)) (left count c.transcript.result.now) c.in-Err-Memory-report.ensures.front))))
