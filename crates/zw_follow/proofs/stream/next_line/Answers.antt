use Rattle.std.proofs.Common.{ℕ, List, refl, subst}
use Rattle.ev_http.specs.Taking.{told}
use Rattle.ev_json.specs.Answers.{line_in}
use Rattle.ev_json.specs.Bodies.{FaultOf, reads_line}
use Rattle.zw_follow.proofs.Reading.{line_is_missed, line_is_said, line_is_unreadable, missed_fits}
use Rattle.zw_follow.proofs.stream.next_line.Goals as goal

pub returns-in-Err-clause-fits : goal.returns-in-Err-clause-fits
returns-in-Err-clause-fits g c = missed_fits c.in-Err.fault c.missed.result c.missed.ensures

pub returns-in-Err-clause-reads : goal.returns-in-Err-clause-reads
returns-in-Err-clause-reads g c = λ dialled said h.
    line_is_missed (told g.S.Source.given g.S.Source.left g.S.Source.counts g.S.Source.ended g.S.Source.name) dialled c.args.lines.now c.next.new.self said c.in-Err.fault c.missed.result
    (record { added = (c.in-Err.ensures.line).0; before = _; after = _; took = (c.in-Err.ensures.line).1; begins = refl; stands = refl; answers = (c.in-Err.ensures.line).2; reads = c.in-Err.ensures.reads }) c.missed.ensures h

pub returns-in-Ok-read_line-clause-fits : goal.returns-in-Ok-read_line-clause-fits
returns-in-Ok-read_line-clause-fits g c = c.what_is_read_fits.ensures.lines _ _ c.in-Ok-read_line.ensures.read

pub returns-in-Ok-read_line-clause-reads : goal.returns-in-Ok-read_line-clause-reads
returns-in-Ok-read_line-clause-reads g c = λ dialled said h.
    let P : List ℕ → Type 0 = λ bytes. reads_line bytes c.in-Ok-read_line.line in
    line_is_said (told g.S.Source.given g.S.Source.left g.S.Source.counts g.S.Source.ended g.S.Source.name) dialled c.args.lines.now c.next.new.self said c.in-Ok.text c.in-Ok-read_line.line
    (record { added = (c.in-Ok.ensures.line).0; before = _; after = _; took = (c.in-Ok.ensures.line).1; begins = refl; stands = refl; answers = (c.in-Ok.ensures.line).2; reads = c.in-Ok.ensures.reads }) (subst P c.as_slice.ensures c.in-Ok-read_line.ensures.read) h

pub returns-clause-reads : goal.returns-clause-reads
returns-clause-reads g c = λ dialled said h.
    let P : List ℕ → Type 0 = λ bytes. FaultOf line_in bytes c.in-Err-read_line.fault in
    line_is_unreadable (told g.S.Source.given g.S.Source.left g.S.Source.counts g.S.Source.ended g.S.Source.name) dialled c.args.lines.now c.next.new.self said c.in-Ok.text c.in-Err-read_line.fault
    (record { added = (c.in-Ok.ensures.line).0; before = _; after = _; took = (c.in-Ok.ensures.line).1; begins = refl; stands = refl; answers = (c.in-Ok.ensures.line).2; reads = c.in-Ok.ensures.reads }) (subst P c.as_slice.ensures c.in-Err-read_line.ensures.fault) h
