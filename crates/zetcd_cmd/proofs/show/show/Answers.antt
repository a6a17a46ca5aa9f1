use Rattle.std.proofs.Common.{sym, ap, ◌∙◌, subst}
use Rattle.zetcd_cmd.specs.declared.status.Status.{Status}
use Rattle.zetcd_cmd.specs.Outcomes.{Did, Shows}
use Rattle.zetcd_cmd.specs.Streaming.{counts_at}
use Rattle.zetcd_cmd.proofs.Showings.{close_read, close_write, no_read_fault, no_write_fault, counts_same, once}
use Rattle.zetcd_cmd.proofs.show.show.Goals as goal

pub returns-clause-told : goal.returns-clause-told
returns-clause-told g c =
    subst (λ (s : Status). Did (Shows s (g.I.Source.ended c.show_pieces-close.new.input) (g.I.Source.left c.show_pieces-close.new.input)) (g.I.Source.given c.args.input.now) (g.I.Source.given c.show_pieces-close.new.input)
    (g.I.Source.left c.args.input.now) (g.I.Source.left c.show_pieces-close.new.input) (g.O.Sink.taken c.args.out.now) (g.O.Sink.taken c.show_pieces-close.new.out))
    (sym (rw c.lines.ensures at c.status_of.ensures)) c.show_pieces-close.ensures.told

pub returns-clause-read : goal.returns-clause-read
returns-clause-read g c = λ is. c.show_pieces-close.ensures.fault (close_read c.show_pieces-close.result c.lines.result (sym c.status_of.ensures ∙ is))

pub returns-clause-unless_read_fault : goal.returns-clause-unless_read_fault
returns-clause-unless_read_fault g c = λ not other.
    c.show_pieces-close.ensures.unharmed (no_read_fault c.show_pieces-close.result c.lines.result c.status_of.result c.status_of.ensures not)

pub returns-clause-once : goal.returns-clause-once
returns-clause-once g c = once c.show_pieces-close.result _ _ c.show_pieces-close.ensures.unharmed c.show_pieces-close.ensures.fault

pub returns-clause-write : goal.returns-clause-write
returns-clause-write g c = λ is.
    c.show_pieces-close.ensures.count ∙ ap (λ how. counts_at how (g.O.Sink.counts c.args.out.now)) (close_write c.show_pieces-close.result c.lines.result (sym c.status_of.ensures ∙ is))

pub returns-clause-unless_write_fault : goal.returns-clause-unless_write_fault
returns-clause-unless_write_fault g c = λ not.
    c.show_pieces-close.ensures.count ∙ counts_same c.show_pieces-close.result (g.O.Sink.counts c.args.out.now)
    (no_write_fault c.show_pieces-close.result c.lines.result c.status_of.result c.status_of.ensures not)
