use Rattle.std.proofs.Common.{Some, sym, ap, ◌∙◌}
use Rattle.ev_fields.specs.Fitting.{fits_at}
use Rattle.ev_fields.proofs.Fits.{readable, unfit}
use Rattle.ev_fields.proofs.parsed.parsed_of.Goals as goal

pub returns-then-not-passes-clause-fault : goal.returns-then-not-passes-clause-fault
returns-then-not-passes-clause-fault c utf8 = unfit c.args.text.now c.in_ok-tape.tape c.in_ok-tape.ensures.ok.0 c.in_ok-tape.ensures.ok.1 (ap (fits_at (Some 0)) (sym c.nodes.ensures.tokens) ∙ sym c.fits-passes.ensures ∙ c.if-not-passes.true)

pub invariant_of-result : goal.invariant_of-result
invariant_of-result c = (readable c.args.text.now c.in_ok-tape.tape c.in_ok-tape.ensures.ok.0 c.in_ok-tape.ensures.ok.1 (ap (fits_at (Some 0)) (sym c.nodes.ensures.tokens) ∙ sym c.fits-passes.ensures ∙ c.if-not-passes.false)).0

pub returns-clause-ok : goal.returns-clause-ok
returns-clause-ok c = (readable c.args.text.now c.in_ok-tape.tape c.in_ok-tape.ensures.ok.0 c.in_ok-tape.ensures.ok.1 (ap (fits_at (Some 0)) (sym c.nodes.ensures.tokens) ∙ sym c.fits-passes.ensures ∙ c.if-not-passes.false)).1
