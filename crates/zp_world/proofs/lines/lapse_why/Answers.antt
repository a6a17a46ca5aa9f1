use Rattle.std.proofs.Common.{sym, ap, ◌∙◌}
use Rattle.std.specs.Prelude.{Some}
use Rattle.zp_world.proofs.Lapsing.{lapse-full, lapse-missing}
use Rattle.zp_world.proofs.lines.lapse_why.Goals as goal

pub returns-in-Full : goal.returns-in-Full
returns-in-Full c = λ s id h. lapse-full s id _ (h ∙ ap Some c.in-Full.is)

pub returns-in-LeaseExists : goal.returns-in-LeaseExists
returns-in-LeaseExists c = λ s id h. lapse-missing s id c.args.denied.now h (λ r e. let f = sym c.in-LeaseExists.is ∙ e in cc)

pub returns-in-NoLease : goal.returns-in-NoLease
returns-in-NoLease c = λ s id h. lapse-missing s id c.args.denied.now h (λ r e. let f = sym c.in-NoLease.is ∙ e in cc)

pub returns-in-Future : goal.returns-in-Future
returns-in-Future c = λ s id h. lapse-missing s id c.args.denied.now h (λ r e. let f = sym c.in-Future.is ∙ e in cc)

pub returns-in-Compacted : goal.returns-in-Compacted
returns-in-Compacted c = λ s id h. lapse-missing s id c.args.denied.now h (λ r e. let f = sym c.in-Compacted.is ∙ e in cc)

pub returns-in-TooMany : goal.returns-in-TooMany
returns-in-TooMany c = λ s id h. lapse-missing s id c.args.denied.now h (λ r e. let f = sym c.in-TooMany.is ∙ e in cc)

pub returns-in-Twice : goal.returns-in-Twice
returns-in-Twice c = λ s id h. lapse-missing s id c.args.denied.now h (λ r e. let f = sym c.in-Twice.is ∙ e in cc)
