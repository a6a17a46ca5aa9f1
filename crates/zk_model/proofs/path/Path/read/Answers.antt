use Rattle.std.proofs.Common.{sym, ◌∙◌}
use Rattle.zk_model.proofs.PathDefects.{defect_of-none, defect_of-some, defect_of-first, fault-refused, valid-tested}
use Rattle.zk_model.proofs.path.Path.read.Goals as goal

pub invariant_of-result : goal.invariant_of-result
invariant_of-result c =
    rw c.in-Ok.ensures (valid-tested c.args.sequential c.args.text.now (defect_of-none c.args.sequential c.args.text.now (sym c.defect_of.ensures ∙ c.in-None.is)))

pub returns-in-Some-clause-fault : goal.returns-in-Some-clause-fault
returns-in-Some-clause-fault c = defect_of-some c.args.sequential c.args.text.now c.in-Some.defect (sym c.defect_of.ensures ∙ c.in-Some.is)

pub returns-in-Some-clause-first : goal.returns-in-Some-clause-first
returns-in-Some-clause-first c = defect_of-first c.args.sequential c.args.text.now c.in-Some.defect (sym c.defect_of.ensures ∙ c.in-Some.is)

pub returns-in-Some-clause-refused : goal.returns-in-Some-clause-refused
returns-in-Some-clause-refused c =
    fault-refused c.in-Some.defect.fault c.args.sequential c.args.text.now
    (defect_of-some c.args.sequential c.args.text.now c.in-Some.defect (sym c.defect_of.ensures ∙ c.in-Some.is))

pub returns-in-None-clause-valid : goal.returns-in-None-clause-valid
returns-in-None-clause-valid c = defect_of-none c.args.sequential c.args.text.now (sym c.defect_of.ensures ∙ c.in-None.is)
