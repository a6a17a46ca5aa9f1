use Rattle.std.proofs.Common.{inl}
use Rattle.ev_shared.proofs.kept.Kept.lapse_over.Goals as goal

pub returns-then-revision-lt-LAST_REVISION-clause-terms :
    goal.returns-then-revision-lt-LAST_REVISION-clause-terms
returns-then-revision-lt-LAST_REVISION-clause-terms c = inl (cc (c.end_over.ensures, c.lapse_each.ensures.terms))
