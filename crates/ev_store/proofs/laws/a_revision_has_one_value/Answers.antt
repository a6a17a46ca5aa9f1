use Rattle.ev_types.proofs.Revisions.{as_it_was}
use Rattle.ev_store.proofs.laws.a_revision_has_one_value.Goals as goal

pub returns : goal.returns
returns c = as_it_was
