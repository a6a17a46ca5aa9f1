use Rattle.zn_layout.proofs.Again.{guards-held, guards-hold}
use Rattle.zn_layout.proofs.laws.guards_tell_what_was_seen.Goals as goal

pub returns-clause-held : goal.returns-clause-held
returns-clause-held c = guards-held

pub returns-clause-hold : goal.returns-clause-hold
returns-clause-hold c = guards-hold
