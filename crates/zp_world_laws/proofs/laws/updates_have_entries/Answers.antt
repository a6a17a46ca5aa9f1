use Rattle.zp_world_laws.proofs.Entering.{first-entries}
use Rattle.zp_world_laws.proofs.Happenings.{exec-enters, stray-enters}
use Rattle.zp_world_laws.proofs.laws.updates_have_entries.Goals as goal

pub returns-clause-first : goal.returns-clause-first
returns-clause-first c = first-entries

pub returns-clause-exec : goal.returns-clause-exec
returns-clause-exec c = exec-enters

pub returns-clause-stray : goal.returns-clause-stray
returns-clause-stray c = stray-enters
