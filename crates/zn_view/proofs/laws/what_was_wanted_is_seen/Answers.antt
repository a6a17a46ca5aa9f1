use Rattle.zn_view.proofs.SeenAfter.{wanted-shown}
use Rattle.zn_view.proofs.SeenAfter.{listed-with_parts}
use Rattle.zn_view.proofs.SeenAfter.{seen-with_parts}
use Rattle.zn_view.proofs.laws.what_was_wanted_is_seen.Goals as goal

pub returns-clause-seen : goal.returns-clause-seen
returns-clause-seen c = seen-with_parts

pub returns-clause-listed : goal.returns-clause-listed
returns-clause-listed c = listed-with_parts

pub returns-clause-wanted : goal.returns-clause-wanted
returns-clause-wanted c = wanted-shown
