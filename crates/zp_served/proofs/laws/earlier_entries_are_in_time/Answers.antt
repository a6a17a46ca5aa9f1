use Rattle.zp_served.proofs.Timely.{earlier-in-time}
use Rattle.zp_served.proofs.laws.earlier_entries_are_in_time.Goals as goal

pub returns : goal.returns
returns c = earlier-in-time
