use Rattle.zp_settle_laws.proofs.Ending.{ends-by-its-bound, settles-to-its-end}
use Rattle.zp_settle_laws.proofs.laws.a_settle_comes_to_its_end.Goals as goal

pub returns : goal.returns
returns c = record { left = settles-to-its-end; bound = ends-by-its-bound }
