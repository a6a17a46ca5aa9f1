use Rattle.zp_settle_laws.proofs.Possible.{possible-lines-happen}
use Rattle.zp_settle_laws.proofs.laws.possible_lines_happen.Goals as goal

pub returns : goal.returns
returns c = possible-lines-happen
