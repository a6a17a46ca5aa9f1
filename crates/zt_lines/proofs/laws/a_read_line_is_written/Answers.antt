use Rattle.zt_lines.proofs.ReadLines.{line_read-spaced}
use Rattle.zt_lines.proofs.laws.a_read_line_is_written.Goals as goal

pub returns : goal.returns
returns c = line_read-spaced
