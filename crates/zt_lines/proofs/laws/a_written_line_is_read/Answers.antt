use Rattle.zt_lines.proofs.WrittenLines.{line_read-line_words}
use Rattle.zt_lines.proofs.laws.a_written_line_is_read.Goals as goal

pub returns : goal.returns
returns c = line_read-line_words
