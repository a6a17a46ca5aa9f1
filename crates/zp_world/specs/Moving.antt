-- What settle does next, as a line of a script.
use Rattle.std.specs.Prelude.{ℕ}
use Rattle.zt_text.specs.declared.script.Happening.{Happening}
use Rattle.zt_text.specs.declared.script.Happening.TheVariants as line
use Rattle.zp_world.specs.declared.settling.Move.{Move}
use Rattle.zp_world.specs.declared.settling.Move.TheVariants.{Execute, Deliver, Enter}

abbrev pub line_of : ℕ → Move → Happening
line_of c Execute = line.Exec c
line_of c Deliver = line.Answer c
line_of c Enter = line.Entry c
