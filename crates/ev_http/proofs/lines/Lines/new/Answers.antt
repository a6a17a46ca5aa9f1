use Rattle.ev_http.proofs.Streams.{at_first}
use Rattle.ev_http.proofs.lines.Lines.new.Goals as goal

pub returns-clause-first : goal.returns-clause-first
returns-clause-first g c = at_first _ _ _ _ c.new-2.ensures.items c.new-3.ensures.items c.new.ensures.taken
