use Rattle.zn_layout.proofs.Readings.{range-stands, alive-stands, grant-stands, unchanged-stands, reads-stand}
use Rattle.zn_layout.proofs.laws.reading_stands.Goals as goal

pub returns-clause-range : goal.returns-clause-range
returns-clause-range c = λ s new q a state h e. range-stands s new a state h q e

pub returns-clause-alive : goal.returns-clause-alive
returns-clause-alive c = λ s new id a state h e. alive-stands s new a state h id e

pub returns-clause-grant : goal.returns-clause-grant
returns-clause-grant c = λ s new id ttl a state h e. grant-stands s new a state h id ttl e

pub returns-clause-reads : goal.returns-clause-reads
returns-clause-reads c = λ s new guards qs rs a state h e. reads-stand s new a state h guards qs rs e

pub returns-clause-unchanged : goal.returns-clause-unchanged
returns-clause-unchanged c = λ s new t a state h none e. unchanged-stands s new a state h t none e
