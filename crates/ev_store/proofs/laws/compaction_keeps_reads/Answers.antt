use Rattle.ev_store.proofs.Past.{compact-floor, compact-least, compact-rises, compact-keys, compact-reads}
use Rattle.ev_store.proofs.laws.compaction_keeps_reads.Goals as goal

pub returns-clause-floor : goal.returns-clause-floor
returns-clause-floor c = compact-floor

pub returns-clause-least : goal.returns-clause-least
returns-clause-least c = compact-least

pub returns-clause-rises : goal.returns-clause-rises
returns-clause-rises c = compact-rises

pub returns-clause-keys : goal.returns-clause-keys
returns-clause-keys c = compact-keys

pub returns-clause-reads : goal.returns-clause-reads
returns-clause-reads c = compact-reads
