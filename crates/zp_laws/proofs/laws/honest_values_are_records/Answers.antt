use Rattle.zp_laws.proofs.Honest.{past-records, present-records, records-sound}
use Rattle.zp_laws.proofs.laws.honest_values_are_records.Goals as goal

pub returns-clause-present : goal.returns-clause-present
returns-clause-present c = present-records

pub returns-clause-past : goal.returns-clause-past
returns-clause-past c = past-records

pub returns-clause-sound : goal.returns-clause-sound
returns-clause-sound c = records-sound
