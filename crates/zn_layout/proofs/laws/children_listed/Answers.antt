use Rattle.std.proofs.Common.{sym}
use Rattle.zn_layout.proofs.Listing.{children_listed, valid-bounded}
use Rattle.zn_layout.proofs.Ranges.{child-key}
use Rattle.zn_layout.proofs.laws.children_listed.Goals as goal

pub returns-clause-found : goal.returns-clause-found
returns-clause-found c = children_listed

pub returns-clause-valid : goal.returns-clause-valid
returns-clause-valid c = valid-bounded

pub returns-clause-data_keys : goal.returns-clause-data_keys
returns-clause-data_keys c = λ p q h. sym (child-key p q h)
