use Rattle.std.proofs.Common.{subst}
use Rattle.zp_ledger.specs.Entering.{AreNumbered}
use Rattle.zp_ledger.proofs.entries.Entries.are_numbered.Goals as goal

pub returns : goal.returns
returns c = subst AreNumbered c.self.view_is c.self.invariant
