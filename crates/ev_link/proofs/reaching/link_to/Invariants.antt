use Rattle.std.proofs.Common.{◌≡◌}
use Rattle.std.specs.Prelude.{length}
use Rattle.ev_addresses.specs.Lists.{addresses_in}
use Rattle.ev_link.specs.Reaching.{turned, undialled_times}
use Rattle.ev_link.proofs.reaching.link_to.Given as goal

abbrev pub invariant-endpoints : goal.invariant-endpoints
invariant-endpoints g l = (g.N.Net.counts l.net ≡ undialled_times l.index (g.N.Net.counts l.fn.net)) × (g.N.Net.streams l.net ≡ g.N.Net.streams l.fn.net) × (l.at ≡ l.fn.at) × (l.next ≡ turned (length (addresses_in l.fn.endpoints)) l.index l.fn.at)
