use Rattle.std.proofs.Common.{◌≡◌}
use Rattle.std.specs.Prelude.{All, None, vec_len}
use Rattle.ev_failover.proofs.dial_endpoints.no_links.Given as goal

abbrev pub invariant-links : goal.invariant-links
invariant-links g l = record {
  count : vec_len l.links ≡ l.made;
  none : All (λ x. x ≡ None) l.links.items;
}
