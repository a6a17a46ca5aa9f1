use Rattle.std.proofs.Common.{◌≡◌, ◌+◌, ◌-◌, ◌<◌, ◌≤◌, true, [], ◌∷◌, ◌++◌, length}
use Rattle.std.specs.Prelude.{All, IfOk}
use Rattle.ev_call.specs.Fitting.{Fits}
use Rattle.ev_failover.specs.Turns.{Tries, goes_on, places_after}
use Rattle.ev_failover.proofs.failover_link.try_in_turn.Given as goal

abbrev pub invariant-ends : goal.invariant-ends
invariant-ends g l = record {
  size : g.E.Endpoints.size l.ends ≡ l.size;
  within : l.current < l.size;
  fits : IfOk l.came (Fits l.ask);
  tries : Tries g.E.Endpoints.came g.E.Endpoints.sent l.ask l.size l.fn.current l.fn.ends (l.earlier.items ++ l.came ∷ []) l.ends;
  place : l.current ≡ places_after l.size l.fn.current (l.earlier.items ++ l.came ∷ []);
  went_on : All (λ r. goes_on l.ask r ≡ true) l.earlier.items;
  tried : l.tried ≡ length l.earlier.items + 1;
  once : l.tried ≤ l.size;
}

abbrev pub decreases-ends : goal.decreases-ends
decreases-ends g l = l.size - l.tried
