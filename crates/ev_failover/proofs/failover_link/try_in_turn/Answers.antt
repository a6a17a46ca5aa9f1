use Rattle.std.proofs.Common.{◌≡◌, ◌∙◌, ◌+◌, true, length, sym, arith}
use Rattle.std.proofs.lemmas.List.{length-append}
use Rattle.ev_failover.specs.Turns.{goes_on}
use Rattle.ev_failover.proofs.Turning.{places_on, tries_on, went_on_more}
use Rattle.ev_failover.proofs.failover_link.try_in_turn.Goals as goal

pub ends-preserved : goal.ends-preserved
ends-preserved g c =
    let longer : length c.and.result.items ≡ length c.ends.earlier.items + 1 = simp (c.and.ensures, length-append) (omega arith) in
    record {
      size = c.try_one-came-in-ends.ensures.size;
      within = c.try_one-came-in-ends.ensures.within;
      fits = c.try_one-came-in-ends.ensures.fits;
      tries = tries_on g.E.Endpoints.came g.E.Endpoints.sent _ _ _ _ _ _ _ _ _ _ c.and.ensures c.ends.invariant.tries c.ends.invariant.place c.try_one-came-in-ends.ensures.came c.try_one-came-in-ends.ensures.sent;
      place = places_on _ _ _ _ _ _ _ c.and.ensures c.ends.invariant.place c.try_one-came-in-ends.ensures.place;
      went_on = went_on_more c.args.ask.now c.ends.earlier.items c.and.result.items c.ends.came c.and.ensures c.ends.invariant.went_on (sym c.goes_on.ensures ∙ c.if-goes_on.true);
      tried = omega arith;
      once = omega arith;
    }
