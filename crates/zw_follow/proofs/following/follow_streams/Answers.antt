use Rattle.std.proofs.Common.{ℕ, ◌≤◌, arith, rules, sym, subst, refl, ◌∙◌}
use Rattle.zw_follow.specs.Dials.{telling}
use Rattle.zw_follow.proofs.Dialling.{barren_small, between_goes, between_starts, closes, no_line, placed_left, stops_between, stops_within, ten_barren}
use Rattle.zw_follow.proofs.Ending.{set_now, unset_now}
use Rattle.zw_follow.proofs.following.follow_streams.Goals as goal

pub streams-init : goal.streams-init
streams-init g c = (tt, tt, omega arith, refl, c.requires, between_starts (telling g.N.In.Source.given g.N.In.Source.left g.N.In.Source.counts g.N.In.Source.ended g.N.In.Source.name g.N.Out.Sink.taken g.N.Out.Sink.counts g.N.Out.Sink.name) _ _ _ _)

pub returns-then-is_enough : goal.returns-then-is_enough
returns-then-is_enough g c = no_line (telling g.N.In.Source.given g.N.In.Source.left g.N.In.Source.counts g.N.In.Source.ended g.N.In.Source.name g.N.Out.Sink.taken g.N.Out.Sink.counts g.N.Out.Sink.name) _ _ _ _ _ _ _ _ _ _ _ c.streams.invariant.5 (ten_barren _ c.streams.invariant.2 (c.is_enough.ensures.yes c.if-is_enough.true)) (c.streams.invariant.4).is_open c.streams.invariant.3

pub follow_stream-requires-clause-placed : goal.follow_stream-requires-clause-placed
follow_stream-requires-clause-placed g c = search (rules, c.streams.invariant.4)

pub returns-in-Stopped : goal.returns-in-Stopped
returns-in-Stopped g c = stops_within (telling g.N.In.Source.given g.N.In.Source.left g.N.In.Source.counts g.N.In.Source.ended g.N.In.Source.name g.N.Out.Sink.taken g.N.Out.Sink.counts g.N.Out.Sink.name) _ _ _ _ _ _ _ _ _ _ _ _ _ _ _ _ c.streams.invariant.5 (c.is_enough.ensures.no c.if-is_enough.false) c.address_at-address.ensures.is c.in-Stopped.ensures.dials c.in-Stopped.ensures.goes_on c.streams.invariant.3

pub returns-in-Closes : goal.returns-in-Closes
returns-in-Closes g c = closes (telling g.N.In.Source.given g.N.In.Source.left g.N.In.Source.counts g.N.In.Source.ended g.N.In.Source.name g.N.Out.Sink.taken g.N.Out.Sink.counts g.N.Out.Sink.name) _ _ _ c.in-Closes.end _ _ _ _ _ _ _ _ _ _ _ _ _ c.streams.invariant.5 (c.is_enough.ensures.no c.if-is_enough.false) c.address_at-address.ensures.is c.in-Closes.ensures.dials c.in-Closes.ensures.goes_on c.streams.invariant.3

pub barren_after-barren-requires : goal.barren_after-barren-requires
barren_after-barren-requires g c = c.is_enough.ensures.no c.if-is_enough.false

pub returns-then-is_set : goal.returns-then-is_set
returns-then-is_set g c = stops_between (telling g.N.In.Source.given g.N.In.Source.left g.N.In.Source.counts g.N.In.Source.ended g.N.In.Source.name g.N.Out.Sink.taken g.N.Out.Sink.counts g.N.Out.Sink.name) _ _ _ _ _ _ _ _ _ _ _ (between_goes (telling g.N.In.Source.given g.N.In.Source.left g.N.In.Source.counts g.N.In.Source.ended g.N.In.Source.name g.N.Out.Sink.taken g.N.Out.Sink.counts g.N.Out.Sink.name) _ _ _ _ c.in-Over.fault c.in-Over.is_barren _ _ _ _ _ _ _ _ _ _ _ _ _ _ c.streams.invariant.5 (c.is_enough.ensures.no c.if-is_enough.false) c.address_at-address.ensures.is c.in-Over.ensures.dials c.barren_after-barren.ensures c.next_of-at.ensures c.forget_after.ensures) (placed_left _ _ _ _ c.forget_after.ensures c.in-Over.ensures.goes_on).is_open
    (set_now c.is_set.result _ _ _ c.is_set.ensures c.if-is_set.true (((c.in-Over.ensures.dials).comes).1 ∙ c.streams.invariant.3))

pub streams-preserved : goal.streams-preserved
streams-preserved g c = (
  tt,
  tt,
  subst (λ (n : ℕ). n ≤ 10) (sym c.barren_after-barren.ensures) (barren_small c.in-Over.is_barren _ (c.is_enough.ensures.no c.if-is_enough.false)),
  unset_now c.is_set.result _ _ _ c.is_set.ensures c.if-is_set.false (((c.in-Over.ensures.dials).comes).1 ∙ c.streams.invariant.3),
  placed_left _ _ _ _ c.forget_after.ensures c.in-Over.ensures.goes_on,
  between_goes (telling g.N.In.Source.given g.N.In.Source.left g.N.In.Source.counts g.N.In.Source.ended g.N.In.Source.name g.N.Out.Sink.taken g.N.Out.Sink.counts g.N.Out.Sink.name) _ _ _ _ c.in-Over.fault c.in-Over.is_barren _ _ _ _ _ _ _ _ _ _ _ _ _ _ c.streams.invariant.5 (c.is_enough.ensures.no c.if-is_enough.false) c.address_at-address.ensures.is c.in-Over.ensures.dials c.barren_after-barren.ensures c.next_of-at.ensures c.forget_after.ensures,
)

pub forget_after-requires : goal.forget_after-requires
forget_after-requires g c = (c.in-Over.ensures.goes_on).is_open
