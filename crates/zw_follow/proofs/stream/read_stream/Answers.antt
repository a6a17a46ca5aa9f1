use Rattle.std.proofs.Common.{arith, subst, refl}
use Rattle.std.specs.Prelude.{Option, IfSome, Ok, Err}
use Rattle.ev_http.specs.Taking.{told}
use Rattle.ev_json.specs.Ranges.{LineFits}
use Rattle.ev_json.specs.declared.line.Line.{Line}
use Rattle.zw_follow.proofs.Ending.{follower_at, following_goes, following_starts, following_waits, goes_on_broken, is_few, set_now, stream_breaks, stream_ends_at, stream_is_silent, stream_stops, takes_at, unset_now}
use Rattle.zw_follow.proofs.stream.read_stream.Goals as goal

pub lines-init : goal.lines-init
lines-init g c = (tt, tt, refl, omega arith, following_starts (told g.S.Source.given g.S.Source.left g.S.Source.counts g.S.Source.ended g.S.Source.name) _ _ _ _ c.requires.first c.requires.placed (follower_at _ _ c.requires.placed.least c.requires.placed.most c.new-follower.ensures))

pub returns-then-is_set-clause-goes_on : goal.returns-then-is_set-clause-goes_on
returns-then-is_set-clause-goes_on g c = (((c.lines.invariant.4).stands).placed).is_open

pub returns-then-is_set-clause-reads : goal.returns-then-is_set-clause-reads
returns-then-is_set-clause-reads g c = stream_stops (told g.S.Source.given g.S.Source.left g.S.Source.counts g.S.Source.ended g.S.Source.name) _ _ _ _ _ _ _ _ _ _ _ c.lines.invariant.4 (is_few _ c.lines.invariant.3) (set_now c.is_set.result _ _ _ c.is_set.ensures c.if-is_set.true c.lines.invariant.2)

pub returns-in-Err-clause-goes_on : goal.returns-in-Err-clause-goes_on
returns-in-Err-clause-goes_on g c = goes_on_broken _ _ c.in-Err.fault _ c.broken.result c.broken.ensures ((c.lines.invariant.4).stands).placed

pub returns-in-Err-clause-reads : goal.returns-in-Err-clause-reads
returns-in-Err-clause-reads g c = stream_breaks (told g.S.Source.given g.S.Source.left g.S.Source.counts g.S.Source.ended g.S.Source.name) _ _ c.next_line.new.lines _ _ _ _ _ _ _ c.in-Err.fault c.broken.result _ _ c.lines.invariant.4 (is_few _ c.lines.invariant.3) (c.in-Err.ensures.reads _ _ (c.lines.invariant.4).read) c.broken.ensures
    (unset_now c.is_set.result _ _ _ c.is_set.ensures c.if-is_set.false c.lines.invariant.2)

pub returns-then-minutes-ge-MAX_SILENCE-clause-reads : goal.returns-then-minutes-ge-MAX_SILENCE-clause-reads
returns-then-minutes-ge-MAX_SILENCE-clause-reads g c = stream_is_silent (told g.S.Source.given g.S.Source.left g.S.Source.counts g.S.Source.ended g.S.Source.name) _ c.next_line.new.lines _ _ _ _ _ _ _ c.broken-then-minutes-ge-MAX_SILENCE.result _ _
    (following_waits (told g.S.Source.given g.S.Source.left g.S.Source.counts g.S.Source.ended g.S.Source.name) _ _ c.next_line.new.lines _ _ _ _ _ _ _ c.in-Ok.found c.lines.invariant.4 c.in-None-found.is (c.in-Ok.ensures.reads _ _ (c.lines.invariant.4).read))
    (omega (arith, c.lines.invariant.3, c.if-minutes-ge-MAX_SILENCE.true)) c.broken-then-minutes-ge-MAX_SILENCE.ensures (unset_now c.is_set.result _ _ _ c.is_set.ensures c.if-is_set.false c.lines.invariant.2)

pub lines-preserved-in-None-found : goal.lines-preserved-in-None-found
lines-preserved-in-None-found g c = (
  tt,
  tt,
  unset_now c.is_set.result _ _ _ c.is_set.ensures c.if-is_set.false c.lines.invariant.2,
  omega (arith, c.if-minutes-ge-MAX_SILENCE.false),
  following_waits (told g.S.Source.given g.S.Source.left g.S.Source.counts g.S.Source.ended g.S.Source.name) _ _ c.next_line.new.lines _ _ _ _ _ _ _ c.in-Ok.found c.lines.invariant.4 c.in-None-found.is (c.in-Ok.ensures.reads _ _ (c.lines.invariant.4).read),
)

pub take_line-requires-clause-line : goal.take_line-requires-clause-line
take_line-requires-clause-line g c = subst (λ (f : Option Line). IfSome f LineFits) c.in-Some-found.is c.in-Ok.ensures.fits

pub take_line-requires-clause-stands : goal.take_line-requires-clause-stands
take_line-requires-clause-stands g c = (c.lines.invariant.4).stands

pub returns-in-Err-take_line-clause-goes_on : goal.returns-in-Err-take_line-clause-goes_on
returns-in-Err-take_line-clause-goes_on g c = c.in-Err-take_line.ensures.goes_on

pub returns-in-Err-take_line-clause-reads : goal.returns-in-Err-take_line-clause-reads
returns-in-Err-take_line-clause-reads g c = stream_ends_at (told g.S.Source.given g.S.Source.left g.S.Source.counts g.S.Source.ended g.S.Source.name) _ _ c.next_line.new.lines _ _ _ _ _ _ _ _ _ c.in-Ok.found c.in-Some-found.line c.in-Err-take_line.end _ _ c.lines.invariant.4 c.lines.invariant.3 c.in-Some-found.is (c.in-Ok.ensures.reads _) (takes_at (Err c.in-Err-take_line.end) _ _ _ _ _ _ c.requires.placed.revision_least c.requires.placed.revision_most c.in-Err-take_line.ensures.takes)
    (unset_now c.is_set.result _ _ _ c.is_set.ensures c.if-is_set.false c.lines.invariant.2)

pub lines-preserved-in-Ok-take_line : goal.lines-preserved-in-Ok-take_line
lines-preserved-in-Ok-take_line g c = (
  tt,
  tt,
  unset_now c.is_set.result _ _ _ c.is_set.ensures c.if-is_set.false c.lines.invariant.2,
  omega arith,
  following_goes (told g.S.Source.given g.S.Source.left g.S.Source.counts g.S.Source.ended g.S.Source.name) _ _ c.next_line.new.lines _ _ _ _ _ _ _ _ _ _ _ c.in-Ok.found c.in-Some-found.line tt c.lines.invariant.4 c.lines.invariant.3 c.in-Some-found.is (c.in-Ok.ensures.reads _ _ (c.lines.invariant.4).read) (takes_at (Ok tt) _ _ _ _ _ _ c.requires.placed.revision_least c.requires.placed.revision_most c.in-Ok-take_line.ensures.takes)
      c.in-Ok-take_line.ensures.stands c.taken_after-taken.ensures,
)

pub lines-preserved : goal.lines-preserved
lines-preserved g c = (
  tt,
  tt,
  unset_now c.is_set.result _ _ _ c.is_set.ensures c.if-is_set.false c.lines.invariant.2,
  omega arith,
  following_goes (told g.S.Source.given g.S.Source.left g.S.Source.counts g.S.Source.ended g.S.Source.name) _ _ c.next_line.new.lines _ _ _ _ _ _ _ _ _ _ _ c.in-Ok.found c.in-Some-found.line tt c.lines.invariant.4 c.lines.invariant.3 c.in-Some-found.is (c.in-Ok.ensures.reads _ _ (c.lines.invariant.4).read) (takes_at (Ok tt) _ _ _ _ _ _ c.requires.placed.revision_least c.requires.placed.revision_most c.in-Ok-take_line.ensures.takes)
      c.in-Ok-take_line.ensures.stands c.taken_after-taken.ensures,
)
