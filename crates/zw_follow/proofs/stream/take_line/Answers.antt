use Rattle.zw_follow.proofs.Growing.{line_fits}
use Rattle.zw_follow.proofs.Taking.{goes_on_failed, line_fails, line_refused, line_stands, line_taken, not_behind_at, open_refused, revision_of, run_at, stands_with}
use Rattle.zw_follow.proofs.stream.take_line.Goals as goal

pub take-requires : goal.take-requires
take-requires g c = line_fits _ c.requires.line

pub returns-in-Err-clause-takes : goal.returns-in-Err-clause-takes
returns-in-Err-clause-takes g c = line_fails _ _ c.in-Err.fault c.end_of.result _ _ _ _ _ (not_behind_at _ _ c.ranges.asked (c.behind.ensures.not_behind c.in-None.is)) (revision_of c.args.place.now c.move_on.new.place c.args.line.now c.move_on.ensures) (stands_with _ _ _ _ _ c.requires.line c.move_on.ensures c.requires.stands) c.in-Err.ensures c.end_of.ensures

pub returns-in-Err-clause-goes_on : goal.returns-in-Err-clause-goes_on
returns-in-Err-clause-goes_on g c = goes_on_failed c.in-Err.fault c.end_of.result _ _ c.end_of.ensures (stands_with _ _ _ _ _ c.requires.line c.move_on.ensures c.requires.stands).placed

pub publish-requires-clause-run : goal.publish-requires-clause-run
publish-requires-clause-run g c = run_at _ c.in-Ok.entries _ _ _ _ c.requires.line c.requires.stands c.in-Ok.ensures

pub publish-requires-clause-placed : goal.publish-requires-clause-placed
publish-requires-clause-placed g c = (stands_with _ _ _ _ _ c.requires.line c.move_on.ensures c.requires.stands).placed

pub returns-in-Ok-publish-clause-takes : goal.returns-in-Ok-publish-clause-takes
returns-in-Ok-publish-clause-takes g c = line_taken _ _ c.in-Ok.entries _ _ _ _ _ _ _ tt (not_behind_at _ _ c.ranges.asked (c.behind.ensures.not_behind c.in-None.is)) (revision_of c.args.place.now c.move_on.new.place c.args.line.now c.move_on.ensures) (stands_with _ _ _ _ _ c.requires.line c.move_on.ensures c.requires.stands) c.in-Ok.ensures c.in-Ok-publish.ensures

pub returns-in-Ok-publish-clause-stands : goal.returns-in-Ok-publish-clause-stands
returns-in-Ok-publish-clause-stands g c = line_stands _ c.in-Ok.entries _ _ _ _ _ _ tt c.requires.line (stands_with _ _ _ _ _ c.requires.line c.move_on.ensures c.requires.stands) c.in-Ok.ensures c.in-Ok-publish.ensures

pub returns-in-Err-publish-clause-takes : goal.returns-in-Err-publish-clause-takes
returns-in-Err-publish-clause-takes g c = line_refused _ _ c.in-Ok.entries _ _ _ _ _ c.move_on.new.place c.publish.new.place _ (not_behind_at _ _ c.ranges.asked (c.behind.ensures.not_behind c.in-None.is)) (revision_of c.args.place.now c.move_on.new.place c.args.line.now c.move_on.ensures) (stands_with _ _ _ _ _ c.requires.line c.move_on.ensures c.requires.stands) c.in-Ok.ensures c.in-Err-publish.ensures

pub returns-in-Err-publish-clause-goes_on : goal.returns-in-Err-publish-clause-goes_on
returns-in-Err-publish-clause-goes_on g c = open_refused _ _ _ c.move_on.new.place c.publish.new.place _ c.in-Err-publish.ensures ((c.requires.stands).placed).is_open
