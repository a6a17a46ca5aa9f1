use Rattle.std.proofs.Common.{refl, rules}
use Rattle.zp_conn.proofs.Allowed.{fetch_after, fetch_either, fetch_entry}
use Rattle.zp_conn.specs.Turning.{Feeds, calls}
use Rattle.zp_conn.specs.declared.inputs.Next.TheVariants as next
use Rattle.zp_conn.proofs.inputs.take_in.Goals as goal

pub returns-in-Some-clause-takes : goal.returns-in-Some-clause-takes
returns-in-Some-clause-takes g c = calls c.in-Some.ask c.in-Some.is c.answer.ensures.asks refl refl refl

pub returns-in_default-entry-clause-takes : goal.returns-in_default-entry-clause-takes
returns-in_default-entry-clause-takes g c =
    let fed : Feeds c.in-FrameOrEntry.cursor c.entry.result (record { list = g.F.Feed.list c.args.feed.now; reads = g.F.Feed.reads c.args.feed.now; lags = g.F.Feed.lags c.args.feed.now; closings = g.F.Feed.closings c.args.feed.now }) (record { list = g.F.Feed.list c.entry.new.feed; reads = g.F.Feed.reads c.entry.new.feed; lags = g.F.Feed.lags c.entry.new.feed; closings = g.F.Feed.closings c.entry.new.feed }) = search rules in
    fetch_either _ _ _ _ _ _ c.in-FrameOrEntry.cursor c.wants.result _ _ c.wants.ensures c.in-FrameOrEntry.is c.in_default.is fed

pub returns-in_default-entry-2-clause-takes : goal.returns-in_default-entry-2-clause-takes
returns-in_default-entry-2-clause-takes g c =
    let fed : Feeds c.in-Entry.cursor c.entry-in-Entry.result (record { list = g.F.Feed.list c.args.feed.now; reads = g.F.Feed.reads c.args.feed.now; lags = g.F.Feed.lags c.args.feed.now; closings = g.F.Feed.closings c.args.feed.now }) (record { list = g.F.Feed.list c.entry-in-Entry.new.feed; reads = g.F.Feed.reads c.entry-in-Entry.new.feed; lags = g.F.Feed.lags c.entry-in-Entry.new.feed; closings = g.F.Feed.closings c.entry-in-Entry.new.feed }) = search rules in
    fetch_entry _ _ _ _ _ _ c.in-Entry.cursor c.wants.result _ _ c.wants.ensures c.in-Entry.is c.in_default.is fed

pub returns-in-Idle-entry-clause-takes : goal.returns-in-Idle-entry-clause-takes
returns-in-Idle-entry-clause-takes g c =
    let fed : Feeds c.in-FrameOrEntry.cursor next.Idle (record { list = g.F.Feed.list c.args.feed.now; reads = g.F.Feed.reads c.args.feed.now; lags = g.F.Feed.lags c.args.feed.now; closings = g.F.Feed.closings c.args.feed.now }) (record { list = g.F.Feed.list c.entry.new.feed; reads = g.F.Feed.reads c.entry.new.feed; lags = g.F.Feed.lags c.entry.new.feed; closings = g.F.Feed.closings c.entry.new.feed }) = search rules in
    fetch_after _ _ _ _ _ _ _ _ _ c.looked-in-Idle-entry.ensures c.next-in-Idle-entry.ensures.comes c.next-in-Idle-entry.ensures.faults c.in_default.is c.in-FrameOrEntry.cursor c.wants.result _ _ c.wants.ensures c.in-FrameOrEntry.is fed c.next-in-Idle-entry.ensures.ended
