use Rattle.std.proofs.Common.{rules, subst, sym}
use Rattle.zw_follow.specs.Publishing.{IsPublishing}
use Rattle.zw_follow.proofs.Growing.{publishing_goes, publishing_starts}
use Rattle.zw_follow.proofs.stream.publish.Goals as goal

pub entries-init : goal.entries-init
entries-init g c = subst (λ q. IsPublishing c.args.entries.items q c.args.hub.now.list c.args.hub.now.list (c.args.place.now).revision c.args.place.now) (sym c.from-queue.ensures.0)
    (publishing_starts c.args.entries.items c.args.hub.now.list c.args.place.now c.requires.run c.requires.placed)

pub entries-preserved : goal.entries-preserved
entries-preserved g c = publishing_goes _ _ _ c.in-Some.entry _ _ _ _ _ _ c.in-Some.ensures.items (search rules) (search rules) (search rules) c.entries.invariant
