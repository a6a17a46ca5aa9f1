use Rattle.std.proofs.Common.{length}
use Rattle.zw_follow.specs.Publishing.{IsPublishing}
use Rattle.zw_follow.proofs.stream.publish.Given as goal

abbrev pub invariant-entries : goal.invariant-entries
invariant-entries g l = IsPublishing l.fn.entries.items l.queue.items l.fn.hub.list l.hub.list (l.fn.place).revision l.place

abbrev pub decreases-entries : goal.decreases-entries
decreases-entries g l = length l.queue.items
