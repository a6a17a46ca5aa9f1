-- The lines that are left decide: none of those after them tells.
use Rattle.std.proofs.Common.{◌≡◌, ◌≤◌, length, take}
use Rattle.zp_clients.specs.Sent.{awaits_reply}
use Rattle.zp_clients.proofs.sent.awaits_reply.Given as goal

abbrev pub invariant-lines : goal.invariant-lines
invariant-lines l = (l.left ≤ length l.lines) × (awaits_reply l.connection (take l.left l.lines) ≡ awaits_reply l.connection l.lines)

abbrev pub decreases-lines : goal.decreases-lines
decreases-lines l = l.left
