-- The packets so far.
use Rattle.std.proofs.Common.{◌≡◌, take}
use Rattle.zp_step.specs.Replies.{send_notices}
use Rattle.zp_core.proofs.packets.send_notices.Given as goal

abbrev pub invariant-loop-notice : goal.invariant-loop-notice
invariant-loop-notice l = l.sent ≡ send_notices (take l.notice-index l.notices)
