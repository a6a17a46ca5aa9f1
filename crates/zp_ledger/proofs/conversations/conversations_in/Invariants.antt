-- The conversations of those that opened so far.
use Rattle.std.proofs.Common.{◌≡◌, take}
use Rattle.std.specs.Prelude.{map}
use Rattle.std.specs.List.{filter_map}
use Rattle.zp_script.specs.Conversing.{conversation, opened_by}
use Rattle.zp_ledger.proofs.conversations.conversations_in.Given as goal

abbrev pub invariant-loop-line : goal.invariant-loop-line
invariant-loop-line l = l.found.items ≡ map (conversation l.lines) (filter_map opened_by (take l.line-index l.lines))
