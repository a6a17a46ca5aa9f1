-- The lines at the places so far.
use Rattle.std.proofs.Common.{◌≡◌, take}
use Rattle.std.specs.Prelude.{slice_get}
use Rattle.std.specs.List.{filter_map}
use Rattle.zp_ledger.proofs.conversations.conversation_at.Given as goal

abbrev pub invariant-loop-place : goal.invariant-loop-place
invariant-loop-place l = l.own ≡ filter_map (slice_get l.lines) (take l.place-index l.places)
