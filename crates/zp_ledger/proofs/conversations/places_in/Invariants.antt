-- The places so far are those of each connection's lines.
use Rattle.std.proofs.Common.{◌≡◌, ℕ, take}
use Rattle.std.specs.Prelude.{filter, slice_get}
use Rattle.std.specs.List.{filter_map}
use Rattle.zp_script.specs.Conversing.{is_line_of}
use Rattle.zp_ledger.specs.Grouping.{places_at}
use Rattle.zp_ledger.proofs.conversations.places_in.Given as goal

abbrev pub invariant-loop-place : goal.invariant-loop-place
invariant-loop-place l = (c : ℕ) → filter_map (slice_get l.lines) (places_at c l.places.entries) ≡ filter (is_line_of c) (take l.place l.lines)
