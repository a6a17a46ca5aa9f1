-- The bits so far, with those of the changes that are left, are those of all.
use Rattle.std.proofs.Common.{◌≡◌, drop}
use Rattle.zw_watch.specs.Bits.{with_bits}
use Rattle.zw_watch.proofs.bits.bits_of.Given as goal

abbrev pub invariant-loop-trigger : goal.invariant-loop-trigger
invariant-loop-trigger l = with_bits l.bits (drop l.trigger-index l.triggers) ≡ with_bits 0 l.triggers
