-- The hash so far, over the bytes that are left, is the hash of all.
use Rattle.std.proofs.Common.{◌≡◌, drop}
use Rattle.zw_watch.specs.Bits as definition
use Rattle.zw_watch.proofs.bits.hashed.Given as goal

abbrev pub invariant-loop-byte : goal.invariant-loop-byte
invariant-loop-byte l = definition.hashed l.hash (drop l.byte-index l.path) ≡ definition.hashed 14695981039346656037 l.path
