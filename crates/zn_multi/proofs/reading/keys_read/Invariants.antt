-- What was read so far, and then what the rest reads, is what all parts read.
use Rattle.std.proofs.Common.{◌≡◌, ◌≤◌, List, ◌++◌, drop, length}
use Rattle.std.specs.Prelude.{IfSome, map}
use Rattle.zn_layout.specs.Keys.{Key, key_bytes}
use Rattle.zn_view.specs.declared.leaving.TreeChange.{TreeChange}
use Rattle.zn_updates.specs.KeysRead.{start_keys}
use Rattle.zn_multi.specs.Reading.{AreRead, AreReadFrom}
use Rattle.zn_multi.proofs.reading.keys_read.Given as goal

abbrev pub invariant-loop-part : goal.invariant-loop-part
invariant-loop-part l =
    (sofar : List Key)
    × (l.keys ≡ map key_bytes (start_keys l.session ++ sofar))
    × ((rest : List Key) → AreReadFrom l.session l.view l.left (drop l.part-index l.parts) rest → AreRead l.session l.view l.parts (sofar ++ rest))
    × IfSome l.left (λ (changes : List TreeChange). length changes ≤ l.part-index)
