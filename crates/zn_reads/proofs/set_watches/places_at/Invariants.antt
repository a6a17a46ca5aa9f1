use Rattle.std.proofs.Common.{◌≡◌, take}
use Rattle.std.specs.Prelude.{map, option_map}
use Rattle.zn_reads.specs.Places.{place_of}
use Rattle.zn_reads.specs.SeenPaths.{place_at}
use Rattle.zn_reads.proofs.set_watches.places_at.Given as goal

abbrev pub invariant-loop-text : goal.invariant-loop-text
invariant-loop-text l = map (option_map place_of) l.places.items ≡ map (place_at l.list) (take l.text-index l.texts)
