-- What the last of the parts to come found, or without any what was found so far, is what the last part found.
use Rattle.std.proofs.Common.{◌≡◌, drop}
use Rattle.zn_view.specs.Asks.{last_part}
use Rattle.zn_view.proofs.LastParts.{last_from}
use Rattle.zn_view.proofs.add.last_found.Given as goal

abbrev pub invariant-loop-part : goal.invariant-loop-part
invariant-loop-part l = last_from l.found (drop l.part-index l.parts) ≡ last_part l.parts
