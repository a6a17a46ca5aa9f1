-- All parts come to what the rest comes to from here.
use Rattle.std.proofs.Common.{◌≡◌, drop}
use Rattle.zn_multi.specs.Carrying.{no_progress, Runs}
use Rattle.zn_multi.specs.declared.carrying.Carried.{Carried}
use Rattle.zn_multi.proofs.carrying.carry_out.Given as goal

abbrev pub invariant-loop-part : goal.invariant-loop-part
invariant-loop-part l = (l.place ≡ l.part-index) × ((c : Carried) → Runs l.who l.now l.view l.passed l.place (drop l.part-index l.parts) c → Runs l.fn.who l.fn.now l.view no_progress 0 l.parts c)
