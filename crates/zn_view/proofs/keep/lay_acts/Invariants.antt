-- What the operations to come leave of the keys so far is what all leave.
use Rattle.std.proofs.Common.{drop, List, All}
use Rattle.std.specs.Prelude.{Option}
use Rattle.zn_view.specs.declared.snapshot.SeenKey.{SeenKey}
use Rattle.zn_view.specs.Keeping.{AreLeft}
use Rattle.zn_view.specs.Seen.{IsSeen}
use Rattle.zn_view.proofs.keep.lay_acts.Given as goal

abbrev pub invariant-loop-act : goal.invariant-loop-act
invariant-loop-act l = ((o : Option (List SeenKey)) → AreLeft l.fn.revision l.keys.items (drop l.act-index l.acts) o → AreLeft l.fn.revision l.initial.keys.items l.acts o) × All IsSeen l.keys.items
