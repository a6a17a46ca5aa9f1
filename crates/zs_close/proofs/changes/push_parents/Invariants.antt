-- The operations so far come after those at the start, and with those of the parents to come they are all.
use Rattle.std.proofs.Common.{◌≡◌, ◌++◌, drop}
use Rattle.std.specs.Prelude.{Option}
use Rattle.zn_layout.specs.declared.record.CountRec.{CountRec}
use Rattle.zn_layout.specs.Changes.{acts_of}
use Rattle.zx_base.specs.Maps.{Bytes}
use Rattle.zs_close.specs.Closing.{AreWritesAfter, TellsCounts}
use Rattle.zs_close.specs.Ending.{put_parents}
use Rattle.zs_close.proofs.changes.push_parents.Given as goal

abbrev pub invariant-loop-parent : goal.invariant-loop-parent
invariant-loop-parent l = AreWritesAfter l.initial.acts l.acts × ((counts : Bytes → Option CountRec) → TellsCounts l.view counts l.parents → l.acts ++ acts_of (put_parents counts l.paths (drop l.parent-index l.parents)) ≡ l.initial.acts ++ acts_of (put_parents counts l.paths l.parents))
