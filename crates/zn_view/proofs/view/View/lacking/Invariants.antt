-- What is named so far is what the keys so far lack.
use Rattle.std.proofs.Common.{◌≡◌, []}
use Rattle.std.specs.Prelude.{fold}
use Rattle.zn_view.specs.Lacking.{with_want}
use Rattle.zn_view.proofs.view.View.lacking.Given as goal

abbrev pub invariant-loop-key : goal.invariant-loop-key
invariant-loop-key l = l.wants ≡ fold (with_want l.self) [] l.yielded
