-- The results so far, and those of the drafts that are left.
use Rattle.std.proofs.Common.{◌≡◌, map, ◌++◌}
use Rattle.zn_view.specs.Needs.{own_result}
use Rattle.zn_updates.proofs.draft.own_results.Given as goal

abbrev pub invariant-loop-draft : goal.invariant-loop-draft
invariant-loop-draft l = l.results ++ map (own_result l.zxid) l.draft-iterator.rest.items ≡ map (own_result l.fn.zxid) l.fn.drafts
