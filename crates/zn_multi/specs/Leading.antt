-- What the parts of a multi lead to, in a state that the view shows.
use Rattle.std.specs.Prelude.{◌≡◌, ℕ, ℤ, ◌+◌, true, List, ◌++◌, length, map, All}
use Rattle.zk_model.specs.declared.node.Trigger.{Trigger}
use Rattle.zk_model.specs.declared.reply.PartResult.{PartResult}
use Rattle.zk_model.specs.declared.request.Part.{Part}
use Rattle.zk_model.specs.Multi.{Parts, Stopped, Passed, parts_of}
use Rattle.zk_model.specs.Znodes.{Tree}
use Rattle.zk_service.specs.States.{State, IsSound}
use Rattle.zn_layout.specs.Changes.{KeyChange, are_distinct}
use Rattle.zn_layout.specs.Fits.{ChangesFit}
use Rattle.zn_view.specs.Needs.{own_result}
use Rattle.zn_view.specs.Views.{limit_at}
use Rattle.zn_view.specs.Seen.{View}
use Rattle.zn_updates.specs.Parts.{IsKeptChange}
use Rattle.zn_updates.specs.Right.{with_tree}
use Rattle.zn_multi.specs.Laying.{laid_view}
use Rattle.zn_multi.specs.declared.carrying.Progress.{Progress}

-- what all parts come to, by the results, the triggers and the sessions of the earlier ones and by what the later ones come to
abbrev pub with_first : List PartResult → List Trigger → List ℤ → Parts → Parts
with_first rs gs ss (Stopped place code) = Stopped (length rs + place) code
with_first rs gs ss (Passed results t triggers touched) = Passed (rs ++ results) t (gs ++ triggers) (ss ++ touched)

-- The parts before the rest lead to a sound tree, with their results at this zxid, and the rest goes on from there. What was laid
-- are changes of keys, but for the head, that lead from the state to the one with that tree, each key once.
pub record LeadsTo (id : ℤ) (now : ℕ) (v : View) (parts rest : List Part) (p : Progress) (s : State) (z : ℤ) : Type 0 where
  pub tree : Tree
  pub runs : parts_of s.tree (limit_at id s) id parts z now ≡ with_first (map (own_result z) p.results) p.triggers p.touched (parts_of tree (limit_at id s) id rest z now)
  pub sound : IsSound (with_tree s tree)
  pub changes : List KeyChange
  pub over : p.over ≡ laid_view changes
  pub once : are_distinct changes ≡ true
  pub kept : All IsKeptChange changes
  pub fits : ChangesFit z changes s (with_tree s tree)
