-- How a count changes over writes.
use Rattle.std.specs.Prelude.{ℕ, ℤ, ◌+◌, ◌-◌, Bool, true, false, ◌&&◌, List, [], ◌∷◌, Option, Some, None, is_some, cond}
use Rattle.std.specs.Ordering.{int_eq}
use Rattle.zx_base.specs.Maps.{Bytes, same}
use Rattle.zk_model.specs.declared.node.Node.{Node}
use Rattle.zk_model.specs.Paths.{is_child}
use Rattle.zk_model.specs.Znodes.{is_owner}
use Rattle.zk_machine.specs.declared.write.Write.{Write}

-- one more where a node counts that did not before, one less where it counted and no longer does
abbrev pub tallied : Bool → Bool → ℕ → ℕ
tallied false true n = n + 1
tallied true false n = n - 1
tallied true true n = n
tallied false false n = n

module _ (did does : Write → Bool) where
  abbrev pub tallied_all : ℕ → List Write → ℕ
  tallied_all n [] = n
  tallied_all n (w ∷ ws) = tallied_all (tallied (did w) (does w) n) ws

abbrev pub was_child : Bytes → Write → Bool
was_child p w = is_child p w.path && is_some w.before

abbrev pub is_child_now : Bytes → Write → Bool
is_child_now p w = is_child p w.path && is_some w.node

abbrev pub is_own : ℤ → Option ℤ → Bool
is_own id None = false
is_own id (Some owner) = int_eq owner id

abbrev pub was_owned : ℤ → Write → Bool
was_owned id w = is_own id w.before

abbrev pub is_owned_now : ℤ → Write → Bool
is_owned_now id w = is_owner id w.node

-- the node at a path after writes, where o was there before them
abbrev pub found_after : Bytes → Option Node → List Write → Option Node
found_after p o [] = o
found_after p o (w ∷ ws) = found_after p (cond (same w.path p) w.node o) ws
