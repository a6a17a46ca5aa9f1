-- Each change of the tree adds one at most.
use Rattle.std.proofs.Common.{ℕ, ℤ, pos, ◌+◌, ◌-◌, ◌≤◌, Bool, true, false, Option, Some, None, arith}
use Rattle.std.specs.Prelude.{IfSome, option_map, if◌then◌else◌, ◌≤ℤ◌}
use Rattle.std.specs.Ordering.{int_eq}
use Rattle.std.proofs.lemmas.Int.{ints}
use Rattle.zk_model.specs.Paths.{is_child}
use Rattle.zx_base.specs.Maps.{Bytes, same}
use Rattle.zn_layout.specs.declared.record.CountRec.{CountRec}
use Rattle.zn_layout.specs.Begin.{first_counts}
use Rattle.zn_layout.specs.Counts.{one_less, one_more}
use Rattle.zn_view.specs.declared.leaving.NodeNow.{NodeNow}
use Rattle.zn_view.specs.declared.leaving.TreeChange.{TreeChange}
use Rattle.zn_view.specs.declared.leaving.TreeChange.TheVariants.{Created, Deleted, DataSet}
use Rattle.zn_view.specs.Leaving.{counts_with, node_now, node_with, room_with, set_once}

-- ---- a node's version

abbrev pub IsNodeWithin : ℕ → Option (Option NodeNow) → Type 0
IsNodeWithin k n = IfSome n (λ (o : Option NodeNow). IfSome o (λ (x : NodeNow). x.version ≤ℤ pos k))

node_wider : (k : ℕ) (n : Option (Option NodeNow)) → IsNodeWithin k n → IsNodeWithin (k + 1) n
node_wider k None h = tt
node_wider k (Some None) h = tt
node_wider k (Some (Some x)) h = omega (arith, ints, h)

set_within : (k : ℕ) (n : Option (Option NodeNow)) → IsNodeWithin k n → IsNodeWithin (k + 1) (option_map (option_map set_once) n)
set_within k None h = tt
set_within k (Some None) h = tt
set_within k (Some (Some x)) h = omega (arith, ints, h)

pub node_within : (p : Bytes) (n : Option (Option NodeNow)) (c : TreeChange) (k : ℕ) → IsNodeWithin k n → IsNodeWithin (k + 1) (node_with p n c)
node_within p n (Created q owner) k h = at (same q p)
  where
    at : (b : Bool) → IsNodeWithin (k + 1) (if b then Some (Some (node_now (pos 0) owner)) else n)
    at true = omega (arith, ints)
    at false = node_wider k n h
node_within p n (Deleted q owner) k h = at (same q p)
  where
    at : (b : Bool) → IsNodeWithin (k + 1) (if b then Some None else n)
    at true = tt
    at false = node_wider k n h
node_within p n (DataSet q) k h = at (same q p)
  where
    at : (b : Bool) → IsNodeWithin (k + 1) (if b then option_map (option_map set_once) n else n)
    at true = set_within k n h
    at false = node_wider k n h

-- ---- its counts

pub record AreWithin (k : ℕ) (c : CountRec) : Type 0 where
  pub creates : c.creates ≤ℤ pos k
  pub children : c.children ≤ℤ pos k
  pub least : pos 0 ≤ℤ c.children

abbrev pub AreCountsWithin : ℕ → Option (Option CountRec) → Type 0
AreCountsWithin k c = IfSome c (λ (o : Option CountRec). IfSome o (AreWithin k))

counts_wider : (k : ℕ) (c : Option (Option CountRec)) → AreCountsWithin k c → AreCountsWithin (k + 1) c
counts_wider k None h = tt
counts_wider k (Some None) h = tt
counts_wider k (Some (Some c)) h = let a = h.creates in let b = h.children in record { creates = omega (arith, ints, a); children = omega (arith, ints, b); least = h.least }

more_within : (k : ℕ) (c : Option (Option CountRec)) → AreCountsWithin k c → AreCountsWithin (k + 1) (option_map (option_map one_more) c)
more_within k None h = tt
more_within k (Some None) h = tt
more_within k (Some (Some c)) h = let a = h.creates in let b = h.children in let d = h.least in record { creates = omega (arith, ints, a); children = omega (arith, ints, b); least = omega (arith, ints, d) }

less_within : (k : ℕ) (c : Option (Option CountRec)) → AreCountsWithin k c → AreCountsWithin (k + 1) (option_map (option_map one_less) c)
less_within k None h = tt
less_within k (Some None) h = tt
less_within k (Some (Some c)) h = let a = h.creates in let b = h.children in let d = h.least in record { creates = omega (arith, ints, a); children = omega (arith, ints, b, d); least = omega (arith, ints) }

pub counts_within : (p : Bytes) (c : Option (Option CountRec)) (e : TreeChange) (k : ℕ) → AreCountsWithin k c → AreCountsWithin (k + 1) (counts_with p c e)
counts_within p c (Created q owner) k h = at (same q p) (is_child p q)
  where
    at : (a b : Bool) → AreCountsWithin (k + 1) (if a then Some (Some first_counts) else (if b then option_map (option_map one_more) c else c))
    at true b = record { creates = omega (arith, ints); children = omega (arith, ints); least = omega (arith, ints) }
    at false true = more_within k c h
    at false false = counts_wider k c h
counts_within p c (Deleted q owner) k h = at (same q p) (is_child p q)
  where
    at : (a b : Bool) → AreCountsWithin (k + 1) (if a then Some None else (if b then option_map (option_map one_less) c else c))
    at true b = tt
    at false true = less_within k c h
    at false false = counts_wider k c h
counts_within p c (DataSet q) k h = counts_wider k c h

-- ---- how many nodes more a session may own

pub room_within : (id : ℤ) (n : ℕ) (c : TreeChange) (k : ℕ) → n ≤ k → room_with id n c ≤ k + 1
room_within id n (Created q owner) k h = at (int_eq owner id)
  where
    at : (b : Bool) → (if b then n - 1 else n) ≤ k + 1
    at true = omega (arith, h)
    at false = omega (arith, h)
room_within id n (Deleted q owner) k h = at (int_eq owner id)
  where
    at : (b : Bool) → (if b then n + 1 else n) ≤ k + 1
    at true = omega (arith, h)
    at false = omega (arith, h)
room_within id n (DataSet q) k h = omega (arith, h)
