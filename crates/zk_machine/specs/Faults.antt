-- When the numbers of a tree are within their fields, as they are in each tree of a run.
use Rattle.std.specs.Prelude.{◌≡◌, ◌≤◌, ◌≤ℤ◌, ℕ, ℤ, pos, ⊤, List, [], ◌∷◌, Some, None, length}
use Rattle.std.specs.FinMap.{get}
use Rattle.zx_base.specs.Maps.{Bytes}
use Rattle.zk_model.specs.declared.node.Node.{Node}
use Rattle.zk_model.specs.declared.request.Part.{Part}
use Rattle.zk_model.specs.Multi.{data_len}
use Rattle.zk_model.specs.Paths.{parent}
use Rattle.zk_model.specs.Single.{Outcome, Refused, Done, single}
use Rattle.zk_model.specs.Znodes.{Tree, num_children}
use Rattle.zk_machine.specs.declared.fault.Fault.{Fault}
use Rattle.zk_machine.specs.declared.fault.Fault.TheVariants.{Memory, Beyond}
use Rattle.zk_model.specs.Limits.{max_creates, max_frame}

-- a node counts at least as many creates as it has children, and no more than it may, and its data fit a frame
pub record IsCounted (n : Node) (children : ℕ) : Type 0 where
  pub counted : pos children ≤ℤ n.creates
  pub creates : n.creates ≤ℤ max_creates
  pub small : length n.content ≤ max_frame

abbrev pub IsWithin : Tree → Type 0
IsWithin t = (p : Bytes) (n : Node) → get t p ≡ Some n → IsCounted n (num_children t p)

-- a node whose parent is not there is not there
abbrev pub IsClosed : Tree → Type 0
IsClosed t = (p q : Bytes) → parent p ≡ Some q → get t q ≡ None → get t p ≡ None

-- what each request keeps of a tree, so that its numbers stay within their fields
pub record IsWhole (t : Tree) : Type 0 where
  pub closed : IsClosed t
  pub within : IsWithin t

-- out of memory, or a number is beyond its field: then `fits` does not hold
abbrev pub BeyondUnless : Type 0 → Fault → Type 0
BeyondUnless fits Memory = ⊤
BeyondUnless fits Beyond = fits → ⊥

abbrev pub After : Outcome → (Tree → Type 0) → Type 0
After (Refused code) P = ⊤
After (Done result tree triggers) P = P tree

-- the numbers of each tree on which a part is done are within their fields, and the part's data fit a frame
unfoldable pub StaysWithin : Tree → ℕ → ℤ → List Part → ℤ → ℕ → Type 0
StaysWithin t limit session [] zxid now = ⊤
StaysWithin t limit session (p ∷ ps) zxid now =
    IsWithin t × (data_len p ≤ max_frame) × After (single t limit session p zxid now) (λ u. StaysWithin u limit session ps zxid now)
