-- Numbers beyond their fields.
use Rattle.std.proofs.Common.{◌≡◌, ◌≤ℤ◌, Some}
use Rattle.std.specs.FinMap.{get}
use Rattle.zx_base.specs.Maps.{Bytes}
use Rattle.zk_model.specs.declared.node.Node.{Node}
use Rattle.zk_model.specs.Znodes.{Tree}
use Rattle.zk_machine.specs.declared.fault.Fault.{Fault}
use Rattle.zk_machine.specs.declared.fault.Fault.TheVariants.{Memory, Beyond}
use Rattle.zk_machine.specs.Faults.{IsWithin, BeyondUnless}
use Rattle.zk_model.specs.Limits.{max_creates}

pub beyond-weaker : (P Q : Type 0) (fault : Fault) → (Q → P) → BeyondUnless P fault → BeyondUnless Q fault
beyond-weaker P Q Memory more h = tt
beyond-weaker P Q Beyond more h = λ q. h (more q)

pub within-creates : (t : Tree) (p : Bytes) (n : Node) → get t p ≡ Some n → IsWithin t → n.creates ≤ℤ max_creates
within-creates t p n there within = (within p n there).creates
