-- What the steps of a reader give.
use Rattle.std.specs.Prelude.{◌≡◌, ℕ, ◌^◌, ◌<◌, List, ◌∷◌, ◌++◌, length, IsTrue, Option, Some, None}
use Rattle.std.specs.Int.{w32, w64}
use Rattle.std.specs.Int.RustNames.{FitsSigned}
use Rattle.std.specs.List.{All, flat_map}
use Rattle.zk_model.specs.declared.layout.Layout.{Layout}
use Rattle.zk_model.specs.declared.node.Trigger.{Trigger}
use Rattle.zk_jute.specs.JuteWriting.{count_bytes, string_bytes}
use Rattle.zk_model.specs.Paths.{is_path}
use Rattle.zx_base.specs.Maps.{Bytes}
use Rattle.zn_layout.specs.declared.record.NodeRec.{NodeRec}
use Rattle.zn_layout.specs.declared.record.CountRec.{CountRec}
use Rattle.zn_layout.specs.declared.record.LeaseRec.{LeaseRec}
use Rattle.zn_layout.specs.Records.{layout_byte, trigger_bytes}
use Rattle.zk_model.specs.Watches.{trigger_path}

-- ---- numbers

-- each number fits its field, be it within the record's bounds or not
pub record HasNumbers (r : NodeRec) : Type 0 where
  pub czxid : FitsSigned w64 r.czxid
  pub version : FitsSigned w32 r.version
  pub ctime : FitsSigned w64 r.ctime
  pub mtime : FitsSigned w64 r.mtime
  pub owner : FitsSigned w64 r.owner

pub record HasCounts (r : CountRec) : Type 0 where
  pub creates : FitsSigned w32 r.creates
  pub children : FitsSigned w32 r.children

pub record HasLife (r : LeaseRec) : Type 0 where
  pub timeout : FitsSigned w32 r.timeout
  pub attaches : FitsSigned w64 r.attaches

-- ---- lists

-- the bytes begin as the record of no session's nodes does
abbrev pub IsOfNoLayout : Bytes → Type 0
IsOfNoLayout v = (layout : Layout) (rest : Bytes) → v ≡ layout_byte layout ∷ rest → ⊥

abbrev pub IsValidPath : Bytes → Type 0
IsValidPath p = IsTrue (is_path p)

abbrev pub IsValidTrigger : Trigger → Type 0
IsValidTrigger t = IsValidPath (trigger_path t)

-- the text itself, which is a valid path; or None, where it is none
abbrev pub IsPathOf : Bytes → Option Bytes → Type 0
IsPathOf text (Some p) = (p ≡ text) × IsValidPath p
IsPathOf text None = IsValidPath text → ⊥

-- the trigger whose bytes are this number and this path; or None, where no trigger begins with the number
abbrev pub IsOfKind : ℕ → Bytes → Option Trigger → Type 0
IsOfKind kind p (Some t) = trigger_bytes t ≡ kind ∷ string_bytes p
IsOfKind kind p None = (t : Trigger) (rest : Bytes) → trigger_bytes t ≡ kind ∷ rest → ⊥

-- the bytes are a count below 2^31, and then what is left
abbrev pub IsCounted : Bytes → ℕ → Bytes → Type 0
IsCounted old n new = (n < 2 ^ 31) × (old ≡ count_bytes n ++ new)

-- the bytes begin with no such count
abbrev pub IsNotCounted : Bytes → Type 0
IsNotCounted old = (n : ℕ) (rest : Bytes) → n < 2 ^ 31 → old ≡ count_bytes n ++ rest → ⊥

-- the bytes are an item, and then what is left; or None, where they do not begin with one
abbrev pub TakesItem : {A : Type 0} → (A → Bytes) → (A → Type 0) → Bytes → Bytes → Option A → Type 0
TakesItem each IsItem old new (Some x) = IsItem x × (old ≡ each x ++ new)
TakesItem {A = A} each IsItem old new None = (x : A) (rest : Bytes) → IsItem x → old ≡ each x ++ rest → ⊥

-- the bytes are so many items, and then what is left; or None, where they do not begin with so many items
abbrev pub TakesItems : {A : Type 0} → (A → Bytes) → (A → Type 0) → ℕ → Bytes → Bytes → Option (List A) → Type 0
TakesItems each IsItem n old new (Some xs) = (length xs ≡ n) × All IsItem xs × (old ≡ flat_map each xs ++ new)
TakesItems {A = A} each IsItem n old new None = (xs : List A) (rest : Bytes) → length xs ≡ n → All IsItem xs → old ≡ flat_map each xs ++ rest → ⊥
