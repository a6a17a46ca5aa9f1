-- What a view takes, and why it takes no more.
use Rattle.std.specs.Prelude.{◌≡◌, ℕ, nat_eq, ℤ, pos, ◌⊎◌, Bool, false, ◌&&◌, int_le, ◌++◌, List, [], ◌∷◌, length, take, Option, Some, None, All, IfSome, if◌then◌else◌}
use Rattle.std.specs.List.{list_all}
use Rattle.std.specs.Ordering.{int_eq}
use Rattle.ev_types.specs.declared.answer.ActAns.{ActAns}
use Rattle.ev_types.specs.declared.answer.Kv.{Kv}
use Rattle.ev_types.specs.Store.{last_revision}
use Rattle.zx_base.specs.Maps.{Bytes}
use Rattle.zn_view.specs.declared.fault.ViewFault.{ViewFault}
use Rattle.zn_view.specs.declared.fault.ViewFault.TheVariants.{OtherRevision, Damaged, Memory}
use Rattle.zn_view.specs.declared.snapshot.SeenKey.{SeenKey}
use Rattle.zn_view.specs.declared.snapshot.SeenChildren.{SeenChildren}
use Rattle.zn_view.specs.declared.want.Want.{Want}
use Rattle.zn_view.specs.declared.want.Want.TheVariants as want
use Rattle.zn_view.specs.Asks.{found_in, kept_under}
use Rattle.zn_view.specs.Seen.{View, IsRecord, AreCounts}

-- no round was added yet. An answer of revision 0, which is not of an etcd, counts as a round by what it shows
abbrev pub is_new : View → Bool
is_new v = int_eq v.revision (pos 0) && (nat_eq (length v.keys) 0 && nat_eq (length v.lists) 0)

-- the first round's revision is kept
abbrev pub at_revision : View → ℤ → View
at_revision v r = if is_new v then record v { revision = r } else v

-- the view has a round, at another revision
abbrev pub IsOtherRevision : View → ℤ → Type 0
IsOtherRevision v r = (is_new v ≡ false) × (v.revision ≡ r → ⊥)

-- ---- numbers in an etcd's range

abbrev pub is_count : ℤ → Bool
is_count n = int_le (pos 0) n && int_le n last_revision

abbrev pub has_counts : Kv → Bool
has_counts kv = is_count kv.mod_revision && is_count kv.version

abbrev pub are_counts : ActAns → Bool
are_counts a = list_all has_counts (found_in a)

abbrev pub are_numbers : List ActAns → Bool
are_numbers parts = list_all are_counts parts

-- the numbers of what was found are in an etcd's range
abbrev pub AreNumbersIn : ActAns → Type 0
AreNumbersIn a = All AreCounts (found_in a)

abbrev pub AreNumbers : List ActAns → Type 0
AreNumbers parts = All AreNumbersIn parts

-- what a part shows of a wanted key; of wanted children it shows no record
abbrev pub shown_to : Want → ActAns → Option Kv
shown_to (want.Key k) a = kept_under k (found_in a)
shown_to (want.Children p) a = None

abbrev pub IsRecordPart : Want → ActAns → Type 0
IsRecordPart w a = IfSome (shown_to w a) IsRecord

abbrev pub AreRecords : List Want → List ActAns → Type 0
AreRecords [] parts = Unit {0}
AreRecords (w ∷ ws) [] = Unit {0}
AreRecords (w ∷ ws) (a ∷ more) = IsRecordPart w a × AreRecords ws more

-- what was found for a want has this key and this value, and is no record
pub record IsDamagedPart (w : Want) (a : ActAns) (key value : Bytes) : Type 0 where
  pub kv : Kv
  pub shown : shown_to w a ≡ Some kv
  pub key_is : key ≡ kv.key
  pub value_is : value ≡ kv.value
  pub broken : IsRecord kv → ⊥

-- the first such part in the order of the wants
abbrev pub IsFirstDamaged : List Want → List ActAns → Bytes → Bytes → Type 0
IsFirstDamaged [] parts key value = ⊥
IsFirstDamaged (w ∷ ws) [] key value = ⊥
IsFirstDamaged (w ∷ ws) (a ∷ more) key value = IsDamagedPart w a key value ⊎ (IsRecordPart w a × IsFirstDamaged ws more key value)

-- why a view took nothing; the revision is tested first
abbrev pub IsViewFault : View → List Want → ℤ → List ActAns → ViewFault → Type 0
IsViewFault v ws r parts (OtherRevision view found) = IsOtherRevision v r × (view ≡ v.revision) × (found ≡ r)
IsViewFault v ws r parts (Damaged key value) = (IsOtherRevision v r → ⊥) × IsFirstDamaged ws parts key value
IsViewFault v ws r parts Memory = Unit {0}

-- ---- a view that is being extended

-- the new view has the old keys and lists, and further ones after them
pub record IsGrown (old new : View) : Type 0 where
  pub revision : new.revision ≡ old.revision
  pub keys : List SeenKey
  pub lists : List SeenChildren
  pub keys_are : new.keys ≡ old.keys ++ keys
  pub lists_are : new.lists ≡ old.lists ++ lists

abbrev pub with_key : View → SeenKey → View
with_key v x = record v { keys = v.keys ++ x ∷ [] }

abbrev pub with_list : View → SeenChildren → View
with_list v x = record v { lists = v.lists ++ x ∷ [] }

-- the view with so many of its first keys and lists
abbrev pub first_of : View → ℕ → ℕ → View
first_of v keys lists = record v { keys = take keys v.keys; lists = take lists v.lists }

-- why a part, or some parts, weren't taken
abbrev pub IsPartFault : Want → ActAns → ViewFault → Type 0
IsPartFault w a (OtherRevision view found) = ⊥
IsPartFault w a (Damaged key value) = IsDamagedPart w a key value
IsPartFault w a Memory = Unit {0}

abbrev pub IsPartsFault : List Want → List ActAns → ViewFault → Type 0
IsPartsFault ws parts (OtherRevision view found) = ⊥
IsPartsFault ws parts (Damaged key value) = IsFirstDamaged ws parts key value
IsPartsFault ws parts Memory = Unit {0}

-- the fault of a value that is no record: the key and the value are given, or memory was refused
abbrev pub IsDamagedFault : Kv → ViewFault → Type 0
IsDamagedFault kv (OtherRevision view found) = ⊥
IsDamagedFault kv (Damaged key value) = (key ≡ kv.key) × (value ≡ kv.value)
IsDamagedFault kv Memory = Unit {0}

-- what was found under a key isn't a record
abbrev pub IsKeyFault : Option Kv → ViewFault → Type 0
IsKeyFault o (OtherRevision view found) = ⊥
IsKeyFault o (Damaged key value) = (kv : Kv) × (o ≡ Some kv) × (key ≡ kv.key) × (value ≡ kv.value) × (IsRecord kv → ⊥)
IsKeyFault o Memory = Unit {0}
