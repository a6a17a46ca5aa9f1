-- The keys that the parts of a multi read, one part after the other, as far as a view determines them.
use Rattle.std.specs.Prelude.{◌≡◌, ◌^◌, ◌-◌, ℤ, pos, ◌<ℤ◌, ◌≤ℤ◌, Bool, List, [], ◌∷◌, ◌++◌, fold, map, Option, Some, None, MatchOption, if◌then◌else◌}
use Rattle.std.specs.List.{list_any}
use Rattle.zk_model.specs.declared.request.Part.{Part}
use Rattle.zk_model.specs.declared.request.Part.TheVariants as part
use Rattle.zk_model.specs.Paths.{parent}
use Rattle.zk_model.specs.Single.{form_refusal, is_ephemeral, is_sequential, named}
use Rattle.zx_base.specs.Maps.{Bytes, same}
use Rattle.zn_layout.specs.declared.record.CountRec.{CountRec}
use Rattle.zn_layout.specs.Keys.{Key, DataKey, key_bytes}
use Rattle.zn_view.specs.declared.leaving.NodeNow.{NodeNow}
use Rattle.zn_view.specs.declared.leaving.TreeChange.{TreeChange}
use Rattle.zn_view.specs.Leaving.{AreCountsNow, CheckLeaves, DeleteLeaves, IsNodeNow, NodeLeaves, SetLeaves, node_path}
use Rattle.zn_view.specs.Lookups.{sees}
use Rattle.zn_view.specs.Seen.{View}
use Rattle.zn_view.specs.Views.{about_parent, about_path, counts_of_parent}
use Rattle.zn_updates.specs.KeysRead.{IsOwnerSeen, owner_nodes, plain_data, session_nodes}
use Rattle.zn_multi.specs.declared.reading.PartRead.{PartRead}

-- ---- what the parts so far leave

-- the changes that they make, in turn: None where one of them is not carried out
abbrev pub Left : Type 0
Left = Option (List TreeChange)

-- what is left of this, which is nothing where nothing was left before
abbrev pub IfLeft : Left → (List TreeChange → Left → Type 0) → Left → Type 0
IfLeft None P next = next ≡ None
IfLeft (Some changes) P next = P changes next

-- counts that can be added to
pub record AreSmall (c : CountRec) : Type 0 where
  pub creates : c.creates <ℤ pos (2 ^ 31 - 1)
  pub children : c.children <ℤ pos (2 ^ 31 - 1)
  pub least : pos 0 ≤ℤ c.children

-- the counts of a new node's parent: None where nothing is left or there is no parent
abbrev pub AreCountsAbove : View → Left → Option Bytes → Option (Option CountRec) → Type 0
AreCountsAbove v None above counts = counts ≡ None
AreCountsAbove v (Some changes) None counts = counts ≡ None
AreCountsAbove v (Some changes) (Some q) counts = AreCountsNow v changes q counts

-- what a create leaves, by these counts and the path of its node
abbrev pub IsCreateLeft : View → Left → Bool → ℤ → Option Bytes → Option (Option CountRec) → Option Bytes → Left → Type 0
IsCreateLeft v None ephemeral id above counts _ next = next ≡ None
IsCreateLeft v (Some changes) ephemeral id None counts _ next = next ≡ None
IsCreateLeft v (Some changes) ephemeral id (Some q) counts node next = (up : Option (Option NodeNow)) × IsNodeNow v changes q up × NodeLeaves v changes ephemeral id up counts node next

-- ---- the keys that a part reads, and what it leaves

abbrev pub data_at : Option Bytes → List Key
data_at None = []
data_at (Some p) = DataKey p ∷ []

-- the key of a sequence node's record, once its path is determined
abbrev pub sequence_data : Bool → Option Bytes → List Key
sequence_data sequential node = if sequential then data_at node else []

abbrev pub create_reads : ℤ → Bytes → Bool → Bool → Option Bytes → Option Bytes → List Key
create_reads id path sequential ephemeral above node = ((about_parent above ++ plain_data sequential path) ++ session_nodes ephemeral id) ++ sequence_data sequential node

pub record IsCreateRead (id : ℤ) (v : View) (left : Left) (path : Bytes) (sequential ephemeral : Bool) (above : Option Bytes) (own : List Key) (next : Left) : Type 0 where
  pub counts : Option (Option CountRec)
  pub counts_are : AreCountsAbove v left above counts
  pub keys : own ≡ create_reads id path sequential ephemeral above (node_path sequential path counts)
  pub next_is : IsCreateLeft v left ephemeral id above counts (node_path sequential path counts) next

abbrev pub delete_reads : Bytes → ℤ → List Key
delete_reads p owner = (about_path p ++ counts_of_parent (parent p)) ++ owner_nodes owner

pub record IsDeleteRead (v : View) (left : Left) (p : Bytes) (version : ℤ) (own : List Key) (next : Left) : Type 0 where
  pub owner : ℤ
  pub owner_is : IsOwnerSeen (sees v (DataKey p)) owner
  pub keys : own ≡ delete_reads p owner
  pub next_is : IfLeft left (λ changes n. DeleteLeaves v changes p version n) next

abbrev pub IsFormedRead : ℤ → View → Left → Part → List Key → Left → Type 0
IsFormedRead id v left (part.Create path d a f) own next = IsCreateRead id v left path (is_sequential f) (is_ephemeral f) (parent (named f path)) own next
IsFormedRead id v left (part.Delete path x) own next = IsDeleteRead v left path x own next
IsFormedRead id v left (part.SetData p d x) own next = (own ≡ about_path p) × IfLeft left (λ changes n. SetLeaves v changes p x n) next
IsFormedRead id v left (part.Check p x) own next = (own ≡ DataKey p ∷ []) × IfLeft left (λ changes n. CheckLeaves v changes p x n) next

-- a part whose form is refused reads nothing and is not carried out
abbrev pub IsReadBy : ℤ → View → Left → Part → List Key → Left → Type 0
IsReadBy id v left p own next = MatchOption (form_refusal p) (IsFormedRead id v left p own next) (λ code. (own ≡ []) × (next ≡ None))

-- what a part reads, as the code keeps it
pub record IsPartRead (id : ℤ) (v : View) (left : Left) (p : Part) (r : PartRead) : Type 0 where
  pub own : List Key
  pub keys : r.keys ≡ map key_bytes own
  pub read : IsReadBy id v left p own r.left

-- ---- all parts, one after the other

abbrev pub AreReadFrom : ℤ → View → Left → List Part → List Key → Type 0
AreReadFrom id v left [] ks = ks ≡ []
AreReadFrom id v left (p ∷ ps) ks =
    (own : List Key) × (next : Left) × (rest : List Key) × IsReadBy id v left p own next × AreReadFrom id v next ps rest × (ks ≡ own ++ rest)

abbrev pub AreRead : ℤ → View → List Part → List Key → Type 0
AreRead id v parts ks = AreReadFrom id v (Some []) parts ks

-- ---- each key once

abbrev pub with_new : List Bytes → Bytes → List Bytes
with_new ks k = if list_any (λ q. same q k) ks then ks else ks ++ k ∷ []

abbrev pub each_new : List Bytes → List Bytes
each_new ks = fold with_new [] ks
