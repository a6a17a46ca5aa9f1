-- Which keys an update of one node writes, beside the head, and how.
use Rattle.std.specs.Prelude.{◌≡◌, ℤ, pos, nat_abs, Bool, true, false, is_some, List, [], ◌∷◌, ◌++◌, map, Option, Some, if◌then◌else◌}
use Rattle.std.specs.Ordering.{int_eq}
use Rattle.zk_model.specs.declared.request.Request.{Request}
use Rattle.zk_model.specs.declared.request.Request.TheVariants as req
use Rattle.zk_model.specs.Paths.{parent}
use Rattle.zk_model.specs.Single.{is_ephemeral, is_sequential, named}
use Rattle.zx_base.specs.Maps.{Bytes}
use Rattle.zn_layout.specs.declared.record.SessionRec.{SessionRec}
use Rattle.zn_layout.specs.Changes.{KeyChange, update_acts}
use Rattle.zn_layout.specs.Keys.{Key, DataKey, CountsKey, SessionKey}
use Rattle.zn_layout.specs.Records.{has_counts}
use Rattle.zn_view.specs.declared.plan.Plan.{Plan}
use Rattle.zn_view.specs.declared.plan.Who.{Who}
use Rattle.zn_view.specs.Lookups.{sees}
use Rattle.zn_view.specs.Seen.{View}
use Rattle.zn_updates.specs.declared.seen.SeenData.{SeenData}
use Rattle.zn_updates.specs.declared.seen.SeenCounts.{SeenCounts}
use Rattle.zn_updates.specs.Deciding.{path_for}
use Rattle.zn_updates.specs.Making.{IsDataSeen, IsCountsSeen, IsNodesSeen}

-- a key that is put, or else deleted
pub record Write : Type 0 where
  pub key : Key
  pub is_put : Bool

abbrev pub puts : Key → Write
puts k = record { key = k; is_put = true }

abbrev pub deletes : Key → Write
deletes k = record { key = k; is_put = false }

abbrev pub write_of : KeyChange → Write
write_of c = record { key = c.key; is_put = is_some c.put }

-- ---- the keys that each update writes

-- the record of a node's counts, where it has one
abbrev pub counts_writes : (Key → Write) → Bytes → Bool → List Write
counts_writes written p counted = if counted then written (CountsKey p) ∷ [] else []

-- a create of p below q puts the node's record, that of its counts where it is counted, and its parent's counts; of an ephemeral node
-- also the list of its session's nodes, and of another node no list
abbrev pub create_writes : Bytes → Bytes → Bool → Bool → ℤ → List Write
create_writes p q counted ephemeral session =
    puts (DataKey p) ∷ counts_writes puts p counted ++ puts (CountsKey q) ∷ (if ephemeral then puts (SessionKey (nat_abs session)) ∷ [] else [])

-- a new node is counted, unless it is ephemeral and the session has layout 2
abbrev pub IsCounted : View → Bool → ℤ → Bool → Type 0
IsCounted v false session counted = counted ≡ true
IsCounted v true session counted = (r : SessionRec) × IsNodesSeen (sees v (SessionKey (nat_abs session))) (Some r) × (counted ≡ has_counts r.layout)

-- a delete of p below q deletes the node's record and that of its counts where it is there, and puts its parent's counts; where the
-- node has an owner it puts the list of the owner's nodes, and otherwise no list
abbrev pub delete_writes : Bytes → Bytes → Bool → ℤ → List Write
delete_writes p q counted owner = deletes (DataKey p) ∷ counts_writes deletes p counted ++ puts (CountsKey q) ∷ (if int_eq owner (pos 0) then [] else puts (SessionKey (nat_abs owner)) ∷ [])

-- a setData puts the node's record
abbrev pub set_data_writes : Bytes → List Write
set_data_writes p = puts (DataKey p) ∷ []

-- These are the keys that the update writes. What a delete deletes, the view saw there.
abbrev pub AreWrites : Request → Who → View → List Write → Type 0
AreWrites (req.Create path d a f) who v ws =
    (q : Bytes) × (x : Option SeenData) × (c : Option SeenCounts) × (counted : Bool) × (parent (named f path) ≡ Some q) × IsDataSeen (sees v (DataKey q)) x
    × IsCountsSeen x (sees v (CountsKey q)) c × IsCounted v (is_ephemeral f) who.session counted
    × (ws ≡ create_writes (path_for (is_sequential f) path c) q counted (is_ephemeral f) who.session)
AreWrites (req.Create2 path d a f) who v ws =
    (q : Bytes) × (x : Option SeenData) × (c : Option SeenCounts) × (counted : Bool) × (parent (named f path) ≡ Some q) × IsDataSeen (sees v (DataKey q)) x
    × IsCountsSeen x (sees v (CountsKey q)) c × IsCounted v (is_ephemeral f) who.session counted
    × (ws ≡ create_writes (path_for (is_sequential f) path c) q counted (is_ephemeral f) who.session)
AreWrites (req.Delete p x) who v ws =
    (q : Bytes) × (y : SeenData) × (c : SeenCounts) × (parent p ≡ Some q) × IsDataSeen (sees v (DataKey p)) (Some y)
    × IsCountsSeen (Some y) (sees v (CountsKey p)) (Some c) × (ws ≡ delete_writes p q c.is_stored y.owner)
AreWrites (req.SetData p d x) who v ws = ws ≡ set_data_writes p
AreWrites _ who v ws = ⊥

-- the plan writes these keys and then the head, and no other key: so it puts no list that stays as it is, and deletes no key that is
-- not there
pub record WritesAs (r : Request) (who : Who) (v : View) (p : Plan) : Type 0 where
  pub changes : List KeyChange
  pub acts : p.success ≡ update_acts changes p.triggers
  pub writes : AreWrites r who v (map write_of changes)
