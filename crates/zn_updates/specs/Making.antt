-- A choice as the code makes it: the changes are operations.
use Rattle.std.specs.Prelude.{◌≡◌, ℤ, pos, ◌≤ℤ◌, Bool, true, false, List, Option, Some, None, option_map}
use Rattle.ev_types.specs.declared.answer.Kv.{Kv}
use Rattle.zk_model.specs.declared.node.Trigger.{Trigger}
use Rattle.zk_model.specs.declared.reply.PartResult.{PartResult}
use Rattle.zn_layout.specs.declared.record.SessionRec.{SessionRec}
use Rattle.zn_layout.specs.declared.record.CountRec.{CountRec}
use Rattle.zn_layout.specs.declared.record.NodeRec.{NodeRec}
use Rattle.zn_layout.specs.Begin.{first_counts}
use Rattle.zn_layout.specs.Changes.{KeyChange, acts_of}
use Rattle.zn_layout.specs.Reading.{IsValueOf}
use Rattle.zn_layout.specs.Records.{node_value, counts_value, session_value, IsNodeRec, IsCountRec, IsSessionRec}
use Rattle.zn_layout.specs.StandsFor.{czxid_of}
use Rattle.zn_updates.specs.declared.chosen.Chosen.{Chosen}
use Rattle.zn_updates.specs.declared.chosen.Update.{Update}
use Rattle.zn_updates.specs.declared.chosen.Chosen.TheVariants.{Refused, Made}
use Rattle.zn_updates.specs.declared.seen.SeenData.{SeenData}
use Rattle.zn_updates.specs.declared.seen.SeenCounts.{SeenCounts}
use Rattle.zn_updates.specs.Choices.{Choice, Refuse, Make}

-- the choice, with operations in place of changes
abbrev pub chosen_of : Choice → Chosen
chosen_of (Refuse code) = Refused code
chosen_of (Make cs ts draft) = Made (record { acts = acts_of cs; triggers = ts; draft = draft })

-- this update is the choice's
abbrev pub IsMade : List KeyChange → List Trigger → PartResult → Update → Type 0
IsMade cs ts draft u = Made u ≡ chosen_of (Make cs ts draft)

-- ---- the records that a view saw: of a key, `None` where it wasn't looked up, `Some None` where it was absent

abbrev pub data_of : NodeRec → ℤ → SeenData
data_of r czxid = record { czxid = czxid; version = r.version; ctime = r.ctime; owner = r.owner }

-- a node's record; its czxid is the one that is stored, or, where 0 is, the revision of the record, if that is not negative
abbrev pub IsDataSeen : Option (Option Kv) → Option SeenData → Type 0
IsDataSeen None x = ⊥
IsDataSeen (Some None) None = Unit {0}
IsDataSeen (Some None) (Some x) = ⊥
IsDataSeen (Some (Some kv)) None = ⊥
IsDataSeen (Some (Some kv)) (Some x) = (r : NodeRec) × IsValueOf node_value IsNodeRec kv.value r × (x ≡ data_of r x.czxid) × (pos 0 ≤ℤ kv.mod_revision → x.czxid ≡ czxid_of r.czxid kv.mod_revision)

abbrev pub counts_of : CountRec → ℤ → SeenCounts
counts_of r revision = record { counts = r; pzxid = revision; is_stored = true }

-- the counts of a node without a record of them: it has had no children since its create
abbrev pub uncounted : SeenData → SeenCounts
uncounted x = record { counts = first_counts; pzxid = x.czxid; is_stored = false }

-- the counts of the node with this record, with their revision
abbrev pub IsCountsSeen : Option SeenData → Option (Option Kv) → Option SeenCounts → Type 0
IsCountsSeen x None c = ⊥
IsCountsSeen x (Some None) c = c ≡ option_map uncounted x
IsCountsSeen x (Some (Some kv)) None = ⊥
IsCountsSeen x (Some (Some kv)) (Some c) = (r : CountRec) × IsValueOf counts_value IsCountRec kv.value r × (c ≡ counts_of r kv.mod_revision)

-- the record of a session's nodes
abbrev pub IsNodesSeen : Option (Option Kv) → Option SessionRec → Type 0
IsNodesSeen None x = ⊥
IsNodesSeen (Some None) None = Unit {0}
IsNodesSeen (Some None) (Some r) = ⊥
IsNodesSeen (Some (Some kv)) None = ⊥
IsNodesSeen (Some (Some kv)) (Some r) = IsValueOf session_value IsSessionRec kv.value r

-- whether the key was looked up and was there
abbrev pub has_found : Option (Option Kv) → Bool
has_found (Some (Some kv)) = true
has_found (Some None) = false
has_found None = false
