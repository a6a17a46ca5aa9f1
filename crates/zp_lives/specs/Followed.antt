-- What a follower makes of an honest watch: lines that tell the heads which one store's updates left, each once and in order (etcd
-- documentation, "Watch API guarantees": ordered, unique, reliable).
use Rattle.std.specs.Prelude.{◌≡◌, ℕ, ◌≤◌, All, ℤ, pos, ◌+ℤ◌, List, [], ◌∷◌, length, Some, Result, Ok, Err}
use Rattle.std.specs.Global.{Vec}
use Rattle.ev_types.specs.Store.{Store, store_at}
use Rattle.ev_types.specs.declared.answer.Kv.{Kv}
use Rattle.ev_json.specs.declared.line.Line.{Line}
use Rattle.ev_json.specs.declared.line.Line.TheVariants as line
use Rattle.zn_layout.specs.Keys.{HeadKey}
use Rattle.zn_layout.specs.Reading.{IsHeadWithin, IsSomeValue, head_bytes}
use Rattle.zn_layout.specs.StandsFor.{at}
use Rattle.zn_layout.specs.declared.entry.Entry.{Entry}
use Rattle.zw_feed.specs.Following.{Gives, heads_in}
use Rattle.zw_feed.specs.declared.fault.FeedFault.{FeedFault}
use Rattle.zw_feed.specs.declared.fault.FeedFault.TheVariants as fault
use Rattle.zp_lives.specs.Feeding.{IsEntryIn}

-- a revision of the store, from that of the first update on, has this head
pub record IsHeadOf (s : Store) (kv : Kv) : Type 0 where
  pub revision : ℕ
  pub least : 2 ≤ revision
  pub known : revision ≤ length s.revisions
  pub there : at (store_at s revision) HeadKey ≡ Some kv

-- heads of the store that come after update n, each put once more than the one before it; their values are records
abbrev pub AreNextHeads : Store → ℤ → List Kv → Type 0
AreNextHeads s n [] = Unit {0}
AreNextHeads s n (kv ∷ kvs) = IsHeadOf s kv × (kv.version ≡ n +ℤ pos 1) × IsSomeValue head_bytes IsHeadWithin kv.value × AreNextHeads s (n +ℤ pos 1) kvs

-- a line of a watch that goes on
abbrev pub IsHonestLine : Store → ℤ → Line → Type 0
IsHonestLine s n l = AreNextHeads s n (heads_in l) × (l ≡ line.Ended → ⊥) × ((rev : ℤ) → l ≡ line.Compacted rev → ⊥)

-- entries of the store's updates, or out of memory
abbrev pub GivesEntriesOf : Store → Result (Vec Entry) FeedFault → Type 0
GivesEntriesOf s (Ok entries) = All (IsEntryIn s) entries.items
GivesEntriesOf s (Err f) = f ≡ fault.Memory

-- a follower that stands at update n takes such a line
abbrev pub HonestLinesGiveEntries : Type 0
HonestLinesGiveEntries = (s : Store) (n : ℤ) (l : Line) (r : Result (Vec Entry) FeedFault) → IsHonestLine s n l → Gives n l r → GivesEntriesOf s r
