-- The entries that the lines of a watch on the head give: one for each put of the head, which is one update, with consecutive numbers
-- (etcd API reference, "Watch"; the head's version counts its puts).
use Rattle.std.specs.Prelude.{◌≡◌, ◌≢◌, ◌⊎◌, ◌≤ℤ◌, ◌<ℤ◌, ◌^◌, All, ℤ, pos, ◌+ℤ◌, List, [], ◌∷◌, ◌++◌, length, filter, Bool, Option, Some, None, Result, Ok, Err}
use Rattle.std.specs.Global.{Vec}
use Rattle.ev_types.specs.declared.answer.Kv.{Kv}
use Rattle.zn_layout.specs.Keys.{head_name}
use Rattle.zn_layout.specs.Reading.{IsNoValue, IsValueOf, head_bytes, IsHeadWithin}
use Rattle.zn_layout.specs.declared.entry.Entry.{Entry}
use Rattle.zn_layout.specs.declared.record.HeadRec.{HeadRec}
use Rattle.zx_base.specs.Maps.{same}
use Rattle.zw_feed.specs.declared.fault.FeedFault.{FeedFault}
use Rattle.zw_feed.specs.declared.fault.FeedFault.TheVariants as fault
use Rattle.ev_json.specs.declared.line.Line.{Line}
use Rattle.ev_json.specs.declared.line.Line.TheVariants as line

-- the number of the last entry, and the fault after which it is at its end
pub record FollowerState : Type 0 where
  pub number : ℤ
  pub fault : Option FeedFault

-- a put of the head; any other put of a line is passed over
abbrev pub is_head : Kv → Bool
is_head kv = same kv.key head_name

-- the head that a put left tells the update of this number
pub record IsEntryOf (number : ℤ) (kv : Kv) (e : Entry) : Type 0 where
  pub shown : kv.version ≡ number
  pub number_is : e.number ≡ number
  pub zxid : e.zxid ≡ kv.mod_revision
  pub record_is : HeadRec
  pub read : IsValueOf head_bytes IsHeadWithin kv.value record_is
  pub triggers : e.triggers ≡ record_is.triggers

-- the entries of these heads, of which the first is to have the number after this one
abbrev pub AreEntries : ℤ → List Kv → List Entry → Type 0
AreEntries n [] [] = Unit {0}
AreEntries n (kv ∷ kvs) (e ∷ es) = IsEntryOf (n +ℤ pos 1) kv e × AreEntries (n +ℤ pos 1) kvs es
AreEntries n _ _ = ⊥

-- this head is not the next one; or it is, and its value is no record
abbrev pub IsBroken : ℤ → Kv → FeedFault → Type 0
IsBroken number kv (fault.Gap expected found) = (expected ≡ number) × (found ≡ kv.version) × (found ≢ expected)
IsBroken number kv (fault.Damaged key value) = (kv.version ≡ number) × (key ≡ kv.key) × (value ≡ kv.value) × IsNoValue head_bytes IsHeadWithin kv.value
IsBroken number kv _ = ⊥

-- some of these heads give entries, and the next one is broken
pub record BreaksAt (n : ℤ) (heads : List Kv) (f : FeedFault) : Type 0 where
  pub before : List Kv
  pub kv : Kv
  pub later : List Kv
  pub split : heads ≡ before ++ kv ∷ later
  pub entries : List Entry
  pub good : AreEntries n before entries
  pub broken : IsBroken (n +ℤ pos (length before) +ℤ pos 1) kv f

abbrev pub heads_in : Line → List Kv
heads_in (line.Events revision kvs) = filter is_head kvs
heads_in _ = []

-- What a line gives a follower that is not at its end: its entries in order, or its fault. A line without a put of the head gives no
-- entry. Memory may run out at any line.
abbrev pub Gives : ℤ → Line → Result (Vec Entry) FeedFault → Type 0
Gives n l (Ok entries) = AreEntries n (heads_in l) entries.items × ((l ≡ line.Ended → ⊥) × ((rev : ℤ) → l ≡ line.Compacted rev → ⊥))
Gives n l (Err fault.Ended) = l ≡ line.Ended
Gives n l (Err (fault.Compacted rev)) = l ≡ line.Compacted rev
Gives n l (Err fault.Memory) = Unit {0}
Gives n l (Err f) = BreaksAt n (heads_in l) f

-- where it stands after that: running out of memory leaves it as it was, and any other fault is kept
abbrev pub after : FollowerState → Result (Vec Entry) FeedFault → FollowerState
after s (Ok entries) = record { number = s.number +ℤ pos (length entries.items); fault = s.fault }
after s (Err fault.Memory) = s
after s (Err f) = record s { fault = Some f }

-- One call. A follower that has a fault answers it again, or has no memory for its copy, and stays as it is.
abbrev pub TakesIn : Option FeedFault → FollowerState → Line → Result (Vec Entry) FeedFault → FollowerState → Type 0
TakesIn None s l r s' = Gives s.number l r × (s' ≡ after s r)
TakesIn (Some f) s l r s' = ((r ≡ Err f) ⊎ (r ≡ Err fault.Memory)) × (s' ≡ s)

abbrev pub Takes : FollowerState → Line → Result (Vec Entry) FeedFault → FollowerState → Type 0
Takes s l r s' = TakesIn s.fault s l r s'

-- an etcd's version of a key: from 0 to below 2 ^ 62
pub record IsNumbered (kv : Kv) : Type 0 where
  pub least : pos 0 ≤ℤ kv.version
  pub most : kv.version <ℤ pos (2 ^ 62)

-- the versions in a line
abbrev pub LineFits : Line → Type 0
LineFits (line.Events revision kvs) = All IsNumbered kvs
LineFits _ = Unit {0}
