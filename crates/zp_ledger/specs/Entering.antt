-- Entries in order: entry n stands at place n - 1, and has triggers that a head's record can hold.
use Rattle.std.specs.Prelude.{◌≡◌, ℕ, pos, ◌+◌, List, [], ◌∷◌, ◌++◌, length, Option, Some, slice_get}
use Rattle.ev_types.specs.declared.answer.Kv.{Kv}
use Rattle.zn_layout.specs.declared.entry.Entry.{Entry}
use Rattle.zn_layout.specs.Records.{IsHeadRec}
use Rattle.zp_script.specs.Entries.{IsEntryOf}

pub record IsNumbered (n : ℕ) (e : Entry) : Type 0 where
  pub number : e.number ≡ pos n
  pub told : IsHeadRec e.triggers

abbrev pub AreNumbered : List Entry → Type 0
AreNumbered es = (n : ℕ) (e : Entry) → slice_get es n ≡ Some e → IsNumbered (n + 1) e

-- one entry more, of the update that left this head
pub record IsAdded (old : List Entry) (head : Option Kv) (new : List Entry) : Type 0 where
  pub entry : Entry
  pub of : IsEntryOf (length old + 1) head entry
  pub added : new ≡ old ++ entry ∷ []
