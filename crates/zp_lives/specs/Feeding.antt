-- What one connection is given: the answers of one store, which nobody else changes, and entries of that store's updates.
use Rattle.std.specs.Prelude.{◌≡◌, ◌⊎◌, ℕ, ◌≤◌, List, [], ◌∷◌, ◌++◌, length, Option, Some, None}
use Rattle.ev_types.specs.Denials.{carry}
use Rattle.ev_types.specs.Store.{Store, store_at}
use Rattle.ev_types.specs.declared.answer.Answer.{Answer}
use Rattle.ev_types.specs.declared.answer.Kv.{Kv}
use Rattle.ev_types.specs.declared.ask.Ask.{Ask}
use Rattle.zn_layout.specs.Keys.{HeadKey}
use Rattle.zn_layout.specs.StandsFor.{at}
use Rattle.zn_layout.specs.declared.entry.Entry.{Entry}
use Rattle.zp_script.specs.Entries.{AreTriggersOf}
use Rattle.zp_run.specs.Runs.{Step, answers_of, asks_of, entry_in}

-- ---- answers

-- An answer is what the store gives then. A call that failed may have been carried out, or not.
abbrev pub IsAnswered : Store → Ask → Option Answer → Store → Type 0
IsAnswered s q (Some a) after = carry s q ≡ Some (after, a)
IsAnswered s q None after = (after ≡ s) ⊎ ((a : Answer) × (carry s q ≡ Some (after, a)))

-- each ask in order has the next of these answers; the last ones may have none yet
abbrev pub AreAnswered : Store → List Ask → List (Option Answer) → Store → Type 0
AreAnswered s asks [] after = after ≡ s
AreAnswered s [] (o ∷ os) after = ⊥
AreAnswered s (q ∷ asks) (o ∷ os) after = (mid : Store) × IsAnswered s q o mid × AreAnswered mid asks os after

-- ---- entries

-- some revision of the store, from that of the first update on, has the head of this entry's update
pub record IsEntryIn (s : Store) (e : Entry) : Type 0 where
  pub revision : ℕ
  pub least : 2 ≤ revision
  pub known : revision ≤ length s.revisions
  pub head : Kv
  pub there : at (store_at s revision) HeadKey ≡ Some head
  pub number : e.number ≡ head.version
  pub zxid : e.zxid ≡ head.mod_revision
  pub triggers : AreTriggersOf (Some head) e.triggers

-- ---- both

-- Over this store the answers are honest, and each entry is of an update that the store has by then.
pub record IsFedBy (s : Store) (steps : List Step) : Type 0 where
  pub after : Store
  pub answers : AreAnswered s (asks_of steps) (answers_of steps) after
  pub entries : (before more : List Step) (step : Step) (e : Entry) (now : Store) → steps ≡ before ++ step ∷ more → entry_in step.input ≡ Some e
      → AreAnswered s (asks_of steps) (answers_of before) now → IsEntryIn now e
