-- What a connection needs that is served alone: its link is honest over one store, and its feed has that store's entries.
use Rattle.std.specs.Prelude.{◌≡◌, ℕ, ◌<◌, List, ◌∷◌, ◌++◌, length, slice_get, Some}
use Rattle.ev_call.specs.Calls.{Call}
use Rattle.ev_call.specs.Honest.{CarriesAll}
use Rattle.ev_types.specs.Store.{Store}
use Rattle.zn_layout.specs.declared.entry.Entry.{Entry}
use Rattle.zk_service.specs.declared.fresh.Fresh.{Fresh}
use Rattle.zw_hub.specs.declared.published.Published.{Published}
use Rattle.zp_step.specs.Stages.{max_count}
use Rattle.zp_run.specs.Runs.{Step, answers_of, asks_of, entry_in, frames_of}
use Rattle.zp_conn.specs.Serving.{LinkTold, Told}
use Rattle.zp_lives.specs.Feeding.{AreAnswered, IsEntryIn}
use Rattle.zp_world_laws.specs.Connecting.{IsOffer}

-- The link tells its calls. What came of those since the first is what this store gives, in order, and nobody else changes it.
pub record IsHonestOver (s : Store) (old new : LinkTold) : Type 0 where
  pub before : List Call
  pub told : old.calls ≡ Some before
  pub calls : List Call
  pub more : new.calls ≡ Some (before ++ calls)
  pub after : Store
  pub carries : CarriesAll s calls after

-- each entry that was handed in is of an update that the store had by then, once it carried out what was answered before
abbrev pub IsInTime : Store → List Step → Type 0
IsInTime s steps = (before more : List Step) (step : Step) (e : Entry) (now : Store) → steps ≡ before ++ step ∷ more
    → entry_in step.input ≡ Some e → AreAnswered s (asks_of steps) (answers_of before) now → IsEntryIn now e

-- each entry of the list is of an update that the store has
abbrev pub AreEntriesOf : Store → Published → Type 0
AreEntriesOf s list = (k : ℕ) (e : Entry) → slice_get list.entries k ≡ Some e → IsEntryIn s e

-- what is offered for a new session may be one, the link is honest over this store, the feed is in time, and fewer frames came than
-- can be counted
pub record IsServedOver (s : Store) (fresh : Fresh) (old new : Told) (steps : List Step) : Type 0 where
  pub offer : IsOffer fresh
  pub link : IsHonestOver s old.link new.link
  pub feed : IsInTime s steps
  pub few : length (frames_of steps) < max_count
