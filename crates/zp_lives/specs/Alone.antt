-- One connection alone: its link is honest over one store, its feed has that store's entries, and nobody else acts.
use Rattle.std.specs.Prelude.{◌≡◌, ℕ, ◌<◌, List, ◌++◌, length, Some, None}
use Rattle.zk_transcript.specs.declared.transcript.TranscriptLine.{TranscriptLine}
use Rattle.zk_service.specs.declared.fresh.Fresh.{Fresh}
use Rattle.zp_step.specs.Stages.{Core, max_count, new_core}
use Rattle.ev_types.specs.Denials.{carry}
use Rattle.ev_types.specs.Store.{Store, new_store}
use Rattle.ev_types.specs.declared.answer.Answer.{Answer}
use Rattle.zn_layout.specs.Begin.{begin_ask}
use Rattle.zp_script.specs.Effects.{opened}
use Rattle.zp_script.specs.Happens.{Happens}
use Rattle.zp_script.specs.Runs.{world_over}
use Rattle.zp_script.specs.Worlds.{World, conn_at}
use Rattle.zt_text.specs.declared.script.Happening.TheVariants as line
use Rattle.zp_run.specs.Runs.{Runs, Step, answers_of, asks_of, frames_of}
use Rattle.zp_world_laws.specs.Accounting.{IsAccounted}
use Rattle.zp_world_laws.specs.Connecting.{IsOffer}
use Rattle.zp_lives.specs.Events.{Events}
use Rattle.zp_lives.specs.Feeding.{AreAnswered, IsFedBy}
use Rattle.zp_lives.specs.Lives.{IsServedIn, Takes}
use Rattle.zp_lives.specs.Showing.{shown_from, shown_of, until_close}

-- ---- in worlds

-- what c asked is carried out
abbrev pub CarriesOwn : ℕ → World → World → Type 0
CarriesOwn c w w' = Happens w (line.Exec c) w'

-- beside c's steps its own asks are carried out, and nothing else happens
abbrev pub LivesAlone : ℕ → World → List Step → World → Type 0
LivesAlone c w steps w' = Events (CarriesOwn c) (Takes c) w steps w'

-- ---- what a run alone needs

-- what is offered for a new session may be one, the answers and the entries are this store's, and fewer frames come than can be counted
pub record IsRunAlone (s : Store) (fresh : Fresh) (steps : List Step) (core : Core) : Type 0 where
  pub offer : IsOffer fresh
  pub ran : Runs (new_core fresh) steps core
  pub fed : IsFedBy s steps
  pub few : length (frames_of steps) < max_count

-- ---- and what it gives

-- From this world, in which c has just opened, its run leads to a world of which all is accounted for.
pub record IsAlone (w : World) (c : ℕ) (steps : List Step) : Type 0 where
  pub after : World
  pub lives : LivesAlone c w (until_close steps) after
  pub accounted : IsAccounted after
  -- the store is the one after these answers
  pub store : AreAnswered w.store (asks_of steps) (answers_of (until_close steps)) after.store
  -- The transcript goes on. It shows of c what came, what was sent and the end, in this order.
  pub more : List TranscriptLine
  pub lines : after.lines ≡ w.lines ++ more
  pub shown : shown_of c after.lines ≡ shown_from 0 (until_close steps)
  pub served : IsServedIn after.lines c

-- whichever proxy it opened at, under a number that was never used
abbrev pub AloneIsServed : Type 0
AloneIsServed = (w : World) (c p : ℕ) (fresh : Fresh) (steps : List Step) (core : Core) → IsAccounted w → conn_at c w ≡ None
    → IsRunAlone w.store fresh steps core → IsAlone (opened w c p fresh) c steps

-- over the store that Begin makes of a new one, carried out at time 0
abbrev pub AloneFromTheFirst : Type 0
AloneFromTheFirst = (s : Store) (a : Answer) (c p : ℕ) (fresh : Fresh) (steps : List Step) (core : Core)
    → carry new_store (begin_ask 0) ≡ Some (s, a) → IsRunAlone s fresh steps core
    → IsAlone (opened (world_over s) c p fresh) c steps
