-- What one call of `serve_connection` did: a run of one connection's steps, tied to what its source, sink, link, feed and trace
-- tell; and what shows why it ended.
use Rattle.std.specs.Prelude.{◌≡◌, ◌⊎◌, ℕ, ℤ, ◌+◌, ◌-◌, ◌^◌, ◌<◌, ◌≤◌, ◌<ℤ◌, Bool, true, false, List, [], ◌∷◌, ◌++◌, length, map, flat_map, Option, Some, None, Result, Ok, Err, Contains}
use mathlib.Core.List.{IsPrefix}
use Rattle.ev_types.specs.declared.answer.Answer.{Answer}
use Rattle.ev_types.specs.declared.ask.Ask.{Ask}
use Rattle.ev_call.specs.Calls.{Call}
use Rattle.ev_call.specs.declared.etcd.CallFault.{CallFault}
use Rattle.ev_call.specs.declared.etcd.CallFault.TheVariants as fault
use Rattle.zk_jute.specs.Frames.{Framed, bad_length}
use Rattle.zk_service.specs.declared.cause.Cause.{Cause}
use Rattle.zk_service.specs.declared.cause.Cause.TheVariants as cause
use Rattle.zn_layout.specs.declared.entry.Entry.{Entry}
use Rattle.zk_service.specs.declared.fresh.Fresh.{Fresh}
use Rattle.zw_hub.specs.Lists.{IsAt, floor as floor_of}
use Rattle.zw_hub.specs.declared.published.Published.{Published}
use Rattle.zx_outside.specs.Counts.{OutputCounts}
use Rattle.zx_outside.specs.Reading.{Gives}
use Rattle.zx_outside.specs.Writing.{Takes}
use Rattle.zp_step.specs.Stages.{Core, counted_up, new_core}
use Rattle.zp_run.specs.Laws.{IsClosedIn}
use Rattle.zp_run.specs.Notes.{In, Noted, NotedInput, notes_of, with_notes}
use Rattle.zp_run.specs.Runs.{Runs, Step, answers_of, asks_of, entries_of, frames_of, said}
use Rattle.zp_conn.specs.Answered.{AreAnswered}
use Rattle.zp_conn.specs.Driving.{Drives}

-- ---- the client's bytes

-- the run closed at the stream's end, or at a length out of range, which come after all whole frames
abbrev pub is_after_frames : Cause → Bool
is_after_frames (cause.ClientEnd place) = true
is_after_frames (cause.BadLength place n) = true
is_after_frames _ = false

-- the frames that were handed in are the first of the stream's; where memory was refused, the last bytes that were read may not
-- be cut any more
pub record AreFirstFrames (why : Cause) (read : List ℕ) (frames : List (List ℕ)) : Type 0 where
  pub front : List ℕ
  pub is_front : IsPrefix front read
  pub fully : (front ≡ read) ⊎ (why ≡ cause.Memory)
  pub all : List (List ℕ)
  pub rest : List ℕ
  pub framed : Framed front all rest
  pub first : IsPrefix frames all
  pub whole : is_after_frames why ≡ true → frames ≡ all

-- ---- what was written and noted

-- the run was not cut short
abbrev pub is_whole : Cause → Bool
is_whole cause.WriteFault = false
is_whole cause.Memory = false
is_whole _ = true

-- the packets of the run, joined; or a front of that
pub record IsWrittenOf (why : Cause) (steps : List Step) (bytes : List ℕ) : Type 0 where
  pub front : IsPrefix bytes (flat_map (λ (p : List ℕ). p) (said steps))
  pub whole : is_whole why ≡ true → bytes ≡ flat_map (λ (p : List ℕ). p) (said steps)

-- at most the last input noted has had no step
abbrev pub IsUnstepped : List Step → List Noted → Type 0
IsUnstepped steps events = (x : NotedInput) × (now : ℕ) × (events ≡ notes_of steps ++ In x now ∷ [])

-- all inputs and packets; or a front of that, where the sink failed or memory was refused; in the latter case perhaps one input
-- more
pub record AreNotesOf (why : Cause) (steps : List Step) (events : List Noted) : Type 0 where
  pub front : IsPrefix events (notes_of steps) ⊎ ((why ≡ cause.Memory) × IsUnstepped steps events)
  pub whole : is_whole why ≡ true → events ≡ notes_of steps

-- ---- the link's calls

abbrev pub outcome_of : Result Answer CallFault → Option (Option Answer)
outcome_of (Ok a) = Some (Some a)
outcome_of (Err fault.Failed) = Some None
outcome_of (Err fault.Memory) = None

abbrev pub outcomes_of : List Call → List (Option (Option Answer))
outcomes_of calls = map (λ (c : Call). outcome_of c.result) calls

-- The asks of the run were called in order, and what came of each call was handed in, but perhaps for the last ask: where the sink
-- failed or memory was refused it may not have been called, and where memory was refused what came of it may not have been handed in.
pub record AreCallsOf (why : Cause) (steps : List Step) (calls : List Call) : Type 0 where
  pub uncalled : List Ask
  pub asks : map (λ (c : Call). c.ask) calls ++ uncalled ≡ asks_of steps
  pub unheard : List (Option (Option Answer))
  pub outcomes : outcomes_of calls ≡ map Some (answers_of steps) ++ unheard
  pub last : length uncalled + length unheard ≤ 1
  pub whole : is_whole why ≡ true → uncalled ≡ []
  pub heard : (unheard ≡ []) ⊎ (why ≡ cause.Memory)

abbrev pub with_calls : Option (List Call) → List Call → Option (List Call)
with_calls None cs = None
with_calls (Some all) cs = Some (all ++ cs)

-- ---- why it ended

-- a count of 64 bits is greater than before, or stands at its end
abbrev pub Rose : ℕ → ℕ → Type 0
Rose old new = (old < new) ⊎ (2 ^ 64 ≤ new + 1)

-- what a source, a sink, a link and a feed tell
pub record SourceTold : Type 0 where
  pub given : Option (List ℕ)
  pub left : Option (List ℕ)
  pub faults : ℕ
  pub ended : Bool

pub record SinkTold : Type 0 where
  pub taken : Option (List ℕ)
  pub counts : OutputCounts

pub record LinkTold : Type 0 where
  pub calls : Option (List Call)
  pub failures : ℕ

pub record FeedTold : Type 0 where
  pub list : Published
  pub reads : ℕ
  pub lags : ℕ
  pub closings : ℕ

-- what a source, a link and a feed tell
pub record InputsTold : Type 0 where
  pub source : SourceTold
  pub link : LinkTold
  pub feed : FeedTold

-- what all objects tell before the call, or after it
pub record Told : Type 0 where
  pub source : SourceTold
  pub sink : SinkTold
  pub link : LinkTold
  pub feed : FeedTold
  pub notes : Option (List Noted)

-- a length out of range stands at this place in the client's bytes, after all whole frames
pub record IsBadLengthIn (read : List ℕ) (place : ℕ) (n : ℤ) : Type 0 where
  pub all : List (List ℕ)
  pub rest : List ℕ
  pub framed : Framed read all rest
  pub bad : bad_length rest ≡ Some n
  pub at : place ≡ counted_up (length read - length rest)

-- what the objects that were handed in show of a cause
abbrev pub IsBackedBy : Told → Told → List ℕ → Cause → Type 0
IsBackedBy old new read (cause.ClientEnd place) = (place ≡ counted_up (length read)) × ((new.source).ended ≡ true)
IsBackedBy old new read (cause.BadLength place n) = IsBadLengthIn read place n
IsBackedBy old new read cause.LinkFault = Rose (old.link).failures (new.link).failures
IsBackedBy old new read (cause.Lagged cursor floor) = ((new.feed).lags ≡ (old.feed).lags + 1) × (cursor <ℤ floor) × (floor ≡ floor_of (new.feed).list)
IsBackedBy old new read cause.FeedClosed = (new.feed).closings ≡ (old.feed).closings + 1
IsBackedBy old new read _ = Unit {0}

-- a fault of reading or writing is its object's; out of memory is free; a restart never comes; any other cause closed the run
abbrev pub IsEndedFor : Fresh → List Step → Core → Told → Told → List ℕ → Cause → Type 0
IsEndedFor fresh steps core old new read cause.ReadFault = Rose (old.source).faults (new.source).faults
IsEndedFor fresh steps core old new read cause.WriteFault = Rose ((old.sink).counts).faults ((new.sink).counts).faults
IsEndedFor fresh steps core old new read cause.Memory = Unit {0}
IsEndedFor fresh steps core old new read cause.Restart = ⊥
IsEndedFor fresh steps core old new read why = IsClosedIn fresh steps core why × IsBackedBy old new read why

-- ---- the whole call

pub record Serves (fresh : Fresh) (old new : Told) (why : Cause) : Type 0 where
  -- the run
  pub steps : List Step
  pub core : Core
  pub ran : Runs (new_core fresh) steps core
  pub timely : Drives (new_core fresh) steps core
  -- the bytes that were read, and the frames that were handed in
  pub read : List ℕ
  pub gives : Gives read (old.source).given (new.source).given (old.source).left (new.source).left
  pub frames : AreFirstFrames why read (frames_of steps)
  -- and which of these were answered
  pub answers : AreAnswered why (frames_of steps) (said steps)
  -- the link's calls
  pub calls : List Call
  pub called : (new.link).calls ≡ with_calls (old.link).calls calls
  pub asked : AreCallsOf why steps calls
  -- the entries are the feed's, each in its place; a feed that was never read gave none
  pub entries : (e : Entry) → Contains (entries_of steps) e → IsAt (new.feed).list e.number e
  pub looked : (entries_of steps ≡ []) ⊎ (0 < (new.feed).reads)
  -- the bytes that were written
  pub written : List ℕ
  pub takes : Takes written (old.sink).taken (new.sink).taken
  pub says : IsWrittenOf why steps written
  -- the events that were noted
  pub events : List Noted
  pub noted : new.notes ≡ with_notes old.notes events
  pub notes : AreNotesOf why steps events
  pub ended : IsEndedFor fresh steps core old new read why
