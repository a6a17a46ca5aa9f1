-- One turn of the loop: where its input comes from; and how the loop stands, before the turn and once the input is there.
use Rattle.std.specs.Prelude.{◌≡◌, ◌⊎◌, ℕ, ℤ, ◌+◌, ◌<◌, ◌≤◌, ◌<ℤ◌, true, false, List, [], ◌∷◌, ◌++◌, length, map, Option, Some, None, Result, Ok, Err, IfOk, Contains}
use Rattle.ev_types.specs.declared.answer.Answer.{Answer}
use Rattle.ev_types.specs.declared.ask.Ask.{Ask}
use Rattle.ev_call.specs.Calls.{Call, failures_after, with_call}
use Rattle.ev_call.specs.Fitting.{Fits}
use Rattle.ev_call.specs.declared.etcd.CallFault.{CallFault}
use Rattle.ev_call.specs.declared.etcd.CallFault.TheVariants as fault
use Rattle.zk_model.specs.Limits.{max_long}
use Rattle.zk_service.specs.declared.cause.Cause.{Cause}
use Rattle.zk_service.specs.declared.cause.Cause.TheVariants as cause
use Rattle.zn_layout.specs.declared.entry.Entry.{Entry}
use Rattle.zk_service.specs.declared.fresh.Fresh.{Fresh}
use Rattle.zw_hub.specs.Feeds.{IsFed, IsOneRead, if_closed, if_lagged}
use Rattle.zw_hub.specs.Lists.{Extends, IsAt, floor as floor_of}
use Rattle.zw_hub.specs.declared.feed.Fed.{Fed}
use Rattle.zw_hub.specs.declared.feed.Fed.TheVariants as fed
use Rattle.zx_outside.specs.Reading.{Gives}
use Rattle.zx_outside.specs.Writing.{Takes}
use Rattle.zp_step.specs.Stages.{Core, asked_of, counted_up, is_shut, new_core, wants_of}
use Rattle.zp_step.specs.Steps.{awaits_entry}
use Rattle.zp_step.specs.declared.input.Input.{Input}
use Rattle.zp_step.specs.declared.input.Input.TheVariants as input
use Rattle.zp_step.specs.declared.wants.Wants.TheVariants as wants
use Rattle.zp_step.specs.Ending.{takes_out}
use Rattle.zp_run.specs.Notes.{notes_of, with_notes}
use Rattle.zp_run.specs.Runs.{Runs, Step, answer_in, answers_of, asks_of, entries_of, entry_in, frames_of, said}
use Rattle.zp_core.specs.Held.{IsHeld}
use Rattle.zx_base.specs.declared.memory.Memory.{Memory}
use Rattle.zp_conn.specs.Answered.{HasAnswered}
use Rattle.zp_conn.specs.Driving.{Drives}
use Rattle.zp_conn.specs.Inboxes.{faults_after, Holds, InboxState, IsBadAt, IsEndedAfter, ReadsOn}
use Rattle.zp_conn.specs.Inputs.{IsAllowed, IsInTime}
use Rattle.zp_conn.specs.Serving.{AreFirstFrames, FeedTold, InputsTold, LinkTold, Rose, Serves, SinkTold, SourceTold, Told, outcomes_of, with_calls}
use Rattle.zp_conn.specs.Speaking.{joined}
use Rattle.zp_conn.specs.declared.inbox.Came.{Came}
use Rattle.zp_conn.specs.declared.inbox.Came.TheVariants as came
use Rattle.zp_conn.specs.declared.inputs.Next.{Next}
use Rattle.zp_conn.specs.Writing.{Flushes}
use Rattle.zp_conn.specs.declared.writing.WriteFault.{WriteFault}
use Rattle.zp_conn.specs.declared.speaking.Rest.{Rest}
use Rattle.zp_conn.specs.declared.speaking.Rest.TheVariants as rest
use Rattle.zp_conn.specs.declared.inputs.Next.TheVariants as next

-- ---- the link

abbrev pub answered_by : Result Answer CallFault → Next
answered_by (Ok a) = next.Input (input.Answer a)
answered_by (Err fault.Failed) = next.Input input.Failed
answered_by (Err fault.Memory) = next.Ended cause.Memory

-- one call of the link
pub record Asks (q : Ask) (n : Next) (old new : LinkTold) : Type 0 where
  pub result : Result Answer CallFault
  pub gives : n ≡ answered_by result
  pub fits : IfOk result (Fits q)
  pub called : new.calls ≡ with_call old.calls q result
  pub failed : new.failures ≡ failures_after result old.failures

-- ---- the feed

abbrev pub fed_by : Fed → Next
fed_by (fed.Entry e) = next.Input (input.Entry e)
fed_by fed.None = next.Idle
fed_by (fed.Lagged was floor) = next.Input (input.Lagged was floor)
fed_by (fed.Closed end) = next.Input input.FeedClosed
fed_by fed.Memory = next.Ended cause.Memory

-- one read of the feed
pub record Feeds (cursor : ℤ) (n : Next) (old new : FeedTold) : Type 0 where
  pub answer : Fed
  pub gives : n ≡ fed_by answer
  pub once : IsOneRead answer old.reads new.reads old.list new.list
  pub extends : 0 < old.reads → Extends new.list old.list
  pub told : IsFed new.list cursor answer
  pub lagged : new.lags ≡ old.lags + if_lagged answer
  pub closed : new.closings ≡ old.closings + if_closed answer

-- above all entries: none can come, and the end is handed in
abbrev pub closing_by : Fed → Next
closing_by (fed.Entry e) = next.Idle
closing_by fed.None = next.Idle
closing_by (fed.Lagged was floor) = next.Idle
closing_by (fed.Closed end) = next.Input input.FeedClosed
closing_by fed.Memory = next.Ended cause.Memory

-- one read of the feed above all entries
pub record Closes (n : Next) (old new : FeedTold) : Type 0 where
  pub answer : Fed
  pub gives : n ≡ closing_by answer
  pub once : IsOneRead answer old.reads new.reads old.list new.list
  pub extends : 0 < old.reads → Extends new.list old.list
  pub told : IsFed new.list max_long answer
  pub lagged : new.lags ≡ old.lags
  pub closed : new.closings ≡ old.closings + if_closed answer

-- ---- the source

abbrev pub come_by : Came → Next
come_by (came.Frame bytes) = next.Input (input.Frame bytes)
come_by (came.BadLength place n) = next.Input (input.BadLength place n)
come_by (came.End place) = next.Input (input.ClientEnd place)
come_by came.Nothing = next.Idle
come_by came.Failed = next.Ended cause.ReadFault
come_by came.Memory = next.Ended cause.Memory

-- one look at the inbox
pub record Looks (n : Next) (i i' : InboxState) (old new : SourceTold) : Type 0 where
  pub came : Came
  pub gives : n ≡ come_by came
  pub reads : ReadsOn came i i' old.given new.given old.left new.left
  pub faults : new.faults ≡ faults_after came old.faults
  pub ended : IsEndedAfter came new.ended

-- ---- what a turn takes in

-- it had an ask to call; or it waited for an entry and read the feed; or it looked at the client's stream, where an entry is awaited
-- after a read of the feed that gave nothing; or it looked at the stream, which gave nothing, where a frame alone is wanted, and then whether the
-- feed has ended
pub data Fetches (core : Core) (asked : Option Ask) (n : Next) (i i' : InboxState) (s s' : SourceTold) (l l' : LinkTold) (f f' : FeedTold) : Type 0 where
  calls : (q : Ask) → asked ≡ Some q → Asks q n l l' → i' ≡ i → s' ≡ s → f' ≡ f → Fetches core asked n i i' s s' l l' f f'
  feeds : (cursor : ℤ) → asked ≡ None → awaits_entry (wants_of core) ≡ true → cursor ≡ core.cursor → Feeds cursor n f f' → i' ≡ i → s' ≡ s → l' ≡ l → Fetches core asked n i i' s s' l l' f f'
  looks : asked ≡ None
      → ((awaits_entry (wants_of core) ≡ false) × (f' ≡ f)) ⊎ ((cursor : ℤ) × (awaits_entry (wants_of core) ≡ true) × (cursor ≡ core.cursor) × Feeds cursor next.Idle f f')
      → Looks n i i' s s' → IsInTime core n → l' ≡ l → Fetches core asked n i i' s s' l l' f f'
  closes : asked ≡ None → wants_of core ≡ wants.Frame → Looks next.Idle i i' s s' → Closes n f f' → l' ≡ l → Fetches core asked n i i' s s' l l' f f'

abbrev pub TakesIn : Core → Option Ask → Next → InboxState → InboxState → InputsTold → InputsTold → Type 0
TakesIn core asked n i i' old new = Fetches core asked n i i' old.source new.source old.link new.link old.feed new.feed

-- ---- how the loop stands

abbrev pub listed : {A : Type 0} → Option A → List A
listed None = []
listed (Some a) = a ∷ []

abbrev pub answers_in : Next → List (Option Answer)
answers_in (next.Input x) = listed (answer_in x)
answers_in next.Idle = []
answers_in (next.Ended why) = []

abbrev pub entries_in : Next → List Entry
entries_in (next.Input x) = listed (entry_in x)
entries_in next.Idle = []
entries_in (next.Ended why) = []

-- the inbox, where these frames were handed in before
abbrev pub IsHeldFor : Next → List (List ℕ) → List ℕ → InboxState → Type 0
IsHeldFor (next.Input (input.Frame b)) frames read i = Holds read (frames ++ b ∷ []) i
IsHeldFor (next.Input (input.BadLength p n)) frames read i = IsBadAt read frames p n
IsHeldFor (next.Input (input.ClientEnd p)) frames read i = Holds read frames i × (i.frames ≡ []) × (p ≡ counted_up (length read))
IsHeldFor (next.Ended why) frames read i = AreFirstFrames why read frames
IsHeldFor _ frames read i = Holds read frames i

-- what is out; an input that is no answer and no failure comes where nothing is
abbrev pub IsOutFor : Next → Core → Option Ask → Type 0
IsOutFor next.Idle core asked = asked_of core.who core.stage ≡ asked
IsOutFor (next.Input x) core asked = (asked ≡ None) × ((takes_out x ≡ true) ⊎ (asked_of core.who core.stage ≡ None))
IsOutFor (next.Ended why) core asked = asked ≡ None

-- what the counts show of the input
abbrev pub IsShownBy : Next → Told → Told → Type 0
IsShownBy (next.Input input.Failed) old new = Rose (old.link).failures (new.link).failures
IsShownBy (next.Input (input.Lagged was floor)) old new = ((new.feed).lags ≡ (old.feed).lags + 1) × (was <ℤ floor) × (floor ≡ floor_of (new.feed).list)
IsShownBy (next.Input input.FeedClosed) old new = (new.feed).closings ≡ (old.feed).closings + 1
IsShownBy (next.Input (input.ClientEnd place)) old new = (new.source).ended ≡ true
IsShownBy (next.Ended cause.ReadFault) old new = Rose (old.source).faults (new.source).faults
IsShownBy (next.Ended cause.Memory) old new = Unit {0}
IsShownBy (next.Ended _) old new = ⊥
IsShownBy _ old new = Unit {0}

-- no count falls, and the sink has not failed
pub record HasGrown (old new : Told) : Type 0 where
  pub source : (old.source).faults ≤ (new.source).faults
  pub sink : (new.sink).counts ≡ (old.sink).counts
  pub link : (old.link).failures ≤ (new.link).failures

-- how often the feed lagged
abbrev pub lags_in : Next → ℕ
lags_in (next.Input (input.Lagged was floor)) = 1
lags_in _ = 0

-- how often it was closed
abbrev pub closings_in : Next → ℕ
closings_in (next.Input input.FeedClosed) = 1
closings_in _ = 0

-- a call that ran out of memory gave nothing to hand in, and ends the connection
abbrev pub IsUnheard : Next → List (Option (Option Answer)) → Type 0
IsUnheard n unheard = (unheard ≡ []) ⊎ ((n ≡ next.Ended cause.Memory) × (unheard ≡ None ∷ []))

-- Since the call began, where this is to be handed in next; `Idle` is the loop's invariant. `o` is what the outbox holds.
pub record Stood (fresh : Fresh) (old new : Told) (core : Core) (i : InboxState) (o : List ℕ) (asked : Option Ask) (n : Next) : Type 0 where
  pub steps : List Step
  pub ran : Runs (new_core fresh) steps core
  pub timely : Drives (new_core fresh) steps core
  pub holds : IsHeld core
  pub rested : core.waiting ≡ []
  pub answering : HasAnswered core.stage (frames_of steps) (said steps)
  pub opened : is_shut core.stage ≡ false
  pub out : IsOutFor n core asked
  pub may : IsAllowed core n
  pub in_time : IsInTime core n
  pub read : List ℕ
  pub gives : Gives read (old.source).given (new.source).given (old.source).left (new.source).left
  pub held : IsHeldFor n (frames_of steps) read i
  pub calls : List Call
  pub called : (new.link).calls ≡ with_calls (old.link).calls calls
  pub asks : map (λ (c : Call). c.ask) calls ++ listed asked ≡ asks_of steps
  pub unheard : List (Option (Option Answer))
  pub outcomes : outcomes_of calls ≡ map Some (answers_of steps ++ answers_in n) ++ unheard
  pub wanting : IsUnheard n unheard
  pub entries : (e : Entry) → Contains (entries_of steps ++ entries_in n) e → IsAt (new.feed).list e.number e
  pub looked : (entries_of steps ++ entries_in n ≡ []) ⊎ (0 < (new.feed).reads)
  pub written : List ℕ
  pub takes : Takes written (old.sink).taken (new.sink).taken
  pub says : written ++ o ≡ joined (said steps)
  pub noted : new.notes ≡ with_notes old.notes (notes_of steps)
  pub grown : HasGrown old new
  pub lags : (new.feed).lags ≡ (old.feed).lags + lags_in n
  pub closings : (new.feed).closings ≡ (old.feed).closings + closings_in n
  pub shown : IsShownBy n old new

-- what is out after a step
abbrev pub asked_after : Rest → Option Ask
asked_after rest.Nothing = None
asked_after (rest.Ask q) = Some q
asked_after (rest.Close why) = None

-- what is asked next; or why the connection ends
abbrev pub goes_on : Result Rest Memory → Result (Option Ask) Cause
goes_on (Ok rest.Nothing) = Ok None
goes_on (Ok (rest.Ask q)) = Ok (Some q)
goes_on (Ok (rest.Close why)) = Err why
goes_on (Err _) = Err cause.Memory

-- ---- the end

-- why it ends where the last write fails; out of memory stays the cause
abbrev pub cut_short : Cause → Cause
cut_short cause.Memory = cause.Memory
cut_short _ = cause.WriteFault

abbrev pub ended_by : Result (Unit {0}) WriteFault → Cause → Cause
ended_by (Ok _) why = why
ended_by (Err _) why = cut_short why

-- once what the outbox holds is written, or the sink fails at it, this is what the call did
abbrev pub Ends : Fresh → Told → Told → List ℕ → Cause → Type 0
Ends fresh old new o why = (r : Result (Unit {0}) WriteFault) (k : SinkTold) (o' : List ℕ)
    → Flushes r o o' (new.sink).taken k.taken (new.sink).counts k.counts → Serves fresh old (record new { sink = k }) (ended_by r why)
