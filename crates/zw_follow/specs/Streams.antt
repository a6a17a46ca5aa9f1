-- What is read of one stream of a watch, and what it comes to.
use Rattle.std.specs.Prelude.{◌≡◌, ◌≢◌, ◌⊎◌, ℕ, ◌+◌, ◌*◌, ◌≤◌, ℤ, Bool, true, false, cond, List, [], ◌∷◌, ◌++◌, length, Option, Some, None, Result, Ok, Err}
use Rattle.ev_types.specs.declared.answer.Kv.{Kv}
use Rattle.ev_fields.specs.declared.fault.JsonFault.{JsonFault}
use Rattle.ev_fields.specs.declared.fault.JsonFault.TheVariants as json
use Rattle.ev_json.specs.Answers.{line_in}
use Rattle.ev_json.specs.Bodies.{FaultOf}
use Rattle.ev_json.specs.declared.line.Line.{Line}
use Rattle.ev_json.specs.declared.line.Line.TheVariants as line
use Rattle.ev_http.specs.Messages.{HoldsResponse}
use Rattle.ev_http.specs.Stream.{IsAt, LineAnswer, ReadsLine}
use Rattle.ev_http.specs.Taking.{Told, is_read_fault, risen}
use Rattle.ev_http.specs.declared.fault.HttpFault.{HttpFault}
use Rattle.ev_http.specs.declared.fault.HttpFault.TheVariants as http
use Rattle.ev_http.specs.declared.lines.Lines.{Lines}
use Rattle.ev_faults.specs.declared.fault.Fault.{Fault}
use Rattle.ev_faults.specs.declared.fault.Fault.TheVariants as fault
use Rattle.zn_layout.specs.declared.entry.Entry.{Entry}
use Rattle.zw_hub.specs.Ends.{IsProper}
use Rattle.zw_hub.specs.declared.feed.FeedEnd.TheVariants as ends
use Rattle.zw_hub.specs.declared.published.Published.{Published}
use Rattle.zx_outside.specs.Counts.{one_more}
use Rattle.zx_outside.specs.Reading.{Gives}
use Rattle.zw_follow.specs.Publishing.{Explains, IsBehind, IsNotBehind, IsPlaced, Publishes, Said, Stands, heads_of, told_after}
use Rattle.zw_follow.specs.declared.place.Place.{Place}
use Rattle.zw_follow.specs.declared.stream.StreamEnd.{StreamEnd}
use Rattle.zw_follow.specs.declared.stream.StreamEnd.TheVariants as stream
use Rattle.zw_follow.specs.declared.stream.Taken.{Taken}
use Rattle.zw_follow.specs.declared.stream.Taken.TheVariants as taken
use Rattle.zw_feed.specs.Following.{FollowerState}

-- ---- lines of a stream

-- the lines as bytes, each with its line feed
abbrev pub spelled : List Said → List ℕ
spelled [] = []
spelled (s ∷ said) = s.text ++ (10 ∷ spelled said)

-- A source was read, from where it stood when it was dialled: these bytes were given as lines of the body of a response, and the source
-- had no fault.
pub record IsReadTo {In : Type 0} (tells : In → Told) (dialled : In) (lines : Lines In) (given : List ℕ) : Type 0 where
  pub taken : List ℕ
  pub gives : Gives taken (tells dialled).given (tells lines.source).given (tells dialled).left (tells lines.source).left
  pub at : IsAt lines (tells lines.source) taken given
  pub calm : ((tells lines.source).counts).faults ≡ ((tells dialled).counts).faults

-- No line comes after these bytes, for this reason: a fault of the source, which is counted, or what the response is. That none came in
-- time is no reason.
pub record GivesNone {In : Type 0} (tells : In → Told) (dialled : In) (given : List ℕ) (why : HttpFault) : Type 0 where
  pub in_time : why ≢ http.Idle
  pub lines : Lines In
  pub taken : List ℕ
  pub gives : Gives taken (tells dialled).given (tells lines.source).given (tells dialled).left (tells lines.source).left
  pub answers : LineAnswer (Err why) lines (tells lines.source) taken given
  pub faults : ((tells lines.source).counts).faults ≡ cond (is_read_fault why) (one_more ((tells dialled).counts).faults) ((tells dialled).counts).faults
  pub holds : (all body rest : List ℕ) → (tells dialled).left ≡ Some all → HoldsResponse body rest all → ReadsLine (Err why) given body

-- A line comes after these bytes, and cannot be read, for this reason.
pub record GivesUnreadable {In : Type 0} (tells : In → Told) (dialled : In) (given : List ℕ) (why : JsonFault) : Type 0 where
  pub lines : Lines In
  pub text : List ℕ
  pub comes : IsReadTo tells dialled lines (given ++ (text ++ 10 ∷ []))
  pub fault : FaultOf line_in text why

-- the idle turns of a source that was read so far
abbrev pub idles_of : {In : Type 0} → (In → Told) → Lines In → ℕ
idles_of tells lines = ((tells lines.source).counts).idles

-- the idle turns in which a call waits for a line: a minute
abbrev pub minute : ℕ
minute = 6000

-- how many minutes without a line end a stream
abbrev pub max_silence : ℕ
max_silence = 25

-- No line came after these bytes for 25 minutes: so many idle turns at the least.
pub record IsSilent {In : Type 0} (tells : In → Told) (dialled : In) (given : List ℕ) : Type 0 where
  pub since : Lines In
  pub lines : Lines In
  pub came : IsReadTo tells dialled since given
  pub still : IsReadTo tells dialled lines given
  pub long : risen (max_silence * minute) (idles_of tells since) ≤ idles_of tells lines

-- The stream was waited for no longer than 25 minutes for each of these lines, and 25 minutes after them, all in all.
abbrev pub IsWaitedFor : {In : Type 0} → (In → Told) → In → Lines In → List Said → Type 0
IsWaitedFor tells dialled lines said = idles_of tells lines ≤ ((tells dialled).counts).idles + max_silence * minute * (length said + 1)

-- nothing can be read after these bytes, for this reason
abbrev pub StopsAt : {In : Type 0} → (In → Told) → In → List ℕ → Fault → Type 0
StopsAt tells dialled given (fault.Http why) = GivesNone tells dialled given why
StopsAt tells dialled given (fault.Json why) = GivesUnreadable tells dialled given why
StopsAt tells dialled given fault.Silent = IsSilent tells dialled given
StopsAt tells dialled given _ = ⊥

-- ---- streams without a line

-- what a stream gave, with this line too
abbrev pub taken_after : Line → Taken → Taken
taken_after (line.Created revision) taken.Nothing = taken.Created
taken_after (line.Created revision) taken.Created = taken.Created
taken_after (line.Created revision) taken.Events = taken.Events
taken_after (line.Events revision kvs) before = taken.Events
taken_after (line.Compacted rev) before = taken.Events
taken_after line.Ended before = taken.Events

-- what these lines are, together: none, that the watch was created and nothing else, or more than that
abbrev pub taken_of : List Said → Taken
taken_of [] = taken.Nothing
taken_of (s ∷ said) = taken_after s.line (taken_of said)

abbrev pub is_nothing : Taken → Bool
is_nothing taken.Nothing = true
is_nothing taken.Created = false
is_nothing taken.Events = false

abbrev pub has_no_events : Taken → Bool
has_no_events taken.Nothing = true
has_no_events taken.Created = true
has_no_events taken.Events = false

-- Whether a stream that gave this, and then met this fault, counts as one that gave no line. One that gave only that the watch was
-- created does where the next line is too long.
abbrev pub is_barren_at : HttpFault → Taken → Bool
is_barren_at http.Head gave = is_nothing gave
is_barren_at (http.Status n) gave = is_nothing gave
is_barren_at http.Route gave = is_nothing gave
is_barren_at (http.Body place) gave = is_nothing gave
is_barren_at (http.TooLong n) gave = has_no_events gave
is_barren_at (http.Ended n) gave = is_nothing gave
is_barren_at http.Idle gave = is_nothing gave
is_barren_at http.ReadFault gave = is_nothing gave
is_barren_at http.WriteFault gave = is_nothing gave
is_barren_at http.Memory gave = is_nothing gave

-- The same of a next line that cannot be read, for whatever reason, and of one that does not come.
abbrev pub is_barren : Fault → Taken → Bool
is_barren (fault.Http why) gave = is_barren_at why gave
is_barren (fault.Json why) gave = has_no_events gave
is_barren fault.Silent gave = is_nothing gave
is_barren _ gave = false

-- ---- streams that are over

-- none of these lines says that the member is behind this revision
abbrev pub AreNotBehind : ℤ → List Said → Type 0
AreNotBehind told [] = Unit {0}
AreNotBehind told (s ∷ said) = IsNotBehind told s.line × AreNotBehind told said

-- the last of these lines does, and none before it
abbrev pub EndsBehind : ℤ → List Said → Type 0
EndsBehind told said = (earlier : List Said) × (last : Said) × (said ≡ earlier ++ last ∷ []) × AreNotBehind told earlier × IsBehind told last.line

-- no line is read after one that does
abbrev pub IsHeeded : ℤ → List Said → Type 0
IsHeeded told said = AreNotBehind told said ⊎ EndsBehind told said

-- The stream gave these lines, and then nothing that can be read, for a reason other than running out of memory; and whether it counts as one
-- that gave no line.
pub record BreaksOff {In : Type 0} (tells : In → Told) (dialled : In) (said : List Said) (barren : Bool) : Type 0 where
  pub why : Fault
  pub stops : StopsAt tells dialled (spelled said) why
  pub http : why ≢ fault.Http http.Memory
  pub json : why ≢ fault.Json json.Memory
  pub counts : barren ≡ is_barren why (taken_of said)

-- the last of the lines says that etcd ended the watch
abbrev pub IsEnded : List Said → Type 0
IsEnded said = (earlier : List Said) × (last : Said) × (said ≡ earlier ++ last ∷ []) × (last.line ≡ line.Ended)

-- The stream, which was asked for after this revision, gave these lines and is over: it broke off, or etcd ended it, or its member is
-- behind; and whether it counts as one that gave no line.
abbrev pub IsOver : {In : Type 0} → (In → Told) → In → ℤ → List Said → Bool → Type 0
IsOver tells dialled asked said barren =
    (AreNotBehind asked said × BreaksOff tells dialled said barren) ⊎ ((IsEnded said × (barren ≡ false)) ⊎ (EndsBehind asked said × (barren ≡ true)))

-- ---- what a stream comes to

-- the worker goes on from its place where the stream is over
abbrev pub GoesOn : StreamEnd → Published → Place → Type 0
GoesOn (stream.Over why barren) list place = IsPlaced list place
GoesOn _ list place = list.end ≡ None

-- By the revision after which the stream was asked for, its lines, the heads in them that are left, the list, and the readings that found
-- the word to stop set, before and after.
abbrev pub EndsBy : {In : Type 0} → (In → Told) → In → StreamEnd → ℤ → List Said → List Kv → Published → ℕ → ℕ → Type 0
EndsBy tells dialled stream.Stopped asked said left list n n' = (left ≡ []) × (n' ≡ one_more n)
EndsBy tells dialled (stream.Over why barren) asked said left list n n' = (left ≡ []) × (n' ≡ n) × IsOver tells dialled asked said barren
EndsBy tells dialled (stream.Closes end) asked said left list n n' = IsProper end × Explains end list said left × (n' ≡ n)

-- A stream was read up to this end: its lines, and what they added to the list. Before them all was told up to the revision after which
-- it was asked for.
pub record ReadsStream {In : Type 0} (tells : In → Told) (dialled : In) (end : StreamEnd) (before after : Published) (told told' : ℤ) (n n' : ℕ) : Type 0 where
  pub said : List Said
  pub lines : Lines In
  pub read : IsReadTo tells dialled lines (spelled said)
  pub waited : IsWaitedFor tells dialled lines said
  pub heeded : IsHeeded told said
  pub entries : List Entry
  pub left : List Kv
  pub publishes : Publishes (heads_of said) entries left before after
  pub told_is : told' ≡ told_after told said entries
  pub ends : EndsBy tells dialled end told said left after n n'

-- ---- for clauses of private functions

-- what the call for a stream's next line comes to, after these lines: it waits a minute at the most
abbrev pub ReadsOn : {In : Type 0} → (In → Told) → In → Result (Option Line) Fault → Lines In → Lines In → List Said → Type 0
ReadsOn tells dialled (Ok (Some l)) before lines said = (s : Said) × (s.line ≡ l) × IsReadTo tells dialled lines (spelled (said ++ s ∷ [])) × (idles_of tells lines ≤ idles_of tells before + minute)
ReadsOn tells dialled (Ok None) before lines said =
    IsReadTo tells dialled lines (spelled said) × (risen minute (idles_of tells before) ≤ idles_of tells lines) × (idles_of tells lines ≤ idles_of tells before + minute)
ReadsOn tells dialled (Err why) before lines said = StopsAt tells dialled (spelled said) why

-- what the fault of a line that did not come is for its caller
abbrev pub IsMissed : HttpFault → Result (Option Line) Fault → Type 0
IsMissed why (Ok (Some l)) = ⊥
IsMissed why (Ok None) = why ≡ http.Idle
IsMissed why (Err told) = (told ≡ fault.Http why) × (why ≢ http.Idle)

-- what the fault of a request that was not sent means
abbrev pub IsUnsentBy : HttpFault → StreamEnd → Type 0
IsUnsentBy why (stream.Over told barren) = (barren ≡ true) × (why ≢ http.Memory)
IsUnsentBy why (stream.Closes end) = (end ≡ ends.Memory) × (why ≡ http.Memory)
IsUnsentBy why stream.Stopped = ⊥

-- what such a fault means, where the stream gave this before
abbrev pub IsBrokenBy : Fault → Taken → StreamEnd → Type 0
IsBrokenBy why gave (stream.Over told barren) = (barren ≡ is_barren why gave) × (why ≢ fault.Http http.Memory) × (why ≢ fault.Json json.Memory)
IsBrokenBy why gave (stream.Closes end) = end ≡ ends.Memory
IsBrokenBy why gave stream.Stopped = ⊥

-- A stream is read up to here: its lines so far, and what they added to the list. None came in the minutes since the last of them.
pub record IsFollowing {In : Type 0} (tells : In → Told) (dialled : In) (lines : Lines In) (before now : Published) (asked : ℤ) (place : Place) (follower : FollowerState) (gave : Taken) (minutes : ℕ) : Type 0 where
  pub said : List Said
  pub read : IsReadTo tells dialled lines (spelled said)
  pub since : Lines In
  pub came : IsReadTo tells dialled since (spelled said)
  pub idle : risen (minutes * minute) (idles_of tells since) ≤ idles_of tells lines
  pub waited : idles_of tells lines ≤ ((tells dialled).counts).idles + max_silence * minute * length said + minutes * minute
  pub ahead : AreNotBehind asked said
  pub entries : List Entry
  pub publishes : Publishes (heads_of said) entries [] before now
  pub told_is : place.revision ≡ told_after asked said entries
  pub stands : Stands now follower place
  pub is : gave ≡ taken_of said
