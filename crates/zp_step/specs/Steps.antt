-- One step of a connection: it handles its input, and then takes up frames while it is ready and one waits.
use Rattle.std.specs.Prelude.{◌≡◌, ◌≢◌, ℕ, ℤ, pos, ◌+◌, ◌+ℤ◌, ◌≤◌, ◌<ℤ◌, ◌⊎◌, Bool, true, false, List, [], ◌∷◌, ◌++◌, length, Some, None, MatchBool}
use Rattle.std.specs.Arc.{arc_value}
use Rattle.ev_types.specs.declared.answer.Answer.{Answer}
use Rattle.zk_jute.specs.Connects.{read_connect}
use Rattle.zk_jute.specs.Requests.{read_request}
use Rattle.zk_model.specs.Limits.{max_frame}
use Rattle.zk_service.specs.Answers.{has_header}
use Rattle.zk_service.specs.declared.cause.Cause.TheVariants as cause
use Rattle.zn_layout.specs.declared.entry.Entry.{Entry}
use Rattle.zs_session.specs.Answering.{IsAwaited}
use Rattle.zp_step.specs.declared.action.Action.{Action}
use Rattle.zp_step.specs.declared.input.Input.{Input}
use Rattle.zp_step.specs.declared.input.Input.TheVariants as input
use Rattle.zp_step.specs.declared.wants.Wants.{Wants}
use Rattle.zp_step.specs.declared.wants.Wants.TheVariants as wants
use Rattle.zp_step.specs.Connects.{Connects, Opens}
use Rattle.zp_step.specs.Entries.{told_entry}
use Rattle.zp_step.specs.Keepalives.{Checked, KeptAlive, TakesUp}
use Rattle.zp_step.specs.Plans.{CommitAnswered, ReadOn}
use Rattle.zp_step.specs.Replies.{Is, closed_by}
use Rattle.zp_step.specs.Stages.{Core, Stage, Unconnected, Connecting, Ready, KeepingAlive, Checking, Reading, Committing, asked_of, counted_up, is_shut, wants_of}

-- ---- which inputs may be handed in

-- An entry is awaited. None is while an ask is out: it could take the client past the state that the answer shows.
abbrev pub awaits_entry : Wants → Bool
awaits_entry (wants.Entry cursor) = true
awaits_entry (wants.FrameOrEntry cursor) = true
awaits_entry _ = false

-- an entry is awaited, and this is the one after the cursor
pub record IsNextEntry (c : Core) (e : Entry) : Type 0 where
  pub awaited : awaits_entry (wants_of c) ≡ true
  pub number : e.number ≡ c.cursor +ℤ pos 1

-- an entry is awaited, and the one after the cursor is no longer kept
pub record IsLag (c : Core) (cursor floor : ℤ) : Type 0 where
  pub awaited : awaits_entry (wants_of c) ≡ true
  pub own : cursor ≡ c.cursor
  pub above : cursor <ℤ floor

-- A frame is within the limit; an answer fits the ask that is out, with a part for each operation, and a failure needs one; an
-- entry or a lag comes where an entry is awaited, and the feed's end while no ask is out. A bad length and the client's end may
-- come at any time.
abbrev pub IsFit : Core → Input → Type 0
IsFit c (input.Frame bytes) = length bytes ≤ max_frame
IsFit c (input.Answer a) = IsAwaited (asked_of c.who c.stage) (Some a)
IsFit c input.Failed = asked_of c.who c.stage ≢ None
IsFit c (input.Entry e) = IsNextEntry c (arc_value e)
IsFit c (input.Lagged cursor floor) = IsLag c cursor floor
IsFit c input.FeedClosed = asked_of c.who c.stage ≡ None
IsFit c (input.BadLength place length) = Unit {0}
IsFit c (input.ClientEnd place) = Unit {0}

-- a connection that is shut takes any input
abbrev pub MayTake : Core → Input → Type 0
MayTake c x = is_shut c.stage ≡ false → IsFit c x

-- ---- at each input

abbrev pub Answers : Core → Answer → ℕ → Core → List Action → Stage → Type 0
Answers c a now c' out (Connecting connect) = Connects c connect (Some a) now c' out
Answers c a now c' out (KeepingAlive frame) = KeptAlive c frame now c' out a
Answers c a now c' out (Checking frame) = Checked c frame now c' out a
Answers c a now c' out (Reading xid r v ws) = ReadOn c xid r v ws now c' out a
Answers c a now c' out (Committing xid r v p time) = CommitAnswered c xid r v p now c' out a
Answers c a now c' out _ = ⊥

-- the frame's bytes are counted, and the four of the length before it
abbrev pub with_frame_counted : Core → List ℕ → Core
with_frame_counted c bytes = record c { taken = counted_up (c.taken + 4 + length bytes) }

abbrev pub queued : Core → List ℕ → Core
queued c bytes = let d = with_frame_counted c bytes in record d { waiting = d.waiting ++ bytes ∷ [] }

-- the first frame is the connect; a later one waits, unless it has no header: then the connection ends as soon as it comes
abbrev pub Comes : Core → List ℕ → ℕ → Core → List Action → Stage → Type 0
Comes c bytes now c' out (Unconnected fresh) = Opens (with_frame_counted c bytes) c.taken fresh now c' out (read_connect bytes)
Comes c bytes now c' out _ = MatchBool (has_header (read_request bytes)) (Is (queued c bytes, []) c' out) (Is (closed_by c (cause.NoHeader c.taken)) c' out)

abbrev pub Handles : Core → Input → ℕ → Core → List Action → Type 0
Handles c (input.Frame bytes) now c' out = Comes c bytes now c' out c.stage
Handles c (input.Answer a) now c' out = Answers c a now c' out c.stage
Handles c (input.Entry e) now c' out = Is (told_entry c (arc_value e)) c' out
Handles c input.Failed now c' out = Is (closed_by c cause.LinkFault) c' out
Handles c (input.BadLength place length) now c' out = Is (closed_by c (cause.BadLength place length)) c' out
Handles c (input.Lagged cursor floor) now c' out = Is (closed_by c (cause.Lagged cursor floor)) c' out
Handles c input.FeedClosed now c' out = Is (closed_by c cause.FeedClosed) c' out
Handles c (input.ClientEnd place) now c' out = Is (closed_by c (cause.ClientEnd place)) c' out

-- ---- the frames that wait

-- it rests where it is not ready or no frame waits; otherwise it takes up the oldest one, and goes on
pub data Goes (now : ℕ) : Core → Core → List Action → Type 0 where
  rests : {c c' : Core} {out : List Action} → (c.stage ≢ Ready) ⊎ (c.waiting ≡ []) → c' ≡ c → out ≡ [] → Goes now c c' out
  takes : {c c' : Core} {out : List Action} (d : Core) (frame : List ℕ) (more : List (List ℕ)) (first later : List Action)
      → c.stage ≡ Ready → c.waiting ≡ frame ∷ more → TakesUp (record c { waiting = more }) frame now d first → Goes now d c' later → out ≡ first ++ later → Goes now c c' out

-- ---- a step

pub record StepsOpen (c : Core) (x : Input) (now : ℕ) (c' : Core) (out : List Action) : Type 0 where
  pub mid : Core
  pub first : List Action
  pub later : List Action
  pub handled : Handles c x now mid first
  pub goes : Goes now mid c' later
  pub joined : out ≡ first ++ later

-- A step leads from a core, by an input that comes at a time (in milliseconds), to the next core and the actions. A core that
-- is shut stays as it is, and nothing is done.
abbrev pub Steps : Core → Input → ℕ → Core → List Action → Type 0
Steps c x now c' out = MatchBool (is_shut c.stage) ((c' ≡ c) × (out ≡ [])) (StepsOpen c x now c' out)
