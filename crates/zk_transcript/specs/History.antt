-- Transcripts, their moments, and the state of the service at each (Programmer's Guide, "ZooKeeper Sessions",
-- "Consistency Guarantees": updates stand in one order, that of their zxids).
-- A moment is a place between two lines: the number of lines before it.
use Rattle.std.specs.Prelude.{ℕ, ℤ, ◌+◌, Bool, ◌&&◌, List, [], ◌∷◌, ◌++◌, take, Option, Some, None, option_and_then, if◌then◌else◌, ◌==◌, pos}
use Rattle.std.specs.List.{filter_map}
use Rattle.zk_model.specs.declared.request.Request.{Request}
use Rattle.zk_model.specs.declared.connect.ConnectRequest.{ConnectRequest}
use Rattle.zk_service.specs.declared.fresh.Fresh.{Fresh}
use Rattle.zk_service.specs.declared.update.UpdateRec.{UpdateRec}
use Rattle.zk_service.specs.declared.update.UpdateKind.{UpdateKind}
use Rattle.zk_service.specs.declared.update.UpdateKind.TheVariants.{Begin, Session as NewSession, Attach, Asked, Closed, Reaped}
use Rattle.zk_transcript.specs.declared.transcript.TranscriptLine.{TranscriptLine}
use Rattle.zk_transcript.specs.declared.transcript.TranscriptLine.TheVariants.{Update, Open, Frame as FrameLine, Lapse}
use Rattle.zk_jute.specs.Requests.{Frame, NoHeader, Unreadable, Unknown, Asks, read_request}
use Rattle.zk_jute.specs.Connects.{read_connect}
use Rattle.std.specs.FinMap.{empty}
use Rattle.zk_model.specs.Znodes.{root_alone}
use Rattle.zk_service.specs.States.{Commit, State, advanced, attached_anew, attached_session, commit, committed, lapsed_in, limit_of, new_session, nothing_yet, session_at, session_ended, with_session}

-- ---- what a transcript shows of a connection

-- what the first line that shows something shows
abbrev pub first_shown : {A : Type 0} → (TranscriptLine → Option A) → List TranscriptLine → Option A
first_shown show [] = None
first_shown show (l ∷ ls) = elim (show l) [ Some x ↦ Some x | None ↦ first_shown show ls ]

-- what the first line that shows something shows, with that line's place; the first of these lines is at place k
abbrev pub first_place : {A : Type 0} → (TranscriptLine → Option A) → ℕ → List TranscriptLine → Option (ℕ × A)
first_place show k [] = None
first_place show k (l ∷ ls) = elim (show l) [ Some x ↦ Some (k, x) | None ↦ first_place show (k + 1) ls ]

abbrev pub when : {A : Type 0} → Bool → A → Option A
when b x = if b then Some x else None

-- what a connection offers for a new session
abbrev pub open_shown : ℕ → TranscriptLine → Option Fresh
open_shown c (Open connection proxy id passwd layout) = when (c == connection) (record { id = id; passwd = passwd; layout = layout })
open_shown c _ = None

abbrev pub opening : ℕ → List TranscriptLine → Option Fresh
opening c lines = first_shown (open_shown c) lines

-- the bytes of a frame; frame 0 is the connect
abbrev pub frame_shown : ℕ → ℕ → TranscriptLine → Option (List ℕ)
frame_shown c i (FrameLine connection index zxid bytes) = when ((c == connection) && (i == index)) bytes
frame_shown c i _ = None

abbrev pub frame : ℕ → ℕ → List TranscriptLine → Option (List ℕ)
frame c i lines = first_shown (frame_shown c i) lines

abbrev pub connect : ℕ → List TranscriptLine → Option ConnectRequest
connect c lines = option_and_then read_connect (frame c 0 lines)

abbrev pub asked_in : Frame → Option Request
asked_in NoHeader = None
asked_in (Unreadable xid place) = None
asked_in (Unknown xid kind) = None
asked_in (Asks xid r) = Some r

-- the request of frame i of a connection, where it can be read
abbrev pub request : ℕ → ℕ → List TranscriptLine → Option Request
request c i lines = option_and_then (λ bytes. asked_in (read_request bytes)) (frame c i lines)

-- ---- what an update does

abbrev pub asked_commit : List TranscriptLine → State → ℤ → ℕ → ℕ → ℕ → Option Commit
asked_commit before s zxid c i now =
    elim (attached_session c s) [
      | None ↦ None
      | Some e ↦ elim (request c i before) [ None ↦ None | Some r ↦ commit s.tree (limit_of e.1) e.0 r zxid now ]
    ]

unfoldable pub updated : List TranscriptLine → State → ℤ → UpdateKind → State
updated before s zxid (Begin now) = record { tree = root_alone zxid now; zxid = zxid; updates = 1; triggers = []; sessions = empty }
updated before s zxid (NewSession id c) = advanced s zxid s.tree [] (with_session s id (new_session (opening c before) (connect c before) c zxid))
updated before s zxid (Attach id c) = advanced s zxid s.tree [] (attached_anew s zxid id c (session_at id s))
updated before s zxid (Asked c i now) = committed s zxid (asked_commit before s zxid c i now)
updated before s zxid (Closed id c i) = session_ended s zxid id
updated before s zxid (Reaped id) = session_ended s zxid id

-- the state after a line, where s is the state before it and `before` are the lines before it
abbrev pub change : List TranscriptLine → State → TranscriptLine → State
change before s (Update u) = updated before s u.zxid u.kind
change before s (Lapse revision id) = lapsed_in s id (session_at id s)
change before s _ = s

-- the state after these lines, which follow the lines `before`; s is the state before them
abbrev pub after_from : List TranscriptLine → State → List TranscriptLine → State
after_from before s [] = s
after_from before s (l ∷ ls) = after_from (before ++ l ∷ []) (change before s l) ls

-- the state after all of these lines
unfoldable pub after : List TranscriptLine → State
after lines = after_from [] nothing_yet lines

-- the line of the first update of a new store, at this time: the store is at revision 1 before it
abbrev pub begin_lines : ℕ → List TranscriptLine
begin_lines now = Update (record { zxid = pos 2; kind = Begin now }) ∷ []

-- the updates among these lines
abbrev pub update_in : TranscriptLine → Option UpdateRec
update_in (Update u) = Some u
update_in _ = None

abbrev pub updates : List TranscriptLine → List UpdateRec
updates lines = filter_map update_in lines

-- the state at a moment
abbrev pub state_at : List TranscriptLine → ℕ → State
state_at lines moment = after (take moment lines)
