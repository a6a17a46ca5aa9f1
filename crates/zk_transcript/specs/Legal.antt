-- Legal histories: each update is one that the service could make in the state before it (Programmer's Guide,
-- "Consistency Guarantees", "ZooKeeper Sessions").
use Rattle.std.specs.Prelude.{◌≡◌, ℕ, zero, suc, ℤ, pos, ◌<◌, ◌≤◌, Bool, true, false, not, ◌&&◌, ◌||◌, List, [], ◌∷◌, ◌++◌, length, nat_lt, nat_le, ◌==◌, int_lt, int_le, Option, Some, None, is_some, is_none, option_map, bytes_eq, slice_get, slice_index_or}
use Rattle.std.specs.List.{list_all}
use Rattle.std.specs.Ordering.{int_eq}
use Rattle.zk_model.specs.declared.request.Request.{Request}
use Rattle.zk_model.specs.declared.request.Request.TheVariants as req
use Rattle.zk_model.specs.declared.connect.ConnectRequest.{ConnectRequest}
use Rattle.zk_service.specs.declared.fresh.Fresh.{Fresh}
use Rattle.zk_service.specs.declared.update.UpdateKind.{UpdateKind}
use Rattle.zk_service.specs.declared.update.UpdateKind.TheVariants.{Begin, Session as NewSession, Attach, Asked, Closed, Reaped}
use Rattle.zk_transcript.specs.declared.transcript.TranscriptLine.{TranscriptLine}
use Rattle.zk_transcript.specs.declared.transcript.TranscriptLine.TheVariants.{Update, Lapse}
use Rattle.zk_service.specs.States.{State, Session, nothing_yet, session_at, attached_session}
use Rattle.zk_transcript.specs.History.{opening, connect, frame, request, first_place, frame_shown, when, asked_commit, change}
use Rattle.zk_model.specs.Limits.{max_frame, max_long, max_parts}

-- ---- a connection's own line: the Session or Attach line that attaches a session to it

-- the zxid of the own line, and the session that it attaches
pub record Attachment : Type 0 where
  pub zxid : ℤ
  pub session : ℤ

abbrev pub attach_in : ℕ → ℤ → UpdateKind → Option Attachment
attach_in c zxid (NewSession id connection) = when (c == connection) (record { zxid = zxid; session = id })
attach_in c zxid (Attach id connection) = when (c == connection) (record { zxid = zxid; session = id })
attach_in c zxid _ = None

abbrev pub attach_shown : ℕ → TranscriptLine → Option Attachment
attach_shown c (Update u) = attach_in c u.zxid u.kind
attach_shown c _ = None

-- the place of a connection's own line, and what the line says
abbrev pub attach_of : ℕ → List TranscriptLine → Option (ℕ × Attachment)
attach_of c lines = first_place (attach_shown c) 0 lines

-- ---- lines that concern a session

-- the update opens, attaches or ends the session
abbrev pub changes_in : ℤ → UpdateKind → Bool
changes_in id (NewSession other c) = int_eq id other
changes_in id (Attach other c) = int_eq id other
changes_in id (Closed other c i) = int_eq id other
changes_in id (Reaped other) = int_eq id other
changes_in id _ = false

abbrev pub changes_session : ℤ → TranscriptLine → Bool
changes_session id (Update u) = changes_in id u.kind
changes_session id _ = false

-- the session's lease lapses
abbrev pub lapses_session : ℤ → TranscriptLine → Bool
lapses_session id (Lapse revision other) = int_eq id other
lapses_session id _ = false

-- ---- the conditions of the kinds of updates

-- the frame is there, and is no longer than a frame may be
abbrev pub is_small_frame : Option (List ℕ) → Bool
is_small_frame None = false
is_small_frame (Some bytes) = nat_le (length bytes) max_frame

-- c has no own line yet, its connect is no longer than a frame may be, and the client has seen only zxids below this one
abbrev pub may_attach : List TranscriptLine → ℕ → ℤ → Option ConnectRequest → Bool
may_attach before c zxid None = false
may_attach before c zxid (Some r) = is_none (attach_of c before) && is_small_frame (frame c 0 before) && int_lt r.last_zxid zxid

abbrev pub offers : ℤ → Option Fresh → Bool
offers id None = false
offers id (Some f) = int_eq id f.id

abbrev pub asks_anew : Option ConnectRequest → Bool
asks_anew None = false
asks_anew (Some r) = int_eq r.session (pos 0)

-- the session is open and has not lapsed, and the connect names it and shows its password
abbrev pub is_resumed_by : ℤ → Option ConnectRequest → Option Session → Bool
is_resumed_by id None o = false
is_resumed_by id (Some r) None = false
is_resumed_by id (Some r) (Some x) = int_eq id r.session && bytes_eq r.passwd x.passwd && not x.lapsed

-- a session is attached to the connection, and it has not lapsed
abbrev pub is_live : Option (ℤ × Session) → Bool
is_live None = false
is_live (Some e) = not e.1.lapsed

abbrev pub is_live_as : ℤ → Option (ℤ × Session) → Bool
is_live_as id None = false
is_live_as id (Some e) = int_eq id e.0 && not e.1.lapsed

abbrev pub is_within_parts : Option Request → Bool
is_within_parts (Some (req.Multi parts)) = nat_le (length parts) max_parts
is_within_parts _ = true

abbrev pub is_close : Option Request → Bool
is_close (Some req.Close) = true
is_close _ = false

abbrev pub is_lapsed : Option Session → Bool
is_lapsed None = false
is_lapsed (Some x) = x.lapsed

-- the numbers that a session may have
abbrev pub is_id : ℤ → Bool
is_id id = int_lt (pos 0) id && int_le id max_long

-- the condition of each kind of update in the state before it
unfoldable pub may_update : List TranscriptLine → State → ℤ → UpdateKind → Bool
may_update before s zxid (Begin now) = s.updates == 0
may_update before s zxid (NewSession id c) =
    is_none (session_at id s) && is_id id && offers id (opening c before) && asks_anew (connect c before) && may_attach before c zxid (connect c before)
may_update before s zxid (Attach id c) = is_resumed_by id (connect c before) (session_at id s) && may_attach before c zxid (connect c before)
may_update before s zxid (Asked c i now) =
    is_live (attached_session c s) && nat_lt 0 i && is_small_frame (frame c i before) && is_within_parts (request c i before) && is_some (asked_commit before s zxid c i now)
may_update before s zxid (Closed id c i) =
    is_id id && is_live_as id (attached_session c s) && nat_lt 0 i && is_small_frame (frame c i before) && is_close (request c i before)
may_update before s zxid (Reaped id) = is_lapsed (session_at id s)

-- the first zxid is any, each later one is above that of the last update, and none is above the greatest `long` (jute)
abbrev pub is_next_zxid : State → ℤ → Bool
is_next_zxid s zxid = (s.updates == 0 || int_lt s.zxid zxid) && int_le zxid max_long

abbrev pub is_legal_line : List TranscriptLine → State → TranscriptLine → Bool
is_legal_line before s (Update u) = may_update before s u.zxid u.kind && is_next_zxid s u.zxid
is_legal_line before s _ = true

abbrev pub is_legal_from : List TranscriptLine → State → List TranscriptLine → Bool
is_legal_from before s [] = true
is_legal_from before s (l ∷ ls) = is_legal_line before s l && is_legal_from (before ++ l ∷ []) (change before s l) ls

abbrev pub is_begin : UpdateKind → Bool
is_begin (Begin now) = true
is_begin _ = false

-- Begin is the first of the updates and lapses: it is this line; or this line is neither, and `after` says it of the later lines
abbrev pub begins_with : TranscriptLine → Bool → Bool
begins_with (Update u) after = is_begin u.kind
begins_with (Lapse revision id) after = false
begins_with _ after = after

abbrev pub begins : List TranscriptLine → Bool
begins [] = false
begins (l ∷ ls) = begins_with l (begins ls)

-- Begin is the first of the updates and lapses, no other is Begin, and every line is legal where it stands
unfoldable pub is_legal : List TranscriptLine → Bool
is_legal lines = begins lines && is_legal_from [] nothing_yet lines

-- ---- a connection's requests are carried out in order, each at most once

abbrev pub index_in : ℕ → UpdateKind → Option ℕ
index_in c (Asked connection i now) = when (c == connection) i
index_in c (Closed id connection i) = when (c == connection) i
index_in c _ = None

abbrev pub index_shown : ℕ → TranscriptLine → Option ℕ
index_shown c (Update u) = index_in c u.kind
index_shown c _ = None

-- the number of a request that was carried out, if one was, is below i
abbrev pub is_below_place : ℕ → Option ℕ → Bool
is_below_place i None = true
is_below_place i (Some j) = nat_lt j i

-- the request of c that a line carries out has a greater number than those that the lines before it carried out
abbrev pub follows : List TranscriptLine → ℕ → Option ℕ → Bool
follows before c None = true
follows before c (Some i) = list_all (λ l. is_below_place i (index_shown c l)) before

-- the connection whose request a line carries out
abbrev pub carrier : TranscriptLine → Option ℕ
carrier (Update u) = elim u.kind [ Begin n ↦ None | NewSession i c ↦ None | Attach i c ↦ None | Asked c i n ↦ Some c | Closed s c i ↦ Some c | Reaped i ↦ None ]
carrier _ = None

abbrev pub is_in_order : List TranscriptLine → TranscriptLine → Bool
is_in_order before l = elim (carrier l) [ None ↦ true | Some c ↦ follows before c (index_shown c l) ]

abbrev pub is_ordered_from : List TranscriptLine → List TranscriptLine → Bool
is_ordered_from before [] = true
is_ordered_from before (l ∷ ls) = is_in_order before l && is_ordered_from (before ++ l ∷ []) ls

unfoldable pub is_ordered : List TranscriptLine → Bool
is_ordered lines = is_ordered_from [] lines

-- ---- the clock of a script: the time of an update, in milliseconds, is one that the clock showed between its frame and itself

-- the clock and the number of the transcript's lines, as a script line left them
pub record Tick : Type 0 where
  pub clock : ℕ
  pub lines : ℕ

-- how many lines the transcript had before the script line at a place, counted from 0
abbrev pub lines_before : List Tick → ℕ → ℕ
lines_before ticks k = elim k [ zero ↦ 0 | suc j ↦ (slice_index_or ticks j (record { clock = 0; lines = 0 })).lines ]

-- A script line left the clock at `now`: one not before that which gave the transcript's line at place `first`, and not after that
-- which gave the line at place `last`. Say `open`, `frame`, `tick 5` and `settle` gave the lines 1, 2, none, and 3 with 4, after
-- Begin as line 0: they leave the ticks (0, 2), (0, 3), (5, 3), (5, 5). Then an update at place 3 that carries out the frame at
-- place 2 has the time 0, by the tick of `frame`, or 5, by that of `tick` or of `settle`. The tick of `open` is too early.
abbrev pub IsClockBetween : List Tick → ℕ → ℕ → ℕ → Type 0
IsClockBetween ticks first last now = (k : ℕ) × (t : Tick) × (slice_get ticks k ≡ Some t) × (t.clock ≡ now) × (first < t.lines) × (lines_before ticks k ≤ last)

abbrev pub frame_place : ℕ → ℕ → List TranscriptLine → Option ℕ
frame_place c i lines = option_map (λ (x : ℕ × List ℕ). x.0) (first_place (frame_shown c i) 0 lines)

-- the time of each create, create2, delete, setData or multi that was carried out is the clock's between its frame's line and its own
abbrev pub IsPunctual : List Tick → List TranscriptLine → Type 0
IsPunctual ticks lines = (place first c i now : ℕ) (zxid : ℤ)
    → slice_get lines place ≡ Some (Update (record { zxid = zxid; kind = Asked c i now })) → frame_place c i lines ≡ Some first
    → IsClockBetween ticks first place now
