-- The laws of legal histories.
use Rattle.std.specs.Prelude.{◌≡◌, ◌<◌, ◌≤ℤ◌, ◌<ℤ◌, true, false, ℕ, ℤ, pos, List, [], ◌∷◌, Some, None, length, slice_get, take}
use Rattle.zk_model.specs.declared.layout.Layout.{Layout}
use Rattle.zk_service.specs.declared.fresh.Fresh.{Fresh}
use Rattle.zk_service.specs.declared.update.UpdateKind.TheVariants.{Begin, Session as NewSession, Attach, Reaped}
use Rattle.zk_model.specs.declared.connect.ConnectRequest.{ConnectRequest}
use Rattle.zk_model.specs.Limits.{max_long}
use Rattle.zk_service.specs.declared.update.UpdateRec.{UpdateRec}
use Rattle.zk_service.specs.States.{Session, IsSound, IsBounded, session_at, attached_session}
use Rattle.zk_transcript.specs.declared.transcript.TranscriptLine.{TranscriptLine}
use Rattle.zk_transcript.specs.declared.transcript.TranscriptLine.TheVariants.{Update, Open, Lapse}
use Rattle.zk_transcript.specs.History.{after, connect, first_shown, opening, state_at, update_in, updates}
use Rattle.zk_transcript.specs.Legal.{Attachment, attach_of, index_shown, is_legal, is_ordered, changes_session, lapses_session}

-- ---- the first update

-- Begin may have any zxid up to the greatest of a `long`, and may follow a line that is neither an update nor a lapse
abbrev pub BeginComesAfterAnOpenLine : Type 0
BeginComesAfterAnOpenLine = (c proxy : ℕ) (id : ℤ) (passwd : List ℕ) (layout : Layout) (z : ℤ) (now : ℕ) → z ≤ℤ max_long
    → is_legal (Open c proxy id passwd layout ∷ Update (record { zxid = z; kind = Begin now }) ∷ []) ≡ true

-- no lapse stands before Begin
abbrev pub BeginComesBeforeLapses : Type 0
BeginComesBeforeLapses = (revision id : ℤ) (lines : List TranscriptLine) → is_legal (Lapse revision id ∷ lines) ≡ false

-- ---- the states and zxids

-- the state after each legal history is sound
abbrev pub LegalHistoriesAreSound : Type 0
LegalHistoriesAreSound = (lines : List TranscriptLine) → is_legal lines ≡ true → IsSound (after lines)

-- the numbers of the state after each legal history are in their ranges
abbrev pub LegalHistoriesAreBounded : Type 0
LegalHistoriesAreBounded = (lines : List TranscriptLine) (first : UpdateRec) → is_legal lines ≡ true
    → first_shown update_in lines ≡ Some first → IsBounded first.zxid (after lines)

-- the zxids of a legal history's updates rise
abbrev pub ZxidsRise : Type 0
ZxidsRise = (lines : List TranscriptLine) (j k : ℕ) (a b : UpdateRec) → is_legal lines ≡ true → j < k
    → slice_get lines j ≡ Some (Update a) → slice_get lines k ≡ Some (Update b) → a.zxid <ℤ b.zxid

-- the state after a legal history counts its updates
abbrev pub UpdatesAreCounted : Type 0
UpdatesAreCounted = (lines : List TranscriptLine) → is_legal lines ≡ true → (after lines).updates ≡ length (updates lines)

-- ---- attachments

-- the session that is attached to a connection was attached by that connection's own line
abbrev pub AttachedByOwnLine : Type 0
AttachedByOwnLine = (lines : List TranscriptLine) (c : ℕ) (id : ℤ) (x : Session) → is_legal lines ≡ true
    → attached_session c (after lines) ≡ Some (id, x)
    → (k : ℕ) × (attach_of c lines ≡ Some (k, record { zxid = x.attached; session = id }))

-- of the own lines that attached a session, the last is that of the connection to which the session is attached
abbrev pub AttachedLast : Type 0
AttachedLast = (lines : List TranscriptLine) (c : ℕ) (id : ℤ) (x : Session) → is_legal lines ≡ true
    → attached_session c (after lines) ≡ Some (id, x) → (d k : ℕ) (z : ℤ)
    → attach_of d lines ≡ Some (k, record { zxid = z; session = id }) → z ≤ℤ x.attached

-- a session whose last attachment has the zxid of a connection's own line is attached to that connection
abbrev pub AttachedToOwnLine : Type 0
AttachedToOwnLine = (lines : List TranscriptLine) (c k : ℕ) (z id : ℤ) (x : Session) → is_legal lines ≡ true
    → attach_of c lines ≡ Some (k, record { zxid = z; session = id }) → session_at id (after lines) ≡ Some x → x.attached ≡ z
    → attached_session c (after lines) ≡ Some (id, x)

-- while a session is attached to a connection, no line after the connection's own line opens, attaches or ends that session
abbrev pub AttachedSinceOwnLine : Type 0
AttachedSinceOwnLine = (lines : List TranscriptLine) (c k moment : ℕ) (own : Attachment) (id : ℤ) (x : Session) → is_legal lines ≡ true
    → attach_of c lines ≡ Some (k, own) → k < moment → attached_session c (state_at lines moment) ≡ Some (id, x)
    → (j : ℕ) (l : TranscriptLine) → k < j → j < moment → slice_get lines j ≡ Some l → changes_session id l ≡ false

-- while a session is attached to a connection and has not lapsed, no line after the connection's own line lapses it
abbrev pub AliveSinceOwnLine : Type 0
AliveSinceOwnLine = (lines : List TranscriptLine) (c k moment : ℕ) (own : Attachment) (id : ℤ) (x : Session) → is_legal lines ≡ true
    → attach_of c lines ≡ Some (k, own) → k < moment → attached_session c (state_at lines moment) ≡ Some (id, x) → x.lapsed ≡ false
    → (j : ℕ) (l : TranscriptLine) → k < j → j < moment → slice_get lines j ≡ Some l → lapses_session id l ≡ false

-- ---- sessions

-- a new session has the number that its connection offered, which no open session had, and the connect asked for a new session:
-- it named session 0
abbrev pub SessionsBeginAsOffered : Type 0
SessionsBeginAsOffered = (lines : List TranscriptLine) (k c : ℕ) (z id : ℤ) → is_legal lines ≡ true
    → slice_get lines k ≡ Some (Update (record { zxid = z; kind = NewSession id c }))
    → (f : Fresh) × (r : ConnectRequest) × (opening c (take k lines) ≡ Some f) × (connect c (take k lines) ≡ Some r) × (f.id ≡ id)
    × (r.session ≡ pos 0) × (session_at id (state_at lines k) ≡ None)

-- a session is attached to a connection whose connect names it and shows its password, while it is open and has not lapsed
abbrev pub AttachesShowThePassword : Type 0
AttachesShowThePassword = (lines : List TranscriptLine) (k c : ℕ) (z id : ℤ) → is_legal lines ≡ true
    → slice_get lines k ≡ Some (Update (record { zxid = z; kind = Attach id c }))
    → (r : ConnectRequest) × (x : Session) × (connect c (take k lines) ≡ Some r) × (session_at id (state_at lines k) ≡ Some x)
    × (r.session ≡ id) × (r.passwd ≡ x.passwd) × (x.lapsed ≡ false)

-- a session is attached at a zxid above the last that the client has seen
abbrev pub AttachesComeAfter : Type 0
AttachesComeAfter = (lines : List TranscriptLine) (k c : ℕ) (z id : ℤ) (r : ConnectRequest) → is_legal lines ≡ true
    → slice_get lines k ≡ Some (Update (record { zxid = z; kind = Attach id c })) → connect c (take k lines) ≡ Some r → r.last_zxid <ℤ z

-- only a session that has lapsed is reaped
abbrev pub ReapedSessionsHadLapsed : Type 0
ReapedSessionsHadLapsed = (lines : List TranscriptLine) (k : ℕ) (z id : ℤ) → is_legal lines ≡ true
    → slice_get lines k ≡ Some (Update (record { zxid = z; kind = Reaped id }))
    → (x : Session) × (session_at id (state_at lines k) ≡ Some x) × (x.lapsed ≡ true)

-- ---- requests

-- a connection's requests are carried out in the order of their frames, each at most once
abbrev pub RequestsAreCarriedOutInOrder : Type 0
RequestsAreCarriedOutInOrder = (lines : List TranscriptLine) (j k c i m : ℕ) (a b : TranscriptLine) → is_ordered lines ≡ true → j < k
    → slice_get lines j ≡ Some a → slice_get lines k ≡ Some b → index_shown c a ≡ Some i → index_shown c b ≡ Some m → i < m
