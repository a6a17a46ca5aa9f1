-- An attached connection stays open, whatever other connections do, where nothing ends it and the store has room.
use Rattle.std.specs.Prelude.{All, Bool, List, None, Option, Some, false, slice_get, true, ℕ, ℤ, ◌<ℤ◌, ◌<◌, ◌==◌, ◌≡◌, ◌≤◌}
use Rattle.std.specs.Option.{option_and_then}
use Rattle.std.specs.Ordering.{int_eq}
use Rattle.ev_types.specs.Store.{last_revision, revision}
use Rattle.zk_jute.specs.Frames.{bad_length}
use Rattle.zk_jute.specs.Requests.{read_request}
use Rattle.zk_transcript.specs.Legal.{Attachment, Tick, attach_of}
use Rattle.zk_service.specs.Answers.{has_header}
use Rattle.zk_transcript.specs.declared.transcript.TranscriptLine.TheVariants.{Frame as FrameLine, Lapse, Update}
use Rattle.zk_transcript.specs.declared.transcript.TranscriptLine.{TranscriptLine}
use Rattle.zk_service.specs.declared.update.UpdateKind.TheVariants.{Attach}
use Rattle.zk_service.specs.declared.update.UpdateKind.{UpdateKind}
use Rattle.zp_script.specs.Runs.{Runs, RunsFrom}
use Rattle.zp_script.specs.Worlds.{Conn, Connection, World, conn_at, is_open_conn}
use Rattle.zp_step.specs.Stages.{Core}
use Rattle.zp_world_laws.specs.Accounting.{IsWithinCounts, OffersSession}
use Rattle.zt_text.specs.declared.script.Happening.TheVariants as line
use Rattle.zt_text.specs.declared.script.Happening.{Happening}
use Rattle.zp_settle_laws.specs.Staying.{closes_after}

-- a connection that is open, with the line that attached a session to it
pub record IsAttachedAt (c : ℕ) (w : World) : Type 0 where
  pub conn : Conn
  pub core : Core
  pub there : conn_at c w ≡ Some conn
  pub actor : conn.actor ≡ Connection core
  pub place : ℕ
  pub own : Attachment
  pub attached : attach_of c w.lines ≡ Some (place, own)

-- ---- what ends a connection

-- a line of a script that ends c, whose proxy is p: its ask is cut or refused, it lags, its client ends, or its proxy restarts
abbrev pub ends_conn : ℕ → ℕ → Happening → Bool
ends_conn c p (line.Cut d) = c == d
ends_conn c p (line.Refuse d) = c == d
ends_conn c p (line.Lag d) = c == d
ends_conn c p (line.End d) = c == d
ends_conn c p (line.Restart q) = q == p
ends_conn c p _ = false

-- a line of a transcript that, after the session's own attachment, takes it from its connection: it is attached again, or lapses
abbrev pub takes_in : ℤ → UpdateKind → Bool
takes_in id (Attach other c) = int_eq id other
takes_in id _ = false

abbrev pub takes_session : ℤ → TranscriptLine → Bool
takes_session id (Update u) = takes_in id u.kind
takes_session id (Lapse revision other) = int_eq id other
takes_session id _ = false

-- each frame of c after its connect has a header of 8 bytes, and is no closeSession and no authentication that is refused
abbrev pub HasMildFrames : ℕ → List TranscriptLine → Type 0
HasMildFrames c lines = (k i : ℕ) (zxid : ℤ) (bytes : List ℕ) → slice_get lines k ≡ Some (FrameLine c i zxid bytes) → 1 ≤ i
    → (has_header (read_request bytes) ≡ true) × (closes_after (read_request bytes) ≡ false)

-- the length at the front of what is no whole frame yet, where it is out of range
abbrev pub bad_at : ℕ → World → Option ℤ
bad_at c w = option_and_then (λ (x : Conn). bad_length x.stream.rest) (conn_at c w)

-- ---- the law

-- none of that happened to c since its attachment; these lines of a script led from w, where it was attached, to w'
pub record IsUndisturbed (c : ℕ) (w : World) (a : IsAttachedAt c w) (hs : List Happening) (w' : World) : Type 0 where
  -- the lines have no cut, refuse, lag or end of it, and no restart of its proxy
  pub script : All (λ h. ends_conn c a.conn.proxy h ≡ false) hs
  -- after its own line, its session has no lapse and no later Attach
  pub session : (k : ℕ) (l : TranscriptLine) → a.place < k → slice_get w'.lines k ≡ Some l → takes_session a.own.session l ≡ false
  -- its bytes have no frame without a header, no closeSession and no authentication that is refused, and no length out of range
  pub frames : HasMildFrames c w'.lines
  pub lengths : bad_at c w' ≡ None
  -- the store is not at its last revision
  pub room : revision w'.store <ℤ last_revision

-- in every run, a connection that was attached and is undisturbed since is open still
abbrev pub UndisturbedStayOpen : Type 0
UndisturbedStayOpen = (before hs : List Happening) (ticks later : List Tick) (w w' : World) (c : ℕ) → All OffersSession before
    → All OffersSession hs → IsWithinCounts w' → Runs before ticks w → RunsFrom w hs later w' → (a : IsAttachedAt c w)
    → IsUndisturbed c w a hs w'
    → is_open_conn (conn_at c w') ≡ true
