-- Where the least moment of a reply is found without a search. Where the request has an update of its own, there is one moment to
-- try. Otherwise it is the first that is late enough and, for a reply that the session has expired, the one right after its lapse.
use Rattle.std.specs.Prelude.{◌≡◌, ℕ, ℤ, pos, ◌+◌, ◌<◌, ◌≤◌, ◌<ℤ◌, Bool, List, [], ◌∷◌, length, take, drop, if◌then◌else◌, Option, Some, None, IsTrue}
use Rattle.std.specs.Int.{from_be_bytes, cast_signed, w32}
use Rattle.std.specs.Ordering.{int_eq}
use Rattle.zk_model.specs.Codes.{session_expired}
use Rattle.zk_service.specs.declared.update.UpdateRec.{UpdateRec}
use Rattle.zk_transcript.specs.declared.transcript.TranscriptLine.{TranscriptLine}
use Rattle.zk_transcript.specs.History.{state_at, first_place, when}
use Rattle.zk_transcript.specs.Legal.{is_legal, lapses_session}
use Rattle.zk_transcript.specs.Walks.{Walker, Due, next_update, placed_frame, own_update, after_place, after_update, later_of}
use Rattle.zk_least.specs.LeastWalk.{zxid_in, next_reply, is_allowed, least_moment, HasZxids}

-- the code in a reply's header, after its zxid (zookeeper.jute, `ReplyHeader`)
unfoldable pub code_in : List ℕ → ℤ
code_in bytes = cast_signed w32 (from_be_bytes w32 (take 4 (drop 16 bytes)))

abbrev pub lapse_shown : ℤ → TranscriptLine → Option ℤ
lapse_shown id l = when (lapses_session id l) id

-- the moment right after the first lapse of a session from a moment on, or 0 where there is none
abbrev pub lapsed_from : ℤ → ℕ → List TranscriptLine → ℕ
lapsed_from id m lines = after_place (first_place (lapse_shown id) m (drop m lines))

-- the first moment that is not before the last reply's, and is after the frame's line and the update of the reply's zxid
abbrev pub first_moment : List TranscriptLine → Walker → ℕ → ℤ → ℕ
first_moment lines w place zxid = later_of (later_of w.moment (place + 1)) (after_update zxid lines)

-- the first moment that is besides after the session's first lapse since the update of the reply's zxid, if there is one
abbrev pub moment_after_lapse : List TranscriptLine → ℤ → Walker → ℕ → ℤ → ℕ
moment_after_lapse lines id w place zxid = later_of (first_moment lines w place zxid) (lapsed_from id (after_update zxid lines) lines)

-- the moments to try for a reply to the frame at a place: u is the request's own update
abbrev pub moments_to_try : List TranscriptLine → ℤ → Walker → ℕ → List ℕ → Option (ℕ × UpdateRec) → List ℕ
moments_to_try lines id w place bytes (Some u) = (u.0 + 1) ∷ []
moments_to_try lines id w place bytes None =
    first_moment lines w place (zxid_in bytes)
    ∷ (if int_eq (code_in bytes) session_expired then moment_after_lapse lines id w place (zxid_in bytes) ∷ [] else [])

abbrev pub moments_for : List TranscriptLine → ℕ → ℤ → Walker → List ℕ → Option (ℕ × List ℕ) → List ℕ
moments_for lines c id w bytes None = []
moments_for lines c id w bytes (Some f) = moments_to_try lines id w f.0 bytes (own_update c w.next lines)

-- the first of some moments that passes a test
abbrev pub first_of : (ℕ → Bool) → List ℕ → Option ℕ
first_of test [] = None
first_of test (m ∷ ms) = if test m then Some m else first_of test ms

-- the least moment of the next reply is the first of the moments to try that is allowed
abbrev pub LeastMomentLaw : Type 0
LeastMomentLaw = (lines : List TranscriptLine) (c : ℕ) (id : ℤ) (w : Walker) (ps : List Due) (bytes : List ℕ)
    → IsTrue (is_legal lines) → HasZxids lines → pos 0 <ℤ w.zxid → next_reply ps ≡ Some bytes
    → least_moment lines c id w ps ≡ first_of (is_allowed lines c id w ps) (moments_for lines c id w bytes (placed_frame c w.next lines))

-- what holds of each moment that is allowed: it is not before the last reply's, is after the frame's line, is after the update of
-- the reply's zxid and before the next one, and is right after the request's own update, if it has one
pub record IsAllowedMoment (lines : List TranscriptLine) (c : ℕ) (w : Walker) (bytes : List ℕ) (m : ℕ) : Type 0 where
  pub within : m ≤ length lines
  pub not_back : w.moment ≤ m
  pub frame : ℕ × List ℕ
  pub framed : placed_frame c w.next lines ≡ Some frame
  pub fresh : frame.0 < m
  pub zxid : (state_at lines m).zxid ≡ zxid_in bytes
  pub update_before : after_update (zxid_in bytes) lines ≤ m
  pub before_next : (x : ℕ × ℤ) → next_update (zxid_in bytes) lines ≡ Some x → m ≤ x.0
  pub own : (u : ℕ × UpdateRec) → own_update c w.next lines ≡ Some u → m ≡ u.0 + 1

abbrev pub AllowedMomentLaw : Type 0
AllowedMomentLaw = (lines : List TranscriptLine) (c : ℕ) (id : ℤ) (w : Walker) (ps : List Due) (bytes : List ℕ) (m : ℕ)
    → IsTrue (is_legal lines) → HasZxids lines → pos 0 <ℤ w.zxid → next_reply ps ≡ Some bytes → IsTrue (is_allowed lines c id w ps m) → IsAllowedMoment lines c w bytes m
