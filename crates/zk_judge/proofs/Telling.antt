-- What a client is told as of a moment of a run can be sent.
use Rattle.std.proofs.Common.{◌≡◌, ℕ, ℤ, ◌+◌, ◌≤◌, Bool, true, false, not, List, length, take, take-take, Option, Some, None, refl, sym, ap, ◌∙◌, subst, arith}
use Rattle.std.specs.Prelude.{⊤, ◌==◌, IfSome, if◌then◌else◌, option_map, slice_get}
use Rattle.std.proofs.lemmas.Bool.Decides.{nat_tests}
use Rattle.zk_model.specs.Codes.{session_expired, session_moved}
use Rattle.zk_model.specs.Watches.{Watches}
use Rattle.zk_model.specs.declared.reply.Body.{Body}
use Rattle.zk_model.specs.declared.reply.Reply.{Reply}
use Rattle.zk_model.specs.declared.reply.Reply.TheVariants as reply
use Rattle.zk_jute.specs.Packets.{CanBeSent}
use Rattle.zk_jute.specs.Requests.{Frame, NoHeader, Unreadable, Unknown, Asks}
use Rattle.zk_service.specs.declared.update.UpdateRec.{UpdateRec}
use Rattle.zk_service.specs.declared.update.UpdateKind.{UpdateKind}
use Rattle.zk_service.specs.declared.update.UpdateKind.TheVariants.{Begin, Session as NewSession, Attach, Asked, Closed, Reaped}
use Rattle.zk_transcript.specs.declared.transcript.TranscriptLine.{TranscriptLine}
use Rattle.zk_transcript.specs.declared.transcript.TranscriptLine.TheVariants.{Update}
use Rattle.zk_service.specs.Answers.{Told, owned_limit_in, plain_reply, session_refusal}
use Rattle.zk_service.specs.States.{Commit, Session, State, session_at}
use Rattle.zk_transcript.specs.History.{after, asked_commit}
use Rattle.zk_transcript.specs.Walks.{closes_session, looked, response_at, seen_told, told_as_of, told_by_state, told_response, with_end}
use Rattle.zk_machine.specs.Faults.{IsWhole}
use Rattle.zk_answers.specs.Outcomes.{told_of}
use Rattle.zk_answers.specs.declared.told.Told.{Told as Reported}
use Rattle.zk_legal.specs.Faults.{history_fault}
use Rattle.zk_legal.specs.Short.{IsShortBody}
use Rattle.zk_legal.proofs.ShortUpdates.{response-short}
use Rattle.zk_judge.specs.Fronts.{IsFront}
use Rattle.zk_judge.specs.Seen.{IsShortFrame, ending_of}
use Rattle.zk_judge.specs.Sendable.{CanBeTold}
use Rattle.zk_judge.specs.declared.answers.Ending.{Ending}
use Rattle.zk_judge.proofs.Running.{front-whole}
use Rattle.zk_judge.proofs.Sendable.{IfTold, body-fits, only-fits, plain-told, refused-fits, tree-told, unanswered-few}

abbrev IfEnds : Option (Bool × Told) → Type 0
IfEnds None = ⊤
IfEnds (Some e) = CanBeTold e.1

ends : (over : Bool) (o : Option Told) → IfTold o → IfEnds (with_end over o)
ends over None fits = tt
ends over (Some t) fits = fits

-- ---- by the state

abbrev IfSent : Option Reply → Type 0
IfSent None = ⊤
IfSent (Some r) = CanBeSent r

session-sent : (c : ℕ) (o : Option Session) → IfSent (session_refusal c o)
session-sent c None = refused-fits session_expired
session-sent c (Some x) = by_tests x.lapsed (not (c == x.connection))
  where
    by_tests : (lapsed moved : Bool) → IfSent (if lapsed then Some (reply.Refused session_expired) else if moved then Some (reply.Refused session_moved) else None)
    by_tests true moved = refused-fits session_expired
    by_tests false true = refused-fits session_moved
    by_tests false false = tt

looked-told : (s : State) (limit : ℕ) (id : ℤ) (w : Watches) (x : Frame) (o : Option Told) → plain_reply w x ≡ o → IsWhole s.tree → IsShortFrame x → IfTold (looked s limit id w x o)
looked-told s limit id w x (Some t) is whole frame = tt
looked-told s limit id w NoHeader None is whole frame = tt
looked-told s limit id w (Unreadable xid place) None is whole frame = tt
looked-told s limit id w (Unknown xid kind) None is whole frame = tt
looked-told s limit id w (Asks xid r) None is whole frame = tree-told s.tree limit id w xid r whole frame (unanswered-few w r is)

seen-told : (s : State) (limit : ℕ) (id : ℤ) (x : Frame) (w : Watches) (r : Option Reply) → IfSent r → IsWhole s.tree → IsShortFrame x → IfEnds (seen_told s limit id x w r)
seen-told s limit id x w (Some r) sent whole frame = only-fits w r sent
seen-told s limit id x w None sent whole frame = ends false (looked s limit id w x (plain_reply w x)) (looked-told s limit id w x (plain_reply w x) refl whole frame)

state-told : (s : State) (c : ℕ) (id : ℤ) (x : Frame) (w : Watches) → IsWhole s.tree → IsShortFrame x → IfEnds (told_by_state s c id x w)
state-told s c id x w whole frame =
    seen-told s (owned_limit_in (session_at id s)) id x w (session_refusal c (session_at id s)) (session-sent c (session_at id s)) whole frame

-- ---- by an update of its own

abbrev IfShort : Option Body → Type 0
IfShort None = ⊤
IfShort (Some b) = IsShortBody b

response-told : (w : Watches) (o : Option Body) → IfShort o → IfTold (told_response w o)
response-told w None short = tt
response-told w (Some b) short = only-fits w (reply.Good b) (body-fits b short)

commit-response : (o : Option Commit) → ((x : Commit) → o ≡ Some x → IsShortBody x.response) → IfShort (option_map (λ (x : Commit). x.response) o)
commit-response None short = tt
commit-response (Some x) short = short x refl

module _ (lines past : List TranscriptLine) (place : ℕ) (u : UpdateRec) (none : history_fault lines ≡ None) (front : IsFront past lines) (at : slice_get lines place ≡ Some (Update u)) where
  response-fits : place ≤ length past → (kind : UpdateKind) → u.kind ≡ kind → IfShort (response_at past place u.zxid kind)
  response-fits le (Asked c i now) is =
      let same : take place past ≡ take place lines = ap (take place) front ∙ take-take place (length past) lines le in
      commit-response (asked_commit (take place past) (after (take place past)) u.zxid c i now)
      (λ x done. response-short lines place u none at c i now x is (ap (λ (b : List TranscriptLine). asked_commit b (after b) u.zxid c i now) (sym same) ∙ done))
  response-fits le (Closed id c i) is = tt
  response-fits le (Begin now) is = tt
  response-fits le (NewSession id c) is = tt
  response-fits le (Attach id c) is = tt
  response-fits le (Reaped id) is = tt

  own-told : (w : Watches) → IfEnds (if length past == place + 1 then with_end (closes_session u.kind) (told_response w (response_at past place u.zxid u.kind)) else None)
  own-told w = by_test (length past == place + 1) refl
    where
      by_test : (b : Bool) → (length past == place + 1) ≡ b → IfEnds (if b then with_end (closes_session u.kind) (told_response w (response_at past place u.zxid u.kind)) else None)
      by_test false e = tt
      by_test true e =
          let here : length past ≡ place + 1 = grind (arith, nat_tests, e) in
          ends (closes_session u.kind) (told_response w (response_at past place u.zxid u.kind)) (response-told w (response_at past place u.zxid u.kind) (response-fits (omega (arith, here)) u.kind refl))

-- ---- as of a moment

told-fits : (lines past : List TranscriptLine) (c : ℕ) (id : ℤ) (x : Frame) (w : Watches) (own : Option (ℕ × UpdateRec)) → history_fault lines ≡ None → IsFront past lines
    → IfSome own (λ u. slice_get lines u.0 ≡ Some (Update u.1)) → IsShortFrame x → IfEnds (told_as_of past c id x w own)
unfolding told_as_of
told-fits lines past c id x w None none front at frame = state-told (after past) c id x w (front-whole past lines (after past) none front refl) frame
told-fits lines past c id x w (Some u) none front at frame = own-told lines past u.0 u.1 none front at w

pub ending-fits : (lines past : List TranscriptLine) (c : ℕ) (id : ℤ) (x : Frame) (w : Watches) (own : Option (ℕ × UpdateRec)) (o : Option Ending) → history_fault lines ≡ None → IsFront past lines
    → IfSome own (λ u. slice_get lines u.0 ≡ Some (Update u.1)) → IsShortFrame x → option_map ending_of o ≡ told_as_of past c id x w own → IfSome o (λ e. CanBeTold (told_of e.told))
ending-fits lines past c id x w own o none front at frame is = by_ending o (subst IfEnds (sym is) (told-fits lines past c id x w own none front at frame))
  where
    by_ending : (o : Option Ending) → IfEnds (option_map ending_of o) → IfSome o (λ e. CanBeTold (told_of e.told))
    by_ending None fits = tt {0}
    by_ending (Some e) fits = fits

-- what is told without the tree
pub plain-fits : (w : Watches) (x : Frame) (t : Reported) → Some (told_of t) ≡ plain_reply w x → CanBeTold (told_of t)
plain-fits w x t is = subst IfTold (sym is) (plain-told w x)
