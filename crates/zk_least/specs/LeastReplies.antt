-- The least walk, one reply after the other: the loop of the judge, which goes through the lines once.
use Rattle.std.specs.Prelude.{◌≡◌, ℕ, ℤ, pos, ◌<ℤ◌, Bool, true, false, List, Option, Some, None, IsTrue}
use Rattle.zk_transcript.specs.declared.transcript.TranscriptLine.{TranscriptLine}
use Rattle.zk_transcript.specs.Legal.{is_legal}
use Rattle.zk_transcript.specs.Walks.{Walker, Answer, Due, move, placed_frame, fired_above}
use Rattle.zk_least.specs.LeastWalk.{zxid_in, next_reply, given, is_allowed, repeats, HasZxids}
use Rattle.zk_least.specs.LeastSteps.{is_least, is_least_after}
use Rattle.zk_least.specs.LeastMoments.{moments_for, first_of}
use Rattle.zk_least.specs.LeastQueues.{told_up_to, then_plainly, is_front}

-- the reply as of a moment, with its queue
abbrev pub given_at : List TranscriptLine → ℕ → ℤ → Walker → List Due → Option ℕ → Option (Walker × List Due)
given_at lines c id w ps None = None
given_at lines c id w ps (Some m) = given ps (move lines c id w (Answer m))

-- the next reply, with its queue: one that repeats the walker's zxid, or one as of a moment
abbrev pub reply_given : List TranscriptLine → ℕ → ℤ → Walker → List Due → List ℕ → Bool → Option (Walker × List Due)
reply_given lines c id w ps bytes true = then_plainly lines c id (given ps (told_up_to lines w (zxid_in bytes)))
reply_given lines c id w ps bytes false = given_at lines c id w ps (first_of (is_allowed lines c id w ps) (moments_for lines c id w bytes (placed_frame c w.next lines)))

abbrev pub is_least_by_reply : List TranscriptLine → ℕ → ℤ → Walker → List Due → Option (List ℕ) → Bool
is_least_by_reply lines c id w ps None = is_front ps (fired_above lines w.zxid w.watches).1
is_least_by_reply lines c id w ps (Some bytes) = is_least_after lines c id (reply_given lines c id w ps bytes (repeats (placed_frame c w.next lines) bytes))

abbrev pub LeastRepliesLaw : Type 0
LeastRepliesLaw = (lines : List TranscriptLine) (c : ℕ) (id : ℤ) (w : Walker) (ps : List Due)
    → IsTrue (is_legal lines) → HasZxids lines → pos 0 <ℤ w.zxid → is_least lines c id w ps ≡ is_least_by_reply lines c id w ps (next_reply ps)
