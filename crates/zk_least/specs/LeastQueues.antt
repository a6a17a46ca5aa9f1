-- The least walk in one pass over the lines. A connection's queue has the notices of the updates above the walker's zxid, with the
-- watches that these leave armed: before a moment m it is `fired_above (take m lines) w.zxid w.watches`. It grows line by line. A
-- reply takes the whole queue, and after the last reply the packets are a front of it.
use Rattle.std.specs.Prelude.{◌≡◌, ℕ, ℤ, ◌+◌, Bool, true, false, not, ◌&&◌, List, [], ◌∷◌, take, nat_le, ◌==◌, int_lt, bytes_eq, if◌then◌else◌, Option, Some, None, slice_get, IsTrue}
use Rattle.zk_model.specs.Watches.{Watches, is_unarmed}
use Rattle.zk_transcript.specs.declared.transcript.TranscriptLine.{TranscriptLine}
use Rattle.zk_transcript.specs.declared.transcript.TranscriptLine.TheVariants.{Update}
use Rattle.zk_transcript.specs.History.{state_at, first_place}
use Rattle.zk_transcript.specs.Legal.{is_legal}
use Rattle.zk_transcript.specs.Walks.{Walker, Plain, Due, move, placed_frame, is_above, then_fired, fired_above, update_shown, after_update}
use Rattle.zk_least.specs.LeastWalk.{zxid_in, next_reply, given, repeats, HasZxids}
use Rattle.zk_least.specs.LeastSteps.{is_least, is_least_after}

-- the line of an update above the walker's zxid adds to the queue what the update fires; any other line adds nothing
abbrev pub QueueLaw : Type 0
QueueLaw = (lines : List TranscriptLine) (p : ℤ) (w : Watches) (k : ℕ) (l : TranscriptLine)
    → slice_get lines k ≡ Some l → fired_above (take (k + 1) lines) p w ≡ then_fired lines k (is_above p l) (fired_above (take k lines) p w)

-- the moment right after the last update: an update's line moves it on
abbrev pub since_line : TranscriptLine → ℕ → ℕ → ℕ
since_line (Update u) k n = k + 1
since_line _ k n = n

abbrev pub LastUpdateLaw : Type 0
LastUpdateLaw = (lines : List TranscriptLine) (k : ℕ) (l : TranscriptLine)
    → IsTrue (is_legal lines) → slice_get lines k ≡ Some l → after_update (state_at lines (k + 1)).zxid (take (k + 1) lines) ≡ since_line l k (after_update (state_at lines k).zxid (take k lines))

-- ---- a reply that repeats the walker's zxid

-- the walker that was told up to an update, and its whole queue, where something is still armed before that update
abbrev pub told_through : List TranscriptLine → Walker → Option (ℕ × ℤ) → Option (Walker × List Due)
told_through lines w None = None
told_through lines w (Some u) =
    if is_unarmed (fired_above (take u.0 lines) w.zxid w.watches).0 then None
    else Some (record w { zxid = u.1; since = u.0 + 1; watches = (fired_above (take (u.0 + 1) lines) w.zxid w.watches).0 }, (fired_above (take (u.0 + 1) lines) w.zxid w.watches).1)

-- the walker that was told up to the update with zxid z, and its queue; the walker as it is, where its zxid is not below z
abbrev pub told_up_to : List TranscriptLine → Walker → ℤ → Option (Walker × List Due)
told_up_to lines w z = if int_lt w.zxid z then told_through lines w (first_place (update_shown z) 0 lines) else Some (w, [])

-- the next frame is answered without the tree, after what was told
abbrev pub then_plainly : List TranscriptLine → ℕ → ℤ → Option (Walker × List Due) → Option (Walker × List Due)
then_plainly lines c id None = None
then_plainly lines c id (Some y) = given y.1 (move lines c id y.0 Plain)

abbrev pub PlainReplyLaw : Type 0
PlainReplyLaw = (lines : List TranscriptLine) (c : ℕ) (id : ℤ) (w : Walker) (ps : List Due) (bytes : List ℕ)
    → IsTrue (is_legal lines) → HasZxids lines → next_reply ps ≡ Some bytes → IsTrue (repeats (placed_frame c w.next lines) bytes)
    → is_least lines c id w ps ≡ is_least_after lines c id (then_plainly lines c id (given ps (told_up_to lines w (zxid_in bytes))))

-- ---- after the last reply

-- the next notice, if there is one, is another update's
abbrev pub is_apart : Due → List Due → Bool
is_apart d [] = true
is_apart d (e ∷ es) = not (d.0 == e.0)

-- the packets are the front of a queue, which ends with the last notice of an update, and none stands before its first place
abbrev pub is_front : List Due → List Due → Bool
is_front [] ds = true
is_front (p ∷ ps) [] = false
is_front (p ∷ []) (d ∷ ds) = nat_le d.0 p.0 && bytes_eq d.1 p.1 && is_apart d ds
is_front (p ∷ q ∷ ps) (d ∷ ds) = nat_le d.0 p.0 && bytes_eq d.1 p.1 && is_front (q ∷ ps) ds

abbrev pub LastNoticesLaw : Type 0
LastNoticesLaw = (lines : List TranscriptLine) (c : ℕ) (id : ℤ) (w : Walker) (ps : List Due)
    → IsTrue (is_legal lines) → next_reply ps ≡ None → is_least lines c id w ps ≡ is_front ps (fired_above lines w.zxid w.watches).1
