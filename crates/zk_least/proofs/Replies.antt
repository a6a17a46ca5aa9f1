-- The least walk goes reply by reply.
use Rattle.std.proofs.Common.{◌≡◌, ℕ, List, [], ◌∷◌, refl, ap, ◌∙◌, Bool, true, false, ℤ, pos}
use Rattle.std.specs.Prelude.{Option, Some, None, option_map, ◌<ℤ◌, if◌then◌else◌}
use Rattle.zk_transcript.specs.declared.transcript.TranscriptLine.{TranscriptLine}
use Rattle.zk_transcript.specs.Legal.{is_legal}
use Rattle.zk_transcript.specs.Walks.{Walker, Choice, Answer, Due, move, placed_frame}
use Rattle.zk_least.specs.LeastWalk.{zxid_in, next_reply, given, is_allowed, repeats, plain_choice, choice_for, least_choice, least_moment, HasZxids}
use Rattle.zk_least.specs.LeastSteps.{is_least, is_least_after, least_step}
use Rattle.zk_least.specs.LeastMoments.{moments_for, first_of}
use Rattle.zk_least.specs.LeastReplies.{given_at, reply_given, is_least_by_reply, LeastRepliesLaw}
use Rattle.zk_least.proofs.ChoiceCounts.{least-step-law}
use Rattle.zk_least.proofs.MomentsToTry.{least-moment-law}
use Rattle.zk_least.proofs.RepeatedPlaces.{plain-reply-law}
use Rattle.zk_least.proofs.LastNotices.{last-notices-law}

answer-step : (lines : List TranscriptLine) (c : ℕ) (id : ℤ) (w : Walker) (ps : List Due) (bytes : List ℕ) → next_reply ps ≡ Some bytes → repeats (placed_frame c w.next lines) bytes ≡ false → least_step lines c id w ps ≡ given_at lines c id w ps (least_moment lines c id w ps)
unfolding least_choice
answer-step lines c id w ps bytes next rep =
    ap (λ o. elim o [ None ↦ None | Some x ↦ given ps (move lines c id w x) ])
    (ap (choice_for lines c id w ps) next ∙ ap (λ b. if b then Some (plain_choice w (zxid_in bytes)) else option_map (λ m. Answer m) (least_moment lines c id w ps)) rep)
    ∙ by (least_moment lines c id w ps)
  where
    by : (o : Option ℕ) → (elim (option_map {U = Choice} (λ m. Answer m) o) [ None ↦ None | Some x ↦ given ps (move lines c id w x) ]) ≡ given_at lines c id w ps o
    by None = refl
    by (Some m) = refl

answer-goes : (lines : List TranscriptLine) (c : ℕ) (id : ℤ) (w : Walker) (ps : List Due) (bytes : List ℕ) → is_legal lines ≡ true → HasZxids lines → pos 0 <ℤ w.zxid → next_reply ps ≡ Some bytes → repeats (placed_frame c w.next lines) bytes ≡ false
    → is_least lines c id w ps ≡ is_least_after lines c id (given_at lines c id w ps (first_of (is_allowed lines c id w ps) (moments_for lines c id w bytes (placed_frame c w.next lines))))
answer-goes lines c id w [] bytes legal least up next rep = absurd (cc)
answer-goes lines c id w (p ∷ ps) bytes legal least up next rep =
    (least-step-law lines c id w).more p ps
    ∙ ap (is_least_after lines c id) (answer-step lines c id w (p ∷ ps) bytes next rep)
    ∙ ap (λ o. is_least_after lines c id (given_at lines c id w (p ∷ ps) o)) (least-moment-law lines c id w (p ∷ ps) bytes legal least up next)

pub least-replies-law : LeastRepliesLaw
least-replies-law lines c id w ps legal least up = by (next_reply ps) refl
  where
    reply : (bytes : List ℕ) → next_reply ps ≡ Some bytes → (b : Bool) → repeats (placed_frame c w.next lines) bytes ≡ b → is_least lines c id w ps ≡ is_least_after lines c id (reply_given lines c id w ps bytes b)
    reply bytes next true rep = plain-reply-law lines c id w ps bytes legal least next rep
    reply bytes next false rep = answer-goes lines c id w ps bytes legal least up next rep

    by : (o : Option (List ℕ)) → next_reply ps ≡ o → is_least lines c id w ps ≡ is_least_by_reply lines c id w ps o
    by None next = last-notices-law lines c id w ps legal next
    by (Some bytes) next = reply bytes next (repeats (placed_frame c w.next lines) bytes) refl
