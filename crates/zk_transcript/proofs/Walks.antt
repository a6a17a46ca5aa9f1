-- A walk goes on as it was when lines are added: what a connection was sent stays lawful.
use Rattle.std.proofs.Common.{◌≡◌, ℕ, suc, ◌+◌, ◌≤◌, ◌<◌, List, [], ◌∷◌, ◌++◌, length, take, refl, ap, arith, Bool, true, false, ℤ}
use Rattle.std.specs.Prelude.{Option, Some, None, nat_le, if◌then◌else◌}
use Rattle.std.proofs.lemmas.List.{take-append-le, length-append}
use Rattle.std.proofs.lemmas.Bool.Decides.{nat_tests}
use Rattle.zk_transcript.specs.declared.transcript.TranscriptLine.{TranscriptLine}
use Rattle.zk_service.specs.declared.update.UpdateRec.{UpdateRec}
use Rattle.zk_transcript.specs.History.{after, state_at, first_place, frame_shown}
use Rattle.zk_model.specs.Watches.{is_unarmed}
use Rattle.zk_transcript.specs.Walks.{Walker, Choice, Tell, Plain, Answer, Due, move, entry_step, told_update, next_update, above_shown, placed_frame, answer_plainly, answer_as_of, own_update}
use Rattle.zk_transcript.proofs.Appending.{first_place-push}

pub first_place-bound : {A : Type 0} (show : TranscriptLine → Option A) (k : ℕ) (ls : List TranscriptLine) (x : ℕ × A)
    → first_place show k ls ≡ Some x → x.0 < k + length ls
first_place-bound show k [] x h = absurd (cc)
first_place-bound {A} show k (l ∷ ls) x h =
    elim (show l) as (λ o. (elim o [ Some y ↦ Some (k, y) | None ↦ first_place show (k + 1) ls ]) ≡ Some x → x.0 < k + suc (length ls)) [
      | Some y ↦ λ e. let same : (k, y) ≡ x = cc in omega (arith, ap (λ (p : ℕ × A). p.0) same)
      | None ↦ λ e. omega (arith, first_place-bound show (k + 1) ls x e)
    ] h

pub state_at-push : (lines more : List TranscriptLine) (m : ℕ) → m ≤ length lines → state_at (lines ++ more) m ≡ state_at lines m
state_at-push lines more m h = ap after (take-append-le m lines more h)

told-push : (lines more : List TranscriptLine) (w : Walker) (y : Walker × List Due)
    → told_update lines w (next_update w.zxid lines) ≡ Some y → told_update (lines ++ more) w (next_update w.zxid (lines ++ more)) ≡ Some y
told-push lines more w y h = go (next_update w.zxid lines) refl h
  where
    go : (o : Option (ℕ × ℤ)) → next_update w.zxid lines ≡ o → told_update lines w o ≡ Some y → told_update (lines ++ more) w (next_update w.zxid (lines ++ more)) ≡ Some y
    go None e t = cc
    go (Some u) e t =
        rw (first_place-push (above_shown w.zxid) 0 lines more u e)
        (rw (state_at-push lines more (u.0 + 1) (omega (arith, first_place-bound (above_shown w.zxid) 0 lines u e))) t)

pub entry-push : (lines more : List TranscriptLine) (w : Walker) (y : Walker × List Due) → entry_step lines w ≡ Some y → entry_step (lines ++ more) w ≡ Some y
entry-push lines more w y h =
    elim (is_unarmed w.watches) as (λ b. (if b then None else told_update lines w (next_update w.zxid lines)) ≡ Some y → (if b then None else told_update (lines ++ more) w (next_update w.zxid (lines ++ more))) ≡ Some y) [
      | true ↦ λ e. e
      | false ↦ λ e. told-push lines more w y e
    ] h

pub plain-push : (lines more : List TranscriptLine) (c : ℕ) (w : Walker) (y : Walker × List Due)
    → answer_plainly w (placed_frame c w.next lines) ≡ Some y → answer_plainly w (placed_frame c w.next (lines ++ more)) ≡ Some y
plain-push lines more c w y h = go (placed_frame c w.next lines) refl h
  where
    go : (o : Option (ℕ × List ℕ)) → placed_frame c w.next lines ≡ o → answer_plainly w o ≡ Some y → answer_plainly w (placed_frame c w.next (lines ++ more)) ≡ Some y
    go None e t = cc
    go (Some f) e t = rw (first_place-push (frame_shown c w.next) 0 lines more f e) t

pub unless-push : (b : Bool) (o p : Option (Walker × List Due)) (y : Walker × List Due) → (o ≡ Some y → p ≡ Some y) → (if b then None else o) ≡ Some y → (if b then None else p) ≡ Some y
unless-push true o p y f h = h
unless-push false o p y f h = f h

frame-push : (lines more past : List TranscriptLine) (c : ℕ) (id : ℤ) (w : Walker) (own : Option (ℕ × UpdateRec)) (y : Walker × List Due)
    → answer_as_of past c id w own (placed_frame c w.next lines) ≡ Some y → answer_as_of past c id w own (placed_frame c w.next (lines ++ more)) ≡ Some y
unfolding answer_as_of
frame-push lines more past c id w own y h = go (placed_frame c w.next lines) refl h
  where
    go : (o : Option (ℕ × List ℕ)) → placed_frame c w.next lines ≡ o → answer_as_of past c id w own o ≡ Some y → answer_as_of past c id w own (placed_frame c w.next (lines ++ more)) ≡ Some y
    go None e t = absurd (cc)
    go (Some f) e t = rw (first_place-push (frame_shown c w.next) 0 lines more f e) t

-- One choice gives what it gave, where no line that was added carries out the request that it answers.
pub move-push : (lines more : List TranscriptLine) (c : ℕ) (id : ℤ) (w : Walker) (x : Choice) (y : Walker × List Due)
    → own_update c w.next (lines ++ more) ≡ own_update c w.next lines → move lines c id w x ≡ Some y → move (lines ++ more) c id w x ≡ Some y
unfolding move
move-push lines more c id w Tell y own h = entry-push lines more w y h
move-push lines more c id w Plain y own h = unless-push w.over _ _ y (plain-push lines more c w y) h
move-push lines more c id w (Answer m) y own h = unless-push w.over _ _ y (λ e. at_moment (nat_le m (length lines)) refl e) h
  where
    at_moment : (b : Bool) → nat_le m (length lines) ≡ b → (if b then answer_as_of (take m lines) c id w (own_update c w.next lines) (placed_frame c w.next lines) else None) ≡ Some y
        → (if nat_le m (length (lines ++ more)) then answer_as_of (take m (lines ++ more)) c id w (own_update c w.next (lines ++ more)) (placed_frame c w.next (lines ++ more)) else None) ≡ Some y
    at_moment false e t = absurd (cc)
    at_moment true e t =
        let small : m ≤ length lines = grind (arith, nat_tests) in
        let still : nat_le m (length (lines ++ more)) ≡ true = grind (arith, nat_tests, length-append lines more) in
        rw (still, own, take-append-le m lines more small) (frame-push lines more (take m lines) c id w (own_update c w.next lines) y t)
