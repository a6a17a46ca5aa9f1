-- The two tests of choices, fresh and in turn, over more lines and more choices.
use Rattle.std.proofs.Common.{◌≡◌, ℕ, ◌≤◌, List, [], ◌∷◌, ◌++◌, length, take, refl, sym, subst, arith, Bool, true, false, ℤ}
use Rattle.std.specs.Prelude.{Option, Some, None, nat_le, ◌&&◌, if◌then◌else◌}
use Rattle.std.proofs.lemmas.List.{take-append-le}
use Rattle.std.proofs.lemmas.Bool.{and_parts}
use Rattle.std.proofs.lemmas.Bool.Decides.{nat_tests}
use Rattle.zk_transcript.specs.declared.transcript.TranscriptLine.{TranscriptLine}
use Rattle.zk_transcript.specs.History.{frame_shown}
use Rattle.zk_transcript.specs.Walks.{Walker, Choice, Tell, Plain, Answer, Due, move, walk, placed_frame, answer_as_of, own_update, then_due, next_index, all_choices, is_past, is_fresh, are_fresh, is_not_overtaken, is_in_turn, are_in_turn}
use Rattle.zk_transcript.proofs.Appending.{first_place-push}
use Rattle.zk_transcript.proofs.Longer.{move-index, then_due-next, if_Some}
use Rattle.zx_base.proofs.Booleans.{and-both}

-- what holds of the choices so far and of those that go on from there holds of all
pub choices-append : (test : ℕ → Choice → Bool) (lines : List TranscriptLine) (c : ℕ) (id : ℤ) (w : Walker) (xs ys : List Choice) (r : Walker × List Due)
    → walk lines c id w xs ≡ Some r → all_choices test w.next xs ≡ true → all_choices test r.0.next ys ≡ true → all_choices test w.next (xs ++ ys) ≡ true
unfolding walk all_choices
choices-append test lines c id w [] ys r h f g =
    let e : (w, []) ≡ r = cc in
    subst (λ (p : Walker × List Due). all_choices test p.0.next ys ≡ true → all_choices test w.next ys ≡ true) e (λ q. q) g
choices-append test lines c id w (x ∷ xs) ys r h f g = go (move lines c id w x) refl (λ v s e n m. choices-append test lines c id v xs ys s e n m) h
  where
    go : (o : Option (Walker × List Due)) → move lines c id w x ≡ o
        → ((v : Walker) (s : Walker × List Due) → walk lines c id v xs ≡ Some s → all_choices test v.next xs ≡ true → all_choices test s.0.next ys ≡ true → all_choices test v.next (xs ++ ys) ≡ true)
        → (elim o [ None ↦ None | Some u ↦ then_due u.1 (walk lines c id u.0 xs) ]) ≡ Some r
        → (test w.next x && all_choices test (next_index w.next x) (xs ++ ys)) ≡ true
    go None e later t = absurd (cc)
    go (Some u) e later t =
        let s = then_due-next u.1 (walk lines c id u.0 xs) r t in
        let q = and_parts (test w.next x) (all_choices test (next_index w.next x) xs) f in
        let i : u.0.next ≡ next_index w.next x = move-index lines c id w x u e in
        and-both (test w.next x) _ q.0
        (subst (λ n. all_choices test n (xs ++ ys) ≡ true) i
        (later u.0 s.0 s.1 (subst (λ n. all_choices test n xs ≡ true) (sym i) q.1) (subst (λ (v : Walker). all_choices test v.next ys ≡ true) (sym s.2) g)))

-- one test for another, along a walk
choices-as : (test still : ℕ → Choice → Bool) (lines : List TranscriptLine) (c : ℕ) (id : ℤ)
    → ((w : Walker) (x : Choice) (y : Walker × List Due) → move lines c id w x ≡ Some y → test w.next x ≡ true → still w.next x ≡ true)
    → (w : Walker) (xs : List Choice) (r : Walker × List Due) → walk lines c id w xs ≡ Some r → all_choices test w.next xs ≡ true → all_choices still w.next xs ≡ true
unfolding walk all_choices
choices-as test still lines c id one w [] r h f = refl
choices-as test still lines c id one w (x ∷ xs) r h f = go (move lines c id w x) refl (λ v s e n. choices-as test still lines c id one v xs s e n) h
  where
    go : (o : Option (Walker × List Due)) → move lines c id w x ≡ o
        → ((v : Walker) (s : Walker × List Due) → walk lines c id v xs ≡ Some s → all_choices test v.next xs ≡ true → all_choices still v.next xs ≡ true)
        → (elim o [ None ↦ None | Some u ↦ then_due u.1 (walk lines c id u.0 xs) ]) ≡ Some r
        → (still w.next x && all_choices still (next_index w.next x) xs) ≡ true
    go None e later t = absurd (cc)
    go (Some u) e later t =
        let s = then_due-next u.1 (walk lines c id u.0 xs) r t in
        let q = and_parts (test w.next x) (all_choices test (next_index w.next x) xs) f in
        let i : u.0.next ≡ next_index w.next x = move-index lines c id w x u e in
        and-both (still w.next x) _ (one w x u e q.0)
        (subst (λ n. all_choices still n xs ≡ true) i (later u.0 s.0 s.1 (subst (λ n. all_choices test n xs ≡ true) (sym i) q.1)))

past-push : (m c i : ℕ) (lines more : List TranscriptLine) → is_past m (placed_frame c i lines) ≡ true → is_past m (placed_frame c i (lines ++ more)) ≡ true
past-push m c i lines more h = go (placed_frame c i lines) refl h
  where
    go : (o : Option (ℕ × List ℕ)) → placed_frame c i lines ≡ o → is_past m o ≡ true → is_past m (placed_frame c i (lines ++ more)) ≡ true
    go None e t = absurd (cc)
    go (Some f) e t = rw (first_place-push (frame_shown c i) 0 lines more f e) t

fresh-one : (lines more : List TranscriptLine) (c i : ℕ) (x : Choice) → is_fresh lines c i x ≡ true → is_fresh (lines ++ more) c i x ≡ true
fresh-one lines more c i Tell h = refl
fresh-one lines more c i Plain h = refl
fresh-one lines more c i (Answer m) h = past-push m c i lines more h

pub fresh-push : (lines more : List TranscriptLine) (c : ℕ) (id : ℤ) (w : Walker) (xs : List Choice) (r : Walker × List Due)
    → walk lines c id w xs ≡ Some r → are_fresh lines c w.next xs ≡ true → are_fresh (lines ++ more) c w.next xs ≡ true
fresh-push lines more c id w xs r h f = choices-as (is_fresh lines c) (is_fresh (lines ++ more) c) lines c id (λ v x y e g. fresh-one lines more c v.next x g) w xs r h f

-- a moment that was answered as of is one of these lines'
answer-within : (lines : List TranscriptLine) (c : ℕ) (id : ℤ) (w : Walker) (m : ℕ) (y : Walker × List Due) → move lines c id w (Answer m) ≡ Some y → m ≤ length lines
unfolding move
answer-within lines c id w m y h = go (nat_le m (length lines)) refl (if_Some w.over _ y h)
  where
    go : (b : Bool) → nat_le m (length lines) ≡ b → (if b then answer_as_of (take m lines) c id w (own_update c w.next lines) (placed_frame c w.next lines) else None) ≡ Some y → m ≤ length lines
    go true e f = grind (arith, nat_tests)
    go false e f = absurd (cc)

turn-one : (lines more : List TranscriptLine) (c : ℕ) (id : ℤ) (w : Walker) (x : Choice) (y : Walker × List Due)
    → move lines c id w x ≡ Some y → is_in_turn lines c w.next x ≡ true → is_in_turn (lines ++ more) c w.next x ≡ true
turn-one lines more c id w Tell y h f = refl
turn-one lines more c id w Plain y h f = refl
turn-one lines more c id w (Answer m) y h f = subst (λ past. is_not_overtaken past c w.next ≡ true) (sym (take-append-le m lines more (answer-within lines c id w m y h))) f

pub turn-push : (lines more : List TranscriptLine) (c : ℕ) (id : ℤ) (w : Walker) (xs : List Choice) (r : Walker × List Due)
    → walk lines c id w xs ≡ Some r → are_in_turn lines c w.next xs ≡ true → are_in_turn (lines ++ more) c w.next xs ≡ true
turn-push lines more c id w xs r h f = choices-as (is_in_turn lines c) (is_in_turn (lines ++ more) c) lines c id (turn-one lines more c id) w xs r h f
