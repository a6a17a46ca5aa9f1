-- Walks over more lines, and one choice longer.
use Rattle.std.proofs.Common.{◌≡◌, ℕ, ◌+◌, ◌≤◌, ◌<◌, List, [], ◌∷◌, ◌++◌, take, refl, sym, ap, subst, arith, Bool, true, false, ℤ}
use Rattle.std.specs.Prelude.{Option, Some, None, ◌&&◌, if◌then◌else◌}
use Rattle.zk_service.specs.declared.update.UpdateRec.{UpdateRec}
use Rattle.zk_transcript.specs.declared.transcript.TranscriptLine.{TranscriptLine}
use Rattle.zk_jute.specs.Requests.{read_request}
use Rattle.zk_model.specs.Watches.{is_unarmed}
use Rattle.zk_service.specs.Answers.{Told, plain_reply, xid_of, has_header}
use Rattle.zk_transcript.specs.Walks.{own_update, own_update_shown, Walker, Choice, Tell, Plain, Answer, Due, move, walk, told_update, next_update, placed_frame, plain_answer, later_of, answer_plainly, reply_step, reply_step_if, may_answer_at, answer_as_of, fired_above, then_due, next_index}
use Rattle.zk_transcript.proofs.Lookups.{first_place-skip}
use Rattle.zk_transcript.proofs.Walks.{move-push, entry-push, plain-push, unless-push}

-- ---- the next frame: an answer takes one, and telling an update takes none

pub if_Some : (b : Bool) (o : Option (Walker × List Due)) (y : Walker × List Due) → (if b then None else o) ≡ Some y → o ≡ Some y
if_Some true o y h = absurd (cc)
if_Some false o y h = h

pub then_Some : (b : Bool) (o : Option (Walker × List Due)) (y : Walker × List Due) → (if b then o else None) ≡ Some y → o ≡ Some y
then_Some true o y h = h
then_Some false o y h = absurd (cc)

reply_step_if-next : (past : List TranscriptLine) (w : Walker) (k : ℕ) (xid : ℤ) (fired : List Due) (o : Option (Bool × Told)) (y : Walker × List Due)
    → reply_step_if past w k xid fired o ≡ Some y → y.0.next ≡ w.next + 1
reply_step_if-next past w k xid fired None y h = absurd (cc)
reply_step_if-next past w k xid fired (Some t) y h = let s : reply_step past w k xid fired t ≡ y = cc in ap (λ (p : Walker × List Due). p.0.next) (sym s)

answer_as_of-next : (past : List TranscriptLine) (c : ℕ) (id : ℤ) (w : Walker) (own : Option (ℕ × UpdateRec)) (o : Option (ℕ × List ℕ)) (y : Walker × List Due)
    → answer_as_of past c id w own o ≡ Some y → y.0.next ≡ w.next + 1
unfolding answer_as_of
answer_as_of-next past c id w own None y h = absurd (cc)
answer_as_of-next past c id w own (Some f) y h =
    reply_step_if-next past w f.0 (xid_of (read_request f.1)) (fired_above past w.zxid w.watches).1 _ y
    (then_Some (may_answer_at past w && has_header (read_request f.1)) _ y h)

answer-next : (lines : List TranscriptLine) (c m : ℕ) (id : ℤ) (w : Walker) (y : Walker × List Due) → move lines c id w (Answer m) ≡ Some y → y.0.next ≡ w.next + 1
unfolding move
answer-next lines c m id w y h = answer_as_of-next (take m lines) c id w (own_update c w.next lines) (placed_frame c w.next lines) y (then_Some _ _ y (if_Some w.over _ y h))

told-next : (lines : List TranscriptLine) (w : Walker) (o : Option (ℕ × ℤ)) (y : Walker × List Due) → told_update lines w o ≡ Some y → y.0.next ≡ w.next
told-next lines w None y h = absurd (cc)
told-next lines w (Some u) y h = go _ h
  where
    go : (z : Walker × List Due) → Some z ≡ Some y → y.0.next ≡ z.0.next
    go z e = let s : z ≡ y = cc in ap (λ (p : Walker × List Due). p.0.next) (sym s)

plain-next : (w : Walker) (k : ℕ) (xid : ℤ) (o : Option Told) (y : Walker × List Due) → plain_answer w k xid o ≡ Some y → y.0.next ≡ w.next + 1
plain-next w k xid None y h = absurd (cc)
plain-next w k xid (Some t) y h = go _ h
  where
    go : (z : Walker × List Due) → Some z ≡ Some y → y.0.next ≡ z.0.next
    go z e = let s : z ≡ y = cc in ap (λ (p : Walker × List Due). p.0.next) (sym s)

plainly-next : (w : Walker) (o : Option (ℕ × List ℕ)) (y : Walker × List Due) → answer_plainly w o ≡ Some y → y.0.next ≡ w.next + 1
plainly-next w None y h = absurd (cc)
plainly-next w (Some f) y h = plain-next w (later_of w.since (f.0 + 1)) (xid_of (read_request f.1)) (plain_reply w.watches (read_request f.1)) y h

pub move-index : (lines : List TranscriptLine) (c : ℕ) (id : ℤ) (w : Walker) (x : Choice) (y : Walker × List Due) → move lines c id w x ≡ Some y → y.0.next ≡ next_index w.next x
unfolding move
move-index lines c id w Tell y h = told-next lines w (next_update w.zxid lines) y (if_Some (is_unarmed w.watches) _ y h)
move-index lines c id w Plain y h = plainly-next w (placed_frame c w.next lines) y (if_Some w.over _ y h)
move-index lines c id w (Answer m) y h = answer-next lines c m id w y h

index-rises : (i : ℕ) (x : Choice) → i ≤ next_index i x
index-rises i Tell = omega arith
index-rises i Plain = omega arith
index-rises i (Answer m) = omega arith

pub move-next : (lines : List TranscriptLine) (c : ℕ) (id : ℤ) (w : Walker) (x : Choice) (y : Walker × List Due) → move lines c id w x ≡ Some y → w.next ≤ y.0.next
move-next lines c id w x y h = omega (arith, move-index lines c id w x y h, index-rises w.next x)

-- ---- whole walks

pub then_due-next : (first : List Due) (o : Option (Walker × List Due)) (r : Walker × List Due) → then_due first o ≡ Some r → (s : Walker × List Due) × (o ≡ Some s) × (s.0 ≡ r.0) × (first ++ s.1 ≡ r.1)
then_due-next first None r h = absurd (cc)
then_due-next first (Some s) r h = let e : (s.0, first ++ s.1) ≡ r = cc in (s, refl, ap (λ (p : Walker × List Due). p.0) e, ap (λ (p : Walker × List Due). p.1) e)

walk-next : (lines : List TranscriptLine) (c : ℕ) (id : ℤ) (w : Walker) (xs : List Choice) (r : Walker × List Due) → walk lines c id w xs ≡ Some r → w.next ≤ r.0.next
unfolding walk
walk-next lines c id w [] r h = let e : (w, []) ≡ r = cc in omega (arith, ap (λ (p : Walker × List Due). p.0.next) e)
walk-next lines c id w (x ∷ xs) r h = go (move lines c id w x) refl (λ v q e. walk-next lines c id v xs q e) h
  where
    go : (o : Option (Walker × List Due)) → move lines c id w x ≡ o → ((v : Walker) (q : Walker × List Due) → walk lines c id v xs ≡ Some q → v.next ≤ q.0.next)
        → (elim o [ None ↦ None | Some y ↦ then_due y.1 (walk lines c id y.0 xs) ]) ≡ Some r → w.next ≤ r.0.next
    go None e later t = absurd (cc)
    go (Some y) e later t = let s = then_due-next y.1 (walk lines c id y.0 xs) r t in
        omega (arith, move-next lines c id w x y e, later y.0 s.0 s.1, ap (λ (v : Walker). v.next) s.2)

still-tell : (lines more : List TranscriptLine) (c : ℕ) (id : ℤ) (w : Walker) (y : Walker × List Due) → move lines c id w Tell ≡ Some y → move (lines ++ more) c id w Tell ≡ Some y
unfolding move
still-tell lines more c id w y h = entry-push lines more w y h

still-plain : (lines more : List TranscriptLine) (c : ℕ) (id : ℤ) (w : Walker) (y : Walker × List Due) → move lines c id w Plain ≡ Some y → move (lines ++ more) c id w Plain ≡ Some y
unfolding move
still-plain lines more c id w y h = unless-push w.over _ _ y (plain-push lines more c w y) h

-- A choice keeps what it gave where each request below the next one keeps its line.
pub Stays : List TranscriptLine → List TranscriptLine → ℕ → ℕ → Type 0
Stays lines more c n = (j : ℕ) → j < n → own_update c j (lines ++ more) ≡ own_update c j lines

step-push : (lines more : List TranscriptLine) (c : ℕ) (id : ℤ) (w : Walker) (x : Choice) (y : Walker × List Due) (n : ℕ)
    → Stays lines more c n → y.0.next ≤ n → move lines c id w x ≡ Some y → move (lines ++ more) c id w x ≡ Some y
unfolding Stays
step-push lines more c id w Tell y n stays small h = still-tell lines more c id w y h
step-push lines more c id w Plain y n stays small h = still-plain lines more c id w y h
step-push lines more c id w (Answer m) y n stays small h = move-push lines more c id w (Answer m) y (stays w.next (omega (arith, answer-next lines c m id w y h))) h

-- What was sent stays lawful: a walk gives what it gave, where each answered request keeps its line.
pub walk-push : (lines more : List TranscriptLine) (c : ℕ) (id : ℤ) (w : Walker) (xs : List Choice) (r : Walker × List Due)
    → Stays lines more c r.0.next → walk lines c id w xs ≡ Some r → walk (lines ++ more) c id w xs ≡ Some r
unfolding walk
walk-push lines more c id w [] r stays h = h
walk-push lines more c id w (x ∷ xs) r stays h = go (move lines c id w x) refl (λ v q g e. walk-push lines more c id v xs q g e) h
  where
    go : (o : Option (Walker × List Due)) → move lines c id w x ≡ o
        → ((v : Walker) (q : Walker × List Due) → Stays lines more c q.0.next → walk lines c id v xs ≡ Some q → walk (lines ++ more) c id v xs ≡ Some q)
        → (elim o [ None ↦ None | Some y ↦ then_due y.1 (walk lines c id y.0 xs) ]) ≡ Some r
        → (elim (move (lines ++ more) c id w x) [ None ↦ None | Some y ↦ then_due y.1 (walk (lines ++ more) c id y.0 xs) ]) ≡ Some r
    go None e later t = absurd (cc)
    go (Some y) e later t =
        let s = then_due-next y.1 (walk lines c id y.0 xs) r t in
        let same : s.0.0.next ≡ r.0.next = ap (λ (v : Walker). v.next) s.2 in
        let small : y.0.next ≤ r.0.next = omega (arith, walk-next lines c id y.0 xs s.0 s.1, same) in
        rw (step-push lines more c id w x y r.0.next stays small e, later y.0 s.0 (subst (Stays lines more c) (sym same) stays) s.1) (rw s.1 at t)

-- a line that carries out none of them
pub stays-line : (lines : List TranscriptLine) (l : TranscriptLine) (c n : ℕ) → ((j : ℕ) → j < n → own_update_shown c j l ≡ None) → Stays lines (l ∷ []) c n
unfolding Stays
stays-line lines l c n none = λ j small. first_place-skip (own_update_shown c j) 0 lines l (none j small)
