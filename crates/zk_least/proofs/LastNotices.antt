-- After the last reply the packets are a front of the queue, which ends with the last notice of an update.
use Rattle.std.proofs.Common.{◌≡◌, ℕ, zero, suc, ◌+◌, ◌≤◌, ◌<◌, List, [], ◌∷◌, ◌++◌, length, take, take_all, refl, sym, ap, ◌∙◌, arith, Bool, true, false, ℤ}
use Rattle.std.specs.Prelude.{Option, Some, None, option_map, not, ◌&&◌, ◌==◌, slice_get, nat_le, nat_lt, int_lt, bytes_eq, if◌then◌else◌}
use Rattle.std.specs.List.{list_all}
use Rattle.std.proofs.lemmas.Bool.{and_from, and_parts}
use Rattle.std.proofs.lemmas.Bool.Decides.{nat_tests}
use Rattle.zk_model.specs.declared.reply.Notice.{Notice}
use Rattle.zk_model.specs.Watches.{Watches, is_unarmed}
use Rattle.zk_jute.specs.Packets.{notice_packet}
use Rattle.zk_transcript.specs.declared.transcript.TranscriptLine.{TranscriptLine}
use Rattle.zk_transcript.specs.declared.transcript.TranscriptLine.TheVariants.{Update, Open, Frame as FrameLine, Send, Lapse, Close}
use Rattle.zk_transcript.specs.Legal.{is_legal}
use Rattle.zk_transcript.specs.Walks.{Walker, Tell, Due, move, due_notices, fired_at, is_above, then_fired, fired_from, fired_above, next_update, above_shown}
use Rattle.zk_least.specs.LeastWalk.{next_reply, rest_after, given, choice_for, least_choice}
use Rattle.zk_least.specs.LeastSteps.{is_least, is_least_after, least_step}
use Rattle.zk_least.specs.LeastQueues.{is_apart, is_front, LastNoticesLaw}
use Rattle.zk_least.proofs.FirstPlaces.{first_place-none}
use Rattle.zk_least.proofs.Answering.{due-notices}
use Rattle.zk_least.proofs.Exchange.{IsAbove, next-above, not-above, told-by, up-to-it}
use Rattle.zk_least.proofs.Ahead.{next-rest_after}
use Rattle.zk_least.proofs.ChoiceCounts.{above, told-less, least-step-law}
use Rattle.zk_least.proofs.Queues.{before-end, unarmed-fires, none-fires, rest_after-first}
use Rattle.zk_least.proofs.RepeatedPlaces.{told_first, tell-unarmed, tell-last, tell-next}

-- ---- notices that are due later than at a place

abbrev are_later : ℕ → List Due → Bool
are_later n ds = list_all (λ (d : Due). nat_lt n d.0) ds

later-both : (n : ℕ) (xs ys : List Due) → are_later n xs ≡ true → are_later n ys ≡ true → are_later n (xs ++ ys) ≡ true
later-both n [] ys a b = b
later-both n (x ∷ xs) ys a b =
    let q = and_parts (nat_lt n x.0) (are_later n xs) a in
    and_from (nat_lt n x.0) (are_later n (xs ++ ys)) q.0 (later-both n xs ys q.1 b)

later-notices : (n k : ℕ) (ns : List Notice) → n < k → are_later n (due_notices k ns) ≡ true
later-notices n k [] lt = refl
later-notices n k (m ∷ ns) lt = and_from (nat_lt n k) (are_later n (due_notices k ns)) (grind (arith, nat_tests)) (later-notices n k ns lt)

then-later : (full : List TranscriptLine) (n k : ℕ) (b : Bool) (x : Watches × List Due) → are_later n x.1 ≡ true → (b ≡ true → n < k + 1) → are_later n (then_fired full k b x).1 ≡ true
then-later full n k true x a lt = later-both n x.1 (fired_at full k x.0).1 a (later-notices n (k + 1) _ (lt refl))
then-later full n k false x a lt = a

from-later : (full : List TranscriptLine) (p : ℤ) (n k : ℕ) (ls : List TranscriptLine) (x : Watches × List Due) → are_later n x.1 ≡ true → ((j : ℕ) (l : TranscriptLine) → slice_get ls j ≡ Some l → is_above p l ≡ true → n < (k + j) + 1) → are_later n (fired_from full p k ls x).1 ≡ true
from-later full p n k [] x a h = a
from-later full p n k (l ∷ ls) x a h =
    from-later full p n (k + 1) ls (then_fired full k (is_above p l) x)
    (then-later full n k (is_above p l) x a (λ b. let lt = h 0 l refl b in omega (arith, lt)))
    (λ j m e b. let lt = h (suc j) m e b in omega (arith, lt))

-- what the updates above a zxid fire is due later than the notices of the update with that zxid
fired-later : (lines : List TranscriptLine) (p : ℤ) (e : ℕ) (y : ℤ) (w : Watches) → is_legal lines ≡ true → IsAbove p lines e y → are_later (e + 1) (fired_above lines y w).1 ≡ true
unfolding fired_above
fired-later lines p e y w legal a = from-later lines y (e + 1) 0 lines (w, []) refl (λ j l at b. by j l at b (nat_le j e) refl)
  where
    by : (j : ℕ) (l : TranscriptLine) → slice_get lines j ≡ Some l → is_above y l ≡ true → (d : Bool) → nat_le j e ≡ d → e + 1 < (0 + j) + 1
    by j l at b true g =
        let low : is_above y l ≡ false = not-above y l (λ u s. up-to-it lines p e j y u a (grind (arith, nat_tests)) (at ∙ ap Some s)) in
        absurd (let bad : false ≡ true = sym low ∙ b in cc)
    by j l at b false g = let lt : e < j = grind (arith, nat_tests) in omega (arith, lt)

later-apart : (n : ℕ) (bytes : List ℕ) (ds : List Due) → are_later n ds ≡ true → is_apart (n, bytes) ds ≡ true
later-apart n bytes [] h = refl
later-apart n bytes (d ∷ ds) h = let lt = (and_parts (nat_lt n d.0) (are_later n ds) h).0 in grind (arith, nat_tests)

-- ---- the front of a queue that begins with an update's notices

abbrev front_of : Option (List Due) → List Due → Bool
front_of None rest = false
front_of (Some qs) rest = is_front qs rest

same-place : (n : ℕ) (b : Bool) → (b && not (n == n)) ≡ false
same-place n true = grind (arith, nat_tests)
same-place n false = refl

one-front : (n : ℕ) (ns : List Notice) (m : Notice) (p : Due) (rest : List Due) → are_later n rest ≡ true → is_front (p ∷ []) ((n, notice_packet m) ∷ (due_notices n ns ++ rest)) ≡ front_of (rest_after ((n, notice_packet m) ∷ due_notices n ns) (p ∷ [])) rest
one-front n [] m p rest later = by (nat_le n p.0 && bytes_eq (notice_packet m) p.1)
  where
    by : (b : Bool) → (b && is_apart (n, notice_packet m) rest) ≡ front_of (if b then Some [] else None) rest
    by true = later-apart n (notice_packet m) rest later
    by false = refl
one-front n (o ∷ ns) m p rest later = same-place n (nat_le n p.0 && bytes_eq (notice_packet m) p.1) ∙ by (nat_le n p.0 && bytes_eq (notice_packet m) p.1)
  where
    by : (b : Bool) → false ≡ front_of (if b then None else None) rest
    by true = refl
    by false = refl

front-rest_after : (n : ℕ) (ns : List Notice) (p : Due) (ps rest : List Due) → are_later n rest ≡ true → is_front (p ∷ ps) (due_notices n ns ++ rest) ≡ front_of (rest_after (due_notices n ns) (p ∷ ps)) rest
front-rest_after n [] p ps rest later = refl
front-rest_after n (m ∷ ns) p [] rest later = one-front n ns m p rest later
front-rest_after n (m ∷ ns) p (q ∷ ps) rest later = by (nat_le n p.0 && bytes_eq (notice_packet m) p.1) (front-rest_after n ns q ps rest later)
  where
    by : (b : Bool) → is_front (q ∷ ps) (due_notices n ns ++ rest) ≡ front_of (rest_after (due_notices n ns) (q ∷ ps)) rest
        → (b && is_front (q ∷ ps) (due_notices n ns ++ rest)) ≡ front_of (if b then rest_after (due_notices n ns) (q ∷ ps) else None) rest
    by true ih = ih
    by false ih = refl

-- ---- the law

hidden-above : (p : ℤ) (l : TranscriptLine) → above_shown p l ≡ None → is_above p l ≡ false
hidden-above p (Update u) h = by (int_lt p u.zxid) h
  where
    by : (b : Bool) → ◌≡◌ {A = Option ℤ} (if b then Some u.zxid else None) None → b ≡ false
    by true t = absurd (cc)
    by false t = refl
hidden-above p (Open a b c d layout) h = refl
hidden-above p (FrameLine a b c d) h = refl
hidden-above p (Send a b) h = refl
hidden-above p (Lapse a b) h = refl
hidden-above p (Close a b) h = refl

all-rest_after : (lines : List TranscriptLine) (p : ℤ) (e : ℕ) (y : ℤ) (w : Watches) → is_legal lines ≡ true → IsAbove p lines e y → (fired_above lines p w).1 ≡ (fired_at lines e w).1 ++ (fired_above lines y (fired_at lines e w).0).1
all-rest_after lines p e y w legal a =
    let whole : take (length lines) lines ≡ lines = take_all (length lines) lines (omega arith) in
    let q = rest_after-first lines (length lines) p e y w legal a (before-end lines e (Update a.update) a.there) in
    ap (λ past. (fired_above past p w).1) (sym whole) ∙ ap (λ (x : Watches × List Due). x.1) q ∙ ap (λ past. (fired_at lines e w).1 ++ (fired_above past y (fired_at lines e w).0).1) whole

tell-step : (lines : List TranscriptLine) (c : ℕ) (id : ℤ) (w : Walker) (ps : List Due) → next_reply ps ≡ None → least_step lines c id w ps ≡ given ps (move lines c id w Tell)
unfolding least_choice
tell-step lines c id w ps none = ap (λ o. elim o [ None ↦ None | Some x ↦ given ps (move lines c id w x) ]) (ap (choice_for lines c id w ps) none)

module _ (lines : List TranscriptLine) (c : ℕ) (id : ℤ) (legal : is_legal lines ≡ true) where
  abbrev Ends : Walker → List Due → Type 0
  Ends w ps = is_least lines c id w ps ≡ is_front ps (fired_above lines w.zxid w.watches).1

  abbrev Later : Walker → Type 0
  Later w = (v : Walker) (qs : List Due) → above v.zxid lines < above w.zxid lines → next_reply qs ≡ None → Ends v qs

  told-more : (w : Walker) (p : Due) (ps : List Due) (e : ℕ) (y : ℤ) → next_reply (p ∷ ps) ≡ None → is_unarmed w.watches ≡ false → next_update w.zxid lines ≡ Some (e, y) → Later w
      → is_least_after lines c id (given (p ∷ ps) (Some (told_first lines w e y, (fired_at lines e w.watches).1))) ≡ is_front (p ∷ ps) (fired_above lines w.zxid w.watches).1
  told-more w p ps e y none armed n later =
      by (rest_after f (p ∷ ps)) refl
      ∙ sym (front-rest_after (e + 1) _ p ps (fired_above lines y (fired_at lines e w.watches).0).1 (fired-later lines w.zxid e y (fired_at lines e w.watches).0 legal a))
      ∙ ap (is_front (p ∷ ps)) (sym (all-rest_after lines w.zxid e y w.watches legal a))
    where
      f : List Due
      f = (fired_at lines e w.watches).1

      v : Walker
      v = told_first lines w e y

      a : IsAbove w.zxid lines e y
      a = next-above w.zxid lines (e, y) n

      less : above v.zxid lines < above w.zxid lines
      less = told-less lines w (v, f) (told-by lines c id w (v, f) (tell-next lines c id w e y armed n))

      by : (o : Option (List Due)) → rest_after f (p ∷ ps) ≡ o → is_least_after lines c id (option_map (λ qs. (v, qs)) o) ≡ front_of o (fired_above lines y (fired_at lines e w.watches).0).1
      by None h = refl
      by (Some qs) h = later v qs less (sym (next-rest_after f (p ∷ ps) qs (due-notices (e + 1) _) h) ∙ none)

  ends : (w : Walker) (ps : List Due) → next_reply ps ≡ None → Later w → Ends w ps
  ends w [] none later = (least-step-law lines c id w).over
  ends w (p ∷ ps) none later =
      (least-step-law lines c id w).more p ps ∙ ap (is_least_after lines c id) (tell-step lines c id w (p ∷ ps) none) ∙ by (is_unarmed w.watches) refl (next_update w.zxid lines) refl
    where
      nothing : move lines c id w Tell ≡ None → fired_above lines w.zxid w.watches ≡ (w.watches, []) → is_least_after lines c id (given (p ∷ ps) (move lines c id w Tell)) ≡ is_front (p ∷ ps) (fired_above lines w.zxid w.watches).1
      nothing m f = ap (λ x. is_least_after lines c id (given (p ∷ ps) x)) m ∙ ap (λ (x : Watches × List Due). is_front (p ∷ ps) x.1) (sym f)

      by : (b : Bool) → is_unarmed w.watches ≡ b → (n : Option (ℕ × ℤ)) → next_update w.zxid lines ≡ n → is_least_after lines c id (given (p ∷ ps) (move lines c id w Tell)) ≡ is_front (p ∷ ps) (fired_above lines w.zxid w.watches).1
      by true h n g = nothing (tell-unarmed lines c id w h) (unarmed-fires lines w.zxid w.watches h)
      by false h None g = nothing (tell-last lines c id w g) (none-fires lines w.zxid w.watches (λ j l at. hidden-above w.zxid l (first_place-none (above_shown w.zxid) 0 lines g j l at)))
      by false h (Some x) g = ap (λ y. is_least_after lines c id (given (p ∷ ps) y)) (tell-next lines c id w x.0 x.1 h g) ∙ told-more w p ps x.0 x.1 none h g later

  pub last-ends : (n : ℕ) (w : Walker) (ps : List Due) → above w.zxid lines ≤ n → next_reply ps ≡ None → Ends w ps
  last-ends zero w ps le none = ends w ps none (λ v qs lt e. absurd (omega (arith, lt, le)))
  last-ends (suc n) w ps le none = ends w ps none (λ v qs lt e. last-ends n v qs (omega (arith, lt, le)) e)

pub last-notices-law : LastNoticesLaw
last-notices-law lines c id w ps legal none = last-ends lines c id legal (above w.zxid lines) w ps (omega arith) none
