-- What is queued grows line by line, and what is above an update's zxid comes after what the update fires.
use Rattle.std.proofs.Common.{◌≡◌, ℕ, zero, suc, ◌+◌, ◌<◌, List, [], ◌∷◌, ◌++◌, length, take, length-take-le, refl, sym, ap, ◌∙◌, arith, Bool, true, false, ℤ}
use Rattle.std.specs.Prelude.{Some, ◌==◌, slice_get}
use Rattle.std.specs.FinMap.{empty, len, empty_of_len}
use Rattle.std.proofs.lemmas.Bool.{and_parts}
use Rattle.std.proofs.lemmas.Bool.Decides.{nat_tests}
use Rattle.std.proofs.lemmas.Int.{ints}
use Rattle.zk_model.specs.Watches.{PathSet, Watches, no_watches, is_unarmed}
use Rattle.zk_transcript.specs.declared.transcript.TranscriptLine.{TranscriptLine}
use Rattle.zk_transcript.specs.declared.transcript.TranscriptLine.TheVariants.{Update}
use Rattle.zk_transcript.specs.Legal.{is_legal}
use Rattle.zk_transcript.specs.Walks.{Due, fired_at, is_above, then_fired, fired_from, fired_above}
use Rattle.zk_transcript.proofs.Unarmed.{fired_above-none}
use Rattle.zk_least.specs.LeastQueues.{QueueLaw}
use Rattle.zk_least.proofs.Rising.{take-one}
use Rattle.zk_least.proofs.SameZxid.{get-take}
use Rattle.zk_least.proofs.Firing.{NoneAbove, from-none, from-append, from-longer, first-fires, fired-within}
use Rattle.zk_least.proofs.Exchange.{IsAbove, first-above, not-above, yes-above}

-- ---- line by line

pub before-end : {A : Type 0} (xs : List A) (k : ℕ) (x : A) → slice_get xs k ≡ Some x → k < length xs
before-end [] k x h = absurd (cc)
before-end (y ∷ xs) zero x h = omega arith
before-end (y ∷ xs) (suc k) x h = omega (arith, before-end xs k x h)

then-as : (xs ys : List TranscriptLine) (k : ℕ) (b : Bool) (x : Watches × List Due) → fired_at xs k x.0 ≡ fired_at ys k x.0 → then_fired xs k b x ≡ then_fired ys k b x
then-as xs ys k true x h = ap (λ (f : Watches × List Due). (f.0, x.1 ++ f.1)) h
then-as xs ys k false x h = refl

fired-push : (xs : List TranscriptLine) (l : TranscriptLine) (p : ℤ) (w : Watches) → fired_above (xs ++ l ∷ []) p w ≡ then_fired (xs ++ l ∷ []) (length xs) (is_above p l) (fired_above xs p w)
unfolding fired_above
fired-push xs l p w =
    let full = xs ++ l ∷ [] in
    let n : 0 + length xs ≡ length xs = omega arith in
    from-append full p 0 xs (l ∷ []) (w, [])
    ∙ ap (λ k. then_fired full k (is_above p l) (fired_from full p 0 xs (w, []))) n
    ∙ ap (then_fired full (length xs) (is_above p l)) (from-longer xs (l ∷ []) p 0 xs (w, []) (omega arith))

pub queue-law : QueueLaw
queue-law lines p w k l at =
    let x = fired_above (take k lines) p w in
    let lt = before-end lines k l at in
    let n : length (take k lines) ≡ k = length-take-le k lines (omega (arith, lt)) in
    ap (λ past. fired_above past p w) (take-one lines k l at)
    ∙ fired-push (take k lines) l p w
    ∙ ap (λ past. then_fired past (length (take k lines)) (is_above p l) x) (sym (take-one lines k l at))
    ∙ ap (λ i. then_fired (take (k + 1) lines) i (is_above p l) x) n
    ∙ then-as (take (k + 1) lines) lines k (is_above p l) x (fired-within lines (k + 1) k x.0 (omega arith))

-- ---- nothing is armed, or nothing is above

unarmed-is : (w : Watches) → is_unarmed w ≡ true → w ≡ no_watches
unarmed-is w h =
    let q = and_parts (len w.on_data == 0) (len w.on_children == 0) h in
    both w.on_data w.on_children (empty_of_len w.on_data (zero-len (len w.on_data) q.0)) (empty_of_len w.on_children (zero-len (len w.on_children) q.1))
  where
    zero-len : (n : ℕ) → (n == 0) ≡ true → n ≡ 0
    zero-len n h = grind (arith, nat_tests)

    both : (a b : PathSet) → a ≡ empty → b ≡ empty → ◌≡◌ {A = Watches} (record { on_data = a; on_children = b }) no_watches
    both a b p q = ap (λ x. record { on_data = x; on_children = b }) p ∙ ap (λ y. record { on_data = empty; on_children = y }) q

pub unarmed-fires : (past : List TranscriptLine) (p : ℤ) (w : Watches) → is_unarmed w ≡ true → fired_above past p w ≡ (w, [])
unarmed-fires past p w h =
    let e = unarmed-is w h in
    ap (fired_above past p) e ∙ fired_above-none past p ∙ ap (λ v. (v, [])) (sym e)

pub none-fires : (past : List TranscriptLine) (p : ℤ) (w : Watches) → NoneAbove p past → fired_above past p w ≡ (w, [])
unfolding fired_above
none-fires past p w h = from-none past p 0 past (w, []) h

-- nothing is queued before the first update above
pub before-first : (lines : List TranscriptLine) (p : ℤ) (e : ℕ) (z : ℤ) (w : Watches) → IsAbove p lines e z → fired_above (take e lines) p w ≡ (w, [])
before-first lines p e z w a = none-fires (take e lines) p w (λ j l h. let q = get-take e j lines l h in not-above p l (λ u s. a.before j u q.0 (q.1 ∙ ap Some s)))

-- before a moment after the first update above, its notices come first, and then the rest
pub rest_after-first : (lines : List TranscriptLine) (m : ℕ) (p : ℤ) (e : ℕ) (z : ℤ) (w : Watches) → is_legal lines ≡ true → IsAbove p lines e z → e < m
    → fired_above (take m lines) p w ≡ ((fired_above (take m lines) z (fired_at lines e w).0).0, (fired_at lines e w).1 ++ (fired_above (take m lines) z (fired_at lines e w).0).1)
rest_after-first lines m p e z w legal a lt =
    let past = take m lines in
    first-fires past p z e w (first-above lines m p e z legal a lt)
    ∙ ap (λ (h : Watches × List Due). ((fired_above past z h.0).0, h.1 ++ (fired_above past z h.0).1)) (fired-within lines m e w lt)

-- right after the first update above, its notices are all
pub at-first : (lines : List TranscriptLine) (p : ℤ) (e : ℕ) (z : ℤ) (w : Watches) → IsAbove p lines e z → fired_above (take (e + 1) lines) p w ≡ fired_at lines e w
at-first lines p e z w a =
    queue-law lines p w e (Update a.update) a.there
    ∙ ap (λ b. then_fired lines e b (fired_above (take e lines) p w)) (yes-above p a.update (let s = a.same in let up = a.up in omega (arith, ints, s, up)))
    ∙ ap (then_fired lines e true) (before-first lines p e z w a)
