-- How many choices there are at most: each tells an update above the walker's zxid, or takes a packet. So the least walk does not
-- depend on its count.
use Rattle.std.proofs.Common.{◌≡◌, ℕ, zero, suc, ◌+◌, ◌≤◌, ◌<◌, List, [], ◌∷◌, ◌++◌, length, take, refl, ap, ◌∙◌, subst, arith, Bool, true, false, ℤ}
use Rattle.std.specs.Prelude.{Option, Some, None, option_map, is_some, ◌&&◌, ◌<ℤ◌, ◌≤ℤ◌, slice_get, int_lt, nat_le, bytes_eq, if◌then◌else◌}
use Rattle.std.proofs.lemmas.Bool.{and_parts}
use Rattle.std.proofs.lemmas.Bool.Decides.{nat_tests}
use Rattle.std.proofs.lemmas.Int.{ints}
use Rattle.zk_jute.specs.Requests.{read_request}
use Rattle.zk_jute.specs.Packets.{reply_packet}
use Rattle.zk_service.specs.declared.update.UpdateRec.{UpdateRec}
use Rattle.zk_transcript.specs.declared.transcript.TranscriptLine.{TranscriptLine}
use Rattle.zk_transcript.specs.declared.transcript.TranscriptLine.TheVariants.{Update, Open, Frame as FrameLine, Send, Lapse, Close}
use Rattle.zk_service.specs.Answers.{xid_of}
use Rattle.zk_transcript.specs.History.{state_at}
use Rattle.zk_transcript.specs.Walks.{Walker, Choice, Tell, Plain, Answer, Due, move, is_above, fired_above, due_notices, after_update, later_of}
use Rattle.zk_least.specs.LeastWalk.{rest_after, given, least_choice, least_from}
use Rattle.zk_least.specs.LeastSteps.{least_step, is_least, is_least_after, LeastStepLaw, PlacesRise}
use Rattle.zk_least.proofs.Sound.{IsGood, given-is}
use Rattle.zk_least.proofs.Answering.{IsMade, made}
use Rattle.zk_least.proofs.Exchange.{IsTold, told-by, next-above}
use Rattle.zk_least.proofs.Ahead.{IsPlainly, plainly-by, good-first}

abbrev pub one_if : Bool → ℕ
one_if true = 1
one_if false = 0

abbrev pub above : ℤ → List TranscriptLine → ℕ
above p [] = 0
above p (l ∷ ls) = one_if (is_above p l) + above p ls

one-falls : (p z : ℤ) (l : TranscriptLine) → p ≤ℤ z → one_if (is_above z l) ≤ one_if (is_above p l)
one-falls p z (Update u) h = by (int_lt z u.zxid) (int_lt p u.zxid) refl refl
  where
    by : (a b : Bool) → int_lt z u.zxid ≡ a → int_lt p u.zxid ≡ b → one_if a ≤ one_if b
    by true true e f = omega arith
    by false b e f = omega arith
    by true false e f = absurd (contra e f)
      where
        contra : int_lt z u.zxid ≡ true → int_lt p u.zxid ≡ false → ⊥
        contra e f =
            let x : z <ℤ u.zxid = grind (arith, nat_tests, ints) in
            let y : u.zxid ≤ℤ p = grind (arith, nat_tests, ints) in
            omega (arith, ints, x, y, h)
one-falls p z (Open a b c d layout) h = omega arith
one-falls p z (FrameLine a b c d) h = omega arith
one-falls p z (Send a b) h = omega arith
one-falls p z (Lapse a b) h = omega arith
one-falls p z (Close a b) h = omega arith

above-falls : (p z : ℤ) (ls : List TranscriptLine) → p ≤ℤ z → above z ls ≤ above p ls
above-falls p z [] h = omega arith
above-falls p z (l ∷ ls) h = omega (arith, one-falls p z l h, above-falls p z ls h)

above-less : (p z : ℤ) (e : ℕ) (ls : List TranscriptLine) (l : TranscriptLine) → p ≤ℤ z → slice_get ls e ≡ Some l → is_above p l ≡ true → is_above z l ≡ false → above z ls < above p ls
above-less p z e [] l h at a b = absurd (cc)
above-less p z zero (x ∷ xs) l h at a b =
    let s : x ≡ l = cc in
    let f : one_if (is_above p x) ≡ 1 = ap (λ y. one_if (is_above p y)) s ∙ ap one_if a in
    let g : one_if (is_above z x) ≡ 0 = ap (λ y. one_if (is_above z y)) s ∙ ap one_if b in
    omega (arith, f, g, above-falls p z xs h)
above-less p z (suc e) (x ∷ xs) l h at a b = omega (arith, one-falls p z x h, above-less p z e xs l h at a b)

one-small : (b : Bool) → one_if b ≤ 1
one-small true = omega arith
one-small false = omega arith

pub above-small : (p : ℤ) (ls : List TranscriptLine) → above p ls ≤ length ls
above-small p [] = omega arith
above-small p (l ∷ ls) = omega (arith, one-small (is_above p l), above-small p ls)

pub told-less : (lines : List TranscriptLine) (w : Walker) (u : Walker × List Due) → IsTold lines w u → above u.0.zxid lines < above w.zxid lines
told-less lines w u t =
    let a = next-above w.zxid lines (t.place, t.zxid) t.next in
    let z : t.zxid ≡ u.0.zxid = ap (λ (p : Walker × List Due). p.0.zxid) t.gives in
    above-less w.zxid u.0.zxid t.place lines (Update a.update) (omega (arith, ints, a.up, z)) a.there (up a.update (omega (arith, ints, a.up, a.same))) (down a.update (omega (arith, ints, a.same, z)))
  where
    up : (v : UpdateRec) → w.zxid <ℤ v.zxid → is_above w.zxid (Update v) ≡ true
    up v h = grind (arith, nat_tests, ints)

    down : (v : UpdateRec) → v.zxid ≤ℤ u.0.zxid → is_above u.0.zxid (Update v) ≡ false
    down v h = grind (arith, nat_tests, ints)

rest_after-length : (ds ps rest : List Due) → rest_after ds ps ≡ Some rest → length ds + length rest ≡ length ps
rest_after-length [] ps rest h = (let e : ps ≡ rest = cc in omega (arith, ap (λ (l : List Due). length l) e))
rest_after-length (d ∷ ds) [] rest h = absurd (cc)
rest_after-length (d ∷ ds) (p ∷ ps) rest h = by (nat_le d.0 p.0 && bytes_eq d.1 p.1) (rest_after-length ds ps rest) h
  where
    by : (b : Bool) → (rest_after ds ps ≡ Some rest → length ds + length rest ≡ length ps) → (if b then rest_after ds ps else None) ≡ Some rest → suc (length ds) + length rest ≡ suc (length ps)
    by true ih t = omega (arith, ih t)
    by false ih t = absurd (cc)

plain-sends : (lines : List TranscriptLine) (c : ℕ) (w : Walker) (y : Walker × List Due) → IsPlainly lines c w y → (1 ≤ length y.1) × (w.zxid ≤ℤ y.0.zxid)
plain-sends lines c w y q = subst (λ (p : Walker × List Due). (1 ≤ length p.1) × (w.zxid ≤ℤ p.0.zxid)) q.gives (omega arith, omega (arith, ints))

ends-with : (xs : List Due) (d : Due) → 1 ≤ length (xs ++ d ∷ [])
ends-with [] d = omega arith
ends-with (x ∷ xs) d = omega arith

answer-sends : (lines : List TranscriptLine) (c : ℕ) (id : ℤ) (w : Walker) (m : ℕ) (y : Walker × List Due) → IsMade lines c id w m y → (1 ≤ length y.1) × (w.zxid ≤ℤ y.0.zxid)
answer-sends lines c id w m y mk =
    let z = (state_at lines m).zxid in
    let q = (and_parts (nat_le w.moment (length (take m lines))) _ mk.may_answer).1 in
    let up : w.zxid ≤ℤ z = grind (arith, nat_tests, ints) in
    subst (λ (p : Walker × List Due). (1 ≤ length p.1) × (w.zxid ≤ℤ p.0.zxid)) mk.gives (ends-with ((fired_above (take m lines) w.zxid w.watches).1 ++ due_notices (later_of (after_update z (take m lines)) (mk.place + 1)) mk.what.1.notices) (later_of (length (take m lines)) (mk.place + 1), reply_packet (xid_of (read_request mk.bytes)) z mk.what.1.reply), up)

-- what a choice takes of the updates above the walker's zxid and of the packets
choice-less : (lines : List TranscriptLine) (c : ℕ) (id : ℤ) (w : Walker) (x : Choice) (u : Walker × List Due) → move lines c id w x ≡ Some u → above u.0.zxid lines < above w.zxid lines + length u.1
choice-less lines c id w Tell u h = omega (arith, told-less lines w u (told-by lines c id w u h))
choice-less lines c id w Plain u h = let s = plain-sends lines c w u (plainly-by lines c id w u h) in omega (arith, s.0, above-falls w.zxid u.0.zxid lines s.1)
choice-less lines c id w (Answer m) u h = let s = answer-sends lines c id w m u (made lines c id w m u h) in omega (arith, s.0, above-falls w.zxid u.0.zxid lines s.1)

pub few : (lines : List TranscriptLine) (c : ℕ) (id : ℤ) (w : Walker) (ps : List Due) (xs : List Choice) → IsGood lines c id w ps xs → length xs ≤ above w.zxid lines + length ps
few lines c id w ps [] g = omega arith
few lines c id w ps (x ∷ xs) g =
    let f = good-first lines c id w ps x xs g in
    omega (arith, choice-less lines c id w x f.made f.moved, rest_after-length f.made.1 ps f.rest f.there, few lines c id f.made.0 f.rest xs f.good)

-- ---- the count of the least walk

given-less : (lines : List TranscriptLine) (c : ℕ) (id : ℤ) (w : Walker) (ps : List Due) (x : Choice) (y : Walker × List Due) → given ps (move lines c id w x) ≡ Some y → above y.0.zxid lines + length y.1 < above w.zxid lines + length ps
given-less lines c id w ps x y g =
    let u = given-is ps (move lines c id w x) y g in
    omega (arith, choice-less lines c id w x u.0 u.1, rest_after-length u.0.1 ps y.1 u.3, ap (λ (v : Walker). above v.zxid lines) u.2)

-- any two counts that are great enough give the same
enough : (n m : ℕ) (lines : List TranscriptLine) (c : ℕ) (id : ℤ) (w : Walker) (ps : List Due) → above w.zxid lines + length ps ≤ n → above w.zxid lines + length ps ≤ m → least_from n lines c id w ps ≡ least_from m lines c id w ps
unfolding least_from
enough zero zero lines c id w ps a b = refl
enough zero (suc m) lines c id w [] a b = refl
enough (suc n) zero lines c id w [] a b = refl
enough zero (suc m) lines c id w (p ∷ ps) a b = absurd (omega (arith, a))
enough (suc n) zero lines c id w (p ∷ ps) a b = absurd (omega (arith, b))
enough (suc n) (suc m) lines c id w [] a b = refl
enough (suc n) (suc m) lines c id w (p ∷ ps) a b = by (least_choice lines c id w (p ∷ ps)) (λ y d e. enough n m lines c id y.0 y.1 d e)
  where
    Later : Type 0
    Later = (y : Walker × List Due) → above y.0.zxid lines + length y.1 ≤ n → above y.0.zxid lines + length y.1 ≤ m → least_from n lines c id y.0 y.1 ≡ least_from m lines c id y.0 y.1

    on : Later → (x : Choice) (o : Option (Walker × List Due)) → given (p ∷ ps) (move lines c id w x) ≡ o
        → ◌≡◌ {A = Option (List Choice)} (elim o [ None ↦ None | Some y ↦ option_map (λ xs. x ∷ xs) (least_from n lines c id y.0 y.1) ]) (elim o [ None ↦ None | Some y ↦ option_map (λ xs. x ∷ xs) (least_from m lines c id y.0 y.1) ])
    on later x None g = refl
    on later x (Some y) g =
        let less = given-less lines c id w (p ∷ ps) x y g in
        ap (option_map (λ xs. x ∷ xs)) (later y (omega (arith, less, a)) (omega (arith, less, b)))

    by : (o : Option Choice) → Later
        → ◌≡◌ {A = Option (List Choice)} (elim o [ None ↦ None | Some x ↦ elim (given (p ∷ ps) (move lines c id w x)) [ None ↦ None | Some y ↦ option_map (λ xs. x ∷ xs) (least_from n lines c id y.0 y.1) ] ])
        (elim o [ None ↦ None | Some x ↦ elim (given (p ∷ ps) (move lines c id w x)) [ None ↦ None | Some y ↦ option_map (λ xs. x ∷ xs) (least_from m lines c id y.0 y.1) ] ])
    by None later = refl
    by (Some x) later = on later x (given (p ∷ ps) (move lines c id w x)) refl

some-then : (x : Choice) (o : Option (List Choice)) → is_some (option_map (λ xs. x ∷ xs) o) ≡ is_some o
some-then x None = refl
some-then x (Some xs) = refl

over : (lines : List TranscriptLine) (c : ℕ) (id : ℤ) (w : Walker) → is_least lines c id w [] ≡ true
unfolding least_from
over lines c id w = refl

one-more : (n : ℕ) (lines : List TranscriptLine) (c : ℕ) (id : ℤ) (w : Walker) (p : Due) (ps : List Due) → above w.zxid lines + length (p ∷ ps) ≤ suc n → is_some (least_from (suc n) lines c id w (p ∷ ps)) ≡ is_least_after lines c id (least_step lines c id w (p ∷ ps))
unfolding least_from
one-more n lines c id w p ps a = by (least_choice lines c id w (p ∷ ps))
  where
    on : (x : Choice) (o : Option (Walker × List Due)) → given (p ∷ ps) (move lines c id w x) ≡ o
        → is_some (elim o [ None ↦ None | Some y ↦ option_map (λ xs. x ∷ xs) (least_from n lines c id y.0 y.1) ]) ≡ is_least_after lines c id o
    on x None g = refl
    on x (Some y) g =
        let less = given-less lines c id w (p ∷ ps) x y g in
        some-then x (least_from n lines c id y.0 y.1)
        ∙ ap is_some (enough n (length lines + length y.1) lines c id y.0 y.1 (omega (arith, less, a)) (omega (arith, above-small y.0.zxid lines)))

    by : (o : Option Choice)
        → is_some (elim o [ None ↦ None | Some x ↦ elim (given (p ∷ ps) (move lines c id w x)) [ None ↦ None | Some y ↦ option_map (λ xs. x ∷ xs) (least_from n lines c id y.0 y.1) ] ])
        ≡ is_least_after lines c id (elim o [ None ↦ None | Some x ↦ given (p ∷ ps) (move lines c id w x) ])
    by None = refl
    by (Some x) = on x (given (p ∷ ps) (move lines c id w x)) refl

pub least-step-law : LeastStepLaw
least-step-law lines c id w = record { over = over lines c id w; more = λ p ps. more p ps }
  where
    more : (p : Due) (ps : List Due) → is_least lines c id w (p ∷ ps) ≡ is_least_after lines c id (least_step lines c id w (p ∷ ps))
    more p ps =
        let e : length lines + length (p ∷ ps) ≡ suc (length lines + length ps) = omega arith in
        ap (λ n. is_some (least_from n lines c id w (p ∷ ps))) e ∙ one-more (length lines + length ps) lines c id w p ps (omega (arith, above-small w.zxid lines))

pub places-rise : PlacesRise
places-rise lines c id w Tell y h =
    let t = told-by lines c id w y h in
    let a = next-above w.zxid lines (t.place, t.zxid) t.next in
    omega (arith, ints, a.up, ap (λ (p : Walker × List Due). p.0.zxid) t.gives)
places-rise lines c id w Plain y h = (plain-sends lines c w y (plainly-by lines c id w y h)).1
places-rise lines c id w (Answer m) y h = (answer-sends lines c id w m y (made lines c id w m y h)).1
