-- The puts of revisions: a walk that keeps the first so many, and what the walk tells of a store.
use Rattle.std.proofs.Common.{◌≡◌, ℕ, zero, suc, ◌+◌, ◌≤◌, ◌<◌, ◌^◌, true, cond, ℤ, pos, List, [], ◌∷◌, ◌++◌, length, take, drop, Option, None, refl, sym, ap, ◌∙◌, subst, append_assoc, arith}
use Rattle.std.specs.Option.{option_to_list}
use Rattle.std.specs.List.{list_all}
use Rattle.std.specs.FinMap.{get, empty, get-empty}
use Rattle.std.specs.Ordering.{nat_cmp}
use Rattle.std.specs.Cmp.Lexicographic.{slice_cmp}
use Rattle.std.proofs.Math.ListN.{drop_of_length-le}
use Rattle.std.proofs.lemmas.Bool.{and_parts}
use Rattle.std.proofs.lemmas.List.{length-take}
use Rattle.zx_base.specs.Maps.{Bytes}
use Rattle.zx_base.proofs.MapLaws.{same-refl}
use Rattle.ev_types.specs.declared.answer.Kv.{Kv}
use Rattle.ev_types.specs.Ranges.{Keys}
use Rattle.ev_types.specs.Store.{Store, Change, Puts, Removes, put_over, changed, after_changes, keys_from, store_at}
use Rattle.ev_store.specs.Changes.{key_of, puts_once}
use Rattle.ev_store.specs.Events.{puts_in, puts_from, puts_above}
use Rattle.ev_store.specs.Folds.{kv_after_put, key_after_change, key_after_changes, key_after_revisions, put_after, puts_after_changes, puts_after_revisions}
use Rattle.ev_store.proofs.Folding.{IsBounded, bounded-more, put_count, puts_count, puts_count-once, kv_after_put-is, follows_change, follows_changes, follows_revisions}

-- ---- the first so many

take-take-append : {A : Type 0} (n : ℕ) (xs ys : List A) → take n (take n xs ++ ys) ≡ take n (xs ++ ys)
take-take-append zero xs ys = refl
take-take-append (suc n) [] ys = refl
take-take-append (suc n) (x ∷ xs) ys = ap (λ zs. x ∷ zs) (take-take-append n xs ys)

taken_more : {A : Type 0} (n : ℕ) (kept mid here rest : List A) → mid ≡ take n (kept ++ here) → take n (mid ++ rest) ≡ take n (kept ++ (here ++ rest))
taken_more n kept mid here rest is =
    ap (λ xs. take n (xs ++ rest)) is ∙ take-take-append n (kept ++ here) rest ∙ ap (take n) (append_assoc kept here rest)

pub taken_few : {A : Type 0} (n : ℕ) (xs ys : List A) → ys ≡ take n xs → length ys ≤ n
taken_few n xs ys is = let e : length ys ≡ length (take n xs) = ap length is in omega (arith, length-take n xs)

-- ---- a step of each loop

pub puts_step : (r : ℤ) (n : ℕ) (f g : Bytes → Option Kv) (kept mid total : List Kv) (c : Change) (all rest : List Change) → all ≡ c ∷ rest →
    mid ≡ take n (kept ++ option_to_list (put_after r (f (key_of c)) c)) → ((q : Bytes) → g q ≡ key_after_change r q (f q) c) →
    take n (kept ++ puts_after_changes r f all) ≡ total → take n (mid ++ puts_after_changes r g rest) ≡ total
puts_step r n f g kept mid total c all rest front is writes so_far =
    taken_more n kept mid (option_to_list (put_after r (f (key_of c)) c)) (puts_after_changes r g rest) is
    ∙ ap (λ (h : Bytes → Option Kv). take n (kept ++ (option_to_list (put_after r (f (key_of c)) c) ++ puts_after_changes r h rest))) (λ i q. writes q i)
    ∙ ap (λ cs. take n (kept ++ puts_after_changes r f cs)) (sym front) ∙ so_far

pub puts_step_of_all : (r next : ℕ) (n : ℕ) (f g : Bytes → Option Kv) (kept mid total : List Kv) (cs : List Change) (all rest : List (List Change)) → next ≡ r + 1 → all ≡ cs ∷ rest →
    mid ≡ take n (kept ++ puts_after_changes (pos r) f cs) → ((q : Bytes) → g q ≡ key_after_changes (pos r) q (f q) cs) →
    take n (kept ++ puts_after_revisions r f all) ≡ total → take n (mid ++ puts_after_revisions next g rest) ≡ total
puts_step_of_all r next n f g kept mid total cs all rest later front is writes so_far =
    taken_more n kept mid (puts_after_changes (pos r) f cs) (puts_after_revisions next g rest) is
    ∙ ap (λ m. take n (kept ++ (puts_after_changes (pos r) f cs ++ puts_after_revisions m g rest))) later
    ∙ ap (λ (h : Bytes → Option Kv). take n (kept ++ (puts_after_changes (pos r) f cs ++ puts_after_revisions (r + 1) h rest))) (λ i q. writes q i)
    ∙ ap (λ css. take n (kept ++ puts_after_revisions r f css)) (sym front) ∙ so_far

-- ---- over a store's keys

-- what the walk holds of each key is what the keys have, and a version stays far below its end
puts_in-walked : (r : ℤ) (m : Keys) (f : Bytes → Option Kv) (cs : List Change) (n : Bytes → ℕ) → ((q : Bytes) → f q ≡ get m q) → ((q : Bytes) → IsBounded (n q) (get m q)) →
    ((q : Bytes) → n q + puts_count q cs ≤ 2 ^ 62) → puts_after_changes r f cs ≡ puts_in r m cs
puts_in-walked r m f [] n gets bound room = refl
puts_in-walked r m f (c ∷ cs) n gets bound room =
    let here : (q : Bytes) → n q + put_count q c ≤ 2 ^ 62 = λ q. omega (arith, room q) in
    let next = λ (q : Bytes). follows_change r m c q (n q) (bound q) (here q) in
    let rest : puts_after_changes r (λ q. key_after_change r q (f q) c) cs ≡ puts_in r (changed r m c) cs =
    puts_in-walked r (changed r m c) (λ q. key_after_change r q (f q) c) cs (λ q. n q + put_count q c)
    (λ q. ap (λ o. key_after_change r q o c) (gets q) ∙ sym (next q).0)
    (λ q. subst (IsBounded (n q + put_count q c)) (sym (next q).0) (next q).1)
    (λ q. omega (arith, room q)) in
    first c cs rest (λ q. here q)
  where
    first : (c : Change) (cs : List Change) → puts_after_changes r (λ q. key_after_change r q (f q) c) cs ≡ puts_in r (changed r m c) cs → ((q : Bytes) → n q + put_count q c ≤ 2 ^ 62) →
        puts_after_changes r f (c ∷ cs) ≡ puts_in r m (c ∷ cs)
    first (Puts k v lease) cs rest here =
        let one : put_count k (Puts k v lease) ≡ 1 = ap (λ b. cond b 1 0) (same-refl k) in
        let is : kv_after_put r k v lease (f k) ≡ put_over r k v lease (get m k) = ap (kv_after_put r k v lease) (gets k) ∙ kv_after_put-is r k v lease (get m k) (n k) (bound k) (omega (arith, here k, one)) in
        (λ i. is i ∷ rest i)
    first (Removes k) cs rest here = rest

puts_from-walked : (r : ℕ) (m : Keys) (f : Bytes → Option Kv) (css : List (List Change)) (n : ℕ) → ((q : Bytes) → f q ≡ get m q) → ((q : Bytes) → IsBounded n (get m q)) →
    list_all puts_once css ≡ true → n + length css ≤ 2 ^ 62 → puts_after_revisions r f css ≡ puts_from r m css
puts_from-walked r m f [] n gets bound once room = refl
puts_from-walked r m f (cs ∷ css) n gets bound once room =
    let few : (q : Bytes) → puts_count q cs ≤ 1 = λ q. puts_count-once q cs (and_parts _ _ once).0 in
    let within : (q : Bytes) → n + puts_count q cs ≤ 2 ^ 62 = λ q. omega (arith, few q, room) in
    let next = λ (q : Bytes). follows_changes (pos r) m cs q n (bound q) (within q) in
    let here : puts_after_changes (pos r) f cs ≡ puts_in (pos r) m cs = puts_in-walked (pos r) m f cs (λ q. n) gets bound within in
    let rest : puts_after_revisions (r + 1) (λ q. key_after_changes (pos r) q (f q) cs) css ≡ puts_from (r + 1) (after_changes (pos r) m cs) css =
    puts_from-walked (r + 1) (after_changes (pos r) m cs) (λ q. key_after_changes (pos r) q (f q) cs) css (n + 1)
    (λ q. ap (λ o. key_after_changes (pos r) q o cs) (gets q) ∙ sym (next q).0)
    (λ q. bounded-more (n + puts_count q cs) (n + 1) (get (after_changes (pos r) m cs) q) (omega (arith, few q)) (next q).1)
    (and_parts _ _ once).1 (omega (arith, room)) in
    (λ i. here i ++ rest i)

-- after the revisions before, the walk over later ones
pub puts_from-read : (before later : List (List Change)) (f : Bytes → Option Kv) → list_all puts_once before ≡ true → list_all puts_once later ≡ true → length before + length later < 2 ^ 62 →
    ((q : Bytes) → f q ≡ key_after_revisions 1 q None before) → puts_after_revisions (length before + 1) f later ≡ puts_from (length before + 1) (keys_from 1 empty before) later
puts_from-read before later f once_before once_later short gets =
    let none = λ (q : Bytes). get-empty {X = Kv} (slice_cmp nat_cmp) q in
    let so_far = λ (q : Bytes). follows_revisions 1 empty before q 0 (subst (IsBounded 0) (sym (none q)) tt) once_before (omega (arith, short)) in
    puts_from-walked (length before + 1) (keys_from 1 empty before) f later (length before)
    (λ q. gets q ∙ ap (λ o. key_after_revisions 1 q o before) (sym (none q)) ∙ sym (so_far q).0)
    (λ q. bounded-more (0 + length before) (length before) (get (keys_from 1 empty before) q) (omega arith) (so_far q).1)
    once_later (omega (arith, short))

-- ---- of a store

pub puts_above-read : (s : Store) (r : ℕ) (css : List (List Change)) → css ≡ s.revisions → puts_from (r + 1) (keys_from 1 empty (take r css)) (drop r css) ≡ puts_above s r
unfolding puts_above store_at
puts_above-read s r css all = ap (λ xs. puts_from (r + 1) (keys_from 1 empty (take r xs)) (drop r xs)) all

pub puts_above-none : (s : Store) (r : ℕ) → length s.revisions ≤ r → puts_above s r ≡ []
unfolding puts_above
puts_above-none s r past = ap (puts_from (r + 1) (store_at s r)) (drop_of_length-le s.revisions past)
