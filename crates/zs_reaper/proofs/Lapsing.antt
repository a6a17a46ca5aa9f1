-- Which sessions have lapsed, in words of membership.
use Rattle.std.proofs.Common.{◌≡◌, ℕ, zero, suc, ◌-◌, ℤ, List, [], ◌∷◌, ◌++◌, length, take, drop, append_assoc, refl, sym, ap, ◌∙◌, subst, arith, inl, inr}
use Rattle.std.specs.Prelude.{◌⊎◌, Bool, true, false, not, cond, nat_lt, Option, Some, None, option_map, slice_get, Contains, Any, filter, if◌then◌else◌}
use Rattle.std.specs.List.{cons_option}
use Rattle.std.proofs.lemmas.List.{take-append-drop}
use Rattle.std.specs.Ordering.{int_eq}
use Rattle.std.specs.Cmp.{signed_Decides}
use Rattle.std.proofs.lemmas.List.Elements.{All-contains, All-contains_itself, All-filter, filter_passes}
use Rattle.std.proofs.lemmas.List.Folds.{Any-from_list_any, list_any-from_Any}
use Rattle.ev_types.specs.declared.answer.Kv.{Kv}
use Rattle.zn_layout.specs.Keys.{lease_front, session_front}
use Rattle.zs_reaper.specs.Listing.{AreListed, IsLastOpen, IsOpen, Lives, is_among, lapsed_of, numbers_in, max_listed, next_from, session_in}
use Rattle.zx_base.proofs.Booleans.{false-unless_true, true-not_false}

-- ---- the elements of a list

first : {X : Type 0} → (x : X) (xs : List X) → Contains (x ∷ xs) x
first x xs = (0, omega arith, refl)

contains_later : {X : Type 0} → (x : X) (xs : List X) (y : X) → Contains xs y → Contains (x ∷ xs) y
contains_later x xs y (k, below, is) = (suc k, omega (arith, below), is)

one-of : {X : Type 0} → (x : X) (xs : List X) (y : X) → Contains (x ∷ xs) y → (x ≡ y) ⊎ Contains xs y
one-of x xs y (zero, below, is) = inl is
one-of x xs y (suc k, below, is) = inr (k, omega (arith, below), is)

none-in : {X A : Type 0} → (y : X) → Contains [] y → A
none-in y (k, below, is) = absurd (omega (arith, below))

-- ---- the sessions of keys

abbrev HasKey : List ℕ → List Kv → ℤ → Type 0
HasKey kind kvs n = (kv : Kv) × Contains kvs kv × (session_in kind kv ≡ Some n)

later-key : (kind : List ℕ) (kv : Kv) (kvs : List Kv) (n : ℤ) → HasKey kind kvs n → HasKey kind (kv ∷ kvs) n
later-key kind kv kvs n h = (h.0, contains_later kv kvs h.0 h.1, h.2)

by-place : (kind : List ℕ) (kv : Kv) (kvs : List Kv) (n m : ℤ) → (Contains (numbers_in kind kvs) n → HasKey kind kvs n) → session_in kind kv ≡ Some m → (m ≡ n) ⊎ Contains (numbers_in kind kvs) n → HasKey kind (kv ∷ kvs) n
by-place kind kv kvs n m rest is (inl same) = (kv, first kv kvs, is ∙ ap (λ (k : ℤ). Some k) same)
by-place kind kv kvs n m rest is (inr c) = later-key kind kv kvs n (rest c)

by-key : (kind : List ℕ) (kv : Kv) (kvs : List Kv) (n : ℤ) → (Contains (numbers_in kind kvs) n → HasKey kind kvs n) → (o : Option ℤ) → session_in kind kv ≡ o → Contains (cons_option o (numbers_in kind kvs)) n → HasKey kind (kv ∷ kvs) n
by-key kind kv kvs n rest None is c = later-key kind kv kvs n (rest c)
by-key kind kv kvs n rest (Some m) is c = by-place kind kv kvs n m rest is (one-of m (numbers_in kind kvs) n c)

from-numbers : (kind : List ℕ) (kvs : List Kv) (n : ℤ) → Contains (numbers_in kind kvs) n → HasKey kind kvs n
from-numbers kind [] n c = none-in n c
from-numbers kind (kv ∷ kvs) n c = by-key kind kv kvs n (from-numbers kind kvs n) (session_in kind kv) refl c

skips : (o : Option ℤ) (ns : List ℤ) (n : ℤ) → Contains ns n → Contains (cons_option o ns) n
skips None ns n c = c
skips (Some m) ns n c = contains_later m ns n c

to-place : (kind : List ℕ) (k : Kv) (kvs : List Kv) (n : ℤ) (kv : Kv) → (Contains kvs kv → Contains (numbers_in kind kvs) n) → session_in kind kv ≡ Some n → (k ≡ kv) ⊎ Contains kvs kv → Contains (cons_option (session_in kind k) (numbers_in kind kvs)) n
to-place kind k kvs n kv rest is (inl same) = subst (λ (o : Option ℤ). Contains (cons_option o (numbers_in kind kvs)) n) (sym (ap (session_in kind) same ∙ is)) (first n (numbers_in kind kvs))
to-place kind k kvs n kv rest is (inr d) = skips (session_in kind k) (numbers_in kind kvs) n (rest d)

to-numbers : (kind : List ℕ) (kvs : List Kv) (n : ℤ) (kv : Kv) → Contains kvs kv → session_in kind kv ≡ Some n → Contains (numbers_in kind kvs) n
to-numbers kind [] n kv c is = none-in kv c
to-numbers kind (k ∷ kvs) n kv c is = to-place kind k kvs n kv (λ d. to-numbers kind kvs n kv d is) is (one-of k kvs kv c)

-- ---- what a test keeps

kept-passes : (p : ℤ → Bool) (ns : List ℤ) (n : ℤ) → Contains (filter p ns) n → p n ≡ true
kept-passes p ns n c = All-contains (λ (m : ℤ). p m ≡ true) (filter p ns) n (filter_passes p ns) c

kept-was : (p : ℤ → Bool) (ns : List ℤ) (n : ℤ) → Contains (filter p ns) n → Contains ns n
kept-was p ns n c = All-contains (Contains ns) (filter p ns) n (All-filter p (Contains ns) ns (All-contains_itself ns)) c

keeps : (b : Bool) (m : ℤ) (ns : List ℤ) (n : ℤ) → Contains ns n → Contains (cond b (m ∷ ns) ns) n
keeps true m ns n c = contains_later m ns n c
keeps false m ns n c = c

kept-place : (p : ℤ → Bool) (m : ℤ) (ns : List ℤ) (n : ℤ) → (Contains ns n → Contains (filter p ns) n) → p n ≡ true → (m ≡ n) ⊎ Contains ns n → Contains (cond (p m) (m ∷ filter p ns) (filter p ns)) n
kept-place p m ns n rest passes (inl same) = subst (λ (b : Bool). Contains (cond b (m ∷ filter p ns) (filter p ns)) n) (sym (ap p same ∙ passes)) (subst (λ (x : ℤ). Contains (x ∷ filter p ns) n) (sym same) (first n (filter p ns)))
kept-place p m ns n rest passes (inr d) = keeps (p m) m (filter p ns) n (rest d)

is-kept : (p : ℤ → Bool) (ns : List ℤ) (n : ℤ) → Contains ns n → p n ≡ true → Contains (filter p ns) n
is-kept p [] n c passes = none-in n c
is-kept p (m ∷ ns) n c passes = kept-place p m ns n (λ d. is-kept p ns n d passes) passes (one-of m ns n c)

-- ---- among the living

among-is : (living : List ℤ) (n : ℤ) → is_among living n ≡ true → Contains living n
among-is living n is = found (Any-from_list_any (λ m. int_eq m n) living is)
  where
    found : Any (λ m. int_eq m n ≡ true) living → Contains living n
    found h = let same : h.1 ≡ n = (signed_Decides h.1 n).0 h.4 in subst (λ (x : ℤ). Contains living x) same (h.0, h.2, h.3)

is-among : (living : List ℤ) (n : ℤ) → Contains living n → is_among living n ≡ true
is-among living n c = list_any-from_Any (λ m. int_eq m n) living (c.0, n, c.1, c.2, (signed_Decides n n).1 refl)

no-both : {A : Type 0} → (b : Bool) → not b ≡ true → b ≡ true → A
no-both true denied said = absurd (true-not_false (sym denied))
no-both false denied said = absurd (true-not_false (sym said))

not-from : (b : Bool) → (b ≡ true → ⊥) → not b ≡ true
not-from true denied = absurd (denied refl)
not-from false denied = refl

-- ---- the law

pub lapsed_is_open : (opened alive : List Kv) (n : ℤ) → Contains (lapsed_of opened alive) n → IsOpen opened n
lapsed_is_open opened alive n c = from-numbers session_front opened n (kept-was (λ m. not (is_among (numbers_in lease_front alive) m)) (numbers_in session_front opened) n c)

pub lapsed_lives_not : (opened alive : List Kv) (n : ℤ) → Contains (lapsed_of opened alive) n → Lives alive n → ⊥
lapsed_lives_not opened alive n c lives =
    let living = numbers_in lease_front alive in
    no-both (is_among living n) (kept-passes (λ m. not (is_among living m)) (numbers_in session_front opened) n c) (is-among living n (to-numbers lease_front alive n lives.0 lives.1 lives.2))

pub open_is_lapsed : (opened alive : List Kv) (n : ℤ) → IsOpen opened n → (Lives alive n → ⊥) → Contains (lapsed_of opened alive) n
open_is_lapsed opened alive n there dead =
    let living = numbers_in lease_front alive in
    is-kept (λ m. not (is_among living m)) (numbers_in session_front opened) n (to-numbers session_front opened n there.0 there.1 there.2)
    (not-from (is_among living n) (λ said. dead (from-numbers lease_front alive n (among-is living n said))))

-- ---- lists that are cut short

less-place : (k : ℕ) (x : ℤ) (xs : List ℤ) (n : ℤ) → (Contains (take k xs) n → Contains (take (suc k) xs) n) → (x ≡ n) ⊎ Contains (take k xs) n → Contains (take (suc (suc k)) (x ∷ xs)) n
less-place k x xs n rest (inl same) = subst (λ (y : ℤ). Contains (x ∷ take (suc k) xs) y) same (first x (take (suc k) xs))
less-place k x xs n rest (inr d) = contains_later x (take (suc k) xs) n (rest d)

less-is-there : (k : ℕ) (xs : List ℤ) (n : ℤ) → Contains (take k xs) n → Contains (take (suc k) xs) n
less-is-there zero xs n c = none-in n c
less-is-there (suc k) [] n c = none-in n c
less-is-there (suc k) (x ∷ xs) n c = less-place k x xs n (less-is-there k xs n) (one-of x (take k xs) n c)

by-test : (b : Bool) (k : ℕ) (x : ℤ) (xs : List ℤ) (n : ℤ) → Contains (take k xs) n → Contains (take (suc k) (cond b (x ∷ xs) xs)) n
by-test true k x xs n c = contains_later x (take k xs) n c
by-test false k x xs n c = less-is-there k xs n c

passing-place : (p : ℤ → Bool) (k : ℕ) (x : ℤ) (xs : List ℤ) (n : ℤ) → (Contains (take k xs) n → Contains (take k (filter p xs)) n) → p n ≡ true → (x ≡ n) ⊎ Contains (take k xs) n → Contains (take (suc k) (cond (p x) (x ∷ filter p xs) (filter p xs))) n
passing-place p k x xs n rest passes (inl same) =
    subst (λ (b : Bool). Contains (take (suc k) (cond b (x ∷ filter p xs) (filter p xs))) n) (sym (ap p same ∙ passes)) (subst (λ (y : ℤ). Contains (x ∷ take k (filter p xs)) y) same (first x (take k (filter p xs))))
passing-place p k x xs n rest passes (inr d) = by-test (p x) k x (filter p xs) n (rest d)

-- what passes a test, and is among the first of a list, is among as many first ones of those that pass it
first-pass : (p : ℤ → Bool) (k : ℕ) (xs : List ℤ) (n : ℤ) → Contains (take k xs) n → p n ≡ true → Contains (take k (filter p xs)) n
first-pass p zero xs n c passes = none-in n c
first-pass p (suc k) [] n c passes = none-in n c
first-pass p (suc k) (x ∷ xs) n c passes = passing-place p k x xs n (λ d. first-pass p k xs n d passes) passes (one-of x (take k xs) n c)

pub no_living_is_lapsed : (opened alive : List Kv) (most : ℕ) (all : List ℤ) (lives : ℤ → Bool) (n : ℤ) → AreListed opened alive most all lives → Contains (lapsed_of opened alive) n → lives n ≡ false
no_living_is_lapsed opened alive most all lives n listed c =
    let living = numbers_in lease_front alive in
    let numbers = numbers_in session_front opened in
    let there : Contains (take most all) n = subst (λ (l : List ℤ). Contains l n) listed.first (kept-was (λ m. not (is_among living m)) numbers n c) in
    false-unless_true (lives n) (λ passes. no-both (is_among living n) (kept-passes (λ m. not (is_among living m)) numbers n c) (is-among living n (subst (λ (l : List ℤ). Contains l n) (sym listed.living) (first-pass lives most all n there passes))))

-- ---- where the next list begins

abbrev none-of-keys : Option (List ℕ)
none-of-keys = None

abbrev none-of-kvs : Option Kv
none-of-kvs = None

abbrev some-keys : List ℕ → Option (List ℕ)
some-keys a = Some a

abbrev some-kv : Kv → Option Kv
some-kv a = Some a

same-list : (a b : List ℕ) → some-keys a ≡ some-keys b → a ≡ b
same-list a b e = cc

same-kv : (a b : Kv) → some-kv a ≡ some-kv b → a ≡ b
same-kv a b e = cc

none-some : (from : List ℕ) → none-of-keys ≡ Some from → ⊥
none-some from e = cc

none-last : (last : Kv) → none-of-kvs ≡ Some last → ⊥
none-last last e = cc

from-last : (full : Bool) (o : Option Kv) (last : Kv) (from : List ℕ) → o ≡ Some last → (if full then None else option_map (λ (kv : Kv). drop 5 kv.key ++ 0 ∷ []) o) ≡ Some from → from ≡ drop 5 last.key ++ 0 ∷ []
from-last true o last from is e = absurd (none-some from e)
from-last false None last from is e = absurd (none-last last is)
from-last false (Some kv) last from is e = sym (same-list (drop 5 kv.key ++ 0 ∷ []) from e) ∙ ap (λ (k : Kv). drop 5 k.key ++ 0 ∷ []) (same-kv kv last is)

pub after_the_last : (opened : List Kv) (last : Kv) (from : List ℕ) → IsLastOpen opened last → next_from opened ≡ Some from → session_front ++ from ≡ last.key ++ 0 ∷ []
after_the_last opened last from is next =
    let tail = from-last (nat_lt (length opened) max_listed) (slice_get opened (length opened - 1)) last from is.ends next in
    ap (λ (l : List ℕ). l ++ from) (sym is.kind) ∙ ap (λ (l : List ℕ). take 5 last.key ++ l) tail ∙ sym (append_assoc (take 5 last.key) (drop 5 last.key) (0 ∷ [])) ∙ ap (λ (l : List ℕ). l ++ 0 ∷ []) (take-append-drop 5 last.key)
