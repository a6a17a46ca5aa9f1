-- A range of the index: the keys that it reads are those of the range.
use Rattle.std.proofs.Common.{rules, ◌≡◌, ℕ, get_or, Bool, true, false, not, ◌&&◌, ◌||◌, cond, List, [], ◌∷◌, Option, Some, None, refl, sym, ap, ◌∙◌, subst}
use Rattle.std.specs.Prelude.{IsTrue}
use Rattle.std.specs.Option.{unwrap_or, option_or}
use Rattle.std.specs.List.{All, AllByRecursion, filter}
use Rattle.std.specs.List.Sorted.{IsStrictlySortedBy}
use Rattle.std.specs.Map.{lookup, keys_of}
use Rattle.std.specs.BTreeMap.{BTreeMap, is_at}
use Rattle.std.specs.BTreeMap.Range.{range_contains, entries_between, IsEntryInRange}
use Rattle.std.specs.BTreeMap.Comparable.{le_lt_trans}
use Rattle.std.specs.declared.cmp.Ordering.{Ordering}
use Rattle.std.specs.declared.cmp.Ordering.TheVariants.{Less, Equal, Greater}
use Rattle.std.specs.declared.ops.Bound.{Bound}
use Rattle.std.specs.declared.ops.Bound.TheVariants.{Included, Excluded, Unbounded}
use Rattle.std.specs.Ordering.{nat_cmp, is_lt, is_le, is_eq, ordering_reverse}
use Rattle.std.specs.Cmp.Lexicographic.{slice_cmp, nat_list_cmp_total}
use Rattle.std.proofs.lemmas.Map.Entries.{lookup-filter-keys}
use Rattle.zx_base.specs.Maps.{Bytes, same}
use Rattle.zx_base.proofs.MapLaws.{same-true}
use Rattle.ev_types.proofs.Names.{names-tie}
use Rattle.ev_types.specs.declared.answer.Kv.{Kv}
use Rattle.ev_types.specs.Ranges.{is_within, is_below, comes_before}
use Rattle.ev_store.specs.declared.versions.Version.{Version}
use Rattle.ev_store.specs.Versions.{state_at, versions_of, all_taken, AreInOrder}
use Rattle.zx_base.proofs.Orders.{less-from_is_lt}
use Rattle.zx_base.proofs.Numbers.{same-symm}

-- ---- the keys of a sorted list, each with what it has

later-apart : (q k : Bytes) → slice_cmp nat_cmp q k ≡ Less → same k q ≡ false
later-apart q k less = same-symm k q ∙ sym (names-tie q k) ∙ ap is_eq less

absent : (r : ℕ) (q : Bytes) (o : Option Kv) (es : List (Bytes × List Version)) → AllByRecursion (λ y. slice_cmp nat_cmp q y ≡ Less) (keys_of es) → all_taken r q o es ≡ o
absent r q o [] h = refl
absent r q o (e ∷ es) h =
    ap (λ b. all_taken r q (cond b (option_or (state_at e.0 r e.1) o) o) es) (later-apart q e.0 h.0) ∙ absent r q o es h.1

or-none : {A : Type 0} (o : Option A) → option_or o None ≡ o
or-none None = refl
or-none (Some x) = refl

pub taken-is : (r : ℕ) (q : Bytes) (es : List (Bytes × List Version)) → IsStrictlySortedBy (slice_cmp nat_cmp) (keys_of es) →
    all_taken r q None es ≡ state_at q r (unwrap_or (lookup (is_at (slice_cmp nat_cmp q)) es) [])
unfolding IsStrictlySortedBy
taken-is r q [] h = refl
taken-is r q (e ∷ es) h = go (same e.0 q) refl (taken-is r q es h.1)
  where
    found : (b : Bool) → same e.0 q ≡ b → lookup (is_at (slice_cmp nat_cmp q)) (e ∷ es) ≡ cond b (Some e.1) (lookup (is_at (slice_cmp nat_cmp q)) es)
    found b is = ap (λ t. cond t (Some e.1) (lookup (is_at (slice_cmp nat_cmp q)) es)) (names-tie q e.0 ∙ same-symm q e.0 ∙ is)

    go : (b : Bool) → same e.0 q ≡ b → all_taken r q None es ≡ state_at q r (unwrap_or (lookup (is_at (slice_cmp nat_cmp q)) es) []) →
        all_taken r q None (e ∷ es) ≡ state_at q r (unwrap_or (lookup (is_at (slice_cmp nat_cmp q)) (e ∷ es)) [])
    go true is rest =
        let eq : e.0 ≡ q = same-true e.0 q is in
        ap (λ b. all_taken r q (cond b (option_or (state_at e.0 r e.1) None) None) es) is
        ∙ absent r q (option_or (state_at e.0 r e.1) None) es (subst (λ (x : Bytes). AllByRecursion (λ y. slice_cmp nat_cmp x y ≡ Less) (keys_of es)) eq h.0)
        ∙ or-none (state_at e.0 r e.1)
        ∙ ap (λ (x : Bytes). state_at x r e.1) eq
        ∙ ap (λ o. state_at q r (unwrap_or o [])) (sym (found true is))
    go false is rest =
        ap (λ b. all_taken r q (cond b (option_or (state_at e.0 r e.1) None) None) es) is
        ∙ rest
        ∙ ap (λ o. state_at q r (unwrap_or o [])) (sym (found false is))

-- ---- the part of the index between two bounds

only : (r : ℕ) (q : Bytes) (b : Bool) (o : Option (List Version)) → state_at q r (unwrap_or (cond b o None) []) ≡ cond b (state_at q r (unwrap_or o [])) None
only r q true o = refl
only r q false o = refl

below-filter : {X : Type 0} (p : Bytes → Bool) (k : Bytes) (es : List (Bytes × X)) → AllByRecursion (λ y. slice_cmp nat_cmp k y ≡ Less) (keys_of es) →
    AllByRecursion (λ y. slice_cmp nat_cmp k y ≡ Less) (keys_of (filter (λ e. p e.0) es))
below-filter p k [] h = tt
below-filter p k (e ∷ es) h = elim (p e.0) as (λ b. AllByRecursion (λ y. slice_cmp nat_cmp k y ≡ Less) (keys_of (cond b (e ∷ filter (λ x. p x.0) es) (filter (λ x. p x.0) es)))) [
  | true ↦ (h.0, below-filter p k es h.1)
  | false ↦ below-filter p k es h.1
]

ordered-filter : {X : Type 0} (p : Bytes → Bool) (es : List (Bytes × X)) → IsStrictlySortedBy (slice_cmp nat_cmp) (keys_of es) → IsStrictlySortedBy (slice_cmp nat_cmp) (keys_of (filter (λ e. p e.0) es))
unfolding IsStrictlySortedBy
ordered-filter p [] h = tt
ordered-filter p (e ∷ es) h = elim (p e.0) as (λ b. IsStrictlySortedBy (slice_cmp nat_cmp) (keys_of (cond b (e ∷ filter (λ x. p x.0) es) (filter (λ x. p x.0) es)))) [
  | true ↦ (below-filter p e.0 es h.0, ordered-filter p es h.1)
  | false ↦ ordered-filter p es h.1
]

pub between-is : (r : ℕ) (q : Bytes) (lo hi : Bound Bytes) (m : BTreeMap Bytes (List Version)) (es : List (Bytes × List Version)) → es ≡ entries_between (slice_cmp nat_cmp) lo hi m.entries →
    IsStrictlySortedBy (slice_cmp nat_cmp) (keys_of m.entries) → all_taken r q None es ≡ cond (range_contains (slice_cmp nat_cmp) lo hi q) (state_at q r (versions_of m q)) None
between-is r q lo hi m es is sorted =
    let named : (k : Bytes) → is_at (slice_cmp nat_cmp q) k ≡ true → range_contains (slice_cmp nat_cmp) lo hi k ≡ range_contains (slice_cmp nat_cmp) lo hi q =
    λ k e. ap (range_contains (slice_cmp nat_cmp) lo hi) (sym (same-true q k (sym (names-tie q k) ∙ e))) in
    taken-is r q es (subst (λ (xs : List (Bytes × List Version)). IsStrictlySortedBy (slice_cmp nat_cmp) (keys_of xs)) (sym is) (ordered-filter (range_contains (slice_cmp nat_cmp) lo hi) m.entries sorted))
    ∙ ap (λ xs. state_at q r (unwrap_or (lookup (is_at (slice_cmp nat_cmp q)) xs) [])) is
    ∙ ap (λ o. state_at q r (unwrap_or o [])) (lookup-filter-keys (is_at (slice_cmp nat_cmp q)) (range_contains (slice_cmp nat_cmp) lo hi) (range_contains (slice_cmp nat_cmp) lo hi q) named m.entries)
    ∙ only r q (range_contains (slice_cmp nat_cmp) lo hi q) (lookup (is_at (slice_cmp nat_cmp q)) m.entries)

-- the versions of each of them are in order
pub in_order-within : (lo hi : Bound Bytes) (m : BTreeMap Bytes (List Version)) (es : List (Bytes × List Version)) → All (IsEntryInRange (slice_cmp nat_cmp) lo hi m) es →
    ((q : Bytes) → AreInOrder (versions_of m q)) → All (λ (e : Bytes × List Version). AreInOrder e.1) es
in_order-within lo hi m es h ordered = λ k d within. subst AreInOrder (ap (λ o. unwrap_or o []) (h k d within).1) (ordered (get_or es k d).0)

-- ---- the bounds of a range

from_reverse : (o p : Ordering) → o ≡ ordering_reverse p → is_le o ≡ not (is_lt p)
from_reverse Less Greater h = refl
from_reverse Equal Equal h = refl
from_reverse Greater Less h = refl
from_reverse Less Less h = cc
from_reverse Less Equal h = cc
from_reverse Equal Less h = cc
from_reverse Equal Greater h = cc
from_reverse Greater Equal h = cc
from_reverse Greater Greater h = cc

not-before : (a b : Bytes) → is_le (slice_cmp nat_cmp a b) ≡ not (comes_before b a)
not-before a b = from_reverse _ _ (nat_list_cmp_total.antisymm a b)

twice-not : (b : Bool) → not (not b) ≡ b
twice-not true = refl
twice-not false = refl

pub within-one : (from end q : Bytes) → same end [] ≡ true → is_within from end q ≡ same from q
unfolding is_within
within-one from end q e = ap (λ b. cond b (same q from) (not (comes_before q from) && is_below end q)) e ∙ same-symm q from

within-two : (from end q : Bytes) → same end [] ≡ false → is_within from end q ≡ (not (comes_before q from) && is_below end q)
unfolding is_within
within-two from end q e = ap (λ b. cond b (same q from) (not (comes_before q from) && is_below end q)) e

pub within-open : (from end q : Bytes) → same end [] ≡ false → same end (0 ∷ []) ≡ true → range_contains (slice_cmp nat_cmp) (Included from) Unbounded q ≡ is_within from end q
within-open from end q e f =
    ap (λ b. b && true) (not-before from q)
    ∙ ap (λ b. not (comes_before q from) && (b || comes_before q end)) (sym f)
    ∙ sym (within-two from end q e)

pub within-closed : (from end q : Bytes) → same end [] ≡ false → same end (0 ∷ []) ≡ false → range_contains (slice_cmp nat_cmp) (Included from) (Excluded end) q ≡ is_within from end q
within-closed from end q e f =
    (λ i. not-before from q i && not (not-before end q i))
    ∙ ap (λ b. not (comes_before q from) && b) (twice-not (comes_before q end))
    ∙ ap (λ b. not (comes_before q from) && (b || comes_before q end)) (sym f)
    ∙ sym (within-two from end q e)

truly : (b : Bool) → b ≡ true → IsTrue b
truly true h = search rules
truly false h = cc

-- a range whose end isn't after its first key has no key
pub within-none : (from end q : Bytes) → same end [] ≡ false → same end (0 ∷ []) ≡ false → is_lt (slice_cmp nat_cmp from end) ≡ false → is_within from end q ≡ false
within-none from end q e f empty =
    within-two from end q e ∙ ap (λ b. not (comes_before q from) && (b || comes_before q end)) f ∙ go (comes_before q from) (comes_before q end) refl refl
  where
    go : (a b : Bool) → comes_before q from ≡ a → comes_before q end ≡ b → (not a && b) ≡ false
    go true b x y = refl
    go false false x y = refl
    go false true x y =
        let le : is_le (slice_cmp nat_cmp from q) ≡ true = not-before from q ∙ ap not x in
        let lt : slice_cmp nat_cmp from end ≡ Less = le_lt_trans nat_list_cmp_total from q end (truly _ le) (less-from_is_lt _ y) in
        sym (ap is_lt lt) ∙ empty

-- ---- one key

pub one-none : (k q : Bytes) (f : Bytes → Option Kv) → f k ≡ None → None ≡ cond (same k q) (f q) None
one-none k q f h = go (same k q) refl
  where
    go : (b : Bool) → same k q ≡ b → None ≡ cond b (f q) None
    go true e = sym h ∙ ap f (same-true k q e)
    go false e = refl

pub one-some : (k q : Bytes) (f : Bytes → Option Kv) (x : Kv) → f k ≡ Some x → cond (is_at (slice_cmp nat_cmp k) q) (Some x) None ≡ cond (same k q) (f q) None
one-some k q f x h = ap (λ b. cond b (Some x) None) (names-tie k q) ∙ go (same k q) refl
  where
    go : (b : Bool) → same k q ≡ b → cond b (Some x) None ≡ cond b (f q) None
    go true e = sym h ∙ ap f (same-true k q e)
    go false e = refl
