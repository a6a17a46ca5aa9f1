-- A range shows what is kept under its keys, since in a store each key names itself.
use Rattle.std.proofs.Common.{◌≡◌, ℤ, Bool, true, false, cond, List, [], ◌∷◌, map, drop, Option, Some, None, refl, sym, ap, ◌∙◌}
use Rattle.std.specs.Prelude.{T, All, filter, if◌then◌else◌}
use Rattle.std.specs.Ordering.{nat_cmp, is_lt, is_eq}
use Rattle.std.specs.declared.cmp.Ordering.{Ordering}
use Rattle.std.specs.declared.cmp.Ordering.TheVariants.{Less, Equal, Greater}
use Rattle.std.specs.Cmp.Lexicographic.{slice_cmp, nat_list_cmp_total}
use Rattle.std.specs.FinMap.{get, entries, retain_keys, get-entries, entries_sorted}
use Rattle.std.specs.FinMap.Entries.{below_all, is_sorted, find}
use Rattle.std.proofs.lemmas.Cmp.{tied_itself}
use Rattle.std.proofs.lemmas.List.Elements.{All-nil, All-cons, All-head, All-tail}
use Rattle.ev_types.specs.declared.answer.Kv.{Kv}
use Rattle.ev_types.specs.Ranges.{Keys, found, in_range, is_within, shown}
use Rattle.ev_types.specs.Reads.{key_range, one_found}
use Rattle.ev_types.proofs.Found.{found-key}
use Rattle.ev_types.proofs.Keyed.{AreKeyed}
use Rattle.ev_types.proofs.Names.{names-tie}
use Rattle.zx_base.specs.Maps.{Bytes, same}
use Rattle.zx_base.proofs.MapLaws.{same-refl, same-true, get-retain}
use Rattle.zx_base.proofs.Options.{none_some}
use Rattle.zn_view.specs.declared.want.Want.TheVariants as want
use Rattle.zn_view.specs.Asks.{children_start, children_until, is_child_of, kept_under, path_in, paths_in, range_of}
use Rattle.zn_view.specs.Views.{children_kept}
use Rattle.zx_base.proofs.Booleans.{T-first, T-second}

-- ---- one key

kept-one : (k : Bytes) (o : Option Kv) → ((kv : Kv) → o ≡ Some kv → kv.key ≡ k) → kept_under k (one_found o).kvs ≡ o
kept-one k None h = refl
kept-one k (Some kv) h = ap (λ (b : Bool). if b then Some kv else None) (ap (λ (q : Bytes). same q k) (h kv refl) ∙ same-refl k)

found-same : (k : Bytes) (r : ℤ) (m : Keys) → (found (range_of r (want.Key k)) m).kvs ≡ (found (key_range k) m).kvs
unfolding in_range
found-same k r m = refl

pub key-shown : (k : Bytes) (r : ℤ) (m : Keys) → AreKeyed m → kept_under k (found (range_of r (want.Key k)) m).kvs ≡ get m k
key-shown k r m keyed =
    ap (kept_under k) (found-same k r m ∙ ap (λ a. a.kvs) (found-key k m)) ∙ kept-one k (get m k) (keyed k)

-- ---- the entries of a map are what it has

abbrev order : Bytes → Bytes → Ordering
order = slice_cmp nat_cmp

apart_if_less : (o : Ordering) → T (is_lt o) → is_eq o ≡ false
apart_if_less Less h = refl
apart_if_less Equal h = absurd h
apart_if_less Greater h = absurd h

none-below : (q : Bytes) (es : List (Bytes × Kv)) → T (below_all order q es) → find order q es ≡ None
none-below q [] h = refl
none-below q (e ∷ es) h =
    ap (λ (b : Bool). cond b (Some e.1) (find order q es)) (apart_if_less (order q e.0) (T-first (is_lt (order q e.0)) (below_all order q es) h)) ∙ none-below q es (T-second (is_lt (order q e.0)) (below_all order q es) h)

find-later : (k : Bytes) (x : Kv) (e : Bytes × Kv) (es : List (Bytes × Kv)) (b : Bool) → is_eq (order k e.0) ≡ b → T (below_all order e.0 es) → find order k es ≡ Some x → cond b (Some e.1) (find order k es) ≡ Some x
find-later k x e es true is below h =
    let same : k ≡ e.0 = same-true k e.0 (sym (names-tie k e.0) ∙ is) in
    absurd (none_some (sym (none-below e.0 es below) ∙ ap (λ (q : Bytes). find order q es) (sym same) ∙ h))
find-later k x e es false is below h = h

entries-each : (P : Bytes → Kv → Type 0) (es : List (Bytes × Kv)) → T (is_sorted order es) → ((k : Bytes) (x : Kv) → find order k es ≡ Some x → P k x) → All (λ (e : Bytes × Kv). P e.0 e.1) es
entries-each P [] sorted h = All-nil (λ (e : Bytes × Kv). P e.0 e.1)
entries-each P (e ∷ es) sorted h =
    let below = T-first (below_all order e.0 es) (is_sorted order es) sorted in
    All-cons (λ (y : Bytes × Kv). P y.0 y.1) e es
    (h e.0 e.1 (ap (λ (o : Ordering). cond (is_eq o) (Some e.1) (find order e.0 es)) (tied_itself nat_list_cmp_total e.0)))
    (entries-each P es (T-second (below_all order e.0 es) (is_sorted order es) sorted) (λ k x f. h k x (find-later k x e es (is_eq (order k e.0)) refl below f)))

pub map-each : (P : Bytes → Kv → Type 0) (m : Keys) → ((k : Bytes) (x : Kv) → get m k ≡ Some x → P k x) → All (λ (e : Bytes × Kv). P e.0 e.1) (entries m)
map-each P m h = entries-each P (entries m) (entries_sorted m) (λ k x f. h k x (get-entries m k ∙ f))

-- ---- the children of a node

pub record IsListed (p k : Bytes) (kv : Kv) : Type 0 where
  pub named : kv.key ≡ k
  pub inside : is_within (children_start p) (children_until p) k ≡ true

kept-inside : (b : Bool) (o : Option Kv) (x : Kv) → cond b o None ≡ Some x → (b ≡ true) × (o ≡ Some x)
kept-inside true o x h = (refl, h)
kept-inside false o x h = absurd (none_some h)

retained-listed : (p : Bytes) (m : Keys) → AreKeyed m → (k : Bytes) (x : Kv) → get (retain_keys m (is_within (children_start p) (children_until p))) k ≡ Some x → IsListed p k x
retained-listed p m keyed k x h =
    let inside = is_within (children_start p) (children_until p) in
    let parts = kept-inside (inside k) (get m k) x (sym (get-retain m inside k) ∙ h) in
    record { named = keyed k x parts.1; inside = parts.0 }

listed-paths : (p : Bytes) (es : List (Bytes × Kv)) → All (λ (e : Bytes × Kv). IsListed p e.0 e.1) es → paths_in p (map (shown true) (map (λ (e : Bytes × Kv). e.1) es)) ≡ map (drop 9) (map (λ (e : Bytes × Kv). e.0) es)
listed-paths p [] all = refl
listed-paths p (e ∷ es) all =
    let is = All-head (λ (y : Bytes × Kv). IsListed p y.0 y.1) e es all in
    let kv = shown true e.1 in
    let rest = map (shown true) (map (λ (y : Bytes × Kv). y.1) es) in
    let inside : is_child_of p kv ≡ true = ap (is_within (children_start p) (children_until p)) is.named ∙ is.inside in
    ap (λ (b : Bool). map path_in (if b then kv ∷ filter (is_child_of p) rest else filter (is_child_of p) rest)) inside
    ∙ (λ i. drop 9 (is.named i) ∷ listed-paths p es (All-tail (λ (y : Bytes × Kv). IsListed p y.0 y.1) e es all) i)

pub children-shown : (p : Bytes) (r : ℤ) (m : Keys) → AreKeyed m → paths_in p (found (range_of r (want.Children p)) m).kvs ≡ children_kept m p
unfolding in_range children_kept
children-shown p r m keyed =
    let inside = is_within (children_start p) (children_until p) in
    listed-paths p (entries (retain_keys m inside)) (map-each (IsListed p) (retain_keys m inside) (retained-listed p m keyed))
