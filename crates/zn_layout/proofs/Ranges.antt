-- Which keys stand in the range of a node's children.
use Rattle.std.proofs.Common.{◌≡◌, ◌≢◌, ℕ, suc, ◌+◌, ◌/◌, ◌%◌, ◌<◌, ◌≤◌, length, Bool, true, false, cond, not, ◌&&◌, [], ◌∷◌, ◌++◌, Option, Some, None, refl, sym, ap, ◌∙◌, subst, arith, eqb, eq-eqb, eqb-true, ◌⊎◌, ⊎_elim, inl, inr, append_assoc, append-nil}
use Rattle.std.specs.Ordering.{nat_cmp, is_lt, ordering_then}
use Rattle.std.specs.declared.cmp.Ordering.{Ordering}
use Rattle.std.specs.declared.cmp.Ordering.TheVariants.{Equal, Greater}
use Rattle.std.specs.Cmp.Lexicographic.{slice_cmp}
use Rattle.std.proofs.lemmas.Bool.Decides.{nat_tests}
use Rattle.std.specs.FinMap.{get}
use Rattle.ev_types.specs.Ranges.{is_within}
use Rattle.zx_base.specs.Maps.{Bytes, same}
use Rattle.zx_base.proofs.MapLaws.{same-true}
use Rattle.zk_model.specs.declared.node.Node.{Node}
use Rattle.zk_model.specs.Paths.{slash, root, with_head, at_last_slash, parent_of_parts, parent_at, parent, stem, slashes, depth}
use Rattle.zk_model.specs.Znodes.{Tree}
use Rattle.zk_model.proofs.Paths.{IsNamed, named-from_parent, depth_child, depth-other, slashes-append, slashes-stem, stem-root, stem-other}
use Rattle.zk_model.proofs.PathScans.{at_last_slash-append}
use Rattle.zk_service.proofs.Children.{AreParented}
use Rattle.zn_layout.specs.Keys.{CountsKey, DataKey, HeadKey, LeaseKey, SessionKey, counts_front, data_front, four_digits, head_name, key_bytes, lease_front, node_key, session_front, session_key}
use Rattle.zn_layout.specs.Listing.{base, child_front, children_from, children_end}
use Rattle.zx_base.proofs.Booleans.{and-both, and-first, and-second}

-- ---- a range from a front to the same front with its last byte raised by one

-- whether a list begins with another
abbrev pub begins : Bytes → Bytes → Bool
begins [] k = true
begins (a ∷ s) [] = false
begins (a ∷ s) (x ∷ k) = eqb x a && begins s k

-- a key isn't before the start of a range, and is before its end
abbrev is_between : Bytes → Bytes → Bytes → Bool
is_between from end k = not (is_lt (slice_cmp nat_cmp k from)) && is_lt (slice_cmp nat_cmp k end)

nil_or : (k : Bytes) → (slice_cmp nat_cmp k [] ≡ Equal) ⊎ (slice_cmp nat_cmp k [] ≡ Greater)
nil_or [] = inl refl
nil_or (x ∷ k) = inr refl

at_end : (c x : ℕ) (k : Bytes) → (not (is_lt (ordering_then (nat_cmp x c) (slice_cmp nat_cmp k []))) && is_lt (ordering_then (nat_cmp x (c + 1)) (slice_cmp nat_cmp k []))) ≡ (eqb x c && true)
at_end c x k = ⊎_elim
    (λ e. subst (λ o. (not (is_lt (ordering_then (nat_cmp x c) o)) && is_lt (ordering_then (nat_cmp x (c + 1)) o)) ≡ (eqb x c && true)) (sym e) (grind (arith, nat_tests)))
    (λ e. subst (λ o. (not (is_lt (ordering_then (nat_cmp x c) o)) && is_lt (ordering_then (nat_cmp x (c + 1)) o)) ≡ (eqb x c && true)) (sym e) (grind (arith, nat_tests)))
    (nil_or k)

step : (x a : ℕ) (u v : Ordering) (b : Bool) → (not (is_lt u) && is_lt v) ≡ b → (not (is_lt (ordering_then (nat_cmp x a) u)) && is_lt (ordering_then (nat_cmp x a) v)) ≡ (eqb x a && b)
step x a u v b h = grind (arith, nat_tests, h)

is_between-front : (s : Bytes) (c : ℕ) (k : Bytes) → is_between (s ++ c ∷ []) (s ++ (c + 1) ∷ []) k ≡ begins (s ++ c ∷ []) k
is_between-front [] c [] = refl
is_between-front [] c (x ∷ k) = at_end c x k
is_between-front (a ∷ s) c [] = refl
is_between-front (a ∷ s) c (x ∷ k) = step x a _ _ _ (is_between-front s c k)

pub begins-rest : (s k : Bytes) → begins s k ≡ true → (rest : Bytes) × (k ≡ s ++ rest)
begins-rest [] k h = (k, refl)
begins-rest (a ∷ s) [] h = cc
begins-rest (a ∷ s) (x ∷ k) h =
    let r = begins-rest s k (and-second _ _ h) in
    (r.0, λ i. eqb-true x a (and-first _ _ h) i ∷ r.1 i)

begins-append : (s rest : Bytes) → begins s (s ++ rest) ≡ true
begins-append [] rest = refl
begins-append (a ∷ s) rest = and-both _ _ (eq-eqb a a refl) (begins-append s rest)

-- ---- the range of a node's children

base-stem : (p : Bytes) → base p ++ 47 ∷ [] ≡ stem p
unfolding stem
base-stem p = elim (same p root) as (λ b. same p root ≡ b → cond b [] p ++ 47 ∷ [] ≡ cond b p (p ++ 47 ∷ [])) [ true ↦ λ h. sym (same-true p root h) | false ↦ λ h. refl ] refl

pub is_within-front : (p k : Bytes) → is_within (children_from p) (children_end p) k ≡ begins (children_from p) k
unfolding is_within
is_within-front p k = is_between-front (child_front p ++ base p) 47 k

digits-injective : (m n : ℕ) → m / 1000 % 10 ≡ n / 1000 % 10 → m / 100 % 10 ≡ n / 100 % 10 → m / 10 % 10 ≡ n / 10 % 10 → m % 10 ≡ n % 10 → m % 10000 ≡ n % 10000
digits-injective m n a b c d = omega arith

slashes-nil : slashes [] ≡ 0
unfolding slashes
slashes-nil = refl

few_bytes : (x : ℕ) (p : Bytes) → slashes p ≤ length p → slashes (x ∷ p) ≤ length p + 1
unfolding slashes
few_bytes x p h = elim (eqb x slash) as (λ t. cond t (suc (slashes p)) (slashes p) ≤ length p + 1) [ true ↦ omega arith | false ↦ omega arith ]

slashes-length : (p : Bytes) → slashes p ≤ length p
unfolding slashes
slashes-length [] = omega arith
slashes-length (x ∷ p) = omega (arith, few_bytes x p (slashes-length p))

pub depth-length : (p : Bytes) → depth p ≤ length p
unfolding depth
depth-length p = elim (same p root) as (λ b. cond b 0 (slashes p) ≤ length p) [ true ↦ omega arith | false ↦ slashes-length p ]

five : (a b c d e : Bool) → (a && (b && (c && (d && e)))) ≡ true → (a ≡ true) × (b ≡ true) × (c ≡ true) × (d ≡ true) × (e ≡ true)
five true true true true true h = (refl, refl, refl, refl, refl)
five true true true true false h = cc
five true true true false e h = cc
five true true false d e h = cc
five true false c d e h = cc
five false b c d e h = cc

less_48 : (a b : ℕ) → 48 + a ≡ 48 + b → a ≡ b
less_48 a b e = omega arith

small_same : (m n : ℕ) → m % 10000 ≡ n % 10000 → m < 10000 → n < 10000 → m ≡ n
small_same m n e a b = omega arith

-- a data key in the range is one level deeper, and its path begins with the stem
is_within-data : (p q : Bytes) → depth q < 10000 → depth p + 1 < 10000 → is_within (children_from p) (children_end p) (key_bytes (DataKey q)) ≡ true → (depth q ≡ depth p + 1) × ((rest : Bytes) × (q ≡ stem p ++ rest))
unfolding key_bytes
is_within-data p q low high h =
    let parts = five _ _ _ _ _ (sym (is_within-front p (node_key data_front q)) ∙ h) in
    let r = begins-rest (base p ++ 47 ∷ []) q parts.4 in (
      small_same (depth q) (depth p + 1)
          (digits-injective (depth q) (depth p + 1)
          (less_48 _ _ (eqb-true _ _ parts.0)) (less_48 _ _ (eqb-true _ _ parts.1)) (less_48 _ _ (eqb-true _ _ parts.2)) (less_48 _ _ (eqb-true _ _ parts.3)))
          low high,
      (r.0, r.1 ∙ ap (λ (x : Bytes). x ++ r.0) (base-stem p)),
    )

pub is_within-counts : (p q : Bytes) → is_within (children_from p) (children_end p) (key_bytes (CountsKey q)) ≡ false
unfolding key_bytes
is_within-counts p q = is_within-front p (node_key counts_front q)

pub is_within-head : (p : Bytes) → is_within (children_from p) (children_end p) (key_bytes HeadKey) ≡ false
unfolding key_bytes
is_within-head p = is_within-front p head_name

pub is_within-session : (p : Bytes) (id : ℕ) → is_within (children_from p) (children_end p) (key_bytes (SessionKey id)) ≡ false
unfolding key_bytes
is_within-session p id = is_within-front p (session_key session_front id)

pub is_within-lease : (p : Bytes) (id : ℕ) → is_within (children_from p) (children_end p) (key_bytes (LeaseKey id)) ≡ false
unfolding key_bytes
is_within-lease p id = is_within-front p (session_key lease_front id)

-- the data key of a child is the front, and the child's path
pub child-key : (p q : Bytes) → parent q ≡ Some p → key_bytes (DataKey q) ≡ child_front p ++ q
unfolding key_bytes
child-key p q h = ap (λ (n : ℕ). data_front ++ four_digits n ++ q) (depth_child q p h)

-- the data key of a child is in the range
pub is_within-child : (p q : Bytes) → parent q ≡ Some p → is_within (children_from p) (children_end p) (key_bytes (DataKey q)) ≡ true
is_within-child p q h =
    let n = named-from_parent q p h in
    let whole : key_bytes (DataKey q) ≡ children_from p ++ n.name = child-key p q h ∙ ap (λ (x : Bytes). child_front p ++ x) (n.is ∙ ap (λ (x : Bytes). x ++ n.name) (sym (base-stem p))) in
    is_within-front p (key_bytes (DataKey q)) ∙ subst (λ (x : Bytes). begins (children_from p) x ≡ true) (sym whole) (begins-append (children_from p) n.name)

-- ---- what begins with the stem and is one level deeper is a child, where it has a parent at all

plain_tail : (x : ℕ) (xs : Bytes) → slashes (x ∷ xs) ≡ 0 → (eqb x slash ≡ false) × (slashes xs ≡ 0)
unfolding slashes
plain_tail x xs h = elim (eqb x slash) as (λ t. cond t (suc (slashes xs)) (slashes xs) ≡ 0 → (t ≡ false) × (slashes xs ≡ 0)) [ true ↦ λ h. absurd (omega arith) | false ↦ λ h. (refl, h) ] h

at_last_slash-plain : (q : Bytes) → slashes q ≡ 0 → at_last_slash q ≡ None
unfolding at_last_slash
at_last_slash-plain [] h = refl
at_last_slash-plain (x ∷ xs) h =
    let parts = plain_tail x xs h in
    ap (λ o. with_head x o xs) (at_last_slash-plain xs parts.1) ∙ ap (λ b. cond b (Some ([], xs)) None) parts.0

parent_parts : (p name : Bytes) → p ≢ [] → same p root ≡ false → name ≢ [] → parent_of_parts p name ≡ Some p
parent_parts p [] some other named = absurd (named refl)
parent_parts [] (y ∷ ys) some other named = absurd (some refl)
parent_parts (x ∷ xs) (y ∷ ys) some other named = ap (λ b. cond b None (Some (x ∷ xs))) other

root_parts : (name : Bytes) → name ≢ [] → parent_of_parts [] name ≡ Some root
root_parts [] named = absurd (named refl)
root_parts (y ∷ ys) named = refl

parent-from_named : (q p : Bytes) → p ≢ [] → IsNamed q p → parent q ≡ Some p
unfolding parent
parent-from_named q p some n =
    elim (same p root) as (λ b. same p root ≡ b → parent_at (at_last_slash q) ≡ Some p) [
      | true ↦ λ t. let e = same-true p root t in
          subst (λ (r : Bytes). parent_at (at_last_slash r) ≡ Some p) (sym (n.is ∙ ap (λ (r : Bytes). stem r ++ n.name) e ∙ ap (λ (r : Bytes). r ++ n.name) stem-root))
          (ap parent_at (at_last_slash-append [] n.name (at_last_slash-plain n.name n.plain)) ∙ root_parts n.name n.some ∙ ap Some (sym e))
      | false ↦ λ t.
          subst (λ (r : Bytes). parent_at (at_last_slash r) ≡ Some p) (sym (n.is ∙ ap (λ (r : Bytes). r ++ n.name) (stem-other p t) ∙ append_assoc p (slash ∷ []) n.name))
          (ap parent_at (at_last_slash-append p n.name (at_last_slash-plain n.name n.plain)) ∙ parent_parts p n.name some t n.some)
    ] refl

not_root_depth : (p q : Bytes) → depth q ≡ depth p + 1 → q ≡ root → ⊥
unfolding depth
not_root_depth p q h e = let z : depth q ≡ 0 = ap depth e in absurd (omega (arith, h, z))

ends_apart : (p q r rest : Bytes) → q ≡ stem p ++ rest → rest ≡ [] → IsNamed q r → ⊥
ends_apart p q r rest is e n =
    let one : q ≡ base p ++ 47 ∷ [] = is ∙ ap (λ (x : Bytes). stem p ++ x) e ∙ append-nil (stem p) ∙ sym (base-stem p) in
    let two : q ≡ base r ++ 47 ∷ n.name = n.is ∙ ap (λ (x : Bytes). x ++ n.name) (sym (base-stem r)) ∙ append_assoc (base r) (47 ∷ []) n.name in
    let first : at_last_slash q ≡ Some (base p, []) = ap at_last_slash one ∙ at_last_slash-append (base p) [] (at_last_slash-plain [] slashes-nil) in
    let second : at_last_slash q ≡ Some (base r, n.name) = ap at_last_slash two ∙ at_last_slash-append (base r) n.name (at_last_slash-plain n.name n.plain) in
    let both : ◌≡◌ {A = Option (Bytes × Bytes)} (Some (base p, [])) (Some (base r, n.name)) = sym first ∙ second in
    let pairs : ◌≡◌ {A = Bytes × Bytes} (base p, []) (base r, n.name) = cc in
    n.some (sym (ap (λ (x : Bytes × Bytes). x.1) pairs))

-- the rest after the stem has no slash, and isn't empty, where q has a parent at all
child_by_parts : (p q r rest : Bytes) → p ≢ [] → q ≡ stem p ++ rest → depth q ≡ slashes q → depth q ≡ depth p + 1 → IsNamed q r → parent q ≡ Some p
child_by_parts p q r rest some is deep one n =
    let total : slashes q ≡ slashes (stem p) + slashes rest = ap slashes is ∙ slashes-append (stem p) rest in
    let none : slashes rest ≡ 0 = omega (arith, total, slashes-stem p, deep, one) in
    parent-from_named q p some (record { name = rest; is = is; plain = none; some = λ e. ends_apart p q r rest is e n })

-- a node whose data key is in the range is a child
pub child-from_range : (t : Tree) (p q : Bytes) (node : Node) → AreParented t → p ≢ [] → depth q < 10000 → depth p + 1 < 10000 → get t q ≡ Some node → is_within (children_from p) (children_end p) (key_bytes (DataKey q)) ≡ true → parent q ≡ Some p
child-from_range t p q node parents some low high there h =
    let r = is_within-data p q low high h in
    let far : q ≢ root = λ e. not_root_depth p q r.0 e in
    let has = parents q node there far in
    let n = named-from_parent q has.path has.is in
    child_by_parts p q has.path r.1.0 some r.1.1 (depth-other q far) r.0 n
