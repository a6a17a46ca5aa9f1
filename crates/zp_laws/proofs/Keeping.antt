-- Views that are kept: they stay true of the store, and what keeps them changes nothing else of a core.
use Rattle.std.proofs.Common.{◌≡◌, ℕ, zero, suc, Bool, true, false, cond, List, [], ◌∷◌, take, sym, subst, arith}
use Rattle.std.specs.Prelude.{Option, Some, None, All, if◌then◌else◌, nat_le}
use Rattle.std.specs.Map.{lookup, remove_entry}
use Rattle.std.proofs.lemmas.List.Elements.{All-nil, All-cons, All-head, All-tail, All-weaker}
use Rattle.ev_types.specs.Store.{Store, store_at}
use Rattle.zx_base.specs.Maps.{Bytes, same}
use Rattle.zx_base.proofs.Options.{none_some, some_is}
use Rattle.zn_view.specs.Keeping.{max_kept_view, trimmed, view_size}
use Rattle.zn_view.specs.Seen.{View}
use Rattle.zn_view.specs.Views.{Agrees, children_kept}
use Rattle.zn_view.specs.Laying.{placed}
use Rattle.zn_view.specs.declared.snapshot.SeenChildren.{SeenChildren}
use Rattle.zn_view.specs.declared.snapshot.SeenKey.{SeenKey}
use Rattle.zp_step.specs.Kept.{kept_with, others_kept, put_first, used_first}
use Rattle.zp_step.specs.Stages.{KeptViews}
use Rattle.zp_laws.specs.Inputs.{Precedes}
use Rattle.zp_laws.specs.Standing.{AreViewsOf, IsViewOf}

-- ---- a key that is laid

pub all-placed : (P : SeenKey → Type 0) (x : SeenKey) (ys : List SeenKey) → P x → All P ys → All P (placed x ys)
all-placed P x [] h all = All-cons P x [] h all
all-placed P x (y ∷ ys) h all = elim (same y.key x.key) as (λ b. All P (if b then x ∷ ys else y ∷ placed x ys)) [
  | true ↦ All-cons P x ys h (All-tail P y ys all)
  | false ↦ All-cons P y (placed x ys) (All-head P y ys all) (all-placed P x ys h (All-tail P y ys all))
]

-- ---- the views stay true

abbrev IsKeptOf : Store → Bytes × View → Type 0
IsKeptOf store x = IsViewOf store x.1

pub view_of-kept : (s u : Store) (v : View) → Precedes s u → IsViewOf s v → IsViewOf u v
view_of-kept s u v x k = record { number = k.number; revision = k.revision; known = omega (arith, k.known, x.longer); agrees = subst (Agrees v) (sym (x.same k.number k.known)) k.agrees; put = k.put }

pub views-kept : (s u : Store) (xs : KeptViews) → Precedes s u → AreViewsOf s xs → AreViewsOf u xs
views-kept s u xs x k = All-weaker (IsKeptOf s) (IsKeptOf u) (λ y h. view_of-kept s u y.1 x h) xs k

module _ {X : Type 0} (P : X → Type 0) where
  all-take : (n : ℕ) (xs : List X) → All P xs → All P (take n xs)
  all-take zero xs h = All-nil P
  all-take (suc n) [] h = All-nil P
  all-take (suc n) (x ∷ xs) h = All-cons P x (take n xs) (All-head P x xs h) (all-take n xs (All-tail P x xs h))

all-without : (P : Bytes × View → Type 0) (test : Bytes → Bool) (xs : KeptViews) → All P xs → All P (remove_entry test xs)
all-without P test [] h = h
all-without P test (x ∷ xs) h = elim (test x.0) as (λ b. All P (cond b xs (x ∷ remove_entry test xs))) [
  | true ↦ All-tail P x xs h
  | false ↦ All-cons P x (remove_entry test xs) (All-head P x xs h) (all-without P test xs (All-tail P x xs h))
]

pub views-of : (s : Store) (test : Bytes → Bool) (xs : KeptViews) (v : View) → AreViewsOf s xs → lookup test xs ≡ Some v → IsViewOf s v
views-of s test [] v h e = absurd (none_some e)
views-of s test (x ∷ xs) v h e = (elim (test x.0) as (λ b. cond b (Some x.1) (lookup test xs) ≡ Some v → IsViewOf s v) [
  | true ↦ λ f. subst (IsViewOf s) (some_is f) (All-head (IsKeptOf s) x xs h)
  | false ↦ λ f. views-of s test xs v (All-tail (IsKeptOf s) x xs h) f
]) e

pub views-used : (s : Store) (q : Bytes) (v : View) (xs : KeptViews) → IsViewOf s v → AreViewsOf s xs → AreViewsOf s (used_first q v xs)
views-used s q v xs k h = All-cons (IsKeptOf s) (q, v) (remove_entry (same q) xs) k (all-without (IsKeptOf s) (same q) xs h)

pub views-put : (s : Store) (q : Bytes) (v : View) (xs : KeptViews) → IsViewOf s v → AreViewsOf s xs → AreViewsOf s (put_first q (trimmed v) xs)
views-put s q v xs k h = go (nat_le (view_size v) max_kept_view)
  where
    go : (b : Bool) → AreViewsOf s (put_first q (if b then Some (record v { lists = [] }) else None) xs)
    go true = All-cons (IsKeptOf s) (q, record v { lists = [] }) (others_kept q xs)
        (record { number = k.number; revision = k.revision; known = k.known; agrees = record { keys = (k.agrees).keys; lists = All-nil (λ (x : SeenChildren). x.paths ≡ children_kept (store_at s k.number) x.path) }; put = k.put })
        (all-take (IsKeptOf s) 15 (remove_entry (same q) xs) (all-without (IsKeptOf s) (same q) xs h))
    go false = all-without (IsKeptOf s) (same q) xs h

pub views-with : (s : Store) (o : Option Bytes) (v : View) (xs : KeptViews) → IsViewOf s v → AreViewsOf s xs → AreViewsOf s (kept_with o v xs)
views-with s None v xs k h = h
views-with s (Some q) v xs k h = views-put s q v xs k h
