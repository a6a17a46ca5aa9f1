-- What a view saw is what the keys have that stand for a state that the view is of.
use Rattle.std.proofs.Common.{◌≡◌, true, false, cond, suc, List, [], ◌∷◌, Option, Some, None, refl, sym, ap, ◌∙◌, subst, arith}
use Rattle.std.specs.Prelude.{All, IsTrue}
use Rattle.std.specs.FinMap.{get}
use Rattle.ev_types.specs.declared.answer.Kv.{Kv}
use Rattle.ev_types.specs.Ranges.{Keys}
use Rattle.zx_base.specs.Maps.{Bytes, same}
use Rattle.zx_base.proofs.MapLaws.{same-true}
use Rattle.zk_model.specs.Paths.{is_path}
use Rattle.zk_model.specs.Znodes.{children}
use Rattle.zk_service.specs.States.{State, IsSound}
use Rattle.zn_layout.specs.Keys.{Key, key_bytes}
use Rattle.zn_layout.specs.Listing.{HasValidPaths}
use Rattle.zn_layout.specs.StandsFor.{Means, at, stored_of}
use Rattle.zn_view.proofs.Listing.{listed-children}
use Rattle.zn_view.specs.declared.snapshot.SeenKey.{SeenKey}
use Rattle.zn_view.specs.Seen.{View, seen_in, seen, listed, found_of}
use Rattle.zn_view.specs.Views.{Agrees, IsOf}
use Rattle.zn_view.specs.Lookups.{found_at}

all-rest : {A : Type 0} (P : A → Type 0) (x : A) (xs : List A) → All P (x ∷ xs) → All P xs
all-rest P x xs h = λ k d lt. h (suc k) d (omega arith)

all-first : {A : Type 0} (P : A → Type 0) (x : A) (xs : List A) → All P (x ∷ xs) → P x
all-first P x xs h = h 0 x (omega arith)

-- ---- keys

seen_in-kept : (m : Keys) (k : Bytes) (o : Option Kv) (xs : List SeenKey) → All (λ (x : SeenKey). get m x.key ≡ x.found) xs → seen_in k xs ≡ Some o → get m k ≡ o
seen_in-kept m k o [] all h = absurd (cc)
seen_in-kept m k o (x ∷ xs) all h = elim (same x.key k) as (λ b. same x.key k ≡ b → cond b (Some x.found) (seen_in k xs) ≡ Some o → get m k ≡ o) [
  | true ↦ λ e h. let found : x.found ≡ o = cc in ap (get m) (sym (same-true x.key k e)) ∙ all-first (λ (x : SeenKey). get m x.key ≡ x.found) x xs all ∙ found
  | false ↦ λ e h. seen_in-kept m k o xs (all-rest (λ (x : SeenKey). get m x.key ≡ x.found) x xs all) h
] refl h

seen-kept : (v : View) (m : Keys) (k : Bytes) (o : Option Kv) → Agrees v m → seen v k ≡ Some o → get m k ≡ o
seen-kept v m k o agrees h = seen_in-kept m k o v.keys agrees.keys h

looked_is : (o : Option (Option Kv)) → (o ≡ None → ⊥) → o ≡ Some (found_of o)
looked_is None h = absurd (h refl)
looked_is (Some x) h = refl

-- what was found under a key that was looked up means what the key has to
pub found-means : (v : View) (s : State) (k : Key) → IsOf v s → (seen v (key_bytes k) ≡ None → ⊥) → Means s k (stored_of (found_at v k))
found-means v s k of looked =
    let is : at of.0 k ≡ found_at v k = seen-kept v of.0 (key_bytes k) (found_at v k) of.2 (looked_is (seen v (key_bytes k)) looked) in
    subst (λ (o : Option Kv). Means s k (stored_of o)) is (of.1.each k)

-- what was found by the bytes of a key that was looked up means what the key has to
pub found-at : (v : View) (s : State) (k : Key) (key : Bytes) (o : Option Kv) → o ≡ found_of (seen v key) → key ≡ key_bytes k → IsOf v s → (seen v (key_bytes k) ≡ None → ⊥) → Means s k (stored_of o)
found-at v s k key o found is of looked =
    let same_found : found_at v k ≡ o = sym (found ∙ ap (λ (x : Bytes). found_of (seen v x)) is) in
    subst (λ (x : Option Kv). Means s k (stored_of x)) same_found (found-means v s k of looked)

-- ---- lists of children

-- the paths that were listed are those of the children
pub listed_of : (v : View) (s : State) (p : Bytes) (ps : List Bytes) → IsSound s → HasValidPaths s.tree → IsOf v s → IsTrue (is_path p) → listed v p ≡ Some ps → ps ≡ children s.tree p
listed_of v s p ps sound valid of path h = listed-children v of.0 s p ps of.1 sound valid path of.2 h
