-- Keys that are put in their place: how they are looked up then, and that each stands once.
use Rattle.std.proofs.Common.{◌≡◌, true, false, Bool, List, [], ◌∷◌, Option, Some, None, refl, sym, ap, ◌∙◌}
use Rattle.std.specs.Prelude.{All, if◌then◌else◌}
use Rattle.std.specs.FinMap.{get}
use Rattle.std.proofs.lemmas.List.Elements.{All-nil, All-cons}
use Rattle.ev_types.specs.declared.answer.Kv.{Kv}
use Rattle.ev_types.specs.Ranges.{Keys}
use Rattle.zx_base.specs.Maps.{Bytes, same}
use Rattle.zx_base.proofs.MapLaws.{same-false, same-refl, same-true, apart-from_same}
use Rattle.zx_base.proofs.Options.{none_some}
use Rattle.zn_view.specs.declared.snapshot.SeenKey.{SeenKey}
use Rattle.zn_view.specs.Laying.{placed}
use Rattle.zn_view.specs.Seen.{seen_in}

-- a key that was put in its place is found, and any other as before
pub seen_in-placed_same : (x : SeenKey) (xs : List SeenKey) → seen_in x.key (placed x xs) ≡ Some x.found
seen_in-placed_same x [] = ap (λ (b : Bool). if b then Some x.found else None) (same-refl x.key)
seen_in-placed_same x (y ∷ ys) = elim (same y.key x.key) as (λ b. same y.key x.key ≡ b → seen_in x.key (if b then x ∷ ys else y ∷ placed x ys) ≡ Some x.found) [
  | true ↦ λ e. ap (λ (b : Bool). if b then Some x.found else seen_in x.key ys) (same-refl x.key)
  | false ↦ λ e. ap (λ (b : Bool). if b then Some y.found else seen_in x.key (placed x ys)) e ∙ seen_in-placed_same x ys
] refl

pub seen_in-placed_other : (x : SeenKey) (xs : List SeenKey) (k : Bytes) → same x.key k ≡ false → seen_in k (placed x xs) ≡ seen_in k xs
seen_in-placed_other x [] k apart = ap (λ (b : Bool). if b then Some x.found else None) apart
seen_in-placed_other x (y ∷ ys) k apart = elim (same y.key x.key) as (λ b. same y.key x.key ≡ b → seen_in k (if b then x ∷ ys else y ∷ placed x ys) ≡ (if same y.key k then Some y.found else seen_in k ys)) [
  | true ↦ λ e.
      ap (λ (b : Bool). if b then Some x.found else seen_in k ys) apart
      ∙ sym (ap (λ (b : Bool). if b then Some y.found else seen_in k ys) (ap (λ (q : Bytes). same q k) (same-true y.key x.key e) ∙ apart))
  | false ↦ λ e. ap (λ (o : Option (Option Kv)). if same y.key k then Some y.found else o) (seen_in-placed_other x ys k apart)
] refl

-- ---- each key stands once

abbrev pub Once : List SeenKey → Type 0
Once [] = Unit {0}
Once (x ∷ xs) = (seen_in x.key xs ≡ None) × Once xs

same-sym : (p q : Bytes) → same p q ≡ false → same q p ≡ false
same-sym p q e = same-false q p (λ is. apart-from_same p q e (sym is))

pub placed-once : (x : SeenKey) (xs : List SeenKey) → Once xs → Once (placed x xs)
placed-once x [] h = (refl, tt)
placed-once x (y ∷ ys) h = elim (same y.key x.key) as (λ b. same y.key x.key ≡ b → Once (if b then x ∷ ys else y ∷ placed x ys)) [
  | true ↦ λ e. (ap (λ (q : Bytes). seen_in q ys) (sym (same-true y.key x.key e)) ∙ h.0, h.1)
  | false ↦ λ e. (seen_in-placed_other x ys y.key (same-sym y.key x.key e) ∙ h.0, placed-once x ys h.1)
] refl

-- keys that have what is found are those that have what each entry says
pub once-all : (m : Keys) (xs : List SeenKey) → Once xs → ((k : Bytes) (o : Option Kv) → seen_in k xs ≡ Some o → get m k ≡ o) → All (λ (x : SeenKey). get m x.key ≡ x.found) xs
once-all m [] h all = All-nil _
once-all m (x ∷ xs) h all =
    All-cons (λ (y : SeenKey). get m y.key ≡ y.found) x xs
    (all x.key x.found (ap (λ (b : Bool). if b then Some x.found else seen_in x.key xs) (same-refl x.key)))
    (once-all m xs h.1 (λ k o e. all k o (elim (same x.key k) as (λ b. same x.key k ≡ b → (if b then Some x.found else seen_in k xs) ≡ Some o) [
      | true ↦ λ t. absurd (none_some (sym h.0 ∙ ap (λ (q : Bytes). seen_in q xs) (same-true x.key k t) ∙ e))
      | false ↦ λ t. e
    ] refl)))
