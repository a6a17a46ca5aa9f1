-- Keys that are wanted: each that was not looked up is named, and no other.
use Rattle.std.proofs.Common.{◌≡◌, ◌≢◌, ℕ, zero, suc, ◌<◌, length, get_or, true, false, cond, ◌||◌, List, [], ◌∷◌, ◌++◌, Option, Some, None, refl, sym, ap, ◌∙◌, subst, ◌⊎◌, ⊎_elim, inl, inr, arith}
use Rattle.std.specs.Prelude.{AllPairs, Contains, fold, is_some}
use Rattle.std.specs.List.{list_any}
use Rattle.std.proofs.lemmas.Bool.{true≢false, or_cases, or_parts, or_right}
use Rattle.std.proofs.lemmas.List.Elements.{Contains-push, Contains-append_left, Contains-push_cases}
use Rattle.std.proofs.lemmas.List.Quantifiers.{all_pairs_push}
use Rattle.ev_types.specs.declared.answer.Kv.{Kv}
use Rattle.zx_base.specs.Maps.{Bytes}
use Rattle.zx_base.proofs.MapLaws.{same-true, same-refl}
use Rattle.zn_view.specs.declared.want.Want.{Want}
use Rattle.zn_view.specs.declared.want.Want.TheVariants as want
use Rattle.zn_view.specs.Seen.{View, seen}
use Rattle.zn_view.specs.Lacking.{is_want_of, with_want, lacking}
use Rattle.zn_view.proofs.Elements.{contains-first, contains-rest, contains-cases}

-- ---- one key

unseen_none : (o : Option (Option Kv)) → is_some o ≡ false → o ≡ None
unseen_none None h = refl
unseen_none (Some x) h = cc

seen_some : (o : Option (Option Kv)) → is_some o ≡ true → o ≡ None → ⊥
seen_some None h e = cc
seen_some (Some x) h e = cc

wanted_key : (k : Bytes) (w : Want) → is_want_of k w ≡ true → w ≡ want.Key k
wanted_key k (want.Key q) h = ap (λ (x : Bytes). want.Key x) (same-true q k h)
wanted_key k (want.Children p) h = cc

wanted-contained : (k : Bytes) (ws : List Want) → list_any (is_want_of k) ws ≡ true → Contains ws (want.Key k)
wanted-contained k [] h = cc
wanted-contained k (w ∷ ws) h = ⊎_elim
    (λ e. subst (λ (x : Want). Contains (w ∷ ws) x) (wanted_key k w e) (contains-first w ws))
    (λ e. contains-rest w ws (want.Key k) (wanted-contained k ws e))
    (or_cases (is_want_of k w) (list_any (is_want_of k) ws) h)

-- what a list with one more key to look for contains
kept_one : (v : View) (ws : List Want) (k : Bytes) (w : Want) → Contains ws w → Contains (with_want v ws k) w
kept_one v ws k w has = elim (is_some (seen v k) || list_any (is_want_of k) ws) as (λ b. Contains (cond b ws (ws ++ want.Key k ∷ [])) w) [ true ↦ has | false ↦ Contains-append_left ws (want.Key k ∷ []) w has ]

named_one : (v : View) (ws : List Want) (k : Bytes) → seen v k ≡ None → Contains (with_want v ws k) (want.Key k)
named_one v ws k none = elim (is_some (seen v k) || list_any (is_want_of k) ws) as (λ b. (is_some (seen v k) || list_any (is_want_of k) ws) ≡ b → Contains (cond b ws (ws ++ want.Key k ∷ [])) (want.Key k)) [
  | true ↦ λ e. ⊎_elim (λ s. absurd (seen_some (seen v k) s none)) (λ a. wanted-contained k ws a) (or_cases (is_some (seen v k)) (list_any (is_want_of k) ws) e)
  | false ↦ λ e. Contains-push ws (want.Key k)
] refl

only_one : (v : View) (ws : List Want) (k : Bytes) (w : Want) → Contains (with_want v ws k) w → Contains ws w ⊎ ((w ≡ want.Key k) × (seen v k ≡ None))
only_one v ws k w = elim (is_some (seen v k) || list_any (is_want_of k) ws) as (λ b. (is_some (seen v k) || list_any (is_want_of k) ws) ≡ b → Contains (cond b ws (ws ++ want.Key k ∷ [])) w → Contains ws w ⊎ ((w ≡ want.Key k) × (seen v k ≡ None))) [
  | true ↦ λ e has. inl has
  | false ↦ λ e has. ⊎_elim (λ h. inl h) (λ h. inr (sym h, unseen_none (seen v k) (or_parts (is_some (seen v k)) (list_any (is_want_of k) ws) e).0)) (Contains-push_cases ws (want.Key k) w has)
] refl

-- ---- many keys

-- a key of these is wanted, and was not looked up
abbrev pub IsNamed : View → List Bytes → Want → Type 0
IsNamed v ks w = (k : Bytes) × Contains ks k × (w ≡ want.Key k) × (seen v k ≡ None)

kept_all : (v : View) (ks : List Bytes) (ws : List Want) (w : Want) → Contains ws w → Contains (fold (with_want v) ws ks) w
kept_all v [] ws w has = has
kept_all v (k ∷ ks) ws w has = kept_all v ks (with_want v ws k) w (kept_one v ws k w has)

pub named_all : (v : View) (ks : List Bytes) (ws : List Want) (k : Bytes) → Contains ks k → seen v k ≡ None → Contains (fold (with_want v) ws ks) (want.Key k)
named_all v [] ws k has none = absurd (let lt = has.1 in omega arith)
named_all v (x ∷ ks) ws k has none = ⊎_elim
    (λ e. kept_all v ks (with_want v ws x) (want.Key k) (subst (λ (y : Bytes). Contains (with_want v ws x) (want.Key y)) e (named_one v ws x (sym (ap (seen v) (sym e)) ∙ none))))
    (λ h. named_all v ks (with_want v ws x) k h none)
    (contains-cases x ks k has)

named_more : (v : View) (x : Bytes) (ks : List Bytes) (w : Want) → IsNamed v ks w → IsNamed v (x ∷ ks) w
named_more v x ks w h = (h.0, contains-rest x ks h.0 h.1, h.2, h.3)

pub only_all : (v : View) (ks : List Bytes) (ws : List Want) (w : Want) → Contains (fold (with_want v) ws ks) w → Contains ws w ⊎ IsNamed v ks w
only_all v [] ws w has = inl has
only_all v (x ∷ ks) ws w has = ⊎_elim
    (λ h. ⊎_elim (λ a. inl a) (λ a. inr (x, contains-first x ks, a.0, a.1)) (only_one v ws x w h))
    (λ h. inr (named_more v x ks w h))
    (only_all v ks (with_want v ws x) w has)

-- ---- each once

wanted_at : (k : Bytes) (ws : List Want) (i : ℕ) (d : Want) → i < length ws → get_or ws i d ≡ want.Key k → list_any (is_want_of k) ws ≡ true
wanted_at k [] i d lt e = absurd (omega (arith, lt))
wanted_at k (w ∷ ws) zero d lt e = ap (λ b. b || list_any (is_want_of k) ws) (ap (is_want_of k) e ∙ same-refl k)
wanted_at k (w ∷ ws) (suc i) d lt e = or_right (is_want_of k w) (list_any (is_want_of k) ws) (wanted_at k ws i d (omega (arith, lt)) e)

abbrev pub AreApart : List Want → Type 0
AreApart ws = AllPairs (λ (w u : Want). w ≢ u) ws

apart_one : (v : View) (ws : List Want) (k : Bytes) → AreApart ws → AreApart (with_want v ws k)
apart_one v ws k apart =
    elim (is_some (seen v k) || list_any (is_want_of k) ws) as (λ b. (is_some (seen v k) || list_any (is_want_of k) ws) ≡ b → AreApart (cond b ws (ws ++ want.Key k ∷ []))) [
      | true ↦ λ e. apart
      | false ↦ λ e. all_pairs_push (λ (w u : Want). w ≢ u) ws (want.Key k) apart (λ i d lt is. true≢false (sym (wanted_at k ws i d lt is) ∙ (or_parts (is_some (seen v k)) (list_any (is_want_of k) ws) e).1))
    ] refl

apart_all : (v : View) (ks : List Bytes) (ws : List Want) → AreApart ws → AreApart (fold (with_want v) ws ks)
apart_all v [] ws apart = apart
apart_all v (k ∷ ks) ws apart = apart_all v ks (with_want v ws k) (apart_one v ws k apart)

pub lacking-once : (v : View) (ks : List Bytes) → AreApart (lacking v ks)
lacking-once v ks = apart_all v ks [] (λ i j d lt bad. absurd (omega (arith, bad)))
