-- The parents of nodes: which they are, that each stands once, and how many.
use Rattle.std.proofs.Common.{◌≡◌, ◌+◌, ◌≤◌, Bool, true, false, cond, ◌||◌, length, List, [], ◌∷◌, ◌++◌, Option, Some, None, refl, sym, ap, ◌∙◌, arith}
use Rattle.std.specs.Prelude.{IsTrue}
use Rattle.std.specs.List.{list_any, All}
use Rattle.std.proofs.Math.Bool.{or-false, or_assoc}
use Rattle.std.proofs.lemmas.List.Elements.{All-nil, All-head, All-tail, All-push}
use Rattle.zk_model.proofs.ValidPaths.{parent-valid}
use Rattle.std.proofs.lemmas.List.{length-append}
use Rattle.std.proofs.lemmas.List.Folds.{list_any-append}
use Rattle.zx_base.specs.Maps.{Bytes, same}
use Rattle.zx_base.proofs.MapLaws.{same-true}
use Rattle.zk_model.specs.Paths.{parent, is_child, is_at_path, is_path}
use Rattle.zs_close.specs.Ending.{with_parent, parents_from, parents}
use Rattle.zs_close.proofs.Removed.{AreApart}
use Rattle.zx_base.proofs.Numbers.{same-symm}

-- a path is a child of its parent, and of no other
is_child-some : (p q r : Bytes) → parent p ≡ Some q → is_child r p ≡ same r q
unfolding is_child
is_child-some p q r e = ap (λ (o : Option Bytes). is_at_path o r) e ∙ same-symm q r

is_child-none : (p r : Bytes) → parent p ≡ None → is_child r p ≡ false
unfolding is_child
is_child-none p r e = ap (λ (o : Option Bytes). is_at_path o r) e

module _ (found : List Bytes) (q r : Bytes) where
  known : list_any (same q) found ≡ true → list_any (same r) found ≡ (list_any (same r) found || same r q)
  known h = elim (same r q) as (λ b. same r q ≡ b → list_any (same r) found ≡ (list_any (same r) found || b)) [
    | true ↦ λ e. let all : list_any (same r) found ≡ true = ap (λ (x : Bytes). list_any (same x) found) (same-true r q e) ∙ h in all ∙ sym (ap (λ b. b || true) all)
    | false ↦ λ e. sym (or-false (list_any (same r) found))
  ] refl

  fresh : list_any (same r) (found ++ q ∷ []) ≡ (list_any (same r) found || same r q)
  fresh = list_any-append (same r) found (q ∷ []) ∙ ap (λ b. list_any (same r) found || b) (or-false (same r q))

  with_some : list_any (same r) (with_parent found (Some q)) ≡ (list_any (same r) found || same r q)
  with_some = elim (list_any (same q) found) as (λ b. list_any (same q) found ≡ b → list_any (same r) (cond b found (found ++ q ∷ [])) ≡ (list_any (same r) found || same r q)) [
    | true ↦ λ e. known e
    | false ↦ λ e. fresh
  ] refl

with_parent-any : (found : List Bytes) (p r : Bytes) (o : Option Bytes) → parent p ≡ o → list_any (same r) (with_parent found o) ≡ (list_any (same r) found || is_child r p)
with_parent-any found p r None e = sym (or-false (list_any (same r) found)) ∙ ap (λ b. list_any (same r) found || b) (sym (is_child-none p r e))
with_parent-any found p r (Some q) e = with_some found q r ∙ ap (λ b. list_any (same r) found || b) (sym (is_child-some p q r e))

pub parents_from-any : (ps found : List Bytes) (r : Bytes) → list_any (same r) (parents_from found ps) ≡ (list_any (same r) found || list_any (is_child r) ps)
parents_from-any [] found r = sym (or-false (list_any (same r) found))
parents_from-any (p ∷ ps) found r =
    parents_from-any ps (with_parent found (parent p)) r
    ∙ ap (λ b. b || list_any (is_child r) ps) (with_parent-any found p r (parent p) refl)
    ∙ or_assoc (list_any (same r) found) (is_child r p) (list_any (is_child r) ps)

pub parents-any : (ps : List Bytes) (r : Bytes) → list_any (same r) (parents ps) ≡ list_any (is_child r) ps
parents-any ps r = parents_from-any ps [] r

-- ---- each once

apart_push : (found : List Bytes) (q : Bytes) → AreApart found → list_any (same q) found ≡ false → AreApart (found ++ q ∷ [])
apart_push [] q apart h = (refl, tt)
apart_push (p ∷ found) q apart h = (
  list_any-append (same p) found (q ∷ []) ∙ (λ i. apart.0 i || (first i || false)),
  apart_push found q apart.1 (rest (same q p) (list_any (same q) found) h),
)
  where
    rest : (a b : Bool) → (a || b) ≡ false → b ≡ false
    rest true b h = absurd (cc)
    rest false b h = h

    left : (a b : Bool) → (a || b) ≡ false → a ≡ false
    left true b h = absurd (cc)
    left false b h = refl

    first : same p q ≡ false
    first = same-symm p q ∙ left (same q p) (list_any (same q) found) h

with_parent-apart : (found : List Bytes) (o : Option Bytes) → AreApart found → AreApart (with_parent found o)
with_parent-apart found None apart = apart
with_parent-apart found (Some q) apart = elim (list_any (same q) found) as (λ b. list_any (same q) found ≡ b → AreApart (cond b found (found ++ q ∷ []))) [
  | true ↦ λ e. apart
  | false ↦ λ e. apart_push found q apart e
] refl

parents_from-apart : (ps found : List Bytes) → AreApart found → AreApart (parents_from found ps)
parents_from-apart [] found apart = apart
parents_from-apart (p ∷ ps) found apart = parents_from-apart ps (with_parent found (parent p)) (with_parent-apart found (parent p) apart)

pub parents-apart : (ps : List Bytes) → AreApart (parents ps)
parents-apart ps = parents_from-apart ps [] tt

-- ---- how many

with_parent-length : (found : List Bytes) (o : Option Bytes) → length (with_parent found o) ≤ length found + 1
with_parent-length found None = omega arith
with_parent-length found (Some q) = elim (list_any (same q) found) as (λ b. length (cond b found (found ++ q ∷ [])) ≤ length found + 1) [
  | true ↦ omega arith
  | false ↦ omega (arith, length-append found (q ∷ []))
]

parents_from-length : (ps found : List Bytes) → length (parents_from found ps) ≤ length found + length ps
parents_from-length [] found = omega arith
parents_from-length (p ∷ ps) found = omega (arith, parents_from-length ps (with_parent found (parent p)), with_parent-length found (parent p))

pub parents-length : (ps : List Bytes) → length (parents ps) ≤ length ps
parents-length ps = omega (arith, parents_from-length ps [])

-- ---- each valid

with_parent-valid : (found : List Bytes) (p : Bytes) (o : Option Bytes) → parent p ≡ o → IsTrue (is_path p) → All (λ q. IsTrue (is_path q)) found → All (λ q. IsTrue (is_path q)) (with_parent found o)
with_parent-valid found p None e valid all = all
with_parent-valid found p (Some q) e valid all = elim (list_any (same q) found) as (λ b. All (λ r. IsTrue (is_path r)) (cond b found (found ++ q ∷ []))) [
  | true ↦ all
  | false ↦ All-push (λ r. IsTrue (is_path r)) found q all (parent-valid p q valid e).0
]

parents_from-valid : (ps found : List Bytes) → All (λ p. IsTrue (is_path p)) ps → All (λ q. IsTrue (is_path q)) found → All (λ q. IsTrue (is_path q)) (parents_from found ps)
parents_from-valid [] found all so_far = so_far
parents_from-valid (p ∷ ps) found all so_far =
    parents_from-valid ps (with_parent found (parent p)) (All-tail (λ q. IsTrue (is_path q)) p ps all)
    (with_parent-valid found p (parent p) refl (All-head (λ q. IsTrue (is_path q)) p ps all) so_far)

pub parents-valid : (ps : List Bytes) → All (λ p. IsTrue (is_path p)) ps → All (λ q. IsTrue (is_path q)) (parents ps)
parents-valid ps all = parents_from-valid ps [] all (All-nil (λ q. IsTrue (is_path q)))
