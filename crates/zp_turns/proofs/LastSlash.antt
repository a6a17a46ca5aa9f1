-- The cut of a path at its last slash.
use Rattle.std.proofs.Common.{◌≡◌, ◌≢◌, ℕ, ◌+◌, ◌<◌, ◌≤◌, zero, suc, List, [], ◌∷◌, ◌++◌, length, refl, sym, ap, ◌∙◌, drop, take, get_or, arith}
use Rattle.std.specs.Prelude.{All}
use Rattle.std.proofs.lemmas.List.{drop_more, take-append-drop}
use Rattle.zp_turns.specs.Parents.{IsParent, slash}

abbrev IsOther : ℕ → Type 0
IsOther b = b ≢ slash

pub cut_there : (path : List ℕ) (place : ℕ) → 1 ≤ place → place < length path → get_or path place 0 ≡ slash → All IsOther (drop (place + 1) path) → IsParent path (take place path)
cut_there [] place least h here after = absurd (omega (arith, h))
cut_there (x ∷ xs) zero least h here after = absurd (omega (arith, least))
cut_there (x ∷ xs) (suc n) least h here after = record {
  before = take (suc n) (x ∷ xs);
  name = drop (suc n + 1) (x ∷ xs);
  cut = sym (take-append-drop (suc n) (x ∷ xs)) ∙ ap (λ r. take (suc n) (x ∷ xs) ++ r) (drop_more (x ∷ xs) (suc n) 0 h ∙ ap (λ b. b ∷ drop (suc n + 1) (x ∷ xs)) here);
  last = after;
  is = refl;
}

is-first : (x : ℕ) (xs rest : List ℕ) → ◌≡◌ {A = List ℕ} (x ∷ xs) (slash ∷ rest) → x ≡ slash
is-first x xs rest e = cc

pub cut_first : (path rest : List ℕ) (place : ℕ) → place ≤ 1 → path ≡ slash ∷ rest → All IsOther (drop place path) → IsParent path (slash ∷ [])
cut_first [] rest place least e after = absurd (cc)
cut_first (x ∷ xs) rest zero least e after = absurd (after 0 0 (omega arith) (is-first x xs rest e))
cut_first (x ∷ xs) rest (suc zero) least e after = record {
  before = [];
  name = xs;
  cut = ap (λ b. b ∷ xs) (is-first x xs rest e);
  last = after;
  is = refl;
}
cut_first (x ∷ xs) rest (suc (suc n)) least e after = absurd (omega (arith, least))
