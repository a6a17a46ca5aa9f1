-- The pieces between the bytes c, where a list is cut at its first c.
use Rattle.std.proofs.Common.{◌≡◌, ℕ, ◌+◌, ◌<◌, ◌≤◌, ◌==◌, true, false, if◌then◌else◌, List, [], ◌∷◌, ◌++◌, length, take, get_or, refl, ap, eq-eqb}
use Rattle.std.specs.List.{onto_first}
use Rattle.std.proofs.lemmas.List.{take_all}
use Rattle.std.proofs.lemmas.List.Elements.{All-more}
use Rattle.std.proofs.lemmas.List.Splits.{slice_split_at, slice_split_none}
use Rattle.zt_text.specs.Scripts.{Lacks, pieces}

pub pieces-none : (c : ℕ) (bytes : List ℕ) → Lacks c bytes → pieces c bytes ≡ bytes ∷ []
pieces-none c bytes lacks = slice_split_none (λ b. b == c) bytes lacks

pub pieces-first : (c : ℕ) (front rest : List ℕ) → Lacks c front → pieces c (front ++ c ∷ rest) ≡ front ∷ pieces c rest
pieces-first c front rest lacks = slice_split_at (λ b. b == c) front c rest lacks (eq-eqb c c refl)

-- one more byte that isn't c
pub Lacks-more : (c : ℕ) (bytes : List ℕ) (at : ℕ) → Lacks c (take at bytes) → at < length bytes → (get_or bytes at 0 == c) ≡ false → Lacks c (take (at + 1) bytes)
Lacks-more c bytes at lacks within here = All-more (λ b. (b == c) ≡ false) bytes at 0 within lacks here

pub Lacks-all : (c : ℕ) (bytes : List ℕ) (at : ℕ) → Lacks c (take at bytes) → length bytes ≤ at → Lacks c bytes
Lacks-all c bytes at lacks all = let whole = take_all at bytes all in rw whole at lacks

-- there is a first piece
pub pieces-some : (c : ℕ) (bytes : List ℕ) → (piece : List ℕ) × (others : List (List ℕ)) × (pieces c bytes ≡ piece ∷ others)
pieces-some c [] = ([], [], refl)
pieces-some c (b ∷ bs) =
    elim (b == c) as (λ t. (piece : List ℕ) × (others : List (List ℕ)) × ((if t then [] ∷ pieces c bs else onto_first b (pieces c bs)) ≡ piece ∷ others)) [
      | true ↦ ([], pieces c bs, refl)
      | false ↦ let rest = pieces-some c bs in (b ∷ rest.0, rest.1, ap (onto_first b) rest.2)
    ]
