-- Bytes that are parted at the first of a kind.
use Rattle.std.proofs.Common.{◌≡◌, ℕ, ◌<◌, ◌==◌, false, List, [], ◌∷◌, ◌++◌, length, Option, Some, None, refl, ap, sym, ◌∙◌, arith, eq-eqb, length-append}
use Rattle.std.proofs.lemmas.List.Elements.{All-head, All-tail}
use Rattle.zt_text.specs.Scripts.{Lacks, pieces}
use Rattle.zt_text.proofs.PieceLaws.{pieces-first, pieces-none}
use Rattle.zt_text.specs.Words.{Slice, joined_at}
use Rattle.zt_lines.specs.Transcripts.{parted}

pub parted-lacks : (c : ℕ) (bytes : List ℕ) → Lacks c bytes → parted c bytes ≡ None
unfolding parted
parted-lacks c [] lacks = refl
parted-lacks c (b ∷ bs) lacks =
    let first = All-head (λ (b : ℕ). (b == c) ≡ false) b bs lacks in
    let rest = parted-lacks c bs (All-tail (λ (b : ℕ). (b == c) ≡ false) b bs lacks) in
    rw (first, rest) refl

pub parted-first : (c : ℕ) (front rest : List ℕ) → Lacks c front → parted c (front ++ c ∷ rest) ≡ Some (front, rest)
unfolding parted
parted-first c [] rest lacks = let same = eq-eqb c c refl in rw same refl
parted-first c (b ∷ bs) rest lacks =
    let first = All-head (λ (b : ℕ). (b == c) ≡ false) b bs lacks in
    let later = parted-first c bs rest (All-tail (λ (b : ℕ). (b == c) ≡ false) b bs lacks) in
    rw (first, later) refl

abbrev pub parts_of : List ℕ → Option Slice → Option (List ℕ × List ℕ)
parts_of front None = None
parts_of front (Some rest) = Some (front, rest.now)

-- bytes that were cut
pub parted_of_cut : (c : ℕ) (bytes front : List ℕ) (rest : Option Slice) → bytes ≡ joined_at c front rest → Lacks c front → parted c bytes ≡ parts_of front rest
parted_of_cut c bytes front None whole lacks = ap (parted c) whole ∙ parted-lacks c front lacks
parted_of_cut c bytes front (Some rest) whole lacks = ap (parted c) whole ∙ parted-first c front rest.now lacks

pub pieces_of_cut : (c : ℕ) (bytes front rest : List ℕ) → bytes ≡ front ++ c ∷ rest → Lacks c front → pieces c bytes ≡ front ∷ pieces c rest
pieces_of_cut c bytes front rest whole lacks = ap (pieces c) whole ∙ pieces-first c front rest lacks

pub pieces_uncut : (c : ℕ) (bytes front : List ℕ) → bytes ≡ front → Lacks c front → pieces c bytes ≡ bytes ∷ []
pieces_uncut c bytes front whole lacks = ap (pieces c) whole ∙ pieces-none c front lacks ∙ ap (λ (b : List ℕ). b ∷ []) (sym whole)

pub shorter_of_cut : (c : ℕ) (bytes front rest : List ℕ) → bytes ≡ front ++ c ∷ rest → length rest < length bytes
shorter_of_cut c bytes front rest whole = let size = ap length whole ∙ length-append front (c ∷ rest) in omega arith
