-- The hex digits that are written are those of the crate `hex`.
use Rattle.std.proofs.Common.{◌≡◌, ℕ, zero, suc, ◌/◌, ◌%◌, ◌<◌, ◌==◌, Bool, true, ◌&&◌, inl, inr, List, [], ◌∷◌, slice_index, refl, ap, arith}
use Rattle.std.proofs.lemmas.Bool.{and_parts, cases_lt, eqb-true}
use Rattle.hex.specs.Hex.{encode_lower, encode_with, lower_digits}
use Rattle.zt_text.specs.Transcripts.{hex_digit_text, hex_spelled}

abbrev same_digits : ℕ → Bool
same_digits zero = true
same_digits (suc n) = (slice_index lower_digits n == hex_digit_text n) && same_digits n

same_digits-at : (n d : ℕ) → same_digits n ≡ true → d < n → slice_index lower_digits d ≡ hex_digit_text d
same_digits-at zero d same below = absurd (omega arith)
same_digits-at (suc n) d same below =
    let parts = and_parts (slice_index lower_digits n == hex_digit_text n) (same_digits n) same in
    elim (cases_lt d n) [
      | inl less ↦ same_digits-at n d parts.1 less
      | inr top ↦ let here : d ≡ n = omega arith in rw here (eqb-true _ _ parts.0)
    ]

digit : (d : ℕ) → d < 16 → slice_index lower_digits d ≡ hex_digit_text d
digit d below = same_digits-at 16 d refl below

pub encode_lower-hex_digits : (bytes : List ℕ) → ((i : ℕ) → slice_index bytes i < 256) → encode_lower bytes ≡ hex_spelled bytes
unfolding encode_with hex_spelled
encode_lower-hex_digits [] fits = refl
encode_lower-hex_digits (b ∷ bs) fits =
    let first : b < 256 = fits 0 in
    let rest = encode_lower-hex_digits bs (λ i. fits (suc i)) in
    let high = digit (b / 16) (omega arith) in
    let low = digit (b % 16) (omega arith) in
    rw (high, low) (ap (λ (ds : List ℕ). hex_digit_text (b / 16) ∷ hex_digit_text (b % 16) ∷ ds) rest)
