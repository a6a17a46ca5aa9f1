-- Bytes that are visible, each of them.
use Rattle.std.proofs.Common.{◌≡◌, ℕ, ◌≤◌, true, List}
use Rattle.std.specs.Prelude.{All, nat_le}
use Rattle.std.specs.List.{list_all}
use Rattle.std.proofs.lemmas.Bool.{and_parts, leb-true}
use Rattle.std.proofs.lemmas.List.Sums.{AllPass-from_list_all}
use Rattle.ev_addresses.specs.Visible.{is_visible}

within : (b : ℕ) → is_visible b ≡ true → (33 ≤ b) × (b ≤ 126)
within b e = let both = and_parts (nat_le 33 b) (nat_le b 126) e in (leb-true 33 b both.0, leb-true b 126 both.1)

pub all_within : (xs : List ℕ) → list_all is_visible xs ≡ true → All (λ b. (33 ≤ b) × (b ≤ 126)) xs
all_within xs e = λ k d lt. within _ (AllPass-from_list_all is_visible xs e k d lt)
