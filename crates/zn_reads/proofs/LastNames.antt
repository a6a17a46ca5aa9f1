-- The name after the last slash, as it is found from the end.
use Rattle.std.proofs.Common.{◌≡◌, ℕ, ◌+◌, ◌-◌, ◌<◌, [], length, take, drop, get_or, None, sym, ap, ◌∙◌, arith}
use Rattle.std.proofs.lemmas.List.{take_all, length-drop}
use Rattle.zx_base.specs.Maps.{Bytes}
use Rattle.zk_model.specs.Paths.{slash, at_last_slash, name_at, last_name}
use Rattle.zk_model.proofs.PathScans.{at_last_slash-cut}

whole_rest : (n : ℕ) (xs : Bytes) → take (length xs - n) (drop n xs) ≡ drop n xs
whole_rest n xs = take_all (length xs - n) (drop n xs) (omega (arith, length-drop n xs))

-- the slice after a slash that no other slash follows
pub last_name-cut : (place : ℕ) (p : Bytes) → place < length p → get_or p place 0 ≡ slash → at_last_slash (drop (place + 1) p) ≡ None → take (length p - (place + 1)) (drop (place + 1) p) ≡ last_name p
unfolding last_name
last_name-cut place p h here none = whole_rest (place + 1) p ∙ sym (ap name_at (at_last_slash-cut place p h here none))

pub last_name-none : (p : Bytes) → at_last_slash p ≡ None → [] ≡ last_name p
unfolding last_name
last_name-none p none = sym (ap name_at none)
