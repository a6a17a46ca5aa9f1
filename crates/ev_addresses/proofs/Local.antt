-- The address that is dialled where none was named.
use Rattle.std.proofs.Common.{ℕ, ◌≤◌, List, [], ◌∷◌, codes, arith}
use Rattle.std.specs.Prelude.{All}
use Rattle.std.proofs.lemmas.List.Elements.{All-cons, All-nil}
use Rattle.ev_call.specs.Addresses.{IsAddress}

abbrev IsVisible : ℕ → Type 0
IsVisible b = (33 ≤ b) × (b ≤ 126)

one : (b : ℕ) (bs : List ℕ) → 33 ≤ b → b ≤ 126 → All IsVisible bs → All IsVisible (b ∷ bs)
one b bs least most rest = All-cons IsVisible b bs (least, most) rest

pub local : IsAddress (codes "localhost")
local = (omega arith, one 108 (111 ∷ 99 ∷ 97 ∷ 108 ∷ 104 ∷ 111 ∷ 115 ∷ 116 ∷ []) (omega arith) (omega arith) (one 111 (99 ∷ 97 ∷ 108 ∷ 104 ∷ 111 ∷ 115 ∷ 116 ∷ []) (omega arith) (omega arith) (one 99 (97 ∷ 108 ∷ 104 ∷ 111 ∷ 115 ∷ 116 ∷ []) (omega arith) (omega arith) (one 97 (108 ∷ 104 ∷ 111 ∷ 115 ∷ 116 ∷ []) (omega arith) (omega arith) (one 108 (104 ∷ 111 ∷ 115 ∷ 116 ∷ []) (omega arith) (omega arith) (one 104 (111 ∷ 115 ∷ 116 ∷ []) (omega arith) (omega arith) (one 111 (115 ∷ 116 ∷ []) (omega arith) (omega arith) (one 115 (116 ∷ []) (omega arith) (omega arith) (one 116 [] (omega arith) (omega arith) (All-nil IsVisible))))))))))
