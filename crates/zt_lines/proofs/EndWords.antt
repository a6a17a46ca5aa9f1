-- No end has four words or more.
use Rattle.std.proofs.Common.{◌≡◌, ℕ, List, ◌∷◌, None, refl}
use Rattle.zt_text.specs.Scripts.{pieces}
use Rattle.zt_text.proofs.PieceLaws.{pieces-some}
use Rattle.zt_lines.specs.Lines.{end_read}

pub end_read_and_more : (form a b rest : List ℕ) → end_read (form ∷ a ∷ b ∷ pieces 32 rest) ≡ None
end_read_and_more form a b rest = let p = pieces-some 32 rest in rw p.2 refl
