-- The words of a line as slices.
use Rattle.std.specs.Prelude.{ℕ, List, [], ◌∷◌, ◌++◌, Option, Some, None}
use Rattle.zt_text.specs.Scripts.{pieces}
use denote.Ref.{Bor}

abbrev pub Slice : Type 0
Slice = Bor (List ℕ)

-- what was cut at a byte c, put together again
abbrev pub joined_at : ℕ → List ℕ → Option Slice → List ℕ
joined_at c front None = front
joined_at c front (Some rest) = front ++ c ∷ rest.now

-- the words of what follows a blank; none where there is no blank
abbrev pub words_of : Option Slice → List (List ℕ)
words_of None = []
words_of (Some rest) = pieces 32 rest.now

abbrev pub seen_two : Option (Slice × Slice) → Option (List ℕ × List ℕ)
seen_two None = None
seen_two (Some w) = Some (w.0.now, w.1.now)

abbrev pub seen_three : Option (Slice × Slice × Slice) → Option (List ℕ × List ℕ × List ℕ)
seen_three None = None
seen_three (Some w) = Some (w.0.now, w.1.now, w.2.now)

abbrev pub seen_four : Option (Slice × Slice × Slice × Slice) → Option (List ℕ × List ℕ × List ℕ × List ℕ)
seen_four None = None
seen_four (Some w) = Some (w.0.now, w.1.now, w.2.now, w.3.now)
