-- What the words in memory are, and what a reading of a stop word counts.
use Rattle.std.specs.Prelude.{ℕ, Bool, true, false, nat_le, List, [], ◌∷◌}
use Rattle.zx_outside.specs.Counts.{one_more}

-- the next word of a list; after the list it is 1
abbrev pub first_word : List ℕ → ℕ
first_word [] = 1
first_word (word ∷ later) = word

abbrev pub later_words : List ℕ → List ℕ
later_words [] = []
later_words (word ∷ later) = later

-- the count of the readings that found a word set, after one more reading
abbrev pub readings_after : Bool → ℕ → ℕ
readings_after true count = one_more count
readings_after false count = count

-- a word that is set from its reading of this number on
pub record Planned : Type 0 where
  pub from : ℕ
  pub readings : ℕ
  pub set_readings : ℕ

-- the next reading finds it set
abbrev pub is_due : Planned → Bool
is_due s = nat_le s.from (one_more s.readings)

abbrev pub read_once : Planned → Planned
read_once s = record s { readings = one_more s.readings; set_readings = readings_after (is_due s) s.set_readings }
