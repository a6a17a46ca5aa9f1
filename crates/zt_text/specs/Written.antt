-- The words that are written.
use Rattle.std.specs.Prelude.{ℕ, ℤ, List, ◌∷◌, [], ◌++◌, map, flat_map, codes, decimal}
use Rattle.std.specs.Fmt.{signed_decimal}
use Rattle.zt_text.specs.Transcripts.{hex_text, id_text, spaced}
use Rattle.zt_text.specs.declared.word.Word.{Word}
use Rattle.zt_text.specs.declared.word.Word.TheVariants.{Name, Number, Signed, Session, Hex}

abbrev pub word_text : Word → List ℕ
word_text (Name text) = text.now
word_text (Number n) = decimal n
word_text (Signed z) = signed_decimal z
word_text (Session id) = id_text id
word_text (Hex bytes) = hex_text bytes.now

-- words, each after a blank
abbrev pub spaced_after : List Word → List ℕ
spaced_after words = flat_map (λ (w : List ℕ). 32 ∷ w) (map word_text words)

-- a line of these words
abbrev pub text_of_words : List ℕ → List Word → List ℕ
text_of_words first words = spaced (first ∷ map word_text words) ++ 10 ∷ []

-- the lines of an update, and of an end, by the words of their kinds
abbrev pub update_text : ℤ → List (List ℕ) → List ℕ
update_text zxid words = spaced (codes "update" ∷ signed_decimal zxid ∷ words) ++ 10 ∷ []

abbrev pub close_text : ℕ → List (List ℕ) → List ℕ
close_text connection words = spaced (codes "close" ∷ decimal connection ∷ words) ++ 10 ∷ []

-- the lines of a connection that opened, by its first word, and of a frame that came
abbrev pub open_text : List ℕ → ℕ → ℕ → ℤ → List ℕ → List ℕ
open_text name connection proxy id passwd = spaced (name ∷ decimal connection ∷ decimal proxy ∷ id_text id ∷ hex_text passwd ∷ []) ++ 10 ∷ []

abbrev pub frame_text : ℕ → ℕ → ℤ → List ℕ → List ℕ
frame_text connection index zxid bytes = spaced (codes "frame" ∷ decimal connection ∷ decimal index ∷ signed_decimal zxid ∷ hex_text bytes ∷ []) ++ 10 ∷ []
