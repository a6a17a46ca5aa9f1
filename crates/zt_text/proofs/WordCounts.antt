-- The words of a line, one after the other.
use Rattle.std.proofs.Common.{◌≡◌, ℕ, List, ◌∷◌, Option, Some, None, refl, ap, ◌∙◌}
use Rattle.zt_text.specs.Scripts.{Lacks, pieces, one_word, two_words, three_words, four_words}
use Rattle.zt_text.proofs.PieceLaws.{pieces-first, pieces-none, pieces-some}
use Rattle.zt_text.specs.Words.{Slice, joined_at, words_of}

pub one_word_and_more : (a rest : List ℕ) → one_word (a ∷ pieces 32 rest) ≡ None
one_word_and_more a rest = let p = pieces-some 32 rest in rw p.2 refl

pub two_words_and_more : (a b rest : List ℕ) → two_words (a ∷ b ∷ pieces 32 rest) ≡ None
two_words_and_more a b rest = let p = pieces-some 32 rest in rw p.2 refl

pub three_words_and_more : (a b c rest : List ℕ) → three_words (a ∷ b ∷ c ∷ pieces 32 rest) ≡ None
three_words_and_more a b c rest = let p = pieces-some 32 rest in rw p.2 refl

pub four_words_and_more : (a b c d rest : List ℕ) → four_words (a ∷ b ∷ c ∷ d ∷ pieces 32 rest) ≡ None
four_words_and_more a b c d rest = let p = pieces-some 32 rest in rw p.2 refl

-- a line that was cut at its first blank
pub words_of_cut : (line front : List ℕ) (rest : Option Slice) → line ≡ joined_at 32 front rest → Lacks 32 front → pieces 32 line ≡ front ∷ words_of rest
words_of_cut line front None whole lacks = ap (pieces 32) whole ∙ pieces-none 32 front lacks
words_of_cut line front (Some rest) whole lacks = ap (pieces 32) whole ∙ pieces-first 32 front rest.now lacks
