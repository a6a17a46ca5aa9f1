-- The least walk, one choice after the other: it goes on where a choice left it, and no count of choices is kept.
use Rattle.std.specs.Prelude.{◌≡◌, ℕ, ℤ, pos, ◌+◌, ◌<ℤ◌, ◌≤ℤ◌, Bool, true, false, List, [], ◌∷◌, length, Option, Some, None, is_some, IsTrue}
use Rattle.zk_transcript.specs.declared.transcript.TranscriptLine.{TranscriptLine}
use Rattle.zk_transcript.specs.Legal.{Attachment, is_legal, attach_of}
use Rattle.zk_transcript.specs.Walks.{Walker, Choice, Due, move}
use Rattle.zk_least.specs.LeastWalk.{given, least_choice, least_from, HasZxids}

-- what the least choice makes of the walker and leaves of the packets
abbrev pub least_step : List TranscriptLine → ℕ → ℤ → Walker → List Due → Option (Walker × List Due)
least_step lines c id w ps = elim (least_choice lines c id w ps) [ None ↦ None | Some x ↦ given ps (move lines c id w x) ]

-- the least walk from a walker on gives these packets: `is_some (least_walk ..)` is this from the start
abbrev pub is_least : List TranscriptLine → ℕ → ℤ → Walker → List Due → Bool
is_least lines c id w ps = is_some (least_from (length lines + length ps) lines c id w ps)

-- the least walk from the walker that was reached, if one was, gives the packets that are left
abbrev pub is_least_after : List TranscriptLine → ℕ → ℤ → Option (Walker × List Due) → Bool
is_least_after lines c id None = false
is_least_after lines c id (Some y) = is_least lines c id y.0 y.1

pub record IsLeastByStep (lines : List TranscriptLine) (c : ℕ) (id : ℤ) (w : Walker) : Type 0 where
  pub over : is_least lines c id w [] ≡ true
  pub more : (p : Due) (ps : List Due) → is_least lines c id w (p ∷ ps) ≡ is_least_after lines c id (least_step lines c id w (p ∷ ps))

abbrev pub LeastStepLaw : Type 0
LeastStepLaw = (lines : List TranscriptLine) (c : ℕ) (id : ℤ) (w : Walker) → IsLeastByStep lines c id w

-- a walk begins at a zxid above 0
abbrev pub AttachedAboveZero : Type 0
AttachedAboveZero = (lines : List TranscriptLine) (c : ℕ) (a : ℕ × Attachment) → IsTrue (is_legal lines) → HasZxids lines → attach_of c lines ≡ Some a → pos 0 <ℤ a.1.zxid

-- no choice lowers the walker's zxid
abbrev pub PlacesRise : Type 0
PlacesRise = (lines : List TranscriptLine) (c : ℕ) (id : ℤ) (w : Walker) (x : Choice) (y : Walker × List Due) → move lines c id w x ≡ Some y → w.zxid ≤ℤ y.0.zxid
