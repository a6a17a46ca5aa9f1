-- What is taken from a source while a message is read.
use Rattle.std.specs.Prelude.{◌≡◌, ℕ, ◌+◌, ◌-◌, ◌<◌, ◌≤◌, ◌^◌, min, max, Bool, true, false, cond, List, [], ◌∷◌, ◌++◌, length, take, ⊤, Option, Some, None, Result, Ok, Err}
use Rattle.std.specs.Io.KnownBytes.{IsAtEnd}
use Rattle.zx_outside.specs.Counts.{InputCounts, one_more}
use Rattle.zx_outside.specs.Reading.{Gives, HasNoFeed}
use Rattle.ev_http.specs.declared.fault.HttpFault.{HttpFault}
use Rattle.ev_http.specs.declared.fault.HttpFault.TheVariants as fault
use Rattle.ev_http.specs.declared.taking.Tally.{Tally}
use Rattle.ev_http.specs.declared.taking.Piece.{Piece}
use Rattle.ev_http.specs.declared.taking.Piece.TheVariants as piece
use Rattle.ev_http.specs.declared.taking.Cut.{Cut}
use Rattle.ev_http.specs.declared.taking.Cut.TheVariants as cut

-- What a source tells of itself.
pub record Told : Type 0 where
  pub given : Option (List ℕ)
  pub left : Option (List ℕ)
  pub counts : InputCounts
  pub ended : Bool
  pub name : ℕ

abbrev pub told : {S : Type 0} → (S → Option (List ℕ)) → (S → Option (List ℕ)) → (S → InputCounts) → (S → Bool) → (S → ℕ) → S → Told
told given left counts ended name source = record { given = given source; left = left source; counts = counts source; ended = ended source; name = name source }

-- At the first byte of a message, in a call that has waited for nothing yet.
abbrev pub fresh : Tally
fresh = record { turns = 0; taken = 0 }

-- A count of bytes, as it is kept in 64 bits: at most 2 ^ 64 - 1.
abbrev pub counted : ℕ → ℕ
counted n = min n (2 ^ 64 - 1)

-- A count after n more, as it is kept in 64 bits: it does not rise above 2 ^ 64 - 1.
abbrev pub risen : ℕ → ℕ → ℕ
risen n count = max count (min (count + n) (2 ^ 64 - 1))

-- These bytes were taken from a source, over idle turns that the tally counts, with a fault at the end or none.
pub record Took (bytes : List ℕ) (faulty : Bool) (tally tally' : Tally) (source source' : Told) : Type 0 where
  pub gives : Gives bytes source.given source'.given source.left source'.left
  pub taken : tally'.taken ≡ risen (length bytes) tally.taken
  pub waited : tally.turns ≤ tally'.turns
  pub within : tally'.turns ≤ 6000
  pub idles : source'.counts.idles ≡ risen (tally'.turns - tally.turns) source.counts.idles
  pub faults : source'.counts.faults ≡ cond faulty (one_more source.counts.faults) source.counts.faults
  pub named : source'.name ≡ source.name

-- Whether a fault is one of the source.
abbrev pub is_read_fault : HttpFault → Bool
is_read_fault fault.ReadFault = true
is_read_fault fault.Head = false
is_read_fault (fault.Status n) = false
is_read_fault fault.Route = false
is_read_fault (fault.Body p) = false
is_read_fault (fault.TooLong n) = false
is_read_fault (fault.Ended n) = false
is_read_fault fault.Idle = false
is_read_fault fault.WriteFault = false
is_read_fault fault.Memory = false

-- Whether the call met a fault of its source.
abbrev pub failed : {A : Type 0} → Result A HttpFault → Bool
failed (Ok x) = false
failed (Err e) = is_read_fault e

-- The source has ended, and nothing is left.
pub record Ends (source : Told) : Type 0 where
  pub ended : source.ended ≡ true
  pub empty : IsAtEnd source.left

-- The bytes of the answer, at the front of the buffer.
abbrev pub bytes_in : Result (Option ℕ) HttpFault → List ℕ → List ℕ
bytes_in (Ok (Some n)) buffer = take n buffer
bytes_in (Ok None) buffer = []
bytes_in (Err e) buffer = []

-- At least one byte, and no more than there is room for.
abbrev pub Fits : Result (Option ℕ) HttpFault → ℕ → Type 0
Fits (Ok (Some n)) room = (0 < n) × (n ≤ room)
Fits (Ok None) room = ⊤
Fits (Err e) room = ⊤

-- Of the bytes of the answer at most the last is a line feed.
abbrev pub EndsAtFeed : Result (Option ℕ) HttpFault → List ℕ → Type 0
EndsAtFeed (Ok (Some n)) buffer = HasNoFeed (take (n - 1) buffer)
EndsAtFeed (Ok None) buffer = ⊤
EndsAtFeed (Err e) buffer = ⊤

-- No bytes come where the source has ended.
abbrev pub AtEnd : Result (Option ℕ) HttpFault → Told → Type 0
AtEnd (Ok (Some n)) source = ⊤
AtEnd (Ok None) source = Ends source
AtEnd (Err e) source = ⊤

-- Why nothing was taken: the turns of the call are used up, or the source had a fault.
abbrev pub Stopped : HttpFault → Tally → Type 0
Stopped fault.Idle tally = tally.turns ≡ 6000
Stopped fault.ReadFault tally = ⊤
Stopped fault.Memory tally = ⊥
Stopped fault.Head tally = ⊥
Stopped (fault.Status n) tally = ⊥
Stopped fault.Route tally = ⊥
Stopped (fault.Body p) tally = ⊥
Stopped (fault.TooLong n) tally = ⊥
Stopped (fault.Ended n) tally = ⊥
Stopped fault.WriteFault tally = ⊥

-- One line feed, at the end.
abbrev pub IsLine : List ℕ → Type 0
IsLine bytes = (text : List ℕ) × HasNoFeed text × (bytes ≡ text ++ 10 ∷ [])

-- What the taking of a piece of a line came to, by its answer. Without memory the piece is lost.
abbrev pub TakesPiece : Result Piece HttpFault → List ℕ → List ℕ → List ℕ → ℕ → Told → Tally → Type 0
TakesPiece (Ok piece.Last) old added new most source tally = IsLine added × (new ≡ old ++ added) × (length added ≤ most)
TakesPiece (Ok piece.Part) old added new most source tally = HasNoFeed added × (new ≡ old ++ added) × (length added ≤ most) × (0 < length added)
TakesPiece (Ok piece.End) old added new most source tally = (added ≡ []) × (new ≡ old) × Ends source
TakesPiece (Err fault.Idle) old added new most source tally = (added ≡ []) × (new ≡ old) × (tally.turns ≡ 6000)
TakesPiece (Err fault.ReadFault) old added new most source tally = (added ≡ []) × (new ≡ old)
TakesPiece (Err fault.Memory) old added new most source tally = ⊤
TakesPiece (Err fault.Head) old added new most source tally = ⊥
TakesPiece (Err (fault.Status n)) old added new most source tally = ⊥
TakesPiece (Err fault.Route) old added new most source tally = ⊥
TakesPiece (Err (fault.Body p)) old added new most source tally = ⊥
TakesPiece (Err (fault.TooLong n)) old added new most source tally = ⊥
TakesPiece (Err (fault.Ended n)) old added new most source tally = ⊥
TakesPiece (Err fault.WriteFault) old added new most source tally = ⊥

-- A line grew by bytes with no line feed, to at most so many.
pub record Grows (old added new : List ℕ) (limit : ℕ) : Type 0 where
  pub no_feed : HasNoFeed added
  pub grown : new ≡ old ++ added
  pub short : length new ≤ max limit (length old)

-- What the taking of a line came to, by its answer. Without memory the line may have lost its last bytes.
abbrev pub TakesLine : Result Cut HttpFault → List ℕ → List ℕ → List ℕ → ℕ → Told → Tally → Type 0
TakesLine (Ok cut.LineFeed) old added new limit source tally = IsLine added × (new ≡ old ++ added) × (length new ≤ limit)
TakesLine (Ok cut.Full) old added new limit source tally = Grows old added new limit × (limit ≤ length new)
TakesLine (Ok cut.End) old added new limit source tally = Grows old added new limit × Ends source
TakesLine (Err fault.Idle) old added new limit source tally = Grows old added new limit × (tally.turns ≡ 6000)
TakesLine (Err fault.ReadFault) old added new limit source tally = Grows old added new limit
TakesLine (Err fault.Memory) old added new limit source tally = ⊤
TakesLine (Err fault.Head) old added new limit source tally = ⊥
TakesLine (Err (fault.Status n)) old added new limit source tally = ⊥
TakesLine (Err fault.Route) old added new limit source tally = ⊥
TakesLine (Err (fault.Body p)) old added new limit source tally = ⊥
TakesLine (Err (fault.TooLong n)) old added new limit source tally = ⊥
TakesLine (Err (fault.Ended n)) old added new limit source tally = ⊥
TakesLine (Err fault.WriteFault) old added new limit source tally = ⊥
