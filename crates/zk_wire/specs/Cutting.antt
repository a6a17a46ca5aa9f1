-- What a cutter does with the pieces of a stream.
use Rattle.std.specs.Prelude.{◌≡◌, ℕ, ◌+◌, ◌-◌, ◌^◌, min, ◌⊎◌, ℤ, Some, None, List, [], ◌∷◌, ◌++◌, length, Result, Ok, Err}
use Rattle.std.specs.List.{flat_map}
use Rattle.std.specs.Global.{Vec}
use Rattle.zk_jute.specs.Frames.{Framed, bad_length}
use Rattle.zk_wire.specs.declared.cutter.CutFault.{CutFault}
use Rattle.zk_wire.specs.declared.cutter.CutFault.TheVariants.{BadLength, Memory}

-- the bytes of a stream that were not handed out, and how many came before them
pub record Stream : Type 0 where
  pub place : ℕ
  pub rest : List ℕ

-- a stream of which nothing came
abbrev pub unread : Stream
unread = record { place = 0; rest = [] }

-- all whole frames are handed out; where there is none, no length out of range stands at the front. The place counts the bytes
-- of the frames and their lengths, up to 2^64 - 1.
pub record Hands (old : Stream) (piece : List ℕ) (frames : List (List ℕ)) (new : Stream) : Type 0 where
  pub framed : Framed (old.rest ++ piece) frames new.rest
  pub place : new.place ≡ min (old.place + (length (old.rest ++ piece) - length new.rest)) (2 ^ 64 - 1)
  pub bad : frames ≡ [] → bad_length new.rest ≡ None

-- a length out of range stands at the front, and stays there
pub record CutRefuses (old : Stream) (piece : List ℕ) (place : ℕ) (n : ℤ) (new : Stream) : Type 0 where
  pub bad : bad_length (old.rest ++ piece) ≡ Some n
  pub at : place ≡ old.place
  pub stays : bad_length new.rest ≡ Some n
  pub stands : new.place ≡ old.place

-- what a call does with a piece; without memory, nothing
abbrev pub CutTakes : Stream → List ℕ → Result (Vec (List ℕ)) CutFault → Stream → Type 0
CutTakes old piece (Ok frames) new = Hands old piece frames.items new
CutTakes old piece (Err (BadLength place n)) new = CutRefuses old piece place n new
CutTakes old piece (Err Memory) new = new ≡ old

-- ---- many calls

-- a call, by the piece that it was given and what it answered
pub record Call : Type 0 where
  pub piece : List ℕ
  pub result : Result (Vec (List ℕ)) CutFault

-- calls one after the other
abbrev pub Calls : Stream → List Call → Stream → Type 0
Calls old [] new = old ≡ new
Calls old (call ∷ calls) new = (next : Stream) × CutTakes old call.piece call.result next × Calls next calls new

abbrev pub taken_by : List ℕ → Result (Vec (List ℕ)) CutFault → List ℕ
taken_by piece (Ok frames) = piece
taken_by piece (Err (BadLength place n)) = piece
taken_by piece (Err Memory) = []

-- the bytes of the stream that a call accounts for, kept or not: its piece, unless memory was refused
abbrev pub taken : Call → List ℕ
taken call = taken_by call.piece call.result

abbrev pub handed_by : Result (Vec (List ℕ)) CutFault → List (List ℕ)
handed_by (Ok frames) = frames.items
handed_by (Err e) = []

-- the frames that a call handed out
abbrev pub handed : Call → List (List ℕ)
handed call = handed_by call.result

abbrev pub all_taken : List Call → List ℕ
all_taken calls = flat_map taken calls

abbrev pub all_handed : List Call → List (List ℕ)
all_handed calls = flat_map handed calls

-- where a cutter stands after a stream of which these frames were handed out: it holds the rest; or the rest begins with a
-- length out of range, and what it holds begins with the same length
pub record CutStands (stream : List ℕ) (frames : List (List ℕ)) (state : Stream) : Type 0 where
  pub rest : List ℕ
  pub framed : Framed stream frames rest
  pub held : (rest ≡ state.rest) ⊎ ((n : ℤ) × (bad_length rest ≡ Some n) × (bad_length state.rest ≡ Some n))
