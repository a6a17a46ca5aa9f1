-- A stream as frames: each is a length of four bytes, and that many bytes.
use Rattle.std.specs.Prelude.{◌≡◌, ℕ, ◌≤◌, ℤ, pos, negsuc, Option, Some, None, List, ◌++◌, length, take, drop, Ok, Err, nat_lt, if◌then◌else◌}
use Rattle.zk_jute.specs.JuteValues.{IsInt, Spelled}
use Rattle.zk_jute.specs.JuteReading.{Read, ◌>>=◌, int_at}
use Rattle.zk_model.specs.Limits.{max_frame}

-- a whole frame of at most 1,048,575 bytes, after its length
abbrev pub IsFrame : List ℕ → List ℕ → Type 0
IsFrame frame bytes = (front : List ℕ) × IsInt (pos (length frame)) front × (length frame ≤ max_frame) × (bytes ≡ front ++ frame)

-- the bytes do not begin with a whole frame: they are fewer, or begin with a length out of range
abbrev pub IsRest : List ℕ → Type 0
IsRest rest = (frame front after : List ℕ) → IsFrame frame front → rest ≡ front ++ after → ⊥

-- the whole frames from the front, and the rest
abbrev pub Framed : List ℕ → List (List ℕ) → List ℕ → Type 0
Framed bytes frames rest = (front : List ℕ) × Spelled IsFrame frames front × (bytes ≡ front ++ rest) × IsRest rest

-- a length, where it is below 0 or above the limit
abbrev pub out_of_range : ℤ → Option ℤ
out_of_range (pos n) = if nat_lt max_frame n then Some (pos n) else None
out_of_range (negsuc n) = Some (negsuc n)

abbrev pub out_of_range_in : Read ℤ → Option ℤ
out_of_range_in (Ok n) = out_of_range n.0
out_of_range_in (Err left) = None

-- the length at the front, where it is out of range
abbrev pub bad_length : List ℕ → Option ℤ
bad_length bytes = out_of_range_in (int_at bytes)

-- as many bytes as the length says, and the bytes after them
abbrev pub frame_of : ℕ → ℤ → List ℕ → Read (List ℕ)
frame_of left (pos n) rest = if nat_lt max_frame n then Err left else (if nat_lt (length rest) n then Err left else Ok (take n rest, drop n rest))
frame_of left (negsuc n) rest = Err left

-- the frame at the front, and the bytes after it
abbrev pub frame_at : List ℕ → Read (List ℕ)
frame_at bytes = int_at bytes >>= λ n. frame_of (length bytes) n.0 n.1
