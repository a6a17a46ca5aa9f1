-- The bytes of a frame in its stream.
use Rattle.std.specs.Prelude.{ℕ, ◌+◌, List, length}

-- how many bytes a frame takes there, with its length before it
abbrev pub framed_size : List ℕ → ℕ
framed_size frame = 4 + length frame
