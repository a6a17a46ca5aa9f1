-- A response whose body comes in chunks (RFC 9112, section 7.1).
use Rattle.std.specs.Prelude.{ℕ, ◌<◌, ◌^◌, false, List, ◌++◌, length, codes}
use Rattle.std.specs.Fmt.{digits}

-- the head of one with status 200
unfoldable pub stream_head : List ℕ
stream_head = codes "HTTP/1.1 200 OK\r\ncontent-type: application/json\r\ntransfer-encoding: chunked\r\n\r\n"

-- the line before a chunk of so many bytes: their number in hexadecimal digits
unfoldable pub chunk_line : ℕ → List ℕ
chunk_line n = digits 16 false n ++ codes "\r\n"

abbrev pub chunk : List ℕ → List ℕ
chunk bytes = (chunk_line (length bytes) ++ bytes) ++ codes "\r\n"

-- the chunk without bytes, and no trailer field
unfoldable pub last_chunk : List ℕ
last_chunk = codes "0\r\n\r\n"

-- what a chunk can carry: a byte or more, and no more than 64 bits count
abbrev pub IsPiece : List ℕ → Type 0
IsPiece piece = (0 < length piece) × (length piece < 2 ^ 64)
