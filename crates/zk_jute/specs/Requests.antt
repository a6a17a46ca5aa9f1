-- Reading requests: what a frame is read as.
use Rattle.std.specs.Prelude.{ℕ, ◌-◌, ℤ, Bool, true, false, Option, Some, None, List, length, drop, Result, Ok, Err, nat_lt, if◌then◌else◌}
use Rattle.zk_jute.specs.declared.opcode.Opcode.{Opcode}
use Rattle.zk_jute.specs.declared.opcode.Opcode.TheVariants as opcodes
use Rattle.zk_jute.specs.declared.opcode.PartKind.{PartKind}
use Rattle.zk_model.specs.declared.request.Part.{Part}
use Rattle.zk_model.specs.declared.request.Request.{Request}
use Rattle.zk_model.specs.declared.request.Request.TheVariants as requests
use Rattle.zk_jute.specs.JuteReading.{Read, ◌>>=◌, front_int, int_at, boolean_at, values_at, all_until_last, ended}
use Rattle.zk_jute.specs.Numbers.{part_numbered, opcode_numbered}
use Rattle.zk_jute.specs.Records.{fields_of, part_fields}
use Rattle.zk_jute.specs.FromValues.{request_from, part_from}

-- ---- the parts of a multi

-- the kind, or a fault where there is none
abbrev pub listed_part : ℕ → Option PartKind → Result (Option PartKind) ℕ
listed_part left None = Err left
listed_part left (Some kind) = Ok (Some kind)

-- which part a header begins, and none at the last header. An unlisted type is a fault of the whole header, from whose first
-- byte on `left` bytes are left
abbrev pub part_begun : ℕ → ℤ → Bool → Result (Option PartKind) ℕ
part_begun left type true = Ok None
part_begun left type false = listed_part left (part_numbered type)

-- a MultiHeader. Its error may be any int, and so may the type of the last one
abbrev pub header_at : List ℕ → Read (Option PartKind)
header_at bytes =
    int_at bytes >>= λ type. boolean_at type.1 >>= λ last. part_begun (length bytes) type.0 last.0 >>= λ part. int_at last.1 >>= λ err. Ok (part, err.1)

-- the fields of the part that a header begins
abbrev pub part_after : Option PartKind → List ℕ → Read (Option Part)
part_after None bytes = Ok (None, bytes)
part_after (Some kind) bytes = values_at (part_fields kind) bytes >>= λ x. Ok (Some (part_from kind x.0), x.1)

-- the next part, or none at the last header
abbrev pub part_at : List ℕ → Read (Option Part)
part_at bytes = header_at bytes >>= λ begun. part_after begun.0 begun.1

-- ---- bodies

-- the fields of a request that is no multi
abbrev pub plain_at : Opcode → List ℕ → Read Request
plain_at code bytes = values_at (fields_of code) bytes >>= λ x. Ok (request_from code x.0, x.1)

-- a body of this kind, and the bytes after it
abbrev pub body_at : Opcode → List ℕ → Read Request
body_at opcodes.Multi bytes = all_until_last part_at bytes >>= λ x. Ok (requests.Multi x.0, x.1)
body_at code bytes = plain_at code bytes

-- a body of this kind, and nothing after it
abbrev pub whole_at : Opcode → List ℕ → Read Request
whole_at code bytes = body_at code bytes >>= ended

-- ---- a frame

-- what a frame is read as: too short for a header; a body that can't be read, with the place of the first byte that is to
-- blame; a type that isn't listed; or a request
pub data Frame : Type 0 where
  NoHeader : Frame
  Unreadable : (xid : ℤ) (place : ℕ) → Frame
  Unknown : (xid kind : ℤ) → Frame
  Asks : (xid : ℤ) (asked : Request) → Frame

-- a fault's place in the frame, by how many bytes are left from it on
abbrev pub asked_as : ℤ → ℕ → Read Request → Frame
asked_as xid size (Ok x) = Asks xid x.0
asked_as xid size (Err left) = Unreadable xid (size - left)

abbrev pub frame_of_kind : ℤ → ℤ → ℕ → List ℕ → Option Opcode → Frame
frame_of_kind xid kind size body None = Unknown xid kind
frame_of_kind xid kind size body (Some code) = asked_as xid size (whole_at code body)

-- RequestHeader, eight bytes, and a body to the frame's end
unfoldable pub read_request : List ℕ → Frame
read_request frame =
    if nat_lt (length frame) 8 then NoHeader
    else frame_of_kind (front_int frame) (front_int (drop 4 frame)) (length frame) (drop 8 frame) (opcode_numbered (front_int (drop 4 frame)))
