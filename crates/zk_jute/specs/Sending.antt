-- The packets of requests, as clients write them.
use Rattle.std.specs.Prelude.{ℕ, ℤ, pos, Bool, true, false, List, [], ◌∷◌, ◌++◌}
use Rattle.std.specs.List.{flat_map}
use Rattle.zk_model.specs.Codes.{minus}
use Rattle.zk_model.specs.declared.request.Part.{Part}
use Rattle.zk_model.specs.declared.request.Request.{Request}
use Rattle.zk_model.specs.declared.request.Request.TheVariants as requests
use Rattle.zk_jute.specs.JuteValues.{Value, int, boolean}
use Rattle.zk_jute.specs.JuteWriting.{written, with_length, FitsLength}
use Rattle.zk_jute.specs.Numbers.{opcode_number, opcode_of, part_number, part_kind}
use Rattle.zk_jute.specs.Records.{values_of, part_values}

-- a MultiHeader, with the error -1
abbrev pub header_values : ℤ → Bool → List Value
header_values type last = int type ∷ boolean last ∷ int (minus 1) ∷ []

-- a part: its header, and its fields
abbrev pub whole_part : Part → List Value
whole_part part = header_values (part_number (part_kind part)) false ++ part_values part

-- the parts, and then the last header, of type -1
abbrev pub multi_values : List Part → List Value
multi_values ps = flat_map whole_part ps ++ header_values (minus 1) true

-- the body of a request
abbrev pub asked_values : Request → List Value
asked_values (requests.Multi ps) = multi_values ps
asked_values request = values_of request

-- the RequestHeader, which is the xid and the type, and the body
abbrev pub request_values : ℤ → Request → List Value
request_values xid request = int xid ∷ int (opcode_number (opcode_of request)) ∷ asked_values request

-- the frame
abbrev pub request_bytes : ℤ → Request → List ℕ
request_bytes xid request = written (request_values xid request)

unfoldable pub request_packet : ℤ → Request → List ℕ
request_packet xid request = with_length (request_bytes xid request)

-- the length of a request's frame fits its int. It is the same whatever the xid
abbrev pub RequestCanBeSent : Request → Type 0
RequestCanBeSent request = FitsLength (request_bytes (pos 0) request)
