-- For clauses: what a fault of the parser says.
use Rattle.std.specs.Prelude.{◌≡◌, ℕ, List, None, IsUtf8, ⊤}
use Rattle.serde_json.specs.Read.{read}
use Rattle.ev_fields.specs.declared.fault.JsonFault.{JsonFault}
use Rattle.ev_fields.specs.declared.fault.JsonFault.TheVariants as fault
use Rattle.json.specs.declared.error.Error.{Error}
use Rattle.json.specs.declared.error.Error.TheVariants as error

-- that memory ran out, or that the body is not UTF-8 or not JSON
abbrev pub IsUnparsed : List ℕ → JsonFault → Type 0
IsUnparsed body fault.Memory = ⊤
IsUnparsed body fault.NotJson = IsUtf8 body → read body ≡ None
IsUnparsed body (fault.Unreadable f) = ⊥

-- the fault that an error of the parser is
abbrev pub fault_of : Error → JsonFault
fault_of error.Invalid = fault.NotJson
fault_of error.DuplicateKey = fault.NotJson
fault_of error.OutOfMemory = fault.Memory
fault_of error.TooLong = fault.Memory
