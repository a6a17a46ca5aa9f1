-- The results of a multi's parts (zookeeper.jute, `MultiHeader`, `ErrorResponse`).
use Rattle.std.specs.Prelude.{ℕ, ℤ, pos, Bool, true, false, ◌&&◌, Option, Some, None, List, [], ◌∷◌, ◌++◌, length, Ok, Err, if◌then◌else◌}
use Rattle.std.specs.Ordering.{int_eq}
use Rattle.zk_model.specs.Codes.{minus}
use Rattle.zk_model.specs.declared.reply.PartResult.{PartResult}
use Rattle.zk_model.specs.declared.reply.PartResult.TheVariants as results
use Rattle.zk_jute.specs.declared.opcode.PartKind.{PartKind}
use Rattle.zk_jute.specs.declared.opcode.PartKind.TheVariants as kinds
use Rattle.zk_jute.specs.JuteValues.{Value, int, boolean, ustring, Kind, a_ustring}
use Rattle.zk_jute.specs.JuteReading.{Read, ◌>>=◌, int_at, boolean_at, values_at}
use Rattle.zk_jute.specs.Numbers.{part_number, part_numbered}
use Rattle.zk_jute.specs.Records.{stat_fields, stat_values}
use Rattle.zk_jute.specs.FromValues.{result_from}

-- ---- what a result says: a header, and what the part gave or the code of its refusal

-- the kinds of the fields of a result that is no code
abbrev pub result_fields : PartKind → List Kind
result_fields kinds.Create = a_ustring ∷ []
result_fields kinds.Delete = []
result_fields kinds.SetData = stat_fields
result_fields kinds.Check = []

-- a MultiHeader
abbrev pub result_header : ℤ → Bool → ℤ → List Value
result_header type last err = int type ∷ boolean last ∷ int err ∷ []

-- a result that is no code: a header with the error 0, and its fields
abbrev pub good_result : PartKind → List Value → List Value
good_result kind values = result_header (part_number kind) false (pos 0) ++ values

abbrev pub result_values : PartResult → List Value
result_values (results.Created path) = good_result kinds.Create (ustring path ∷ [])
result_values results.Deleted = good_result kinds.Delete []
result_values (results.Set stat) = good_result kinds.SetData (stat_values stat)
result_values results.Checked = good_result kinds.Check []
result_values (results.Code code) = result_header (minus 1) false code ++ int code ∷ []

-- the last header
abbrev pub last_result : List Value
last_result = result_header (minus 1) true (minus 1)

-- ---- reading

-- what a header begins: nothing, since it is the last; the result of a part of this kind; a code; or none of these, a fault
pub data Form : Type 0 where
  last : Form
  good : PartKind → Form
  refused : Form
  none : Form

abbrev pub form_of_kind : Option PartKind → Form
form_of_kind None = none
form_of_kind (Some kind) = good kind

-- by a header's type, whether it is the last, and its error
abbrev pub form_of : ℤ → Bool → ℤ → Form
form_of type true err = if int_eq type (minus 1) && int_eq err (minus 1) then last else none
form_of type false err = if int_eq type (minus 1) then refused else (if int_eq err (pos 0) then form_of_kind (part_numbered type) else none)

-- the code after a header is the header's error again; where the two differ, the whole header is at fault
abbrev pub code_at : ℕ → ℤ → List ℕ → Read (Option PartResult)
code_at left err bytes = int_at bytes >>= λ code. if int_eq code.0 err then Ok (Some (results.Code code.0), code.1) else Err left

-- the fields of a result that is no code
abbrev pub good_at : PartKind → List ℕ → Read (Option PartResult)
good_at kind bytes = values_at (result_fields kind) bytes >>= λ x. Ok (Some (result_from kind x.0), x.1)

abbrev pub result_after : ℕ → ℤ → Form → List ℕ → Read (Option PartResult)
result_after left err last bytes = Ok (None, bytes)
result_after left err (good kind) bytes = good_at kind bytes
result_after left err refused bytes = code_at left err bytes
result_after left err none bytes = Err left

-- the next result, or none at the last header. A header of no form is at fault as a whole.
abbrev pub result_at : List ℕ → Read (Option PartResult)
result_at bytes =
    int_at bytes >>= λ type. boolean_at type.1 >>= λ is_last. int_at is_last.1 >>= λ err. result_after (length bytes) err.0 (form_of type.0 is_last.0 err.0) err.1
