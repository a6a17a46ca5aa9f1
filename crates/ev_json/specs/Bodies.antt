-- What a body reads as, and what a fault says of a body that cannot be read.
use Rattle.std.specs.Prelude.{◌≡◌, ℕ, ℤ, ◌==◌, List, [], ◌∷◌, Some, None, Result, Ok, Err, if◌then◌else◌, IsUtf8, true, not, ⊤}
use Rattle.std.specs.List.{list_all}
use Rattle.serde_json.specs.Data.{Data}
use Rattle.serde_json.specs.Read.{read}
use Rattle.ev_types.specs.declared.answer.Answer.{Answer}
use Rattle.ev_types.specs.declared.ask.Ask.{Ask}
use Rattle.ev_types.specs.declared.ask.Ask.TheVariants as ask
use Rattle.ev_types.specs.declared.route.Route.{Route}
use Rattle.ev_fields.specs.declared.field.Field.{Field}
use Rattle.ev_fields.specs.declared.fault.JsonFault.{JsonFault}
use Rattle.ev_fields.specs.declared.fault.JsonFault.TheVariants as fault
use Rattle.ev_json.specs.declared.line.Line.{Line}
use Rattle.ev_json.specs.Asks.{ask_in, watch_in}
use Rattle.ev_json.specs.Answers.{answer_in, line_in}

-- the body is UTF-8 and JSON (RFC 8259, nested at most 127 deep), and its value reads as x
unfoldable pub ReadsAs : {A : Type 0} → (Data → Result A Field) → List ℕ → A → Type 0
ReadsAs reading body x = IsUtf8 body × (d : Data) × (read body ≡ Some d) × (reading d ≡ Ok x)

-- what each fault says: that memory ran out; that the body is not UTF-8 or not JSON; that it is both, and the reading of its value
-- names this member
unfoldable pub FaultOf : {A : Type 0} → (Data → Result A Field) → List ℕ → JsonFault → Type 0
FaultOf reading body fault.Memory = ⊤
FaultOf reading body fault.NotJson = IsUtf8 body → read body ≡ None
FaultOf reading body (fault.Unreadable f) = IsUtf8 body × (d : Data) × (read body ≡ Some d) × (reading d ≡ Err f)

-- ---- messages

abbrev pub reads_ask : Route → List ℕ → Ask → Type 0
reads_ask route body asked = ReadsAs (ask_in route) body asked

abbrev pub reads_watch : List ℕ → ℤ → List ℕ → Type 0
reads_watch body from key = ReadsAs watch_in body (from, key)

abbrev pub reads_line : List ℕ → Line → Type 0
reads_line bytes said = ReadsAs line_in bytes said

-- the bytes before the first line feed, or all
unfoldable pub first_line : List ℕ → List ℕ
first_line [] = []
first_line (b ∷ bs) = if b == 10 then [] else b ∷ first_line bs

-- the bytes have no line feed
abbrev pub IsOneLine : List ℕ → Type 0
IsOneLine bytes = list_all (λ b. not (b == 10)) bytes ≡ true

-- the answer to a keepalive is the first line of a stream
unfoldable pub message_body : Ask → List ℕ → List ℕ
message_body (ask.Txn t) body = body
message_body (ask.Range r) body = body
message_body (ask.Grant id ttl) body = body
message_body (ask.Alive id) body = first_line body

-- the body reads as this answer to the ask
abbrev pub reads : Ask → List ℕ → Answer → Type 0
reads asked body answered = ReadsAs (answer_in asked) (message_body asked body) answered
