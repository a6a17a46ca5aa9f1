-- One ask over HTTP: what goes out, what comes in, and how a link stands after it.
use Rattle.std.specs.Prelude.{◌≡◌, ◌⊎◌, ℕ, ◌≤◌, ◌++◌, Bool, true, false, List, length, Option, Some, None, Result, Ok, Err, if◌then◌else◌}
use Rattle.std.specs.Global.{Vec}
use Rattle.ev_types.specs.declared.answer.Answer.{Answer}
use Rattle.ev_types.specs.declared.ask.Ask.{Ask}
use Rattle.ev_fields.specs.declared.fault.JsonFault.TheVariants as json
use Rattle.ev_json.specs.Answers.{answer_in}
use Rattle.ev_json.specs.Bodies.{FaultOf, message_body, reads}
use Rattle.ev_json.specs.Messages.{ask_text, route_of}
use Rattle.ev_http.specs.declared.fault.HttpFault.{HttpFault}
use Rattle.ev_http.specs.declared.fault.HttpFault.TheVariants as http
use Rattle.ev_http.specs.declared.taking.Tally.{Tally}
use Rattle.ev_http.specs.Body.{ReadsBody}
use Rattle.ev_http.specs.Messages.{HoldsResponse, ResponseAnswer}
use Rattle.ev_http.specs.Sending.{Sends, request_head}
use Rattle.ev_http.specs.Sinks.{SinkTold}
use Rattle.ev_http.specs.Taking.{Told, Took, failed, fresh}
use Rattle.ev_call.specs.declared.etcd.CallFault.{CallFault}
use Rattle.ev_call.specs.declared.etcd.CallFault.TheVariants as fault
use Rattle.ev_link.specs.declared.failure.LinkFailure.{LinkFailure}
use Rattle.ev_link.specs.declared.failure.LinkFailure.TheVariants as failure
use Rattle.ev_link.specs.declared.http_link.State.{State}
use Rattle.ev_link.specs.declared.http_link.State.TheVariants as state

-- ---- one exchange

-- The text of the ask was sent as the body of one request, or a front of that request up to a fault of the sink, or nothing, as
-- memory ran out.
abbrev pub SendsAsk : Result (Unit {0}) HttpFault → List ℕ → Ask → SinkTold → SinkTold → Type 0
SendsAsk result host q sink sink' =
    Sends result (request_head host (route_of q) (length (ask_text q)) ++ ask_text q) sink.taken sink'.taken sink.counts sink'.counts sink.name sink'.name

-- The next response was read, or there is a fault. Where the source holds a whole response, it is that one.
pub record Receives (result : Result (Vec ℕ) HttpFault) (source source' : Told) : Type 0 where
  pub bytes : List ℕ
  pub tally : Tally
  pub took : Took bytes (failed result) fresh tally source source'
  pub answer : ResponseAnswer result bytes source' tally
  pub whole : (all body rest : List ℕ) → source.left ≡ Some all → HoldsResponse body rest all → length body ≤ 8388608 → ReadsBody result body rest source'.left

-- The ask was sent, and the next response has a body that reads as its answer; or why not: sending it failed, and then nothing was
-- read; or reading the response failed; or its body is no answer to this ask.
abbrev pub Exchanges : Result Answer LinkFailure → List ℕ → Ask → Told → Told → SinkTold → SinkTold → Type 0
Exchanges (Ok a) host q source source' sink sink' = SendsAsk (Ok tt) host q sink sink' × (body : Vec ℕ) × Receives (Ok body) source source' × reads q body.items a
Exchanges (Err (failure.Json e)) host q source source' sink sink' = SendsAsk (Ok tt) host q sink sink' × (body : Vec ℕ)
    × Receives (Ok body) source source' × FaultOf (answer_in q) (message_body q body.items) e
Exchanges (Err (failure.Http e)) host q source source' sink sink' =
    (SendsAsk (Err e) host q sink sink' × (source' ≡ source)) ⊎ (SendsAsk (Ok tt) host q sink sink' × Receives (Err e) source source')

-- ---- the state of a link

-- Whether a failure is out of memory.
abbrev pub is_memory : LinkFailure → Bool
is_memory (failure.Http http.Memory) = true
is_memory (failure.Http http.Head) = false
is_memory (failure.Http (http.Status n)) = false
is_memory (failure.Http http.Route) = false
is_memory (failure.Http (http.Body place)) = false
is_memory (failure.Http (http.TooLong n)) = false
is_memory (failure.Http (http.Ended n)) = false
is_memory (failure.Http http.Idle) = false
is_memory (failure.Http http.ReadFault) = false
is_memory (failure.Http http.WriteFault) = false
is_memory (failure.Json json.Memory) = true
is_memory (failure.Json json.NotJson) = false
is_memory (failure.Json (json.Unreadable f)) = false

-- What an exchange is answered as.
abbrev pub answer_of : Result Answer LinkFailure → Result Answer CallFault
answer_of (Ok a) = Ok a
answer_of (Err f) = if is_memory f then Err fault.Memory else Err fault.Failed

-- How a link stands after an exchange: open, or failed or out of memory for good.
abbrev pub state_after : Result Answer LinkFailure → State
state_after (Ok a) = state.Open
state_after (Err f) = if is_memory f then state.Starved else state.Failed f

-- The failure that is kept.
abbrev pub failure_in : State → Option LinkFailure
failure_in state.Open = None
failure_in (state.Failed f) = Some f
failure_in state.Starved = None

-- What a call came to, by how the link stood before it: an exchange over an open link; and otherwise the same answer as before, with
-- nothing sent and nothing read.
abbrev pub Calls : State → State → Result Answer CallFault → List ℕ → Ask → Told → Told → SinkTold → SinkTold → Type 0
Calls state.Open after result host q source source' sink sink' =
    (came : Result Answer LinkFailure) × Exchanges came host q source source' sink sink' × (result ≡ answer_of came) × (after ≡ state_after came)
Calls (state.Failed f) after result host q source source' sink sink' = (result ≡ Err fault.Failed) × (after ≡ state.Failed f) × (source' ≡ source) × (sink' ≡ sink)
Calls state.Starved after result host q source source' sink sink' = (result ≡ Err fault.Memory) × (after ≡ state.Starved) × (source' ≡ source) × (sink' ≡ sink)
