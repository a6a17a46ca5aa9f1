-- How a gateway serves one connection: each request is read, and answered before the next one is read.
use Rattle.std.specs.Prelude.{◌≡◌, ◌≢◌, ◌⊎◌, ℕ, zero, suc, ◌<◌, ◌≤◌, ℤ, nat_abs, List, ◌++◌, length, codes, Some, Result, Ok, Err}
use Rattle.std.specs.Global.{Vec}
use Rattle.ev_types.specs.declared.answer.Answer.{Answer}
use Rattle.ev_types.specs.declared.ask.Ask.{Ask}
use Rattle.ev_types.specs.declared.route.Route.{Route}
use Rattle.ev_types.specs.declared.route.Route.TheVariants as route
use Rattle.ev_call.specs.Fitting.{Fits}
use Rattle.ev_fields.specs.declared.fault.JsonFault.{JsonFault}
use Rattle.ev_fields.specs.declared.fault.JsonFault.TheVariants as json
use Rattle.ev_json.specs.Asks.{ask_in, watch_in}
use Rattle.ev_json.specs.Bodies.{FaultOf, reads_ask, reads_watch}
use Rattle.ev_json.specs.Messages.{answer_text}
use Rattle.ev_http.specs.declared.fault.HttpFault.{HttpFault}
use Rattle.ev_http.specs.declared.fault.HttpFault.TheVariants as http
use Rattle.ev_http.specs.declared.taking.Tally.{Tally}
use Rattle.ev_http.specs.Messages.{HoldsRequest, ReadsRequestBody, RequestAnswer}
use Rattle.ev_http.specs.Sending.{Sends, response_head}
use Rattle.ev_http.specs.Taking.{Told, Took, failed, fresh}
use Rattle.ev_gateway.specs.Sinks.{Rests}
use Rattle.ev_http.specs.Sinks.{SinkTold}
use Rattle.ev_gateway.specs.Looking.{Leaves, Waits}
use Rattle.ev_gateway.specs.Streaming.{Streams, StreamsOn}
use Rattle.ev_gateway.specs.declared.watching.WatchEnd.{WatchEnd}
use Rattle.ev_gateway.specs.declared.watching.WatchEnd.TheVariants as over
use Rattle.ev_gateway.specs.declared.connection.GatewayEnd.{GatewayEnd}
use Rattle.ev_gateway.specs.declared.connection.GatewayEnd.TheVariants as ends

-- ---- what is answered

-- what a denied ask is answered, and a body that cannot be read
unfoldable pub denied_text : List ℕ
denied_text = codes "{\"error\":\"denied\"}"

unfoldable pub unreadable_text : List ℕ
unreadable_text = codes "{\"error\":\"unreadable\"}"

-- an ask has an answer of its own kind, or is denied
abbrev pub Settles : Ask → ℕ → List ℕ → Type 0
Settles q status text = ((a : Answer) × Fits q a × (status ≡ 200) × (text ≡ answer_text a)) ⊎ ((status ≡ 400) × (text ≡ denied_text))

abbrev pub AnswersAsk : Route → List ℕ → ℕ → List ℕ → Type 0
AnswersAsk to body status text = (q : Ask) × reads_ask to body q × Settles q status text

-- the body is no ask
abbrev pub RefusesAsk : Route → List ℕ → ℕ → List ℕ → Type 0
RefusesAsk to body status text = (f : JsonFault) × FaultOf (ask_in to) body f × (f ≢ json.Memory) × (status ≡ 400) × (text ≡ unreadable_text)

-- the body is no request to watch a key
abbrev pub RefusesWatch : List ℕ → ℕ → List ℕ → Type 0
RefusesWatch body status text = (f : JsonFault) × FaultOf watch_in body f × (f ≢ json.Memory) × (status ≡ 400) × (text ≡ unreadable_text)

abbrev pub Replies : Route → List ℕ → ℕ → List ℕ → Type 0
Replies to body status text = AnswersAsk to body status text ⊎ RefusesAsk to body status text

-- ---- one message

-- The next request was read, or there is a fault. Where the source holds a whole request, it is that one.
pub record Receives (result : Result (Route × Vec ℕ) HttpFault) (source source' : Told) : Type 0 where
  pub bytes : List ℕ
  pub tally : Tally
  pub took : Took bytes (failed result) fresh tally source source'
  pub answer : RequestAnswer result bytes source' tally
  pub whole : (all body rest : List ℕ) (goes : Route) → source.left ≡ Some all → HoldsRequest goes body rest all → length body ≤ 8388608 → ReadsRequestBody result goes body rest source'.left

-- These bytes were written, or a front of them up to a fault of the sink, or nothing, where memory ran out.
abbrev pub Writes : Result (Unit {0}) HttpFault → List ℕ → SinkTold → SinkTold → Type 0
Writes result bytes sink sink' = Sends result bytes sink.taken sink'.taken sink.counts sink'.counts sink.name sink'.name

-- one response was sent
abbrev pub Responds : Result (Unit {0}) HttpFault → ℕ → List ℕ → SinkTold → SinkTold → Type 0
Responds result status text sink sink' = Writes result (response_head status (length text) ++ text) sink sink'

-- an ask is answered by one response
abbrev pub AnswersOnce : Result (Unit {0}) HttpFault → Route → List ℕ → SinkTold → SinkTold → Type 0
AnswersOnce result to body sink sink' = (to ≢ route.Watch) × (status : ℕ) × (text : List ℕ) × Replies to body status text × Responds result status text sink sink'

-- a request to watch a key is answered by a stream of its puts, during which its client waits, or by one response where it cannot be read
abbrev pub AnswersWatch : Result (Unit {0}) HttpFault → Route → List ℕ → Told → Told → SinkTold → SinkTold → Type 0
AnswersWatch result to body source source' sink sink' =
    (to ≡ route.Watch) × (((status : ℕ) × (text : List ℕ) × RefusesWatch body status text × Responds result status text sink sink' × (source' ≡ source))
    ⊎ ((from : ℤ) × (key : List ℕ) × reads_watch body from key × Streams result key (nat_abs from) sink sink' × Waits source source'))

abbrev pub Answers : Result (Unit {0}) HttpFault → Route → List ℕ → Told → Told → SinkTold → SinkTold → Type 0
Answers result to body source source' sink sink' = (AnswersOnce result to body sink sink' × (source' ≡ source)) ⊎ AnswersWatch result to body source source' sink sink'

-- a request to watch a key was answered by the lines of a stream, until the client left
abbrev pub IsLeft : Route → List ℕ → Told → Told → SinkTold → SinkTold → Type 0
IsLeft to body source source' sink sink' = (to ≡ route.Watch) × (from : ℤ) × (key : List ℕ) × reads_watch body from key × StreamsOn key (nat_abs from) sink sink' × Leaves source source'

-- memory ran out, and nothing was sent, or a front of a watch's stream
abbrev pub Starves : Route → List ℕ → Told → Told → SinkTold → SinkTold → Type 0
Starves to body source source' sink sink' =
    (Rests sink sink' × (source' ≡ source))
    ⊎ ((to ≡ route.Watch) × (from : ℤ) × (key : List ℕ) × reads_watch body from key
    × Streams (Err http.Memory) key (nat_abs from) sink sink' × Waits source source')

-- the request is answered, or the answer was not sent, or its client left
abbrev pub AnswersOr : Result (Unit {0}) GatewayEnd → Route → List ℕ → Told → Told → SinkTold → SinkTold → Type 0
AnswersOr (Ok _) to body source source' sink sink' = Answers (Ok tt) to body source source' sink sink'
AnswersOr (Err (ends.Http f)) to body source source' sink sink' = (f ≡ http.WriteFault) × Answers (Err http.WriteFault) to body source source' sink sink'
AnswersOr (Err ends.Memory) to body source source' sink sink' = Starves to body source source' sink sink'
AnswersOr (Err ends.Left) to body source source' sink sink' = IsLeft to body source source' sink sink'
AnswersOr (Err ends.Ended) to body source source' sink sink' = ⊥
AnswersOr (Err ends.Limit) to body source source' sink sink' = ⊥

-- what a fault of a request ends the connection with
abbrev pub IsCutBy : HttpFault → GatewayEnd → Type 0
IsCutBy f ends.Ended = f ≡ http.Ended 0
IsCutBy f ends.Memory = f ≡ http.Memory
IsCutBy f (ends.Http g) = (g ≡ f) × (f ≢ http.Memory) × (f ≢ http.Ended 0)
IsCutBy f ends.Left = ⊥
IsCutBy f ends.Limit = ⊥

-- What one turn came to: a request was read and answered; or the source ended between two messages; or there is a fault of the
-- message that came, which is neither out of memory nor that end, or of the sink; or memory ran out while a request was read, or
-- was answered; or the client left a watch.
abbrev pub Turns : Result (Unit {0}) GatewayEnd → Told → Told → SinkTold → SinkTold → Type 0
Turns (Ok _) source source' sink sink' = (to : Route) × (body : Vec ℕ) × (asked : Told) × Receives (Ok (to, body)) source asked × Answers (Ok tt) to body.items asked source' sink sink'
Turns (Err ends.Ended) source source' sink sink' = Receives (Err (http.Ended 0)) source source' × (sink' ≡ sink)
Turns (Err (ends.Http f)) source source' sink sink' =
    (Receives (Err f) source source' × IsCutBy f (ends.Http f) × (sink' ≡ sink))
    ⊎ ((f ≡ http.WriteFault) × (to : Route) × (body : Vec ℕ) × (asked : Told) × Receives (Ok (to, body)) source asked × Answers (Err http.WriteFault) to body.items asked source' sink sink')
Turns (Err ends.Memory) source source' sink sink' =
    (Receives (Err http.Memory) source source' × (sink' ≡ sink))
    ⊎ ((to : Route) × (body : Vec ℕ) × (asked : Told) × Receives (Ok (to, body)) source asked × Starves to body.items asked source' sink sink')
Turns (Err ends.Left) source source' sink sink' = (to : Route) × (body : Vec ℕ) × (asked : Told) × Receives (Ok (to, body)) source asked × IsLeft to body.items asked source' sink sink'
Turns (Err ends.Limit) source source' sink sink' = ⊥

-- So many requests were read and answered, one after the other.
abbrev pub Serves : ℕ → Told → Told → SinkTold → SinkTold → Type 0
Serves zero source source' sink sink' = (source' ≡ source) × (sink' ≡ sink)
Serves (suc n) source source' sink sink' = (here : Told) × (there : SinkTold) × Serves n source here sink there × Turns (Ok tt) here source' there sink'

-- How a connection ended: after as many messages as the limit allows; or by a turn that ended it.
abbrev pub EndsBy : GatewayEnd → ℕ → Told → Told → SinkTold → SinkTold → Type 0
EndsBy ends.Limit limit source source' sink sink' = Serves limit source source' sink sink'
EndsBy end limit source source' sink sink' = (n : ℕ) × (n < limit) × (here : Told) × (there : SinkTold) × Serves n source here sink there × Turns (Err end) here source' there sink'

-- what a fault of a response ends the connection with
abbrev pub end_of : Result (Unit {0}) HttpFault → Result (Unit {0}) GatewayEnd
end_of (Ok _) = Ok tt
end_of (Err http.Memory) = Err ends.Memory
end_of (Err f) = Err (ends.Http f)

-- a response was sent, or a front of it up to a fault of the sink, or nothing, where memory ran out
abbrev pub RespondsOr : Result (Unit {0}) GatewayEnd → ℕ → List ℕ → SinkTold → SinkTold → Type 0
RespondsOr (Ok _) status text sink sink' = Responds (Ok tt) status text sink sink'
RespondsOr (Err (ends.Http f)) status text sink sink' = (f ≡ http.WriteFault) × Responds (Err http.WriteFault) status text sink sink'
RespondsOr (Err ends.Memory) status text sink sink' = Rests sink sink'
RespondsOr (Err ends.Ended) status text sink sink' = ⊥
RespondsOr (Err ends.Left) status text sink sink' = ⊥
RespondsOr (Err ends.Limit) status text sink sink' = ⊥

-- what the end of a watch ends the connection with
abbrev pub end_of_watch : Result WatchEnd HttpFault → Result (Unit {0}) GatewayEnd
end_of_watch (Ok over.Told) = Ok tt
end_of_watch (Ok over.Left) = Err ends.Left
end_of_watch (Err f) = end_of (Err f)
