-- How faults of messages end a connection.
use Rattle.std.proofs.Common.{◌≡◌, ◌≢◌, inl, inr, ℕ, ◌+◌, ◌<◌, List, add-one, refl, sym, subst}
use Rattle.std.specs.Prelude.{ℤ, nat_abs, Result, Ok, Err}
use Rattle.std.specs.Global.{Vec}
use Rattle.ev_types.specs.declared.route.Route.{Route}
use Rattle.ev_types.specs.declared.route.Route.TheVariants as route
use Rattle.ev_fields.specs.declared.fault.JsonFault.{JsonFault}
use Rattle.ev_fields.specs.declared.fault.JsonFault.TheVariants as json
use Rattle.ev_json.specs.Asks.{watch_in}
use Rattle.ev_json.specs.Bodies.{FaultOf, reads_watch}
use Rattle.ev_http.specs.declared.fault.HttpFault.{HttpFault}
use Rattle.ev_http.specs.declared.fault.HttpFault.TheVariants as http
use Rattle.ev_http.specs.Taking.{Told}
use Rattle.ev_gateway.specs.declared.connection.GatewayEnd.{GatewayEnd}
use Rattle.ev_gateway.specs.declared.connection.GatewayEnd.TheVariants as ends
use Rattle.ev_gateway.specs.Serving.{AnswersOr, EndsBy, IsCutBy, Receives, Replies, Responds, RespondsOr, Serves, Turns, end_of, end_of_watch, unreadable_text}
use Rattle.ev_gateway.specs.Sinks.{Rests}
use Rattle.ev_http.specs.Sinks.{SinkTold}
use Rattle.ev_gateway.specs.Streaming.{Watches}
use Rattle.ev_gateway.specs.declared.watching.WatchEnd.{WatchEnd}
use Rattle.ev_gateway.specs.declared.watching.WatchEnd.TheVariants as over

response : (sent : Result (Unit {0}) HttpFault) (status : ℕ) (text : List ℕ) (k k' : SinkTold) → Responds sent status text k k' → RespondsOr (end_of sent) status text k k'
response (Ok u) status text k k' h = h
response (Err http.Memory) status text k k' h = h
response (Err http.WriteFault) status text k k' h = (refl, h)
response (Err http.Head) status text k k' h = absurd h
response (Err (http.Status n)) status text k k' h = absurd h
response (Err http.Route) status text k k' h = absurd h
response (Err (http.Body place)) status text k k' h = absurd h
response (Err (http.TooLong n)) status text k k' h = absurd h
response (Err (http.Ended n)) status text k k' h = absurd h
response (Err http.Idle) status text k k' h = absurd h
response (Err http.ReadFault) status text k k' h = absurd h

pub responds : (r : Result (Unit {0}) GatewayEnd) (sent : Result (Unit {0}) HttpFault) (status : ℕ) (text : List ℕ) (k k' : SinkTold) → r ≡ end_of sent → Responds sent status text k k' → RespondsOr r status text k k'
responds r sent status text k k' e h = subst (λ (x : Result (Unit {0}) GatewayEnd). RespondsOr x status text k k') (sym e) (response sent status text k k' h)

stream : (end : Result WatchEnd HttpFault) (to : Route) (body : List ℕ) (from : ℤ) (key : List ℕ) (s s' : Told) (k k' : SinkTold) → to ≡ route.Watch → reads_watch body from key
    → Watches end key (nat_abs from) s s' k k' → AnswersOr (end_of_watch end) to body s s' k k'
stream (Ok over.Told) to body from key s s' k k' is reading h = inr (is, inr (from, key, reading, h.0, h.1))
stream (Ok over.Left) to body from key s s' k k' is reading h = (is, from, key, reading, h.0, h.1)
stream (Err http.Memory) to body from key s s' k k' is reading h = inr (is, from, key, reading, h.0, h.1)
stream (Err http.WriteFault) to body from key s s' k k' is reading h = (refl, inr (is, inr (from, key, reading, h.0, h.1)))
stream (Err http.Head) to body from key s s' k k' is reading h = absurd h.0.wrote
stream (Err (http.Status n)) to body from key s s' k k' is reading h = absurd h.0.wrote
stream (Err http.Route) to body from key s s' k k' is reading h = absurd h.0.wrote
stream (Err (http.Body place)) to body from key s s' k k' is reading h = absurd h.0.wrote
stream (Err (http.TooLong n)) to body from key s s' k k' is reading h = absurd h.0.wrote
stream (Err (http.Ended n)) to body from key s s' k k' is reading h = absurd h.0.wrote
stream (Err http.Idle) to body from key s s' k k' is reading h = absurd h.0.wrote
stream (Err http.ReadFault) to body from key s s' k k' is reading h = absurd h.0.wrote

pub watched : (r : Result (Unit {0}) GatewayEnd) (end : Result WatchEnd HttpFault) (to : Route) (body : List ℕ) (from : ℤ) (key : List ℕ) (s s' : Told) (k k' : SinkTold) → r ≡ end_of_watch end → to ≡ route.Watch
    → reads_watch body from key → Watches end key (nat_abs from) s s' k k' → AnswersOr r to body s s' k k'
watched r end to body from key s s' k k' e is reading h = subst (λ (x : Result (Unit {0}) GatewayEnd). AnswersOr x to body s s' k k') (sym e) (stream end to body from key s s' k k' is reading h)

-- nothing was sent
pub unsent : (to : Route) (body : List ℕ) (s : Told) (k k' : SinkTold) → Rests k k' → AnswersOr (Err ends.Memory) to body s s k k'
unsent to body s k k' h = inl (h, refl)

pub refused : (r : Result (Unit {0}) GatewayEnd) (to : Route) (body : List ℕ) (f : JsonFault) (s : Told) (k k' : SinkTold) → to ≡ route.Watch → FaultOf watch_in body f → f ≢ json.Memory → RespondsOr r 400 unreadable_text k k' → AnswersOr r to body s s k k'
refused (Ok u) to body f s k k' is fault other h = inr (is, inl (400, unreadable_text, (f, fault, other, refl, refl), h, refl))
refused (Err (ends.Http g)) to body f s k k' is fault other h = (h.0, inr (is, inl (400, unreadable_text, (f, fault, other, refl, refl), h.1, refl)))
refused (Err ends.Memory) to body f s k k' is fault other h = inl (h, refl)
refused (Err ends.Ended) to body f s k k' is fault other h = absurd h
refused (Err ends.Left) to body f s k k' is fault other h = absurd h
refused (Err ends.Limit) to body f s k k' is fault other h = absurd h

pub asked : (r : Result (Unit {0}) GatewayEnd) (to : Route) (body : List ℕ) (status : ℕ) (text : List ℕ) (s : Told) (k k' : SinkTold) → to ≢ route.Watch → Replies to body status text → RespondsOr r status text k k' → AnswersOr r to body s s k k'
asked (Ok u) to body status text s k k' other reply h = inl ((other, status, text, reply, h), refl)
asked (Err (ends.Http g)) to body status text s k k' other reply h = (h.0, inl ((other, status, text, reply, h.1), refl))
asked (Err ends.Memory) to body status text s k k' other reply h = inl (h, refl)
asked (Err ends.Ended) to body status text s k k' other reply h = absurd h
asked (Err ends.Left) to body status text s k k' other reply h = absurd h
asked (Err ends.Limit) to body status text s k k' other reply h = absurd h

pub turned : (r : Result (Unit {0}) GatewayEnd) (to : Route) (body : Vec ℕ) (s m s' : Told) (k k' : SinkTold) → Receives (Ok (to, body)) s m → AnswersOr r to body.items m s' k k' → Turns r s s' k k'
turned (Ok u) to body s m s' k k' came h = (to, body, m, came, h)
turned (Err (ends.Http g)) to body s m s' k k' came h = inr (h.0, to, body, m, came, h.1)
turned (Err ends.Memory) to body s m s' k k' came h = inr (to, body, m, came, h)
turned (Err ends.Left) to body s m s' k k' came h = (to, body, m, came, h)
turned (Err ends.Ended) to body s m s' k k' came h = absurd h
turned (Err ends.Limit) to body s m s' k k' came h = absurd h

pub cut : (f : HttpFault) (end : GatewayEnd) (s s' : Told) (k k' : SinkTold) → IsCutBy f end → Receives (Err f) s s' → k' ≡ k → Turns (Err end) s s' k k'
cut f ends.Ended s s' k k' is came same = (subst (λ (x : HttpFault). Receives (Err x) s s') is came, same)
cut f (ends.Http g) s s' k k' is came same = inl (subst (λ (x : HttpFault). Receives (Err x) s s') (sym is.0) came, subst (λ (x : HttpFault). IsCutBy x (ends.Http x)) (sym is.0) (refl, is.1, is.2), same)
cut f ends.Memory s s' k k' is came same = inl (subst (λ (x : HttpFault). Receives (Err x) s s') is came, same)
cut f ends.Left s s' k k' is came same = absurd is
cut f ends.Limit s s' k k' is came same = absurd is

pub ended : (end : GatewayEnd) (limit n : ℕ) (s here s' : Told) (k there k' : SinkTold) → n < limit → Serves n s here k there → Turns (Err end) here s' there k' → EndsBy end limit s s' k k'
ended ends.Limit limit n s here s' k there k' lt so_far h = absurd h
ended ends.Ended limit n s here s' k there k' lt so_far h = (n, lt, here, there, so_far, h)
ended (ends.Http f) limit n s here s' k there k' lt so_far h = (n, lt, here, there, so_far, h)
ended ends.Memory limit n s here s' k there k' lt so_far h = (n, lt, here, there, so_far, h)
ended ends.Left limit n s here s' k there k' lt so_far h = (n, lt, here, there, so_far, h)

pub served_more : (n : ℕ) (s here s' : Told) (k there k' : SinkTold) → Serves n s here k there → Turns (Ok tt) here s' there k' → Serves (n + 1) s s' k k'
served_more n s here s' k there k' so_far h = rw add-one (here, there, so_far, h)
