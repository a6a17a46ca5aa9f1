-- Requests and responses of the gateway: what their heads say, and the bodies that they carry (RFC 9112; etcd API reference, "gRPC gateway").
use Rattle.std.specs.Prelude.{◌≡◌, ◌≢◌, ℕ, ◌≤◌, ◌⊎◌, List, ◌++◌, length, Bool, true, false, Option, Some, None, Result, Ok, Err, codes, bytes_eq}
use Rattle.httparse.specs.Grammar.{RequestHead, IsRequestHead, print_request, ResponseHead, IsResponseHead, print_response, status_code}
use Rattle.httparse.specs.Spans.{IsResponseAt, IsRequestAt}
use Rattle.httparse.specs.declared.spans.HeaderSpan.{HeaderSpan}
use Rattle.httparse.specs.declared.spans.ResponseSpans.{ResponseSpans}
use Rattle.httparse.specs.declared.spans.RequestSpans.{RequestSpans}
use Rattle.ev_types.specs.declared.route.Route.{Route}
use Rattle.ev_types.specs.declared.route.Route.TheVariants as route
use Rattle.ev_http.specs.declared.fault.HttpFault.{HttpFault}
use Rattle.ev_http.specs.declared.fault.HttpFault.TheVariants as fault
use Rattle.ev_http.specs.declared.framing.Framing.{Framing}
use Rattle.ev_http.specs.declared.framing.Framing.TheVariants as framing
use Rattle.ev_http.specs.declared.head.Kind.TheVariants as kind
use Rattle.std.specs.Global.{Vec}
use Rattle.ev_http.specs.declared.taking.Tally.{Tally}
use Rattle.ev_http.specs.Taking.{Told}
use Rattle.ev_http.specs.Heads.{StopsInHead}
use Rattle.ev_http.specs.Framing.{framing_of, StandsAt}
use Rattle.ev_http.specs.Body.{Framed, BodyAnswer, LastsTo, ReadsBody}

-- The path of a route.
unfoldable pub path_of : Route → List ℕ
path_of route.Txn = codes "/v3/kv/txn"
path_of route.Range = codes "/v3/kv/range"
path_of route.Grant = codes "/v3/lease/grant"
path_of route.Alive = codes "/v3/lease/keepalive"
path_of route.Watch = codes "/v3/watch"

-- The route that the target is the path of.
abbrev pub Routed : Option Route → List ℕ → Type 0
Routed (Some r) target = target ≡ path_of r
Routed None target = (r : Route) → target ≢ path_of r

-- Whether the method is POST.
unfoldable pub is_post : List ℕ → Bool
is_post method = bytes_eq method (codes "POST")

-- The spans are those of this head.
abbrev pub FoundResponse : Option ResponseSpans → List ℕ → List HeaderSpan → ResponseHead → Type 0
FoundResponse (Some spans) head fields h = IsResponseAt head fields spans h
FoundResponse None head fields h = ⊥

abbrev pub FoundRequest : Option RequestSpans → List ℕ → List HeaderSpan → RequestHead → Type 0
FoundRequest (Some spans) head fields h = IsRequestAt head fields spans h
FoundRequest None head fields h = ⊥

-- What the head of a response says: how its body is framed, or another status, or the place of a field line at fault.
abbrev pub JudgesResponse : Result Framing HttpFault → ResponseHead → List ℕ → Type 0
JudgesResponse (Ok f) h head = (status_code h ≡ 200) × (framing_of kind.Response h.fields ≡ Ok f)
JudgesResponse (Err (fault.Status n)) h head = (status_code h ≡ n) × (n ≢ 200)
JudgesResponse (Err (fault.Body place)) h head = (status_code h ≡ 200) × (number : ℕ) × (framing_of kind.Response h.fields ≡ Err number) × StandsAt h.fields number place head
JudgesResponse (Err fault.Head) h head = ⊥
JudgesResponse (Err fault.Route) h head = ⊥
JudgesResponse (Err (fault.TooLong n)) h head = ⊥
JudgesResponse (Err (fault.Ended n)) h head = ⊥
JudgesResponse (Err fault.Idle) h head = ⊥
JudgesResponse (Err fault.ReadFault) h head = ⊥
JudgesResponse (Err fault.WriteFault) h head = ⊥
JudgesResponse (Err fault.Memory) h head = ⊥

-- What the head of a request says: its route and how many bytes its body has; or that it is no POST to the path of a route; or the
-- place of a line at fault.
abbrev pub JudgesRequest : Result (Route × ℕ) HttpFault → RequestHead → List ℕ → Type 0
JudgesRequest (Ok r) h head = (is_post h.method ≡ true) × (h.target ≡ path_of r.0) × (framing_of kind.Request h.fields ≡ Ok (framing.Counted r.1))
JudgesRequest (Err fault.Route) h head = (is_post h.method ≡ false) ⊎ ((r : Route) → h.target ≢ path_of r)
JudgesRequest (Err (fault.Body place)) h head = (is_post h.method ≡ true) × (r : Route) × (h.target ≡ path_of r) × (number : ℕ)
    × (framing_of kind.Request h.fields ≡ Err number) × StandsAt h.fields number place head
JudgesRequest (Err fault.Head) h head = ⊥
JudgesRequest (Err (fault.Status n)) h head = ⊥
JudgesRequest (Err (fault.TooLong n)) h head = ⊥
JudgesRequest (Err (fault.Ended n)) h head = ⊥
JudgesRequest (Err fault.Idle) h head = ⊥
JudgesRequest (Err fault.ReadFault) h head = ⊥
JudgesRequest (Err fault.WriteFault) h head = ⊥
JudgesRequest (Err fault.Memory) h head = ⊥

-- The bytes are one head of a response that fits.
pub record IsWholeResponse (h : ResponseHead) (bytes : List ℕ) : Type 0 where
  pub is_head : IsResponseHead h
  pub printed : bytes ≡ print_response h
  pub few : length h.fields ≤ 64
  pub short : length bytes ≤ 16384

pub record IsWholeRequest (h : RequestHead) (bytes : List ℕ) : Type 0 where
  pub is_head : IsRequestHead h
  pub printed : bytes ≡ print_request h
  pub few : length h.fields ≤ 64
  pub short : length bytes ≤ 16384

-- The reading of a response went on after a head of status 200 that says how the body is framed.
pub record GoesOn (answer : Result (Vec ℕ) HttpFault) (bytes : List ℕ) (source : Told) (tally : Tally) : Type 0 where
  pub h : ResponseHead
  pub head : List ℕ
  pub whole : IsWholeResponse h head
  pub framed : Framing
  pub says : JudgesResponse (Ok framed) h head
  pub after : List ℕ
  pub bytes_are : bytes ≡ head ++ after
  pub body : BodyAnswer answer (length head) framed after source tally

-- The head of a response is whole, and has another status or is at fault. No byte after it was taken.
pub record RefusesResponse (answer : Result (Vec ℕ) HttpFault) (bytes : List ℕ) : Type 0 where
  pub h : ResponseHead
  pub whole : IsWholeResponse h bytes
  pub why : HttpFault
  pub answered : answer ≡ Err why
  pub says : JudgesResponse (Err why) h bytes

-- What the reading of a response came to, by its answer: it stopped in the head, or the head is at fault, or it went on to the body.
abbrev pub ResponseAnswer : Result (Vec ℕ) HttpFault → List ℕ → Told → Tally → Type 0
ResponseAnswer answer bytes source tally = StopsInHead answer kind.Response bytes source tally ⊎ (RefusesResponse answer bytes ⊎ GoesOn answer bytes source tally)

-- The route of a request and its body, once that was read.
abbrev pub with_route : Route → Result (Vec ℕ) HttpFault → Result (Route × Vec ℕ) HttpFault
with_route r (Ok body) = Ok (r, body)
with_route r (Err why) = Err why

-- The reading of a request went on after a head with a route and a count of bytes.
pub record GoesOnRequest (answer : Result (Route × Vec ℕ) HttpFault) (bytes : List ℕ) (source : Told) (tally : Tally) : Type 0 where
  pub h : RequestHead
  pub head : List ℕ
  pub whole : IsWholeRequest h head
  pub goes : Route
  pub count : ℕ
  pub says : JudgesRequest (Ok (goes, count)) h head
  pub after : List ℕ
  pub bytes_are : bytes ≡ head ++ after
  pub read : Result (Vec ℕ) HttpFault
  pub answered : answer ≡ with_route goes read
  pub body : BodyAnswer read (length head) (framing.Counted count) after source tally

-- The head of a request is whole, and has no route or is at fault. No byte after it was taken.
pub record RefusesRequest (answer : Result (Route × Vec ℕ) HttpFault) (bytes : List ℕ) : Type 0 where
  pub h : RequestHead
  pub whole : IsWholeRequest h bytes
  pub why : HttpFault
  pub answered : answer ≡ Err why
  pub says : JudgesRequest (Err why) h bytes

-- What the reading of a request came to, by its answer.
abbrev pub RequestAnswer : Result (Route × Vec ℕ) HttpFault → List ℕ → Told → Tally → Type 0
RequestAnswer answer bytes source tally = StopsInHead answer kind.Request bytes source tally ⊎ (RefusesRequest answer bytes ⊎ GoesOnRequest answer bytes source tally)

-- The bytes begin with a whole response of status 200 that carries this body, and then the rest comes.
pub record HoldsResponse (body rest bytes : List ℕ) : Type 0 where
  pub h : ResponseHead
  pub head : List ℕ
  pub whole : IsWholeResponse h head
  pub framed : Framing
  pub says : JudgesResponse (Ok framed) h head
  pub after : List ℕ
  pub carries : Framed framed body after
  pub alone : LastsTo framed rest
  pub bytes_are : bytes ≡ head ++ (after ++ rest)

-- The bytes begin with a whole request that goes there with this body, and then the rest comes.
pub record HoldsRequest (goes : Route) (body rest bytes : List ℕ) : Type 0 where
  pub h : RequestHead
  pub head : List ℕ
  pub whole : IsWholeRequest h head
  pub says : JudgesRequest (Ok (goes, length body)) h head
  pub bytes_are : bytes ≡ head ++ (body ++ rest)

-- The bytes begin with a whole response that has this status and whose head announces as many bytes as this body has, and then the
-- body and the rest come.
pub record HoldsStatus (status : ℕ) (body rest bytes : List ℕ) : Type 0 where
  pub h : ResponseHead
  pub head : List ℕ
  pub whole : IsWholeResponse h head
  pub says : status_code h ≡ status
  pub framed : framing_of kind.Response h.fields ≡ Ok (framing.Counted (length body))
  pub bytes_are : bytes ≡ head ++ (body ++ rest)

-- The reading of a whole request whose body is within its limit: it is read, and the bytes after it are left in the source; or
-- there is a fault of the source, or memory ran out.
abbrev pub ReadsRequestBody : Result (Route × Vec ℕ) HttpFault → Route → List ℕ → List ℕ → Option (List ℕ) → Type 0
ReadsRequestBody (Ok r) goes body rest left = (r.0 ≡ goes) × (r.1.items ≡ body) × (left ≡ Some rest)
ReadsRequestBody (Err why) goes body rest left = ReadsBody (Err why) body rest left
