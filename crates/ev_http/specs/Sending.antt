-- What is sent: requests to a gateway, and the responses of one.
use Rattle.std.specs.Prelude.{◌≡◌, ℕ, ◌≤◌, All, map, Bool, true, false, List, [], ◌∷◌, ◌++◌, Option, Some, Result, Ok, Err, codes, unwrap_or, if◌then◌else◌, nat_le, nat_lt, ◌&&◌}
use Rattle.std.specs.Fmt.{decimal}
use Rattle.http.specs.StatusCode.{reason_phrase}
use Rattle.httparse.specs.Grammar.{crlf, Field, RequestHead, ResponseHead}
use Rattle.httparse.specs.Spans.{name_and_value}
use Rattle.ev_types.specs.declared.route.Route.{Route}
use Rattle.ev_types.specs.declared.route.Route.TheVariants as route
use Rattle.zx_outside.specs.Counts.{OutputCounts, one_more}
use Rattle.zx_outside.specs.Writing.{Takes, TakesFront}
use Rattle.ev_http.specs.declared.send.Fixed.{Fixed}
use Rattle.ev_http.specs.declared.send.Fixed.TheVariants as fixed
use Rattle.ev_http.specs.declared.fault.HttpFault.{HttpFault}
use Rattle.ev_http.specs.declared.fault.HttpFault.TheVariants as fault
use Rattle.ev_http.specs.Messages.{path_of}

-- The reason phrase of a status, empty where it has none.
abbrev pub phrase_of : ℕ → List ℕ
phrase_of status = if nat_le 100 status && nat_lt status 1000 then unwrap_or (reason_phrase status) [] else []

-- A host as it stands in an address: each byte is visible ASCII.
abbrev pub IsHost : List ℕ → Type 0
IsHost host = All (λ b. (33 ≤ b) × (b ≤ 126)) host

-- The fixed texts of heads.
unfoldable pub text_of : Fixed → List ℕ
text_of fixed.Post = codes "POST "
text_of fixed.Host = codes " HTTP/1.1\r\nhost: "
text_of fixed.Version = codes "HTTP/1.1 "
text_of fixed.Blank = codes " "
text_of fixed.Fields = codes "\r\ncontent-type: application/json\r\ncontent-length: "
text_of fixed.Leader = codes "\r\ngrpc-metadata-hasleader: true"
text_of fixed.End = codes "\r\n\r\n"

-- A request to watch asks the member to end the stream once it has had no leader for some time (etcd's metadata `hasleader`; its gateway
-- hands on each field whose name begins with `grpc-metadata-`).
abbrev pub is_watch : Route → Bool
is_watch route.Watch = true
is_watch _ = false

abbrev pub leader_text : Bool → List ℕ
leader_text true = text_of fixed.Leader
leader_text false = []

-- The head of a request to a host, with a body of so many bytes.
abbrev pub request_head : List ℕ → Route → ℕ → List ℕ
request_head host r n = text_of fixed.Post ++ (path_of r ++ (text_of fixed.Host ++ (host ++ (leader_text (is_watch r) ++ (text_of fixed.Fields ++ (decimal n ++ text_of fixed.End))))))

-- The head of a response with a body of so many bytes.
abbrev pub response_head : ℕ → ℕ → List ℕ
response_head status n = text_of fixed.Version ++ (decimal status ++ (text_of fixed.Blank ++ (phrase_of status ++ (text_of fixed.Fields ++ (decimal n ++ text_of fixed.End)))))

-- The bytes were written, or a front of them up to a fault, by what the sink tells before and after.
abbrev pub Wrote : Result (Unit {0}) HttpFault → List ℕ → Option (List ℕ) → Option (List ℕ) → OutputCounts → OutputCounts → ℕ → ℕ → Type 0
Wrote (Ok _) bytes taken taken' counts counts' name name' = Takes bytes taken taken' × (counts' ≡ counts) × (name' ≡ name)
Wrote (Err fault.WriteFault) bytes taken taken' counts counts' name name' = TakesFront bytes taken taken' × (counts'.faults ≡ one_more counts.faults) × (name' ≡ name)
Wrote (Err fault.Memory) bytes taken taken' counts counts' name name' = ⊥
Wrote (Err fault.Head) bytes taken taken' counts counts' name name' = ⊥
Wrote (Err (fault.Status n)) bytes taken taken' counts counts' name name' = ⊥
Wrote (Err fault.Route) bytes taken taken' counts counts' name name' = ⊥
Wrote (Err (fault.Body p)) bytes taken taken' counts counts' name name' = ⊥
Wrote (Err (fault.TooLong n)) bytes taken taken' counts counts' name name' = ⊥
Wrote (Err (fault.Ended n)) bytes taken taken' counts counts' name name' = ⊥
Wrote (Err fault.Idle) bytes taken taken' counts counts' name name' = ⊥
Wrote (Err fault.ReadFault) bytes taken taken' counts counts' name name' = ⊥

-- The bytes were written, or a front of them up to a fault of the sink, or nothing, where memory ran out.
abbrev pub Sends : Result (Unit {0}) HttpFault → List ℕ → Option (List ℕ) → Option (List ℕ) → OutputCounts → OutputCounts → ℕ → ℕ → Type 0
Sends (Err fault.Memory) bytes taken taken' counts counts' name name' = (taken' ≡ taken) × (counts' ≡ counts) × (name' ≡ name)
Sends result bytes taken taken' counts counts' name name' = Wrote result bytes taken taken' counts counts' name name'

-- The fields that each message has, by name and value: the kind of its body and its length in bytes.
abbrev pub common_fields : ℕ → List (List ℕ × List ℕ)
common_fields n = (codes "content-type", codes "application/json") ∷ ((codes "content-length", decimal n) ∷ [])

-- the field that a request to watch has besides
abbrev pub leader_fields : Bool → List (List ℕ × List ℕ)
leader_fields true = (codes "grpc-metadata-hasleader", codes "true") ∷ []
leader_fields false = []

-- A head as one has to send it (RFC 9112, sections 2.1 to 2.3, 3.2 and 5): no empty line in front, version 1.1, each line ended by
-- CR LF, and among the fields the host.
pub record IsPlainRequest (host : List ℕ) (r : Route) (n : ℕ) (h : RequestHead) : Type 0 where
  pub alone : h.blank ≡ []
  pub version : h.minor ≡ 1
  pub start : h.line_end ≡ crlf
  pub lines : All (λ (f : Field). f.end ≡ crlf) h.fields
  pub last : h.last ≡ crlf
  pub says : map name_and_value h.fields ≡ (codes "host", host) ∷ (leader_fields (is_watch r) ++ common_fields n)

-- The same of a response, with the phrase of its status.
pub record IsPlainResponse (status n : ℕ) (h : ResponseHead) : Type 0 where
  pub alone : h.blank ≡ []
  pub version : h.minor ≡ 1
  pub phrase : h.reason ≡ Some (phrase_of status)
  pub start : h.line_end ≡ crlf
  pub lines : All (λ (f : Field). f.end ≡ crlf) h.fields
  pub last : h.last ≡ crlf
  pub says : map name_and_value h.fields ≡ common_fields n
