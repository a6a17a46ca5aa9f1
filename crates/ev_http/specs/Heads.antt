-- Heads of HTTP/1.1 messages (RFC 9112, sections 2 to 5), as the kit's parser reads them.
use Rattle.std.specs.Prelude.{◌≡◌, ℕ, ◌<◌, ◌≤◌, ◌⊎◌, List, ◌++◌, length, ⊤, Bool, ◌==◌, ◌||◌, Result, Ok, Err}
use Rattle.std.specs.Global.{Vec}
use Rattle.httparse.specs.Grammar.{Field, RequestHead, IsRequestHead, print_request, ResponseHead, IsResponseHead, print_response, MayBecomeRequest, MayBecomeResponse}
use Rattle.ev_http.specs.declared.fault.HttpFault.{HttpFault}
use Rattle.ev_http.specs.declared.fault.HttpFault.TheVariants as fault
use Rattle.ev_http.specs.declared.head.Kind.{Kind}
use Rattle.ev_http.specs.declared.head.Kind.TheVariants as kind
use Rattle.ev_http.specs.declared.taking.Tally.{Tally}
use Rattle.ev_http.specs.Taking.{Told, Ends, counted}

-- CR or LF: what the empty lines in front of a head are made of.
abbrev pub is_blank_byte : ℕ → Bool
is_blank_byte b = b == 13 || b == 10

-- These bytes are a head with these fields.
abbrev pub IsHead : Kind → List Field → List ℕ → Type 0
IsHead kind.Request fields bytes = (h : RequestHead) × IsRequestHead h × (fields ≡ h.fields) × (bytes ≡ print_request h)
IsHead kind.Response fields bytes = (h : ResponseHead) × IsResponseHead h × (fields ≡ h.fields) × (bytes ≡ print_response h)

-- No front of the bytes is a head.
abbrev pub HasNoHead : Kind → List ℕ → Type 0
HasNoHead kind bytes = (fields : List Field) (head rest : List ℕ) → IsHead kind fields head → bytes ≡ head ++ rest → ⊥

-- However the bytes go on, a head at their front has more than 64 fields or more than 16,384 bytes.
abbrev pub NeverFits : Kind → List ℕ → Type 0
NeverFits kind bytes =
    (fields : List Field) (head more rest : List ℕ) → IsHead kind fields head → bytes ++ more ≡ head ++ rest → (64 < length fields) ⊎ (16384 < length head)

-- A front of the bytes is a head of at most 64 fields.
abbrev pub BeginsWithHead : Kind → List ℕ → Type 0
BeginsWithHead kind bytes = (fields : List Field) × (head : List ℕ) × (rest : List ℕ) × IsHead kind fields head × (length fields ≤ 64) × (bytes ≡ head ++ rest)

-- Bytes may follow that make these a head; or they end in the target of a request, of which only its end shows whether it is UTF-8.
abbrev pub MayBecome : Kind → List ℕ → Type 0
MayBecome kind.Request bytes = MayBecomeRequest bytes
MayBecome kind.Response bytes = MayBecomeResponse bytes

-- The bytes are one head that fits.
pub record FitsHead (kind : Kind) (fields : List Field) (bytes : List ℕ) : Type 0 where
  pub is_head : IsHead kind fields bytes
  pub few : length fields ≤ 64
  pub short : length bytes ≤ 16384

-- No front of the bytes is a head, and they are no more than a head may have.
pub record IsOpenHead (kind : Kind) (bytes : List ℕ) : Type 0 where
  pub none : HasNoHead kind bytes
  pub short : length bytes ≤ 16384

-- What the taking of a head came to, by its answer.
abbrev pub TakesHead : Result (Unit {0}) HttpFault → Kind → List ℕ → List ℕ → List ℕ → Told → Tally → Type 0
TakesHead (Ok _) kind old added new source tally = (new ≡ old ++ added) × (fields : List Field) × FitsHead kind fields new
TakesHead (Err fault.Head) kind old added new source tally = (new ≡ old ++ added) × NeverFits kind new
TakesHead (Err (fault.Ended n)) kind old added new source tally = (new ≡ old ++ added) × IsOpenHead kind new × Ends source × (n ≡ tally.taken) × MayBecome kind new
TakesHead (Err fault.Idle) kind old added new source tally = (new ≡ old ++ added) × IsOpenHead kind new × (tally.turns ≡ 6000)
TakesHead (Err fault.ReadFault) kind old added new source tally = (new ≡ old ++ added) × IsOpenHead kind new
TakesHead (Err fault.Memory) kind old added new source tally = ⊤
TakesHead (Err (fault.Status n)) kind old added new source tally = ⊥
TakesHead (Err fault.Route) kind old added new source tally = ⊥
TakesHead (Err (fault.Body p)) kind old added new source tally = ⊥
TakesHead (Err (fault.TooLong n)) kind old added new source tally = ⊥
TakesHead (Err fault.WriteFault) kind old added new source tally = ⊥

-- The reading of a message stopped in its head.
abbrev pub StopsInHead : {A : Type 0} → Result A HttpFault → Kind → List ℕ → Told → Tally → Type 0
StopsInHead (Ok message) k bytes source tally = ⊥
StopsInHead (Err fault.Head) k bytes source tally = NeverFits k bytes
StopsInHead (Err (fault.Ended n)) k bytes source tally = IsOpenHead k bytes × Ends source × (n ≡ counted (length bytes)) × MayBecome k bytes
StopsInHead (Err fault.Idle) k bytes source tally = IsOpenHead k bytes × (tally.turns ≡ 6000)
StopsInHead (Err fault.ReadFault) k bytes source tally = IsOpenHead k bytes
StopsInHead (Err fault.Memory) k bytes source tally = ⊤
StopsInHead (Err (fault.Status n)) k bytes source tally = ⊥
StopsInHead (Err fault.Route) k bytes source tally = ⊥
StopsInHead (Err (fault.Body place)) k bytes source tally = ⊥
StopsInHead (Err (fault.TooLong n)) k bytes source tally = ⊥
StopsInHead (Err fault.WriteFault) k bytes source tally = ⊥

-- What the reading of a head came to, by its answer.
abbrev pub HeadAnswer : Result (Vec ℕ) HttpFault → Kind → List ℕ → Told → Tally → Type 0
HeadAnswer (Ok head) k bytes source tally = (head.items ≡ bytes) × (fields : List Field) × FitsHead k fields bytes
HeadAnswer (Err why) k bytes source tally = StopsInHead {A = Vec ℕ} (Err why) k bytes source tally
