-- The lines of a response's body, given as they come in.
use Rattle.std.specs.Prelude.{◌≡◌, ◌≢◌, ℕ, ◌+◌, ◌<◌, ◌≤◌, ◌⊎◌, List, [], ◌∷◌, ◌++◌, length, take, drop, get_or, ⊤, Option, Some, None, Result, Ok, Err}
use Rattle.ev_http.specs.declared.fault.HttpFault.{HttpFault}
use Rattle.ev_http.specs.declared.fault.HttpFault.TheVariants as fault
use Rattle.ev_http.specs.declared.framing.Framing.{Framing}
use Rattle.ev_http.specs.declared.head.Kind.TheVariants as kind
use Rattle.ev_http.specs.declared.body.Part.{Part}
use Rattle.ev_http.specs.declared.body.Part.TheVariants as part
use Rattle.ev_http.specs.declared.lines.State.{State}
use Rattle.ev_http.specs.declared.lines.State.TheVariants as state
use Rattle.ev_http.specs.declared.lines.Refusal.{Refusal}
use Rattle.ev_http.specs.declared.lines.Refusal.TheVariants as refusal
use Rattle.ev_http.specs.declared.lines.Lines.{Lines}
use Rattle.ev_http.specs.declared.taking.Tally.{Tally}
use Rattle.httparse.specs.Grammar.{ResponseHead}
use Rattle.zx_outside.specs.Reading.{HasNoFeed}
use Rattle.ev_http.specs.Taking.{Told, Ends, counted}
use Rattle.ev_http.specs.Heads.{IsOpenHead, NeverFits, MayBecome}
use Rattle.ev_http.specs.Body.{Came, EndsWhole, IsOpen}
use Rattle.ev_http.specs.Messages.{IsWholeResponse, JudgesResponse, RefusesResponse, GoesOn}

-- These bytes of a response were taken, and these of its body came in them, where this part comes next.
pub record InBody (p : Part) (line body : List ℕ) (source : Told) (taken : List ℕ) : Type 0 where
  pub h : ResponseHead
  pub head : List ℕ
  pub whole : IsWholeResponse h head
  pub framed : Framing
  pub says : JudgesResponse (Ok framed) h head
  pub after : List ℕ
  pub bytes_are : taken ≡ head ++ after
  pub came : Came (length head) framed p line after body
  pub ends : EndsWhole framed p source

-- How far a response was read: what came of its body is what was given as lines, and then what is kept.
abbrev pub Reached : State → List ℕ → List ℕ → ℕ → Told → List ℕ → List ℕ → Type 0
Reached state.Head line kept scanned source taken given = IsOpenHead kind.Response taken × (line ≡ taken) × (given ≡ []) × (kept ≡ [])
Reached (state.Body p) line kept scanned source taken given = InBody p line (given ++ kept) source taken × HasNoFeed (take scanned kept)
Reached (state.Refused why) line kept scanned source taken given = ⊥

-- How far a response was read, by all that is kept of it, the count of its bytes included.
pub record AtLine (state : State) (line kept : List ℕ) (scanned reads : ℕ) (source : Told) (taken given : List ℕ) : Type 0 where
  pub counts : reads ≡ counted (length taken)
  pub reached : Reached state line kept scanned source taken given

-- How far the lines came: these bytes of the response were taken from the source, and these of its body were given, each line
-- with its line feed.
abbrev pub IsAt : {S : Type 0} → Lines S → Told → List ℕ → List ℕ → Type 0
IsAt lines source taken given = AtLine lines.state lines.line.items lines.kept.items lines.scanned lines.tally.taken source taken given

-- No more lines come: the source ended in the message, or the message ended, and no whole line is left.
abbrev pub IsOver : State → List ℕ → List ℕ → Told → Type 0
IsOver state.Head line kept source = Ends source × MayBecome kind.Response line
IsOver (state.Body p) line kept source = HasNoFeed kept × (length kept ≤ 8388608) × ((p ≡ part.Whole) ⊎ (IsOpen p line × Ends source))
IsOver (state.Refused why) line kept source = ⊥

-- The next line is still to come: no whole line is kept, nor more bytes than a line may have, and the message is not
-- whole.
abbrev pub AwaitsLine : State → List ℕ → Type 0
AwaitsLine state.Head kept = ⊤
AwaitsLine (state.Body p) kept = HasNoFeed kept × (length kept ≤ 8388608) × (p ≢ part.Whole)
AwaitsLine (state.Refused why) kept = ⊥

-- The next line has more than 8,388,608 bytes.
pub record IsLongLine (source : Told) (taken given : List ℕ) : Type 0 where
  pub part : Part
  pub line : List ℕ
  pub text : List ℕ
  pub rest : List ℕ
  pub inside : InBody part line (given ++ (text ++ rest)) source taken
  pub no_feed : HasNoFeed text
  pub long : 8388608 < length text

-- What a call came to, by its answer, where these bytes of the response were taken in all calls, and these of its body
-- were given before: the next line of the body, or why there is none.
abbrev pub AnswersLine : Result (List ℕ) HttpFault → State → List ℕ → List ℕ → ℕ → Tally → Told → List ℕ → List ℕ → Type 0
AnswersLine (Ok text) state line kept scanned tally source taken given = HasNoFeed text × (length text ≤ 8388608) × AtLine state line kept scanned tally.taken source taken (given ++ (text ++ 10 ∷ []))
AnswersLine (Err fault.Idle) state line kept scanned tally source taken given = AtLine state line kept scanned tally.taken source taken given × AwaitsLine state kept × (tally.turns ≡ 6000)
AnswersLine (Err fault.ReadFault) state line kept scanned tally source taken given = AtLine state line kept scanned tally.taken source taken given × AwaitsLine state kept
AnswersLine (Err (fault.Ended n)) state line kept scanned tally source taken given = AtLine state line kept scanned tally.taken source taken given × IsOver state line kept source × (n ≡ tally.taken)
AnswersLine (Err fault.Head) state line kept scanned tally source taken given = (given ≡ []) × NeverFits kind.Response taken
AnswersLine (Err (fault.Status n)) state line kept scanned tally source taken given = (given ≡ []) × RefusesResponse (Err (fault.Status n)) taken
AnswersLine (Err (fault.Body place)) state line kept scanned tally source taken given =
    ((given ≡ []) × RefusesResponse (Err (fault.Body place)) taken) ⊎ GoesOn (Err (fault.Body place)) taken source tally
AnswersLine (Err (fault.TooLong n)) state line kept scanned tally source taken given = (n ≡ 8388608) × IsLongLine source taken given
AnswersLine (Err fault.Memory) state line kept scanned tally source taken given = ⊤
AnswersLine (Err fault.Route) state line kept scanned tally source taken given = ⊥
AnswersLine (Err fault.WriteFault) state line kept scanned tally source taken given = ⊥

-- What a call of `next` came to, by its answer and by what the lines then keep.
abbrev pub LineAnswer : {S : Type 0} → Result (List ℕ) HttpFault → Lines S → Told → List ℕ → List ℕ → Type 0
LineAnswer result lines source taken given = AnswersLine result lines.state lines.line.items lines.kept.items lines.scanned lines.tally source taken given

-- The reading of a line of a whole response of which these bytes of the body were given before: the line is the next of the body;
-- or no whole line is left; or the next is too long; or there is a fault of the source, or memory ran out.
abbrev pub ReadsLine : Result (List ℕ) HttpFault → List ℕ → List ℕ → Type 0
ReadsLine (Ok text) given body = (more : List ℕ) × (body ≡ given ++ (text ++ (10 ∷ more)))
ReadsLine (Err (fault.Ended n)) given body = (more : List ℕ) × (body ≡ given ++ more) × HasNoFeed more
ReadsLine (Err (fault.TooLong n)) given body = (text : List ℕ) × (more : List ℕ) × (body ≡ given ++ (text ++ more)) × HasNoFeed text × (8388608 < length text)
ReadsLine (Err fault.Idle) given body = ⊤
ReadsLine (Err fault.ReadFault) given body = ⊤
ReadsLine (Err fault.Memory) given body = ⊤
ReadsLine (Err fault.Head) given body = ⊥
ReadsLine (Err (fault.Status n)) given body = ⊥
ReadsLine (Err fault.Route) given body = ⊥
ReadsLine (Err (fault.Body place)) given body = ⊥
ReadsLine (Err fault.WriteFault) given body = ⊥

-- A refusal as a fault.
abbrev pub fault_of : Refusal → HttpFault
fault_of refusal.Head = fault.Head
fault_of (refusal.Status n) = fault.Status n
fault_of (refusal.Body place) = fault.Body place
fault_of (refusal.TooLong n) = fault.TooLong n
fault_of refusal.Memory = fault.Memory

-- The refusal that a fault is, if the response cannot be read any further after it.
abbrev pub refusal_in : HttpFault → Option Refusal
refusal_in fault.Head = Some refusal.Head
refusal_in (fault.Status n) = Some (refusal.Status n)
refusal_in (fault.Body place) = Some (refusal.Body place)
refusal_in (fault.TooLong n) = Some (refusal.TooLong n)
refusal_in fault.Memory = Some refusal.Memory
refusal_in fault.Route = None
refusal_in (fault.Ended n) = None
refusal_in fault.Idle = None
refusal_in fault.ReadFault = None
refusal_in fault.WriteFault = None

-- The response cannot be read any further, for this reason.
abbrev pub IsRefused : {S : Type 0} → Lines S → HttpFault → Type 0
IsRefused lines why = (r : Refusal) × (lines.state ≡ state.Refused r) × (why ≡ fault_of r)

-- Where the first line feed of the bytes stands, of which the first so many are known to have none.
abbrev pub FoundFeed : Option ℕ → List ℕ → ℕ → Type 0
FoundFeed (Some at) bytes from = (at < length bytes) × (get_or bytes at 0 ≡ 10) × (HasNoFeed (take from bytes) → HasNoFeed (take at bytes))
FoundFeed None bytes from = HasNoFeed (take from bytes) → HasNoFeed bytes

-- What the cutting of a line came to, by its answer. Without memory it may be lost.
abbrev pub CutsLine : Result (List ℕ) HttpFault → List ℕ → List ℕ → ℕ → ℕ → Type 0
CutsLine (Ok text) kept kept' scanned' end = (text ≡ take end kept) × (kept' ≡ drop (end + 1) kept) × (scanned' ≡ 0) × (end ≤ 8388608)
CutsLine (Err (fault.TooLong n)) kept kept' scanned' end = (n ≡ 8388608) × (kept' ≡ kept) × (8388608 < end)
CutsLine (Err fault.Memory) kept kept' scanned' end = ⊤
CutsLine (Err fault.Head) kept kept' scanned' end = ⊥
CutsLine (Err (fault.Status n)) kept kept' scanned' end = ⊥
CutsLine (Err fault.Route) kept kept' scanned' end = ⊥
CutsLine (Err (fault.Body place)) kept kept' scanned' end = ⊥
CutsLine (Err (fault.Ended n)) kept kept' scanned' end = ⊥
CutsLine (Err fault.Idle) kept kept' scanned' end = ⊥
CutsLine (Err fault.ReadFault) kept kept' scanned' end = ⊥
CutsLine (Err fault.WriteFault) kept kept' scanned' end = ⊥

-- What the looking for the next part came to, by its answer.
abbrev pub FindsPart : Result Part HttpFault → State → List ℕ → List ℕ → ℕ → Tally → Told → List ℕ → List ℕ → Type 0
FindsPart (Ok p) state line kept scanned tally source taken given = AtLine state line kept scanned tally.taken source taken given
FindsPart (Err why) state line kept scanned tally source taken given = AnswersLine (Err why) state line kept scanned tally source taken given
