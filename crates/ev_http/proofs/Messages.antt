-- Whole messages.
use Rattle.std.proofs.Common.{Bool, ◌≡◌, ℕ, ◌≤◌, List, [], ◌++◌, length, Ok, Err, refl, sym, subst, ◌∙◌, arith, inr}
use Rattle.std.specs.Prelude.{Result}
use Rattle.std.specs.Global.{Vec}
use Rattle.httparse.specs.Grammar.{Field, ResponseHead, IsResponseHead, print_response, RequestHead, IsRequestHead, print_request}
use Rattle.ev_types.specs.declared.route.Route.{Route}
use Rattle.ev_http.specs.declared.fault.HttpFault.{HttpFault}
use Rattle.ev_http.specs.declared.fault.HttpFault.TheVariants as fault
use Rattle.ev_http.specs.declared.framing.Framing.{Framing}
use Rattle.ev_http.specs.declared.framing.Framing.TheVariants as framing
use Rattle.ev_http.specs.declared.head.Kind.{Kind}
use Rattle.ev_http.specs.declared.head.Kind.TheVariants as kind
use Rattle.ev_http.specs.declared.taking.Tally.{Tally}
use Rattle.ev_http.specs.Taking.{Told, Took, failed, fresh, risen}
use Rattle.ev_http.specs.Heads.{TakesHead, FitsHead, NeverFits, IsOpenHead, MayBecome, StopsInHead}
use Rattle.ev_http.specs.Body.{BodyAnswer}
use Rattle.ev_http.specs.Messages.{JudgesResponse, JudgesRequest, ResponseAnswer, RequestAnswer, with_route}

-- a reading that stopped in the head
pub stops_in_head : (A : Type 0) (e : HttpFault) (k : Kind) (bytes head : List ℕ) (source' : Told) (tally : Tally) → TakesHead (Err e) k [] bytes head source' tally → (start : ℕ) → start ≡ 0 → tally.taken ≡ risen (length bytes) start → StopsInHead {A = A} (Err e) k bytes source' tally
stops_in_head A fault.Head k bytes head source' tally got start none taken = subst (λ (x : List ℕ). NeverFits k x) got.0 got.1
stops_in_head A (fault.Ended n) k bytes head source' tally got start none taken = (subst (λ (x : List ℕ). IsOpenHead k x) got.0 got.1, got.2, omega (arith, got.3, taken, none), subst (λ (x : List ℕ). MayBecome k x) got.0 got.4)
stops_in_head A fault.Idle k bytes head source' tally got start none taken = (subst (λ (x : List ℕ). IsOpenHead k x) got.0 got.1, got.2)
stops_in_head A fault.ReadFault k bytes head source' tally got start none taken = subst (λ (x : List ℕ). IsOpenHead k x) got.0 got.1
stops_in_head A fault.Memory k bytes head source' tally got start none taken = tt
stops_in_head A (fault.Status n) k bytes head source' tally got start none taken = absurd got
stops_in_head A fault.Route k bytes head source' tally got start none taken = absurd got
stops_in_head A (fault.Body p) k bytes head source' tally got start none taken = absurd got
stops_in_head A (fault.TooLong n) k bytes head source' tally got start none taken = absurd got
stops_in_head A fault.WriteFault k bytes head source' tally got start none taken = absurd got

pub response_goes : (answer : Result (Vec ℕ) HttpFault) (f : Framing) (head bytes after : List ℕ) (fields : List Field) (start : ℕ) (source : Told) (tally : Tally) → head ≡ bytes → FitsHead kind.Response fields bytes
    → ((h : ResponseHead) → IsResponseHead h → head ≡ print_response h → length h.fields ≤ 64 → JudgesResponse (Ok f) h head) → start ≡ length bytes → BodyAnswer answer start f after source tally → ResponseAnswer answer (bytes ++ after) source tally
response_goes answer f head bytes after fields start source tally same fits judges at body =
    let h = fits.is_head.0 in
    let few : length h.fields ≤ 64 = subst (λ (x : List Field). length x ≤ 64) fits.is_head.2 fits.few in
    inr (inr (record {
      h = h;
      head = bytes;
      whole = record { is_head = fits.is_head.1; printed = fits.is_head.3; few = few; short = fits.short };
      framed = f;
      says = subst (λ (x : List ℕ). JudgesResponse (Ok f) h x) same (judges h fits.is_head.1 (same ∙ fits.is_head.3) few);
      after = after;
      bytes_are = refl;
      body = subst (λ n. BodyAnswer answer n f after source tally) at body;
    }))

pub request_goes : (answer : Result (Route × Vec ℕ) HttpFault) (read : Result (Vec ℕ) HttpFault) (r : Route) (n : ℕ) (head bytes after : List ℕ) (fields : List Field) (start : ℕ) (source : Told) (tally : Tally) → answer ≡ with_route r read → head ≡ bytes → FitsHead kind.Request fields bytes
    → ((h : RequestHead) → IsRequestHead h → head ≡ print_request h → length h.fields ≤ 64 → JudgesRequest (Ok (r, n)) h head) → start ≡ length bytes → BodyAnswer read start (framing.Counted n) after source tally → RequestAnswer answer (bytes ++ after) source tally
request_goes answer read r n head bytes after fields start source tally is same fits judges at body =
    let h = fits.is_head.0 in
    let few : length h.fields ≤ 64 = subst (λ (x : List Field). length x ≤ 64) fits.is_head.2 fits.few in
    inr (inr (record {
      h = h;
      head = bytes;
      whole = record { is_head = fits.is_head.1; printed = fits.is_head.3; few = few; short = fits.short };
      goes = r;
      count = n;
      says = subst (λ (x : List ℕ). JudgesRequest (Ok (r, n)) h x) same (judges h fits.is_head.1 (same ∙ fits.is_head.3) few);
      after = after;
      bytes_are = refl;
      read = read;
      answered = is;
      body = subst (λ m. BodyAnswer read m (framing.Counted n) after source tally) at body;
    }))

pub head_start : (bytes : List ℕ) (taken start : ℕ) → start ≡ 0 → taken ≡ risen (length bytes) start → length bytes ≤ 16384 → taken ≡ length bytes
head_start bytes taken start none is short = omega (arith, none, is)

fresh_is : (t : Tally) → t.turns ≡ 0 → t.taken ≡ 0 → t ≡ fresh
fresh_is t turns taken = λ i. record { turns = turns i; taken = taken i }

-- a reading that began at the first byte of a message
pub took_fresh : (bytes : List ℕ) (faulty faulty' : Bool) (t t' : Tally) (source source' : Told) → t.turns ≡ 0 → t.taken ≡ 0 → faulty' ≡ faulty → Took bytes faulty t t' source source' → Took bytes faulty' fresh t' source source'
took_fresh bytes faulty faulty' t t' source source' turns taken same took =
    subst (λ (x : Tally). Took bytes faulty' x t' source source') (fresh_is t turns taken) (subst (λ (b : Bool). Took bytes b t t' source source') (sym same) took)

pub failed-with_route : (r : Route) (read : Result (Vec ℕ) HttpFault) → failed (with_route r read) ≡ failed read
failed-with_route r (Ok body) = refl
failed-with_route r (Err fault.Head) = refl
failed-with_route r (Err (fault.Status n)) = refl
failed-with_route r (Err fault.Route) = refl
failed-with_route r (Err (fault.Body p)) = refl
failed-with_route r (Err (fault.TooLong n)) = refl
failed-with_route r (Err (fault.Ended n)) = refl
failed-with_route r (Err fault.Idle) = refl
failed-with_route r (Err fault.ReadFault) = refl
failed-with_route r (Err fault.WriteFault) = refl
failed-with_route r (Err fault.Memory) = refl
