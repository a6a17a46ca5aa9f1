-- A frame is read as a request exactly where it spells one.
use Rattle.std.proofs.Common.{◌≡◌, ℕ, ◌-◌, ◌<◌, ◌≤◌, ltb, Bool, true, false, cond, Option, Some, None, List, [], ◌++◌, length, drop, Ok, Err, refl, sym, ap, subst, ◌∙◌, append_assoc, arith, ℤ}
use Rattle.std.proofs.lemmas.Bool.{le-ltb, lt-ltb, ltb-false}
use Rattle.std.proofs.lemmas.List.{append-nil, drop_at, drop-drop, length-append, length-drop}
use Rattle.zk_jute.specs.declared.opcode.Opcode.{Opcode}
use Rattle.zk_jute.specs.declared.opcode.Opcode.TheVariants as opcodes
use Rattle.zk_model.specs.declared.request.Request.{Request}
use Rattle.zk_model.specs.declared.request.Request.TheVariants as requests
use Rattle.zk_jute.specs.JuteValues.{Value, Kind, Spelled, Spells}
use Rattle.zk_jute.specs.JuteReading.{Read, front_int, values_at, all_until_last}
use Rattle.zk_jute.specs.FromValues.{value_in, request_from}
use Rattle.zk_jute.specs.Grammar.{IsAsked, IsPart, IsLastHeader, IsRequest}
use Rattle.zk_jute.specs.Numbers.{opcode_number, opcode_of, opcode_numbered}
use Rattle.zk_jute.specs.Records.{fields_of, values_of}
use Rattle.zk_jute.specs.Requests.{part_at, plain_at, body_at, whole_at, asked_as, frame_of_kind, NoHeader, Unreadable, Unknown, Asks, read_request}
use Rattle.zk_jute.proofs.Conforming.{normals, normals_are, request_kinds, request_back, request_with-opcode, request_with-asked}
use Rattle.zk_jute.proofs.Headers.{front_int_of, first_int, whole_is}
use Rattle.zk_jute.proofs.JuteFields.{Takes, bind_ok, ok_is, joined, values_take, values_again}
use Rattle.zk_jute.proofs.Listing.{all_takes, all_again}
use Rattle.zk_jute.proofs.Numbered.{opcode_numbered-is, opcode_numbered-number_of}
use Rattle.zk_jute.proofs.PartLaws.{part_next}

-- ---- the outcomes, one by one

pub reads_no_header : (frame : List ℕ) → length frame < 8 → read_request frame ≡ NoHeader
unfolding read_request
reads_no_header frame short = rw (lt-ltb _ _ short) refl

pub reads_unknown : (frame : List ℕ) → 8 ≤ length frame → opcode_numbered (front_int (drop 4 frame)) ≡ None → read_request frame ≡ Unknown (front_int frame) (front_int (drop 4 frame))
unfolding read_request
reads_unknown frame long none = rw (le-ltb _ _ long, none) refl

pub reads_asks : (frame : List ℕ) (code : Opcode) (r : Request) (rest : List ℕ) → 8 ≤ length frame → opcode_numbered (front_int (drop 4 frame)) ≡ Some code → whole_at code (drop 8 frame) ≡ Ok (r, rest)
    → read_request frame ≡ Asks (front_int frame) r
unfolding read_request
reads_asks frame code r rest long kind body = rw (le-ltb _ _ long, kind, body) refl

pub reads_unreadable : (frame : List ℕ) (code : Opcode) (left : ℕ) → 8 ≤ length frame → opcode_numbered (front_int (drop 4 frame)) ≡ Some code → whole_at code (drop 8 frame) ≡ Err left
    → read_request frame ≡ Unreadable (front_int frame) (length frame - left)
unfolding read_request
reads_unreadable frame code left long kind body = rw (le-ltb _ _ long, kind, body) refl

-- ---- bodies

plain_takes : (code : Opcode) → (code ≡ opcodes.Multi → ⊥) → (bytes : List ℕ) (r : Request) (rest : List ℕ) → plain_at code bytes ≡ Ok (r, rest) → Takes IsAsked bytes r rest × (opcode_of r ≡ code)
plain_takes code plain bytes r rest e =
    let a = bind_ok (values_at (fields_of code) bytes) (λ x. Ok (request_from code x.0, x.1)) (r, rest) e in
    let t = values_take (fields_of code) bytes a.0.0 a.0.1 a.1 in
    let values : Spelled Spells (normals (fields_of code) (value_in a.0.0)) t.took.front = subst (λ (vs : List Value). Spelled Spells vs t.took.front) (sym (normals_are (fields_of code) a.0.0 t.kinds)) t.took.spelled in
    let same = ok_is (request_from code a.0.0, a.0.1) (r, rest) a.2 in
    subst (λ (y : Request × List ℕ). Takes IsAsked bytes y.0 y.1 × (opcode_of y.0 ≡ code)) same
    (record { front = t.took.front; spelled = request_with-asked code (value_in a.0.0) t.took.front plain values; parts = t.took.parts }, request_with-opcode code (value_in a.0.0))

body_takes : (code : Opcode) (bytes : List ℕ) (r : Request) (rest : List ℕ) → body_at code bytes ≡ Ok (r, rest) → Takes IsAsked bytes r rest × (opcode_of r ≡ code)
body_takes opcodes.Multi bytes r rest e =
    let a = bind_ok (all_until_last part_at bytes) (λ x. Ok (requests.Multi x.0, x.1)) (r, rest) e in
    let t = all_takes IsPart IsLastHeader part_at part_next bytes a.0.0 a.0.1 a.1 in
    subst (λ (y : Request × List ℕ). Takes IsAsked bytes y.0 y.1 × (opcode_of y.0 ≡ opcodes.Multi)) (ok_is (requests.Multi a.0.0, a.0.1) (r, rest) a.2)
    (record { front = t.front; spelled = t.spelled; parts = t.parts }, refl)
body_takes code bytes r rest e = plain_takes code (λ m. absurd cc) bytes r rest e

plain_again : (r : Request) → (opcode_of r ≡ opcodes.Multi → ⊥) → (bytes rest : List ℕ) → Spelled Spells (values_of r) bytes → plain_at (opcode_of r) (bytes ++ rest) ≡ Ok (r, rest)
plain_again r plain bytes rest is =
    let read : values_at (fields_of (opcode_of r)) (bytes ++ rest) ≡ Ok (values_of r, rest) = subst (λ (ks : List Kind). values_at ks (bytes ++ rest) ≡ Ok (values_of r, rest)) (request_kinds r) (values_again (values_of r) bytes rest is) in
    rw read (ap (λ (x : Request). Ok (x, rest)) (request_back r plain))

body_again : (r : Request) (bytes rest : List ℕ) → IsAsked r bytes → body_at (opcode_of r) (bytes ++ rest) ≡ Ok (r, rest)
body_again (requests.Multi ps) bytes rest is = rw (all_again IsPart IsLastHeader part_at part_next ps bytes rest is) refl
body_again r bytes rest is = plain_again r (λ m. absurd cc) bytes rest is

-- ---- frames

-- what a frame that is read as a request is
pub record IsAskedBy (frame : List ℕ) (xid : ℤ) (r : Request) : Type 0 where
  pub long : 8 ≤ length frame
  pub code : Opcode
  pub rest : List ℕ
  pub first : front_int frame ≡ xid
  pub numbered : opcode_numbered (front_int (drop 4 frame)) ≡ Some code
  pub body : whole_at code (drop 8 frame) ≡ Ok (r, rest)

asked_read : (frame : List ℕ) (xid : ℤ) (r : Request) (code : Opcode) (read : Read Request) → 8 ≤ length frame → opcode_numbered (front_int (drop 4 frame)) ≡ Some code → whole_at code (drop 8 frame) ≡ read
    → asked_as (front_int frame) (length frame) read ≡ Asks xid r → IsAskedBy frame xid r
asked_read frame xid r code (Err left) long numbered body e = absurd cc
asked_read frame xid r code (Ok x) long numbered body e =
    let first : front_int frame ≡ xid = cc in
    let same : x.0 ≡ r = cc in
    record { long = long; code = code; rest = x.1; first = first; numbered = numbered; body = body ∙ ap (λ (q : Request). Ok (q, x.1)) same }

asked_kind : (frame : List ℕ) (xid : ℤ) (r : Request) (o : Option Opcode) → 8 ≤ length frame → opcode_numbered (front_int (drop 4 frame)) ≡ o
    → frame_of_kind (front_int frame) (front_int (drop 4 frame)) (length frame) (drop 8 frame) o ≡ Asks xid r → IsAskedBy frame xid r
asked_kind frame xid r None long numbered e = absurd cc
asked_kind frame xid r (Some code) long numbered e = asked_read frame xid r code (whole_at code (drop 8 frame)) long numbered refl e

asked_long : (frame : List ℕ) (xid : ℤ) (r : Request) (short : Bool) → ltb (length frame) 8 ≡ short
    → cond short NoHeader (frame_of_kind (front_int frame) (front_int (drop 4 frame)) (length frame) (drop 8 frame) (opcode_numbered (front_int (drop 4 frame)))) ≡ Asks xid r → IsAskedBy frame xid r
asked_long frame xid r true short e = absurd cc
asked_long frame xid r false long e = asked_kind frame xid r (opcode_numbered (front_int (drop 4 frame))) (ltb-false _ _ long) refl e

asked_by : (frame : List ℕ) (xid : ℤ) (r : Request) → read_request frame ≡ Asks xid r → IsAskedBy frame xid r
unfolding read_request
asked_by frame xid r e = asked_long frame xid r (ltb (length frame) 8) refl e

pub found : (frame : List ℕ) (xid : ℤ) (r : Request) → read_request frame ≡ Asks xid r → IsRequest xid r frame
found frame xid r e =
    let a = asked_by frame xid r e in
    let w = whole_is (body_at a.code (drop 8 frame)) r a.rest a.body in
    let b = body_takes a.code (drop 8 frame) r a.rest w.0 in
    let t = first_int frame xid (omega (arith, a.long)) a.first in
    let number : front_int (drop 4 frame) ≡ opcode_number (opcode_of r) = opcode_numbered-is _ a.code a.numbered ∙ ap opcode_number (sym b.1) in
    let u = first_int (drop 4 frame) (opcode_number (opcode_of r)) (omega (arith, a.long, length-drop 4 frame)) number in
    let rest : drop 8 frame ≡ b.0.front = b.0.parts ∙ ap (λ (z : List ℕ). b.0.front ++ z) w.1 ∙ append-nil b.0.front in (
      t.front ++ u.front,
      b.0.front,
      (t.front, u.front, t.spelled, (u.front, [], u.spelled, refl, sym (append-nil u.front)), refl),
      b.0.spelled,
      joined frame t.front (drop 4 frame) u.front b.0.front t.parts (u.parts ∙ ap (λ (z : List ℕ). u.front ++ z) (drop-drop 4 4 frame ∙ rest)),
    )

pub only : (frame : List ℕ) (xid : ℤ) (r : Request) → IsRequest xid r frame → read_request frame ≡ Asks xid r
only frame xid r is =
    let f1 = is.2.0 in
    let f2 = is.2.3.0 in
    let body = is.1 in
    let e2 : is.2.1 ≡ f2 = is.2.3.4 ∙ ap (λ (x : List ℕ). f2 ++ x) is.2.3.3 ∙ append-nil f2 in
    let grouped : frame ≡ f1 ++ (f2 ++ body) = is.4 ∙ ap (λ (x : List ℕ). x ++ body) (is.2.4 ∙ ap (λ (x : List ℕ). f1 ++ x) e2) ∙ append_assoc f1 f2 body in
    let second : drop 4 frame ≡ f2 ++ body = ap (drop 4) grouped ∙ drop_at f1 (f2 ++ body) 4 is.2.2.0 in
    let third : drop 8 frame ≡ body = sym (drop-drop 4 4 frame) ∙ ap (drop 4) second ∙ drop_at f2 body 4 is.2.3.2.0 in
    let long : 8 ≤ length frame = omega (arith, ap length grouped, length-append f1 (f2 ++ body), length-append f2 body, is.2.2.0, is.2.3.2.0) in
    let first : front_int frame ≡ xid = ap front_int grouped ∙ front_int_of xid f1 (f2 ++ body) is.2.2 in
    let number : front_int (drop 4 frame) ≡ opcode_number (opcode_of r) = ap front_int second ∙ front_int_of (opcode_number (opcode_of r)) f2 body is.2.3.2 in
    let read : body_at (opcode_of r) (drop 8 frame) ≡ Ok (r, []) = ap (body_at (opcode_of r)) (third ∙ sym (append-nil body)) ∙ body_again r body [] is.3 in
    reads_asks frame (opcode_of r) r [] long (ap opcode_numbered number ∙ opcode_numbered-number_of (opcode_of r)) (rw read refl) ∙ ap (λ (n : ℤ). Asks n r) first

asks_is : (xid other_xid : ℤ) (r other : Request) → Asks xid r ≡ Asks other_xid other → (xid ≡ other_xid) × (r ≡ other)
asks_is xid other_xid r other e = (cc, cc)

-- a frame has one reading
pub one : (frame : List ℕ) (xid other_xid : ℤ) (r other : Request) → IsRequest xid r frame → IsRequest other_xid other frame → (xid ≡ other_xid) × (r ≡ other)
one frame xid other_xid r other is also = asks_is xid other_xid r other (sym (only frame xid r is) ∙ only frame other_xid other also)
