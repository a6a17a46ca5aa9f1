-- The lengths of what is written, and that each length and count in a frame fits where the frame's does.
use Rattle.std.proofs.Common.{◌≡◌, ℕ, ◌+◌, ◌^◌, ◌<◌, ◌≤◌, Bool, true, false, Option, None, Some, List, [], ◌∷◌, ◌++◌, length, refl, sym, ◌∙◌, arith, ℤ, pos}
use Rattle.std.specs.List.{AllByRecursion, flat_map}
use Rattle.std.proofs.lemmas.List.{length-append}
use Rattle.byteorder.specs.Numbers.{length-bytes_high_first}
use Rattle.std.specs.Int.{w32, w64, cast_unsigned}
use Rattle.zk_model.specs.declared.connect.ConnectResponse.{ConnectResponse}
use Rattle.zk_model.specs.declared.reply.Reply.{Reply}
use Rattle.zk_model.specs.declared.reply.Reply.TheVariants as replies
use Rattle.zk_model.specs.declared.request.Acl.{Acl}
use Rattle.zk_model.specs.declared.request.Request.{Request}
use Rattle.zk_model.specs.Limits.{max_frame}
use Rattle.zk_jute.specs.JuteValues.{Value, int, long, boolean, buffer, ustring, ustrings, acls, open_acl}
use Rattle.zk_jute.specs.JuteWriting.{int_bytes, long_bytes, boolean_bytes, string_bytes, vector_bytes, acl_bytes, canonical, IsShort, IsShortAcl, CanBeWritten, FitsLength, written}
use Rattle.zk_jute.specs.Connects.{optional, connect_response_values}
use Rattle.zk_jute.specs.Numbers.{opcode_number, opcode_of}
use Rattle.zk_jute.specs.Sending.{request_bytes, asked_values}
use Rattle.zk_jute.specs.Packets.{reply_bytes}
use Rattle.zk_jute.specs.Replies.{body_values}

pub length-int_bytes : (n : ℤ) → length (int_bytes n) ≡ 4
unfolding int_bytes
length-int_bytes n = length-bytes_high_first 4 (cast_unsigned w32 n)

pub length-long_bytes : (n : ℤ) → length (long_bytes n) ≡ 8
unfolding long_bytes
length-long_bytes n = length-bytes_high_first 8 (cast_unsigned w64 n)

pub length-string_bytes : (bytes : List ℕ) → length (string_bytes bytes) ≡ length bytes + 4
length-string_bytes bytes = omega (arith, length-append (int_bytes (pos (length bytes))) bytes, length-int_bytes (pos (length bytes)))

pub length-boolean_bytes : (b : Bool) → length (boolean_bytes b) ≡ 1
length-boolean_bytes true = refl
length-boolean_bytes false = refl

pub length-acl_bytes : (acl : Acl) → length (acl_bytes acl) ≡ 4 + length (string_bytes acl.scheme) + length (string_bytes acl.id)
length-acl_bytes acl =
    omega (arith, length-append (int_bytes acl.perms ++ string_bytes acl.scheme) (string_bytes acl.id), length-append (int_bytes acl.perms) (string_bytes acl.scheme), length-int_bytes acl.perms)

pub length-vector_bytes : {A : Type 0} (each : A → List ℕ) (xs : List A) → length (vector_bytes each xs) ≡ 4 + length (flat_map each xs)
length-vector_bytes {A = A} each xs = omega (arith, length-append (int_bytes (pos (length xs))) (flat_map each xs), length-int_bytes (pos (length xs)))

pub length-open_acl : length (canonical open_acl) ≡ 27
unfolding int_bytes
length-open_acl = refl

pub ruleset lengths = (length-int_bytes, length-long_bytes, length-boolean_bytes, length-string_bytes, length-acl_bytes, length-vector_bytes, length-open_acl)

-- ---- what fits as a whole fits in its parts

string_short : (bytes : List ℕ) → length (string_bytes bytes) < 2 ^ 31 → IsShort bytes
string_short bytes fits = omega (arith, length-string_bytes bytes)

acl_short : (acl : Acl) → length (acl_bytes acl) < 2 ^ 31 → IsShortAcl acl
acl_short acl fits =
    let front : List ℕ = int_bytes acl.perms ++ string_bytes acl.scheme in
    let whole = length-append front (string_bytes acl.id) in
    let part = length-append (int_bytes acl.perms) (string_bytes acl.scheme) in
    record {
      scheme = string_short acl.scheme (omega (arith, whole, part));
      id = string_short acl.id (omega (arith, whole));
    }

each_short : {A : Type 0} (bytes : A → List ℕ) (Fits : A → Type 0) → ((x : A) → length (bytes x) < 2 ^ 31 → Fits x) → (xs : List A) → length (flat_map bytes xs) < 2 ^ 31 → AllByRecursion Fits xs
each_short {A = A} bytes Fits one [] fits = tt
each_short {A = A} bytes Fits one (x ∷ xs) fits =
    let both = length-append (bytes x) (flat_map bytes xs) in
    (one x (omega (arith, both)), each_short bytes Fits one xs (omega (arith, both)))

no_more_items : {A : Type 0} (bytes : A → List ℕ) → ((x : A) → 1 ≤ length (bytes x)) → (xs : List A) → length xs ≤ length (flat_map bytes xs)
no_more_items {A = A} bytes one [] = omega arith
no_more_items {A = A} bytes one (x ∷ xs) = omega (arith, one x, no_more_items bytes one xs, length-append (bytes x) (flat_map bytes xs))

vector_short : {A : Type 0} (bytes : A → List ℕ) (Fits : A → Type 0) → ((x : A) → length (bytes x) < 2 ^ 31 → Fits x) → ((x : A) → 1 ≤ length (bytes x)) → (xs : List A) → length (vector_bytes bytes xs) < 2 ^ 31
    → (length xs < 2 ^ 31) × AllByRecursion Fits xs
vector_short {A = A} bytes Fits fit one xs fits =
    let both = length-append (int_bytes (pos (length xs))) (flat_map bytes xs) in
    (omega (arith, both, no_more_items bytes one xs), each_short bytes Fits fit xs (omega (arith, both)))

string_long : (bytes : List ℕ) → 1 ≤ length (string_bytes bytes)
string_long bytes = omega (arith, length-string_bytes bytes)

acl_long : (acl : Acl) → 1 ≤ length (acl_bytes acl)
acl_long acl = omega (arith, length-append (int_bytes acl.perms ++ string_bytes acl.scheme) (string_bytes acl.id), string_long acl.id)

value_can : (v : Value) → length (canonical v) < 2 ^ 31 → CanBeWritten v
value_can (int n) fits = tt
value_can (long n) fits = tt
value_can (boolean b) fits = tt
value_can (buffer content) fits = string_short content fits
value_can (ustring text) fits = string_short text fits
value_can (ustrings texts) fits = vector_short string_bytes IsShort string_short string_long texts fits
value_can (acls entries) fits = vector_short acl_bytes IsShortAcl acl_short acl_long entries fits
value_can open_acl fits = tt

pub written_can : (vs : List Value) → FitsLength (written vs) → AllByRecursion CanBeWritten vs
written_can vs fits = each_short canonical CanBeWritten value_can vs fits

-- ---- the length of a packet does not depend on its header's numbers

same_length : (a b c d : List ℕ) → length a ≡ length b → length c ≡ length d → length (a ++ c) ≡ length (b ++ d)
same_length a b c d e f = omega (arith, length-append a c, length-append b d, e, f)

same_int : (n m : ℤ) → length (int_bytes n) ≡ length (int_bytes m)
same_int n m = length-int_bytes n ∙ sym (length-int_bytes m)

same_header : (xid zxid x z : ℤ) (rest : List ℕ) → length (int_bytes xid ++ (long_bytes zxid ++ rest)) ≡ length (int_bytes x ++ (long_bytes z ++ rest))
same_header xid zxid x z rest =
    same_length (int_bytes xid) (int_bytes x) (long_bytes zxid ++ rest) (long_bytes z ++ rest) (same_int xid x)
    (same_length (long_bytes zxid) (long_bytes z) rest rest (length-long_bytes zxid ∙ sym (length-long_bytes z)) refl)

pub length-reply_bytes : (xid zxid x z : ℤ) (r : Reply) → length (reply_bytes xid zxid r) ≡ length (reply_bytes x z r)
length-reply_bytes xid zxid x z (replies.Refused code) = same_header xid zxid x z (int_bytes code ++ [])
length-reply_bytes xid zxid x z (replies.Good body) = same_header xid zxid x z (int_bytes (pos 0) ++ written (body_values body))

pub length-request_bytes : (xid x : ℤ) (r : Request) → length (request_bytes xid r) ≡ length (request_bytes x r)
length-request_bytes xid x r =
    let rest : List ℕ = int_bytes (opcode_number (opcode_of r)) ++ written (asked_values r) in
    same_length (int_bytes xid) (int_bytes x) rest rest (same_int xid x) refl

optional_short : (flag : Option Bool) → length (written (optional flag)) ≤ 1
optional_short None = omega arith
optional_short (Some true) = omega arith
optional_short (Some false) = omega arith

-- an answer to a connect has a password of 16 bytes
pub connect_within : (r : ConnectResponse) → length r.passwd ≡ 16 → length (written (connect_response_values r)) ≤ max_frame
connect_within r sixteen =
    let last : List ℕ = written (optional r.read_only) in
    let passwd : List ℕ = string_bytes r.passwd in
    omega (
      arith,
      optional_short r.read_only,
      length-append (int_bytes (pos 0)) (int_bytes r.timeout ++ (long_bytes r.session ++ (passwd ++ last))),
      length-append (int_bytes r.timeout) (long_bytes r.session ++ (passwd ++ last)),
      length-append (long_bytes r.session) (passwd ++ last),
      length-append passwd last,
      length-int_bytes (pos 0),
      length-int_bytes r.timeout,
      length-long_bytes r.session,
      length-string_bytes r.passwd,
      sixteen,
    )

pub connect_short : (r : ConnectResponse) → length r.passwd ≡ 16 → FitsLength (written (connect_response_values r))
connect_short r sixteen = omega (arith, connect_within r sixteen)
