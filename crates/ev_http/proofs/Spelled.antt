-- What is sent is a head that is read.
use Rattle.std.proofs.Common.{◌≡◌, ℕ, ◌+◌, ◌<◌, ◌≤◌, ◌^◌, ◌/◌, ◌%◌, ◌==◌, List, [], ◌∷◌, ◌++◌, length, reverse, Bool, true, false, ◌&&◌, IsTrue, Option, Some, None, Ok, refl, sym, ap, ◌∙◌, append_assoc, append-nil, length-append, arith, codes, rules}
use Rattle.std.specs.Prelude.{All, map, if◌then◌else◌, unwrap_or, nat_le, nat_lt}
use Rattle.std.specs.Fmt.{decimal}
use Rattle.std.specs.List.{list_all}
use Rattle.std.specs.Char.{is_ascii_digit}
use Rattle.std.specs.Str.{IsAscii}
use Rattle.std.specs.Str.Parse.{AllDigits, digits_value}
use Rattle.std.proofs.lemmas.Fmt.{decimal_is_IsNumeral, length-decimal-le, decimal_step, decimal_digit}
use Rattle.std.proofs.lemmas.List.Elements.{All-nil, All-cons, All-tail, All-head}
use Rattle.std.proofs.lemmas.Str.{IsUtf8-from_ascii}
use Rattle.std.proofs.lemmas.Str.Ascii.{IsAscii-nil, IsAscii-cons}
use Rattle.std.proofs.lemmas.Bool.Decides.{nat_tests}
use Rattle.std.proofs.lemmas.Str.Parse.{digit_from_value}
use Rattle.http.specs.StatusCode.{reason_phrase}
use Rattle.httparse.specs.Grammar.{AllPass, is_token_byte, is_uri_byte, is_value_byte, is_ows, skip_ows, trim_ows, crlf, print_end, print_version, Field, IsField, RequestHead, IsRequestHead, print_request, ResponseHead, IsResponseHead, print_response}
use Rattle.httparse.specs.Spans.{name_and_value}
use Rattle.httparse.proofs.TrimLemmas.{AllPass-reverse, trim_ows_space, skip_ows_no}
use Rattle.httparse.proofs.GrammarLemmas.{print_request-append, print_response-append, cons-append}
use Rattle.ev_types.specs.declared.route.Route.{Route}
use Rattle.ev_types.specs.declared.route.Route.TheVariants as route
use Rattle.ev_http.specs.declared.framing.Framing.TheVariants as framing
use Rattle.ev_http.specs.declared.head.Kind.TheVariants as kind
use Rattle.ev_http.specs.declared.send.Fixed.TheVariants as fixed
use Rattle.ev_http.specs.Taking.{counted}
use Rattle.ev_http.specs.Framing.{is_word, count_of, after_field, framing_of}
use Rattle.ev_http.specs.Messages.{path_of, is_post, HoldsRequest, HoldsResponse, HoldsStatus}
use Rattle.ev_http.specs.Sending.{IsHost, IsPlainRequest, IsPlainResponse, common_fields, is_watch, leader_fields, leader_text, phrase_of, text_of, request_head, response_head}
use Rattle.ev_http.proofs.Framings.{some_count}
use Rattle.zx_base.proofs.Booleans.{and-split}

-- ---- bytes

-- a test that computes
pub all_pass : (test : ℕ → Bool) (xs : List ℕ) → list_all test xs ≡ true → AllPass test xs
all_pass test [] e = All-nil (λ b. IsTrue (test b))
all_pass test (x ∷ xs) e =
    let two = and-split (test x) (list_all test xs) e in
    All-cons (λ b. IsTrue (test b)) x xs two.0 (all_pass test xs two.1)

ascii : (xs : List ℕ) → list_all (λ b. nat_lt b 128) xs ≡ true → IsAscii xs
ascii [] e = IsAscii-nil
ascii (x ∷ xs) e =
    let two = and-split (nat_lt x 128) (list_all (λ b. nat_lt b 128) xs) e in
    IsAscii-cons x xs (search rules) (ascii xs two.1)

-- ---- digits

pub digits_pass : (test : ℕ → Bool) → ((b : ℕ) → 48 ≤ b → b ≤ 57 → test b ≡ true) → (ds : List ℕ) → AllDigits 10 ds → list_all test ds ≡ true
digits_pass test is [] all = refl
digits_pass test is (d ∷ ds) all =
    let at = digit_from_value d all.0 in
    ap (λ b. b && list_all test ds) (is d at.0 at.1) ∙ digits_pass test is ds all.1

digit_is_digit : (b : ℕ) → 48 ≤ b → b ≤ 57 → is_ascii_digit b ≡ true
digit_is_digit b low high = grind (arith, nat_tests)

visible_is_value : (b : ℕ) → 33 ≤ b → b ≤ 126 → is_value_byte b ≡ true
visible_is_value b low high = grind (arith, nat_tests)

digit_is_value : (b : ℕ) → 48 ≤ b → b ≤ 57 → is_value_byte b ≡ true
digit_is_value b low high = visible_is_value b (omega arith) (omega arith)

digit_is_no_blank : (b : ℕ) → is_ascii_digit b ≡ true → is_ows b ≡ false
digit_is_no_blank b e = grind (arith, nat_tests)

host_passes : (host : List ℕ) → IsHost host → list_all is_value_byte host ≡ true
host_passes [] all = refl
host_passes (b ∷ host) all =
    let at = All-head (λ (b : ℕ). (33 ≤ b) × (b ≤ 126)) b host all in
    ap (λ c. c && list_all is_value_byte host) (visible_is_value b at.0 at.1) ∙ host_passes host (All-tail (λ (b : ℕ). (33 ≤ b) × (b ≤ 126)) b host all)

visible_is_no_blank : (b : ℕ) → 33 ≤ b → b ≤ 126 → is_ows b ≡ false
visible_is_no_blank b low high = grind (arith, nat_tests)

-- a byte that is visible, as a test
visible : ℕ → Bool
visible b = nat_le 33 b && nat_le b 126

visible_tested : (b : ℕ) → 33 ≤ b → b ≤ 126 → visible b ≡ true
unfolding visible
visible_tested b low high = grind (arith, nat_tests)

visible_within : (b : ℕ) → visible b ≡ true → (33 ≤ b) × (b ≤ 126)
unfolding visible
visible_within b e = grind (arith, nat_tests)

visible_host : (host : List ℕ) → IsHost host → AllPass visible host
visible_host [] all = All-nil (λ b. IsTrue (visible b))
visible_host (b ∷ host) all =
    let at = All-head (λ (b : ℕ). (33 ≤ b) × (b ≤ 126)) b host all in
    All-cons (λ b. IsTrue (visible b)) b host (visible_tested b at.0 at.1) (visible_host host (All-tail (λ (b : ℕ). (33 ≤ b) × (b ≤ 126)) b host all))

skip_visible : (bytes : List ℕ) → AllPass visible bytes → skip_ows bytes ≡ bytes
skip_visible [] pass = refl
skip_visible (b ∷ bytes) pass =
    let at = visible_within b (All-head (λ b. IsTrue (visible b)) b bytes pass) in
    skip_ows_no refl (sym (visible_is_no_blank b at.0 at.1))

trim_host : (host : List ℕ) → IsHost host → trim_ows (32 ∷ host) ≡ host
trim_host host is =
    let pass = visible_host host is in
    trim_ows_space host (skip_visible host pass) (skip_visible (reverse host) (AllPass-reverse visible host pass))

skip_digits : (ds : List ℕ) → AllPass is_ascii_digit ds → skip_ows ds ≡ ds
skip_digits [] pass = refl
skip_digits (d ∷ ds) pass = skip_ows_no refl (sym (digit_is_no_blank d (All-head (λ b. IsTrue (is_ascii_digit b)) d ds pass)))

trim_digits : (ds : List ℕ) → AllPass is_ascii_digit ds → trim_ows (32 ∷ ds) ≡ ds
trim_digits ds pass = trim_ows_space ds (skip_digits ds pass) (skip_digits (reverse ds) (AllPass-reverse is_ascii_digit ds pass))

-- a number as its digits
record IsNumber (n : ℕ) (ds : List ℕ) : Type 0 where
  are_digits : list_all is_ascii_digit ds ≡ true
  are_values : list_all is_value_byte ds ≡ true
  some : 0 < length ds
  value : digits_value 10 ds ≡ n

number : (n : ℕ) → n < 2 ^ 64 → IsNumber n (decimal n)
number n fits =
    let is = decimal_is_IsNumeral n fits in
    record {
      are_digits = digits_pass is_ascii_digit digit_is_digit (decimal n) is.0.1;
      are_values = digits_pass is_value_byte digit_is_value (decimal n) is.0.1;
      some = is.0.0;
      value = is.1;
    }

three_digits : (n : ℕ) → 100 ≤ n → n < 1000 → length (decimal n) ≡ 3
three_digits n low high =
    ap length (decimal_step n (omega arith) (omega arith) ∙ ap (λ (x : List ℕ). x ++ (48 + n % 10) ∷ []) (decimal_step (n / 10) (omega arith) (omega arith) ∙ ap (λ (x : List ℕ). x ++ (48 + n / 10 % 10) ∷ []) (decimal_digit (n / 10 / 10) (omega arith))))

-- ---- phrases

good : List ℕ → Bool
good phrase = list_all is_value_byte phrase && nat_le (length phrase) 40

record IsPhrase (phrase : Option (List ℕ)) : Type 0 where
  is : good (unwrap_or phrase []) ≡ true

no_phrase : IsPhrase None
unfolding good
no_phrase = record { is = refl }

text : (phrase : List ℕ) → good phrase ≡ true → IsPhrase (Some phrase)
text phrase is = record { is = is }

chosen : (b : Bool) {x y : Option (List ℕ)} → IsPhrase x → IsPhrase y → IsPhrase (if b then x else y)
chosen true one two = one
chosen false one two = two

good_phrase : (n : ℕ) → IsPhrase (reason_phrase n)
unfolding good
good_phrase n =
    chosen (n == 100) (text (codes "Continue") refl) (
    chosen (n == 101) (text (codes "Switching Protocols") refl) (
    chosen (n == 102) (text (codes "Processing") refl) (
    chosen (n == 103) (text (codes "Early Hints") refl) (
    chosen (n == 200) (text (codes "OK") refl) (
    chosen (n == 201) (text (codes "Created") refl) (
    chosen (n == 202) (text (codes "Accepted") refl) (
    chosen (n == 203) (text (codes "Non Authoritative Information") refl) (
    chosen (n == 204) (text (codes "No Content") refl) (
    chosen (n == 205) (text (codes "Reset Content") refl) (
    chosen (n == 206) (text (codes "Partial Content") refl) (
    chosen (n == 207) (text (codes "Multi-Status") refl) (
    chosen (n == 208) (text (codes "Already Reported") refl) (
    chosen (n == 226) (text (codes "IM Used") refl) (
    chosen (n == 300) (text (codes "Multiple Choices") refl) (
    chosen (n == 301) (text (codes "Moved Permanently") refl) (
    chosen (n == 302) (text (codes "Found") refl) (
    chosen (n == 303) (text (codes "See Other") refl) (
    chosen (n == 304) (text (codes "Not Modified") refl) (
    chosen (n == 305) (text (codes "Use Proxy") refl) (
    chosen (n == 307) (text (codes "Temporary Redirect") refl) (
    chosen (n == 308) (text (codes "Permanent Redirect") refl) (
    chosen (n == 400) (text (codes "Bad Request") refl) (
    chosen (n == 401) (text (codes "Unauthorized") refl) (
    chosen (n == 402) (text (codes "Payment Required") refl) (
    chosen (n == 403) (text (codes "Forbidden") refl) (
    chosen (n == 404) (text (codes "Not Found") refl) (
    chosen (n == 405) (text (codes "Method Not Allowed") refl) (
    chosen (n == 406) (text (codes "Not Acceptable") refl) (
    chosen (n == 407) (text (codes "Proxy Authentication Required") refl) (
    chosen (n == 408) (text (codes "Request Timeout") refl) (
    chosen (n == 409) (text (codes "Conflict") refl) (
    chosen (n == 410) (text (codes "Gone") refl) (
    chosen (n == 411) (text (codes "Length Required") refl) (
    chosen (n == 412) (text (codes "Precondition Failed") refl) (
    chosen (n == 413) (text (codes "Payload Too Large") refl) (
    chosen (n == 414) (text (codes "URI Too Long") refl) (
    chosen (n == 415) (text (codes "Unsupported Media Type") refl) (
    chosen (n == 416) (text (codes "Range Not Satisfiable") refl) (
    chosen (n == 417) (text (codes "Expectation Failed") refl) (
    chosen (n == 418) (text (codes "I'm a teapot") refl) (
    chosen (n == 421) (text (codes "Misdirected Request") refl) (
    chosen (n == 422) (text (codes "Unprocessable Entity") refl) (
    chosen (n == 423) (text (codes "Locked") refl) (
    chosen (n == 424) (text (codes "Failed Dependency") refl) (
    chosen (n == 425) (text (codes "Too Early") refl) (
    chosen (n == 426) (text (codes "Upgrade Required") refl) (
    chosen (n == 428) (text (codes "Precondition Required") refl) (
    chosen (n == 429) (text (codes "Too Many Requests") refl) (
    chosen (n == 431) (text (codes "Request Header Fields Too Large") refl) (
    chosen (n == 451) (text (codes "Unavailable For Legal Reasons") refl) (
    chosen (n == 500) (text (codes "Internal Server Error") refl) (
    chosen (n == 501) (text (codes "Not Implemented") refl) (
    chosen (n == 502) (text (codes "Bad Gateway") refl) (
    chosen (n == 503) (text (codes "Service Unavailable") refl) (
    chosen (n == 504) (text (codes "Gateway Timeout") refl) (
    chosen (n == 505) (text (codes "HTTP Version Not Supported") refl) (
    chosen (n == 506) (text (codes "Variant Also Negotiates") refl) (
    chosen (n == 507) (text (codes "Insufficient Storage") refl) (
    chosen (n == 508) (text (codes "Loop Detected") refl) (
    chosen (n == 510) (text (codes "Not Extended") refl) (
    chosen (n == 511) (text (codes "Network Authentication Required") refl) (
    no_phrase))))))))))))))))))))))))))))))))))))))))))))))))))))))))))))))

taken_phrase : (b : Bool) (x : List ℕ) → good x ≡ true → good (if b then x else []) ≡ true
unfolding good
taken_phrase true x is = is
taken_phrase false x is = refl

phrase_passes : (status : ℕ) → (list_all is_value_byte (phrase_of status) ≡ true) × (length (phrase_of status) ≤ 40)
unfolding good
phrase_passes status =
    let is = and-split _ _ (taken_phrase (nat_le 100 status && nat_lt status 1000) (unwrap_or (reason_phrase status) []) (good_phrase status).is) in
    (is.0, search (rules, is.1))

-- ---- fields

abbrev pub field : List ℕ → List ℕ → Field
field name value = record { name = name; raw = 32 ∷ value; end = crlf }

-- the fields of each message: its type and its length
abbrev common : List ℕ → List Field
common ds = field (codes "content-type") (codes "application/json") ∷ (field (codes "content-length") ds ∷ [])

pub is_field : (name value : List ℕ) → 0 < length name → list_all is_token_byte name ≡ true → list_all is_value_byte value ≡ true → IsField (field name value)
is_field name value some token is = record {
  name = (some, all_pass is_token_byte name token);
  raw = all_pass is_value_byte (32 ∷ value) is;
}

are_common : (ds : List ℕ) → list_all is_value_byte ds ≡ true → All IsField (common ds)
unfolding is_token_byte
are_common ds is =
    All-cons IsField (field (codes "content-type") (codes "application/json")) (field (codes "content-length") ds ∷ []) (is_field (codes "content-type") (codes "application/json") (omega arith) refl refl)
    (All-cons IsField (field (codes "content-length") ds) [] (is_field (codes "content-length") ds (omega arith) refl is) (All-nil IsField))

counted_here : (n : ℕ) (ds : List ℕ) → n < 2 ^ 64 → IsNumber n ds → count_of (trim_ows (32 ∷ ds)) ≡ Some n
counted_here n ds fits is =
    ap count_of (trim_digits ds (all_pass is_ascii_digit ds is.are_digits)) ∙ sym (some_count ds n is.some is.are_digits (ap counted is.value) fits)

frames_response : (n : ℕ) (ds : List ℕ) → n < 2 ^ 64 → IsNumber n ds → framing_of kind.Response (common ds) ≡ Ok (framing.Counted n)
unfolding after_field is_word
frames_response n ds fits is = let value = counted_here n ds fits is in rw value refl

frames_request : (host : List ℕ) (n : ℕ) (ds : List ℕ) → n < 2 ^ 64 → IsNumber n ds → framing_of kind.Request (field (codes "host") host ∷ common ds) ≡ Ok (framing.Counted n)
unfolding after_field is_word
frames_request host n ds fits is = let value = counted_here n ds fits is in rw value refl

two_fields : (n1 v1 n2 v2 e : List ℕ) → (((n1 ++ 58 ∷ 32 ∷ v1) ++ e) ++ (((n2 ++ 58 ∷ 32 ∷ v2) ++ e) ++ [])) ++ e ≡ n1 ++ 58 ∷ 32 ∷ (v1 ++ (e ++ (n2 ++ 58 ∷ 32 ∷ (v2 ++ (e ++ e)))))
two_fields n1 v1 n2 v2 e = simp (append_assoc, cons-append)

three_fields : (n1 v1 n2 v2 n3 v3 e : List ℕ) → (((n1 ++ 58 ∷ 32 ∷ v1) ++ e) ++ (((n2 ++ 58 ∷ 32 ∷ v2) ++ e) ++ (((n3 ++ 58 ∷ 32 ∷ v3) ++ e) ++ []))) ++ e ≡ n1 ++ 58 ∷ 32 ∷ (v1 ++ (e ++ (n2 ++ 58 ∷ 32 ∷ (v2 ++ (e ++ (n3 ++ 58 ∷ 32 ∷ (v3 ++ (e ++ e))))))))
three_fields n1 v1 n2 v2 n3 v3 e = simp (append_assoc, cons-append)

four_fields : (n1 v1 n2 v2 n3 v3 n4 v4 e : List ℕ) → (((n1 ++ 58 ∷ 32 ∷ v1) ++ e) ++ (((n2 ++ 58 ∷ 32 ∷ v2) ++ e) ++ (((n3 ++ 58 ∷ 32 ∷ v3) ++ e) ++ (((n4 ++ 58 ∷ 32 ∷ v4) ++ e) ++ [])))) ++ e ≡ n1 ++ 58 ∷ 32 ∷ (v1 ++ (e ++ (n2 ++ 58 ∷ 32 ∷ (v2 ++ (e ++ (n3 ++ 58 ∷ 32 ∷ (v3 ++ (e ++ (n4 ++ 58 ∷ 32 ∷ (v4 ++ (e ++ e)))))))))))
four_fields n1 v1 n2 v2 n3 v3 n4 v4 e = simp (append_assoc, cons-append)

-- ---- requests

path_is_target : (r : Route) → (0 < length (path_of r)) × (list_all is_uri_byte (path_of r) ≡ true) × (list_all (λ b. nat_lt b 128) (path_of r) ≡ true)
unfolding path_of
path_is_target route.Txn = (omega arith, refl, refl)
path_is_target route.Range = (omega arith, refl, refl)
path_is_target route.Grant = (omega arith, refl, refl)
path_is_target route.Alive = (omega arith, refl, refl)
path_is_target route.Watch = (omega arith, refl, refl)

abbrev leader_field : Field
leader_field = field (codes "grpc-metadata-hasleader") (codes "true")

abbrev fields_to : Bool → List ℕ → ℕ → List Field
fields_to true host n = field (codes "host") host ∷ (leader_field ∷ common (decimal n))
fields_to false host n = field (codes "host") host ∷ common (decimal n)

abbrev head_with : Bool → List ℕ → List ℕ → ℕ → RequestHead
head_with leads host path n = record {
  blank = [];
  method = codes "POST";
  target = path;
  minor = 1;
  line_end = crlf;
  fields = fields_to leads host n;
  last = crlf;
}

abbrev head_to : List ℕ → Route → ℕ → RequestHead
head_to host r n = head_with (is_watch r) host (path_of r) n

are_fields_to : (leads : Bool) (host : List ℕ) (n : ℕ) → n < 2 ^ 64 → IsHost host → All IsField (fields_to leads host n)
unfolding is_token_byte
are_fields_to false host n fits is_host =
    All-cons IsField (field (codes "host") host) (common (decimal n)) (is_field (codes "host") host (omega arith) refl (host_passes host is_host)) (are_common (decimal n) (number n fits).are_values)
are_fields_to true host n fits is_host =
    All-cons IsField (field (codes "host") host) (leader_field ∷ common (decimal n)) (is_field (codes "host") host (omega arith) refl (host_passes host is_host))
    (All-cons IsField leader_field (common (decimal n)) (is_field (codes "grpc-metadata-hasleader") (codes "true") (omega arith) refl refl) (are_common (decimal n) (number n fits).are_values))

few_fields : (leads : Bool) (host : List ℕ) (n : ℕ) → length (fields_to leads host n) ≤ 64
few_fields false host n = omega arith
few_fields true host n = omega arith

frames_to : (leads : Bool) (host : List ℕ) (n : ℕ) → n < 2 ^ 64 → framing_of kind.Request (fields_to leads host n) ≡ Ok (framing.Counted n)
unfolding after_field is_word
frames_to false host n fits = frames_request host n (decimal n) fits (number n fits)
frames_to true host n fits = let value = counted_here n (decimal n) fits (number n fits) in rw value refl

is_head_to : (host : List ℕ) (r : Route) (n : ℕ) → n < 2 ^ 64 → IsHost host → IsRequestHead (head_to host r n)
unfolding is_token_byte
is_head_to host r n fits is_host =
    let target = path_is_target r in
    record {
      method = (omega arith, all_pass is_token_byte (codes "POST") refl);
      target = (target.0, all_pass is_uri_byte (path_of r) target.1);
      target_text = IsUtf8-from_ascii (path_of r) (ascii (path_of r) target.2);
      minor = omega arith;
      fields = are_fields_to (is_watch r) host n fits is_host;
    }

printed_with : (leads : Bool) (host path : List ℕ) (n : ℕ)
    → text_of fixed.Post ++ (path ++ (text_of fixed.Host ++ (host ++ (leader_text leads ++ (text_of fixed.Fields ++ (decimal n ++ text_of fixed.End)))))) ≡ print_request (head_with leads host path n)
unfolding text_of
printed_with false host path n =
    let lines = three_fields (codes "host") host (codes "content-type") (codes "application/json") (codes "content-length") (decimal n) (print_end crlf) in
    let front : List ℕ → List ℕ = λ (x : List ℕ). codes "POST" ++ 32 ∷ (path ++ 32 ∷ (print_version 1 ++ (print_end crlf ++ x))) in
    ap front (sym lines ∙ sym (append-nil _)) ∙ sym (print_request-append (head_with false host path n) []) ∙ append-nil (print_request (head_with false host path n))
printed_with true host path n =
    let lines = four_fields (codes "host") host (codes "grpc-metadata-hasleader") (codes "true") (codes "content-type") (codes "application/json") (codes "content-length") (decimal n) (print_end crlf) in
    let front : List ℕ → List ℕ = λ (x : List ℕ). codes "POST" ++ 32 ∷ (path ++ 32 ∷ (print_version 1 ++ (print_end crlf ++ x))) in
    ap front (sym lines ∙ sym (append-nil _)) ∙ sym (print_request-append (head_with true host path n) []) ∙ append-nil (print_request (head_with true host path n))

printed_request : (host : List ℕ) (r : Route) (n : ℕ) → request_head host r n ≡ print_request (head_to host r n)
printed_request host r n = printed_with (is_watch r) host (path_of r) n

is_post-post : is_post (codes "POST") ≡ true
unfolding is_post
is_post-post = refl

pub request_back : (host body rest : List ℕ) (goes : Route) → IsHost host → length (request_head host goes (length body)) ≤ 16384 → length body ≤ 8388608 → HoldsRequest goes body rest ((request_head host goes (length body) ++ body) ++ rest)
request_back host body rest goes is_host short small =
    let n = length body in
    let fits : n < 2 ^ 64 = omega arith in
    record {
      h = head_to host goes n;
      head = request_head host goes n;
      whole = record { is_head = is_head_to host goes n fits is_host; printed = printed_request host goes n; few = few_fields (is_watch goes) host n; short = short };
      says = (is_post-post, refl, frames_to (is_watch goes) host n fits);
      bytes_are = append_assoc (request_head host goes n) body rest;
    }

pub trim_kind : trim_ows (32 ∷ codes "application/json") ≡ codes "application/json"
unfolding trim_ows
trim_kind = refl

common_says : (n : ℕ) → n < 2 ^ 64 → map name_and_value (common (decimal n)) ≡ common_fields n
common_says n fits =
    let length_is = trim_digits (decimal n) (all_pass is_ascii_digit (decimal n) (number n fits).are_digits) in
    rw (trim_kind, length_is) refl

all_crlf : (ds : List ℕ) → All (λ (f : Field). f.end ≡ crlf) (common ds)
all_crlf ds =
    All-cons (λ (f : Field). f.end ≡ crlf) (field (codes "content-type") (codes "application/json")) (field (codes "content-length") ds ∷ []) refl
    (All-cons (λ (f : Field). f.end ≡ crlf) (field (codes "content-length") ds) [] refl (All-nil (λ (f : Field). f.end ≡ crlf)))

trim_true : trim_ows (32 ∷ codes "true") ≡ codes "true"
unfolding trim_ows
trim_true = refl

lines_to : (leads : Bool) (host : List ℕ) (n : ℕ) → All (λ (f : Field). f.end ≡ crlf) (fields_to leads host n)
lines_to false host n = All-cons (λ (f : Field). f.end ≡ crlf) (field (codes "host") host) (common (decimal n)) refl (all_crlf (decimal n))
lines_to true host n =
    All-cons (λ (f : Field). f.end ≡ crlf) (field (codes "host") host) (leader_field ∷ common (decimal n)) refl
    (All-cons (λ (f : Field). f.end ≡ crlf) leader_field (common (decimal n)) refl (all_crlf (decimal n)))

says_to : (leads : Bool) (host : List ℕ) (n : ℕ) → n < 2 ^ 64 → IsHost host → map name_and_value (fields_to leads host n) ≡ (codes "host", host) ∷ (leader_fields leads ++ common_fields n)
says_to false host n fits is_host =
    ap (λ (x : List ℕ). (codes "host", x) ∷ map name_and_value (common (decimal n))) (trim_host host is_host) ∙ ap (λ (x : List (List ℕ × List ℕ)). (codes "host", host) ∷ x) (common_says n fits)
says_to true host n fits is_host =
    ap (λ (x : List ℕ). (codes "host", x) ∷ map name_and_value (leader_field ∷ common (decimal n))) (trim_host host is_host)
    ∙ (ap (λ (x : List ℕ). (codes "host", host) ∷ (codes "grpc-metadata-hasleader", x) ∷ map name_and_value (common (decimal n))) trim_true
    ∙ ap (λ (x : List (List ℕ × List ℕ)). (codes "host", host) ∷ (codes "grpc-metadata-hasleader", codes "true") ∷ x) (common_says n fits))

pub request_form : (host : List ℕ) (goes : Route) (n : ℕ) → IsHost host → n ≤ 8388608 → (h : RequestHead) × (request_head host goes n ≡ print_request h) × IsPlainRequest host goes n h
request_form host goes n is_host small = (
  head_to host goes n,
  printed_request host goes n,
  record {
    alone = refl;
    version = refl;
    start = refl;
    lines = lines_to (is_watch goes) host n;
    last = refl;
    says = says_to (is_watch goes) host n (omega arith) is_host;
  },
)

-- ---- responses

abbrev head_of : ℕ → ℕ → ResponseHead
head_of status n = record {
  blank = [];
  minor = 1;
  digits = decimal status;
  reason = Some (phrase_of status);
  line_end = crlf;
  fields = common (decimal n);
  last = crlf;
}

is_head_of : (status n : ℕ) → 100 ≤ status → status < 1000 → n < 2 ^ 64 → IsResponseHead (head_of status n)
is_head_of status n low high fits = record {
  minor = omega arith;
  digits = (three_digits status low high, all_pass is_ascii_digit (decimal status) (number status (omega arith)).are_digits);
  reason = all_pass is_value_byte (phrase_of status) (phrase_passes status).0;
  fields = are_common (decimal n) (number n fits).are_values;
}

printed_response : (status n : ℕ) → response_head status n ≡ print_response (head_of status n)
unfolding text_of
printed_response status n =
    let lines = two_fields (codes "content-type") (codes "application/json") (codes "content-length") (decimal n) (print_end crlf) in
    let front : List ℕ → List ℕ = λ (x : List ℕ). print_version 1 ++ 32 ∷ (decimal status ++ (32 ∷ phrase_of status ++ (print_end crlf ++ x))) in
    ap front (sym lines ∙ sym (append-nil _)) ∙ sym (print_response-append (head_of status n) []) ∙ append-nil (print_response (head_of status n))

lengths : (a b c d e f g : List ℕ) → length (a ++ (b ++ (c ++ (d ++ (e ++ (f ++ g)))))) ≡ length a + (length b + (length c + (length d + (length e + (length f + length g)))))
lengths a b c d e f g = simp length-append

short_response : (status n : ℕ) → 100 ≤ status → status < 1000 → n < 10 ^ 8 → length (response_head status n) ≤ 16384
unfolding text_of
short_response status n low high small =
    let all = lengths (text_of fixed.Version) (decimal status) (text_of fixed.Blank) (phrase_of status) (text_of fixed.Fields) (decimal n) (text_of fixed.End) in
    let digits = length-decimal-le 8 n (omega arith) small (omega arith) in
    let code = three_digits status low high in
    let phrase = (phrase_passes status).1 in
    omega (arith, all, digits, code, phrase)

pub response_back : (status : ℕ) (body rest : List ℕ) → 100 ≤ status → status < 1000 → length body ≤ 8388608 → HoldsStatus status body rest ((response_head status (length body) ++ body) ++ rest)
response_back status body rest low high small =
    let n = length body in
    let fits : n < 2 ^ 64 = omega arith in
    record {
      h = head_of status n;
      head = response_head status n;
      whole = record { is_head = is_head_of status n low high fits; printed = printed_response status n; few = omega arith; short = short_response status n low high (omega arith) };
      says = (number status (omega arith)).value;
      framed = frames_response n (decimal n) fits (number n fits);
      bytes_are = append_assoc (response_head status n) body rest;
    }

pub good_response_back : (body rest : List ℕ) → length body ≤ 8388608 → HoldsResponse body rest ((response_head 200 (length body) ++ body) ++ rest)
good_response_back body rest small =
    let is = response_back 200 body rest (omega arith) (omega arith) small in
    record {
      h = is.h;
      head = is.head;
      whole = is.whole;
      framed = framing.Counted (length body);
      says = (is.says, is.framed);
      after = body;
      carries = (refl, refl);
      alone = tt;
      bytes_are = is.bytes_are;
    }

pub response_form : (status n : ℕ) → 100 ≤ status → status < 1000 → n ≤ 8388608 → (h : ResponseHead) × (response_head status n ≡ print_response h) × IsPlainResponse status n h
response_form status n low high small = (
  head_of status n,
  printed_response status n,
  record { alone = refl; version = refl; phrase = refl; start = refl; lines = all_crlf (decimal n); last = refl; says = common_says n (omega arith) },
)
