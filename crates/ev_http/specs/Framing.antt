-- How the body of a message is framed (RFC 9112, section 6), by the fields of its head.
use Rattle.std.specs.Prelude.{◌≡◌, ℕ, ◌⊎◌, List, [], ◌∷◌, ◌++◌, length, map, drop, Bool, true, false, ◌&&◌, ◌==◌, if◌then◌else◌, Option, Some, None, Result, Ok, Err, codes, bytes_eq, nat_lt, suc, All}
use Rattle.std.specs.List.{flat_map, list_all}
use Rattle.std.specs.Char.{is_ascii_digit, to_ascii_lowercase}
use Rattle.std.specs.Str.Parse.{digits_value}
use Rattle.httparse.specs.Grammar.{Field, LineEnd, print_section}
use Rattle.httparse.specs.Spans.{name_and_value}
use Rattle.ev_http.specs.declared.head.Kind.{Kind}
use Rattle.ev_http.specs.declared.head.Kind.TheVariants as kind
use Rattle.ev_http.specs.declared.framing.Framing.{Framing}
use Rattle.ev_http.specs.declared.framing.Framing.TheVariants as framing
use Rattle.ev_http.specs.declared.framing.Word.{Word}
use Rattle.ev_http.specs.declared.framing.Word.TheVariants as word
use Rattle.ev_http.specs.Taking.{IsLine, counted}

abbrev pub text_of : Word → List ℕ
text_of word.ContentLength = codes "content-length"
text_of word.TransferEncoding = codes "transfer-encoding"
text_of word.Chunked = codes "chunked"

-- The bytes are the word, whatever the case of their letters.
unfoldable pub is_word : Word → List ℕ → Bool
is_word word bytes = bytes_eq (map to_ascii_lowercase bytes) (text_of word)

-- The number that a value of digits gives, or 2 ^ 64 - 1 where it is greater; None for any other value.
unfoldable pub count_of : List ℕ → Option ℕ
count_of value = if nat_lt 0 (length value) && list_all is_ascii_digit value then Some (counted (digits_value 10 value)) else None

-- A content-length must be a number and may not follow a transfer-encoding. The first one counts, and each later one must be equal.
abbrev pub after_count : Framing → Option ℕ → Option Framing
after_count framing.ToEnd (Some n) = Some (framing.Counted n)
after_count (framing.Counted m) (Some n) = if m == n then Some (framing.Counted m) else None
after_count framing.Chunked (Some n) = None
after_count framing.ToEnd None = None
after_count (framing.Counted m) None = None
after_count framing.Chunked None = None

-- A transfer-encoding: a response may have one, which is `chunked` and does not follow a content-length; a request may have none.
abbrev pub after_coding : Kind → Framing → Bool → Option Framing
after_coding kind.Response framing.ToEnd true = Some framing.Chunked
after_coding kind.Response framing.ToEnd false = None
after_coding kind.Response framing.Chunked coding = None
after_coding kind.Response (framing.Counted m) coding = None
after_coding kind.Request f coding = None

-- The framing after one more field, by its name and value; None where it breaks a rule.
unfoldable pub after_field : Kind → Framing → List ℕ × List ℕ → Option Framing
after_field kind f field =
    if is_word word.ContentLength field.0 then after_count f (count_of field.1)
    else (if is_word word.TransferEncoding field.0 then after_coding kind f (is_word word.Chunked field.1) else Some f)

abbrev pub later : Result Framing ℕ → Result Framing ℕ
later (Ok f) = Ok f
later (Err number) = Err (suc number)

abbrev pub next_or : Option Framing → (Framing → Result Framing ℕ) → Result Framing ℕ
next_or (Some f) go = later (go f)
next_or None go = Err 0

-- The framing after these fields, or the number of the first that breaks a rule.
abbrev pub framing_after : Kind → Framing → List (List ℕ × List ℕ) → Result Framing ℕ
framing_after kind f [] = Ok f
framing_after kind f (x ∷ xs) = next_or (after_field kind f x) (λ g. framing_after kind g xs)

-- A request must have a content-length: without one, the empty line after its fields is at fault.
abbrev pub whole_framing : Kind → ℕ → Result Framing ℕ → Result Framing ℕ
whole_framing kind.Request count (Ok framing.ToEnd) = Err count
whole_framing kind.Request count (Ok (framing.Counted n)) = Ok (framing.Counted n)
whole_framing kind.Request count (Ok framing.Chunked) = Err count
whole_framing kind.Request count (Err number) = Err number
whole_framing kind.Response count read = read

-- A count of bytes as a framing, or the number of the line that is at fault.
abbrev pub counted_framing : Result ℕ ℕ → Result Framing ℕ
counted_framing (Ok n) = Ok (framing.Counted n)
counted_framing (Err number) = Err number

-- How the body after a head with these fields is framed, or the number of the line that is at fault.
abbrev pub framing_of : Kind → List Field → Result Framing ℕ
framing_of kind fields = whole_framing kind (length fields) (framing_after kind framing.ToEnd (map name_and_value fields))

-- Nothing, or whole lines.
abbrev pub EndsInFeed : List ℕ → Type 0
EndsInFeed bytes = (bytes ≡ []) ⊎ ((front : List ℕ) × (bytes ≡ front ++ 10 ∷ []))

-- The last so many lines of the bytes, each with its line feed, begin at this place.
abbrev pub BeginsLastLines : List ℕ → ℕ → ℕ → Type 0
BeginsLastLines bytes count place = (before : List ℕ) (lines : List (List ℕ)) → bytes ≡ before ++ flat_map (λ (line : List ℕ). line) lines
    → All IsLine lines → length lines ≡ count → EndsInFeed before → place ≡ length before

-- The line of this number, among the field lines and the empty line after them, begins at this place of the head.
abbrev pub StandsAt : List Field → ℕ → ℕ → List ℕ → Type 0
StandsAt fields number place head = (before : List ℕ) × (last : LineEnd) × (head ≡ before ++ print_section (drop number fields) last) × (place ≡ length before) × EndsInFeed before
