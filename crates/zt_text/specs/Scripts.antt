-- The text of a script (this project's own format): a line for each thing that is to happen, its words separated by blanks.
use Rattle.std.specs.Prelude.{◌++◌, ◌⊎◌, ◌≡◌, ℕ, ℤ, pos, ◌+◌, ◌*◌, ◌-◌, ◌^◌, Bool, true, false, ◌&&◌, List, [], ◌∷◌, length, nat_lt, nat_le, ◌==◌, bytes_eq, codes, Option, Some, None, option_and_then, take, if◌then◌else◌}
use Rattle.std.specs.List.{All, slice_split}
use Rattle.zk_model.specs.declared.layout.Layout.{Layout}
use Rattle.zk_model.specs.declared.layout.Layout.TheVariants.{One, Two}
use Rattle.zt_text.specs.declared.script.Happening.{Happening}
use Rattle.zt_text.specs.declared.script.Happening.TheVariants as line
use Rattle.zt_text.specs.declared.script.Unread.{Unread}
use Rattle.zt_text.specs.declared.script.Unread.TheVariants.{Unreadable, TooLong}

-- ---- words, and what they say

-- the pieces before, between and after the bytes c
abbrev pub pieces : ℕ → List ℕ → List (List ℕ)
pieces c bytes = slice_split (λ b. b == c) bytes

-- no byte is c
abbrev pub Lacks : ℕ → List ℕ → Type 0
Lacks c bytes = All (λ b. (b == c) ≡ false) bytes

infixl 10 ◌>>=◌
abbrev pub ◌>>=◌ : {A B : Type 0} → Option A → (A → Option B) → Option B
o >>= f = option_and_then f o

-- the value of a decimal digit, and of a hex digit in lower case (`0` to `9` are 48 to 57, `a` to `f` are 97 to 102)
abbrev pub decimal_digit : ℕ → Option ℕ
decimal_digit b = if nat_le 48 b && nat_le b 57 then Some (b - 48) else None

abbrev pub hex_value : ℕ → Option ℕ
hex_value b = if nat_le 48 b && nat_le b 57 then Some (b - 48) else if nat_le 97 b && nat_le b 102 then Some (b - 87) else None

-- the number that n becomes by these further digits
abbrev pub digits_value : ℕ → (ℕ → Option ℕ) → ℕ → List ℕ → Option ℕ
digits_value base digit n [] = Some n
digits_value base digit n (b ∷ bs) = do
  d ← digit b
  digits_value base digit (n * base + d) bs

-- the greatest number that a line may have
abbrev pub max_number : ℕ
max_number = 4294967295

-- 48, which is `0`, stands first, and isn't the whole
abbrev pub is_zero_led : List ℕ → Bool
is_zero_led (b ∷ c ∷ cs) = b == 48
is_zero_led _ = false

abbrev pub not_above : ℕ → ℕ → Option ℕ
not_above most n = if nat_le n most then Some n else None

-- a decimal number without sign or leading zero, up to 4294967295
unfoldable pub number : List ℕ → Option ℕ
number [] = None
number (b ∷ bs) = if is_zero_led (b ∷ bs) then None else (digits_value 10 decimal_digit 0 (b ∷ bs) >>= not_above max_number)

-- the byte of two hex digits, the high one first
unfoldable pub hex_byte : ℕ → ℕ → Option ℕ
hex_byte a b = do
  high ← hex_value a
  low ← hex_value b
  Some (high * 16 + low)

-- two hex digits for each byte
unfoldable pub hex_pairs : List ℕ → Option (List ℕ)
hex_pairs [] = Some []
hex_pairs (a ∷ []) = None
hex_pairs (a ∷ b ∷ bs) = do
  byte ← hex_byte a b
  bytes ← hex_pairs bs
  Some (byte ∷ bytes)

-- bytes: an even number of hex digits, or `-` for none
unfoldable pub hex : List ℕ → Option (List ℕ)
hex [] = None
hex (b ∷ bs) = if bytes_eq (b ∷ bs) (codes "-") then Some [] else hex_pairs (b ∷ bs)

-- a session's number: 16 hex digits, at least 1 and below 8000000000000000
abbrev pub as_session_id : ℕ → Option ℤ
as_session_id n = if nat_lt 0 n && nat_lt n (2 ^ 63) then Some (pos n) else None

unfoldable pub session_id : List ℕ → Option ℤ
session_id w = if length w == 16 then (digits_value 16 hex_value 0 w >>= as_session_id) else None

-- a session's password: 32 hex digits
unfoldable pub password : List ℕ → Option (List ℕ)
password w = if length w == 32 then hex_pairs w else None

-- ---- the forms of lines

-- the words after the first, if there are exactly so many
abbrev pub one_word : List (List ℕ) → Option (List ℕ)
one_word (a ∷ []) = Some a
one_word _ = None

abbrev pub two_words : List (List ℕ) → Option (List ℕ × List ℕ)
two_words (a ∷ b ∷ []) = Some (a, b)
two_words _ = None

abbrev pub three_words : List (List ℕ) → Option (List ℕ × List ℕ × List ℕ)
three_words (a ∷ b ∷ c ∷ []) = Some (a, b, c)
three_words _ = None

abbrev pub four_words : List (List ℕ) → Option (List ℕ × List ℕ × List ℕ × List ℕ)
four_words (a ∷ b ∷ c ∷ d ∷ []) = Some (a, b, c, d)
four_words _ = None

-- `open C P ID PW`, and `open1` for a session of layout 1
unfoldable pub open_happening : Layout → List (List ℕ) → Option Happening
open_happening layout words = do
  w ← four_words words
  c ← number w.0
  p ← number w.1
  id ← session_id w.2
  passwd ← password w.3
  Some (line.Open c p id passwd layout)

-- `frame C HEX`, `bytes C HEX`
abbrev pub number_and_bytes : List (List ℕ) → Option (ℕ × List ℕ)
number_and_bytes words = do
  w ← two_words words
  c ← number w.0
  bytes ← hex w.1
  Some (c, bytes)

unfoldable pub frame_happening : List (List ℕ) → Option Happening
frame_happening words = do
  x ← number_and_bytes words
  Some (line.Frame x.0 x.1)

unfoldable pub bytes_line : List (List ℕ) → Option Happening
bytes_line words = do
  x ← number_and_bytes words
  Some (line.Arrive x.0 x.1)

-- `lapse ID`
unfoldable pub lapse_happening : List (List ℕ) → Option Happening
lapse_happening words = do
  w ← one_word words
  id ← session_id w
  Some (line.Lapse id)

-- `foreign KEYHEX VALHEX`
unfoldable pub foreign_line : List (List ℕ) → Option Happening
foreign_line words = do
  w ← two_words words
  key ← hex w.0
  value ← hex w.1
  Some (line.Foreign key value)

-- `reap C P ID`
unfoldable pub reap_line : List (List ℕ) → Option Happening
reap_line words = do
  w ← three_words words
  c ← number w.0
  p ← number w.1
  id ← session_id w.2
  Some (line.Reap c p id)

-- the forms whose one argument is a number: of a connection, a stray, a proxy, or of milliseconds
unfoldable pub of_number : List ℕ → ℕ → Option Happening
of_number form n =
    if bytes_eq form (codes "exec") then Some (line.Exec n)
    else if bytes_eq form (codes "answer") then Some (line.Answer n)
    else if bytes_eq form (codes "cut") then Some (line.Cut n)
    else if bytes_eq form (codes "refuse") then Some (line.Refuse n)
    else if bytes_eq form (codes "stray") then Some (line.Stray n)
    else if bytes_eq form (codes "entry") then Some (line.Entry n)
    else if bytes_eq form (codes "lag") then Some (line.Lag n)
    else if bytes_eq form (codes "end") then Some (line.End n)
    else if bytes_eq form (codes "restart") then Some (line.Restart n)
    else if bytes_eq form (codes "tick") then Some (line.Tick n)
    else if bytes_eq form (codes "settle") then Some (line.Settle n)
    else None

unfoldable pub numbered_line : List ℕ → List (List ℕ) → Option Happening
numbered_line form words = do
  w ← one_word words
  n ← number w
  of_number form n

-- the form of a line is told by its first word
unfoldable pub happening_of_form : List ℕ → List (List ℕ) → Option Happening
happening_of_form form words =
    if bytes_eq form (codes "open") then open_happening Two words
    else if bytes_eq form (codes "open1") then open_happening One words
    else if bytes_eq form (codes "frame") then frame_happening words
    else if bytes_eq form (codes "bytes") then bytes_line words
    else if bytes_eq form (codes "lapse") then lapse_happening words
    else if bytes_eq form (codes "foreign") then foreign_line words
    else if bytes_eq form (codes "reap") then reap_line words
    else numbered_line form words

abbrev pub happening : List (List ℕ) → Option Happening
happening [] = None
happening (form ∷ words) = happening_of_form form words

-- the most bytes of a line without its line feed, and of a script
abbrev pub max_line : ℕ
max_line = 2200000

abbrev pub max_script : ℕ
max_script = 100000000

-- what a line says, if it is of one of the forms and not too long (32 is a blank)
unfoldable pub happening_read : List ℕ → Option Happening
happening_read line = if nat_lt max_line (length line) then None else happening (pieces 32 line)

-- ---- the lines of a script

-- what the lines say up to the first that can't be read, and the number of that one, from 1, with the cause
abbrev pub Script : Type 0
Script = List Happening × Option (ℕ × Unread)

abbrev pub then_script : ℕ → Option Happening → Script → Script
then_script n None later = ([], Some (n, Unreadable))
then_script n (Some h) later = (h ∷ later.0, later.1)

-- what follows the last line feed: the last line, or nothing; or the line in which the script's limit is passed
abbrev pub last_happening : Bool → ℕ → List ℕ → Script
last_happening true n line = ([], Some (n, if nat_lt max_line (length line) then Unreadable else TooLong))
last_happening false n [] = ([], None)
last_happening false n (b ∷ bs) = then_script n (happening_read (b ∷ bs)) ([], None)

abbrev pub happenings_from : Bool → ℕ → List (List ℕ) → Script
happenings_from is_cut n [] = ([], None)
happenings_from is_cut n (line ∷ []) = last_happening is_cut n line
happenings_from is_cut n (line ∷ more ∷ lines) = then_script n (happening_read line) (happenings_from is_cut (n + 1) (more ∷ lines))

-- what line n and the later ones say, of which at most room bytes are read (10 is a line feed)
unfoldable pub script_from : ℕ → ℕ → List ℕ → Script
script_from n room bytes = happenings_from (nat_lt room (length bytes)) n (pieces 10 (take room bytes))

-- what a script says
unfoldable pub script : List ℕ → Script
script bytes = script_from 1 max_script bytes

-- bytes that end with a line feed, or none
abbrev pub IsWholeLines : List ℕ → Type 0
IsWholeLines bytes = (bytes ≡ []) ⊎ ((front : List ℕ) × (bytes ≡ front ++ 10 ∷ []))
