-- Why a text is no path, as `Path::read` answers it: a word for each fault, and which one is told where several stand.
use Rattle.std.specs.Prelude.{◌≡◌, ℕ, ◌+◌, ◌-◌, ◌==◌, Bool, true, false, not, ◌&&◌, ◌||◌, List, [], ◌∷◌, length, ◌<◌, nat_lt, slice_index, take, Option, Some, None, if◌then◌else◌, IsTrue, IsFalse, ⊤}
use Rattle.std.specs.Char.{len_utf8}
use Rattle.std.specs.Option.{option_or}
use Rattle.std.specs.List.{list_all, list_any}
use Rattle.std.specs.Str.{is_utf8, chars}
use Rattle.std.specs.Str.Lossy.{utf8_valid_len}
use Rattle.zk_model.specs.declared.path.Defect.{Defect}
use Rattle.zk_model.specs.declared.path.PathFault.{PathFault}
use Rattle.zk_model.specs.declared.path.PathFault.TheVariants.{NoSlash, EndSlash, EmptyName, DotName, BadText, TooLong, Memory}
use Rattle.zx_base.specs.Maps.{Bytes, same}
use Rattle.zk_model.specs.Paths.{slash, dot, names, begins_with_slash, is_path_char, is_path, with_one, is_sequence_prefix}
use Rattle.zk_model.specs.Limits.{max_path, max_sequence_prefix}

-- the text whose form is tested: a sequential create's with `1` added
abbrev pub tested : Bool → Bytes → Bytes
tested sequential text = if sequential then with_one text else text

-- whether the text is a path, or that of a sequential create before its digits
abbrev pub is_valid : Bool → Bytes → Bool
is_valid sequential text = if sequential then is_sequence_prefix text else is_path text

-- the path that a text is, as it is tested; none where the text is not valid
abbrev pub IsPathOf : Bool → Bytes → Option Bytes → Type 0
IsPathOf sequential text (Some p) = (p ≡ tested sequential text) × (is_valid sequential text ≡ true)
IsPathOf sequential text None = is_valid sequential text ≡ false

-- the most bytes of the text
abbrev pub max_bytes : Bool → ℕ
max_bytes sequential = if sequential then max_sequence_prefix else max_path

-- ---- a word for each fault

-- the last byte is a slash, and there is one before it
abbrev pub ends_with_slash : Bytes → Bool
ends_with_slash p = nat_lt 1 (length p) && (slice_index p (length p - 1) == slash)

-- the bytes before the first slash
unfoldable pub first_name : Bytes → Bytes
first_name [] = []
first_name (b ∷ bs) = if b == slash then [] else b ∷ first_name bs

-- a name that is not empty
abbrev pub is_filled : Bytes → Bool
is_filled [] = false
is_filled (b ∷ bs) = true

-- the name `.` or `..`
abbrev pub is_dots : Bytes → Bool
is_dots name = same name (dot ∷ []) || same name (dot ∷ dot ∷ [])

-- UTF-8 of characters that a path may have
abbrev pub is_text : Bytes → Bool
is_text p = is_utf8 p && list_all is_path_char (chars p)

-- what a fault says of the text
abbrev pub IsFault : PathFault → Bool → Bytes → Type 0
IsFault NoSlash sequential text = IsFalse (begins_with_slash (tested sequential text))
IsFault EndSlash sequential text = IsTrue (ends_with_slash (tested sequential text))
IsFault EmptyName sequential text = IsFalse (list_all is_filled (names (tested sequential text)))
IsFault DotName sequential text = IsTrue (list_any is_dots (names (tested sequential text)))
IsFault BadText sequential text = IsFalse (is_text (tested sequential text))
IsFault TooLong sequential text = max_bytes sequential < length text
IsFault Memory sequential text = ⊤

-- any fault but out of memory comes only where the text is not valid
abbrev pub IsRefused : PathFault → Bool → Bytes → Type 0
IsRefused Memory sequential text = ⊤
IsRefused fault sequential text = IsFalse (is_valid sequential text)

-- ---- which one is told: the earliest in the text, and of two that begin at one byte the first in the order of `PathFault`

-- the earlier of two, and the first of them where both begin at one byte
abbrev pub first_of : Option Defect → Option Defect → Option Defect
first_of None b = b
first_of (Some a) None = Some a
first_of (Some a) (Some b) = if nat_lt b.place a.place then Some b else Some a

-- a fault that begins at the byte with this index, where there is one
abbrev pub at : Bool → ℕ → PathFault → Option Defect
at true place fault = Some (record { place = place; fault = fault })
at false place fault = None

-- what is wrong with a name: it is empty, `.` or `..`
abbrev pub name_fault : Bytes → Option PathFault
name_fault name = if not (is_filled name) then Some EmptyName else if is_dots name then Some DotName else None

abbrev pub placed : ℕ → Option PathFault → Option Defect
placed place None = None
placed place (Some fault) = at true place fault

-- the first bad name; the first of the names begins at this index, and a slash stands between two of them
unfoldable pub bad_name : ℕ → List Bytes → Option Defect
bad_name place [] = None
bad_name place (name ∷ more) = option_or (placed place (name_fault name)) (bad_name (place + length name + 1) more)

-- the first of these characters that a path may not have; the first of them begins at this index
unfoldable pub bad_char : ℕ → List ℕ → Option Defect
bad_char place [] = None
bad_char place (c ∷ cs) = if is_path_char c then bad_char (place + len_utf8 c) cs else at true place BadText

-- the first bad character among the first `valid` bytes, or else the byte after them, where there is one
abbrev pub bad_text_from : ℕ → Bytes → Option Defect
bad_text_from valid p = option_or (bad_char 0 (chars (take valid p))) (at (nat_lt valid (length p)) valid BadText)

-- the first bad character, or else the first byte that is no UTF-8
abbrev pub bad_text : Bytes → Option Defect
bad_text p = bad_text_from (utf8_valid_len p) p

-- the first defect of a path's form, whatever its length
unfoldable pub form_defect : Bytes → Option Defect
form_defect p =
    first_of (at (not (begins_with_slash p)) 0 NoSlash)
    (first_of (at (ends_with_slash p) (length p - 1) EndSlash)
    (first_of (bad_name 1 (names p)) (bad_text p)))

-- the first defect of a text: of the form that is tested, or of its length
unfoldable pub defect_of : Bool → Bytes → Option Defect
defect_of sequential text =
    first_of (form_defect (tested sequential text)) (at (nat_lt (max_bytes sequential) (length text)) (max_bytes sequential) TooLong)

-- the fault that is told is that of the first defect, or out of memory
abbrev pub IsFirst : PathFault → Option Defect → Type 0
IsFirst Memory found = ⊤
IsFirst fault None = ⊥
IsFirst fault (Some defect) = defect.fault ≡ fault
