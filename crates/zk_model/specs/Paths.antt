-- Paths (Programmer's Guide 3.4, "The ZooKeeper Data Model"): absolute, slash-separated, and canonical. The bounds on
-- characters and lengths are this project's.
use Rattle.std.specs.Prelude.{ℕ, ◌+◌, ◌/◌, ◌%◌, ◌==◌, zero, suc, Bool, false, cond, not, ◌&&◌, ◌||◌, List, [], ◌∷◌, ◌++◌, length, nat_lt, nat_le, Option, Some, None, drop, if◌then◌else◌}
use Rattle.std.specs.Str.{is_utf8, chars}
use Rattle.std.specs.List.{list_all}
use Rattle.zx_base.specs.Maps.{Bytes, same}
use Rattle.zk_model.specs.Limits.{max_path, max_sequence_prefix}

-- '/'
abbrev pub slash : ℕ
slash = 47

abbrev pub root : Bytes
root = slash ∷ []

-- ---- parents

-- x and then xs, cut at the last slash, by how xs is cut
abbrev pub with_head : ℕ → Option (Bytes × Bytes) → Bytes → Option (Bytes × Bytes)
with_head x (Some parts) xs = Some (x ∷ parts.0, parts.1)
with_head x None xs = cond (x == slash) (Some ([], xs)) None

-- what stands before the last slash, and what stands after it
unfoldable pub at_last_slash : Bytes → Option (Bytes × Bytes)
at_last_slash [] = None
at_last_slash (x ∷ xs) = with_head x (at_last_slash xs) xs

-- the parent, by what stands before and after the last slash: none where no name stands after it; the root where nothing
-- stands before it. A text such as `//a` has none
abbrev pub parent_of_parts : Bytes → Bytes → Option Bytes
parent_of_parts before [] = None
parent_of_parts [] (y ∷ ys) = Some root
parent_of_parts (x ∷ xs) (y ∷ ys) = cond (same (x ∷ xs) root) None (Some (x ∷ xs))

abbrev pub parent_at : Option (Bytes × Bytes) → Option Bytes
parent_at None = None
parent_at (Some parts) = parent_of_parts parts.0 parts.1

-- a path without its last name. The root has no parent
unfoldable pub parent : Bytes → Option Bytes
parent p = parent_at (at_last_slash p)

abbrev pub name_at : Option (Bytes × Bytes) → Bytes
name_at None = []
name_at (Some parts) = parts.1

-- the name after the last slash
unfoldable pub last_name : Bytes → Bytes
last_name p = name_at (at_last_slash p)

-- whether the path is there and is p
abbrev pub is_at_path : Option Bytes → Bytes → Bool
is_at_path None p = false
is_at_path (Some q) p = same q p

-- whether p is the parent of q
unfoldable pub is_child : Bytes → Bytes → Bool
is_child p q = is_at_path (parent q) p

-- what the paths of a node's children begin with: its own path, and a slash unless it is the root
unfoldable pub stem : Bytes → Bytes
stem p = cond (same p root) p (p ++ slash ∷ [])

unfoldable pub slashes : Bytes → ℕ
slashes [] = 0
slashes (x ∷ xs) = cond (x == slash) (suc (slashes xs)) (slashes xs)

-- the number of names in a valid path
unfoldable pub depth : Bytes → ℕ
depth p = cond (same p root) 0 (slashes p)

-- ---- valid paths

-- the pieces with one more byte at the front of the first
abbrev pub onto_first : ℕ → List Bytes → List Bytes
onto_first b [] = (b ∷ []) ∷ []
onto_first b (x ∷ xs) = (b ∷ x) ∷ xs

-- the pieces between the slashes
abbrev pub pieces : Bytes → List Bytes
pieces [] = [] ∷ []
pieces (b ∷ bs) = if b == slash then [] ∷ pieces bs else onto_first b (pieces bs)

-- the names from the root down; the root has none
abbrev pub names : Bytes → List Bytes
names p = if same p root then [] else drop 1 (pieces p)

-- '.'
abbrev pub dot : ℕ
dot = 46

-- a name isn't empty, and isn't relative
abbrev pub is_name : Bytes → Bool
is_name [] = false
is_name (b ∷ bs) = not (same (b ∷ bs) (dot ∷ [])) && not (same (b ∷ bs) (dot ∷ dot ∷ []))

abbrev pub begins_with_slash : Bytes → Bool
begins_with_slash [] = false
begins_with_slash (b ∷ bs) = b == slash

-- the characters that a path may have, by their code points
abbrev pub is_path_char : ℕ → Bool
is_path_char c = (nat_le 32 c && nat_lt c 127) || (nat_le 160 c && nat_lt c 55296) || (nat_le 63744 c && nat_lt c 65520)

-- a valid path: at most 1,024 bytes of UTF-8, a slash first, then names between slashes
unfoldable pub is_path : Bytes → Bool
is_path p = nat_le (length p) max_path && begins_with_slash p && is_utf8 p && list_all is_path_char (chars p) && list_all is_name (names p)

-- ---- sequence nodes ("Sequence Nodes -- Unique Naming")

-- the last k decimal digits of n
abbrev pub fixed_digits : ℕ → ℕ → Bytes
fixed_digits zero n = []
fixed_digits (suc k) n = fixed_digits k (n / 10) ++ (48 + n % 10) ∷ []

-- the path, and the counter as ten digits
abbrev pub sequence_path : Bytes → ℕ → Bytes
sequence_path p n = p ++ fixed_digits 10 n

-- the path with `1` (49) added: that of a sequential create is valid where this is a path
abbrev pub with_one : Bytes → Bytes
with_one p = p ++ 49 ∷ []

-- the path of a sequential create, of at most 1,014 bytes
abbrev pub is_sequence_prefix : Bytes → Bool
is_sequence_prefix p = nat_le (length p) max_sequence_prefix && is_path (with_one p)
