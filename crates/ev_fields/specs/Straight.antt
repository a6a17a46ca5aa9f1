-- For clauses: pieces of a text that is read from its front, where it is spelled as a writer spells it.
use Rattle.std.specs.Prelude.{◌≡◌, ℕ, ℤ, pos, List, [], ◌∷◌, ◌++◌, Bool, true, Option, Some, None}
use Rattle.std.specs.List.{list_all}
use Rattle.std.specs.Borrow.{Bor}
use Rattle.json.specs.Run.{is_plain}
use Rattle.json.specs.Token.{Token}
use Rattle.json.specs.Print.{print_from}
use Rattle.serde_json.specs.Data.{string}
use Rattle.ev_fields.specs.Kinds.{count_of, lease_of, bytes_of}

-- the text stands first, then the content of a string, which needs no escape, then a quote, and then the rest
abbrev pub IsContent : List ℕ → List ℕ → List ℕ → List ℕ → Type 0
IsContent text bytes content rest = (bytes ≡ text ++ (content ++ 34 ∷ rest)) × (list_all is_plain content ≡ true)

-- the same, or nothing
abbrev pub IsContentIf : List ℕ → List ℕ → Option (Bor (List ℕ)) → List ℕ → Type 0
IsContentIf text bytes None rest = bytes ≡ rest
IsContentIf text bytes (Some content) rest = IsContent text bytes content.now rest

-- the bytes are these tokens as a writer prints them, and then the rest: whatever tokens the rest is a print of. The flags say
-- whether a value has just ended
abbrev pub Prints : Bool → List Token → List ℕ → Bool → List ℕ → Type 0
Prints before ts bytes after rest = (more : List Token) → rest ≡ print_from after more → bytes ≡ print_from before (ts ++ more)

-- ---- contents that may be missing

abbrev pub count_if : Option (Bor (List ℕ)) → Option ℤ
count_if None = Some (pos 0)
count_if (Some content) = count_of (string content.now)

abbrev pub lease_if : Option (Bor (List ℕ)) → Option ℤ
lease_if None = Some (pos 0)
lease_if (Some content) = lease_of (string content.now)

abbrev pub bytes_if : Option (Bor (List ℕ)) → Option (List ℕ)
bytes_if None = Some []
bytes_if (Some content) = bytes_of (string content.now)
