-- Texts that are read from their front, as prints of tokens.
use Rattle.std.proofs.Common.{cond, ◌≡◌, ◌≤◌, ℕ, Bool, true, false, List, [], ◌∷◌, ◌++◌, Option, Some, None, refl, sym, ap, ◌∙◌, append_assoc}
use Rattle.std.specs.List.{list_all}
use Rattle.std.specs.Borrow.{Bor}
use Rattle.std.specs.Prelude.{ℤ, pos, Ok, option_and_then}
use Rattle.std.proofs.lemmas.List.{append-nil}
use Rattle.json.specs.Run.{is_plain}
use Rattle.json.specs.Token.{Token, begin_object, end_object, begin_array, end_array, key}
use Rattle.json.specs.Token as token
use Rattle.json.specs.Print.{print, print_from}
use Rattle.json.specs.Tree.{json_tokens, items_tokens, members_tokens, depth, HasNumbers}
use Rattle.json.specs.Json.{Json, string, boolean, array, object, Items, no_items, item, Members, no_members, member, if_last}
use Rattle.json.specs.Json as json
use Rattle.json.specs.Lex.{tokens}
use Rattle.json.proofs.Printed.Tokens.{tokens-print}
use Rattle.json.proofs.Printed.Trees.{value-json_tokens, ArePrintable-json_tokens}
use Rattle.serde_json.specs.Data.{Data}
use Rattle.serde_json.specs.Data as value
use Rattle.serde_json.specs.Read.{read, of_json}
use Rattle.ev_fields.specs.declared.field.Field.{Field}
use Rattle.ev_fields.specs.Kinds.{known, known_or, member_of, count_of, lease_of, bytes_of, count_in, lease_in, bytes_in, needed_bytes, needed_count}
use Rattle.ev_fields.specs.Straight.{IsContent, IsContentIf, Prints, count_if, lease_if, bytes_if}
use Rattle.ev_fields.proofs.Escapes.{escape-plain}

-- what a text reads as that is the print of a value
pub read-print : (j : Json) (d : Data) → HasNumbers j → depth j ≤ 127 → of_json j ≡ Some d → read (print (json_tokens j)) ≡ Some d
read-print j d numbers deep e =
    let same : tokens (print (json_tokens j)) ≡ json_tokens j ++ [] = tokens-print (json_tokens j) (ArePrintable-json_tokens j numbers) ∙ sym (append-nil (json_tokens j)) in
    ap (λ r. option_and_then of_json (option_and_then (λ p. if_last p.0 p.1) r)) (ap (json.value 127) same ∙ value-json_tokens j 127 [] deep) ∙ e

-- a string, between a text and its rest
pub string_then : (front s old rest : List ℕ) (ts : List Token) → IsContent (front ++ 34 ∷ []) old s rest → rest ≡ print_from true ts → old ≡ front ++ print_from false (token.string s ∷ ts)
unfolding print_from
string_then front s old rest ts h e =
    h.0 ∙ append_assoc front (34 ∷ []) (s ++ 34 ∷ rest)
    ∙ ap (λ (l : List ℕ). front ++ 34 ∷ l) (ap (λ (l : List ℕ). s ++ 34 ∷ l) e ∙ sym (append_assoc s (34 ∷ []) (print_from true ts)) ∙ ap (λ (l : List ℕ). (l ++ 34 ∷ []) ++ print_from true ts) (sym (escape-plain s h.1)))

-- the name of a member and the quote after it
abbrev pub name_text : List ℕ → List ℕ
name_text name = 34 ∷ (name ++ 34 ∷ 58 ∷ [])

pub name_then : (name : List ℕ) (ts : List Token) → list_all is_plain name ≡ true → name_text name ++ print_from false ts ≡ print_from false (key name ∷ ts)
unfolding print_from
name_then name ts h =
    ap (λ (l : List ℕ). 34 ∷ (l ++ print_from false ts)) (sym (append_assoc name (34 ∷ []) (58 ∷ [])) ∙ ap (λ (l : List ℕ). (l ++ 34 ∷ []) ++ 58 ∷ []) (sym (escape-plain name h)))

pub name_later : (name : List ℕ) (ts : List Token) → print_from true (key name ∷ ts) ≡ 44 ∷ print_from false (key name ∷ ts)
unfolding print_from
name_later name ts = refl

-- a member that is a string, after another one
pub member_then : (name s old rest : List ℕ) (ms : Members) (more : List Token) → list_all is_plain name ≡ true → IsContent (44 ∷ (name_text name ++ 34 ∷ [])) old s rest
    → rest ≡ print_from true (members_tokens ms ++ more) → old ≡ print_from true (members_tokens (member name (string s) ms) ++ more)
member_then name s old rest ms more plain h e =
    string_then (44 ∷ name_text name) s old rest (members_tokens ms ++ more) h e ∙ ap (λ (l : List ℕ). 44 ∷ l) (name_then name (token.string s ∷ (members_tokens ms ++ more)) plain) ∙ sym (name_later name (token.string s ∷ (members_tokens ms ++ more)))

-- the first member of an object, which is a string
pub first_then : (name s old rest : List ℕ) (ms : Members) (more : List Token) → list_all is_plain name ≡ true → IsContent (123 ∷ (name_text name ++ 34 ∷ [])) old s rest
    → rest ≡ print_from true (members_tokens ms ++ more) → old ≡ print_from false (json_tokens (object (member name (string s) ms)) ++ more)
unfolding print_from
first_then name s old rest ms more plain h e =
    string_then (123 ∷ name_text name) s old rest (members_tokens ms ++ more) h e ∙ ap (λ (l : List ℕ). 123 ∷ l) (name_then name (token.string s ∷ (members_tokens ms ++ more)) plain)

-- a member that may be missing, before others
abbrev pub member_if : List ℕ → Option (Bor (List ℕ)) → Members → Members
member_if name None ms = ms
member_if name (Some s) ms = member name (string s.now) ms

pub member_if_then : (name old : List ℕ) (o : Option (Bor (List ℕ))) (rest : List ℕ) (ms : Members) (more : List Token) → list_all is_plain name ≡ true → IsContentIf (44 ∷ (name_text name ++ 34 ∷ [])) old o rest
    → rest ≡ print_from true (members_tokens ms ++ more) → old ≡ print_from true (members_tokens (member_if name o ms) ++ more)
member_if_then name old None rest ms more plain h e = h ∙ e
member_if_then name old (Some s) rest ms more plain h e = member_then name s.now old rest ms more plain h e

-- the brace that closes an object
pub closes : (old rest : List ℕ) (more : List Token) → old ≡ 125 ∷ rest → rest ≡ print_from true more → old ≡ print_from true (members_tokens no_members ++ more)
unfolding print_from
closes old rest more h e = rw (h, e) refl

-- a flag that is true, or no member
abbrev pub true_text : List ℕ
true_text = 116 ∷ 114 ∷ 117 ∷ 101 ∷ []

abbrev pub flag_if : List ℕ → Bool → Members → Members
flag_if name true ms = member name (boolean true) ms
flag_if name false ms = ms

pub flag_if_then : (name old : List ℕ) (flag : Bool) (rest : List ℕ) (ms : Members) (more : List Token) → list_all is_plain name ≡ true → old ≡ cond flag (44 ∷ (name_text name ++ true_text)) [] ++ rest
    → rest ≡ print_from true (members_tokens ms ++ more) → old ≡ print_from true (members_tokens (flag_if name flag ms) ++ more)
unfolding print_from
flag_if_then name old true rest ms more plain h e =
    h ∙ ap (λ (l : List ℕ). 44 ∷ l) (append_assoc (name_text name) true_text rest ∙ ap (λ (l : List ℕ). name_text name ++ (true_text ++ l)) e ∙ name_then name (token.boolean true ∷ (members_tokens ms ++ more)) plain)
    ∙ sym (name_later name (token.boolean true ∷ (members_tokens ms ++ more)))
flag_if_then name old false rest ms more plain h e = h ∙ e

-- a member that is an array, after another one
pub array_then : (name old items rest : List ℕ) (js : Items) (ms : Members) (more : List Token) → list_all is_plain name ≡ true → old ≡ (44 ∷ (name_text name ++ 91 ∷ [])) ++ items
    → Prints false (items_tokens js) items true rest → rest ≡ print_from true (members_tokens ms ++ more) → old ≡ print_from true (members_tokens (member name (array js) ms) ++ more)
unfolding print_from
array_then name old items rest js ms more plain h p e =
    h ∙ ap (λ (l : List ℕ). 44 ∷ l) (append_assoc (name_text name) (91 ∷ []) items
    ∙ ap (λ (l : List ℕ). name_text name ++ 91 ∷ l) (p (members_tokens ms ++ more) e ∙ ap (print_from false) (sym (append_assoc (items_tokens js) (members_tokens ms) more)))
    ∙ name_then name (begin_array ∷ ((items_tokens js ++ members_tokens ms) ++ more)) plain) ∙ sym (name_later name (begin_array ∷ ((items_tokens js ++ members_tokens ms) ++ more)))

-- a value that stands after another one has a comma in front
pub after_comma : (later : Bool) (j : Json) (more : List Token) → cond later (44 ∷ []) [] ++ print_from false (json_tokens j ++ more) ≡ print_from later (json_tokens j ++ more)
unfolding print_from
after_comma false j more = refl
after_comma true json.null more = refl
after_comma true (json.boolean b) more = refl
after_comma true (json.number s) more = refl
after_comma true (string s) more = refl
after_comma true (array js) more = refl
after_comma true (object ms) more = refl

-- the bracket that closes an array
pub closes_array : (later : Bool) (old rest : List ℕ) (more : List Token) → old ≡ 93 ∷ rest → rest ≡ print_from true more → old ≡ print_from later (items_tokens no_items ++ more)
unfolding print_from
closes_array true old rest more h e = rw (h, e) refl
closes_array false old rest more h e = rw (h, e) refl

-- ---- members that were found

-- the value of a content that may be missing
abbrev pub shown : Option (Bor (List ℕ)) → Option Data
shown None = None
shown (Some s) = Some (value.string s.now)

pub count_in-of : (f : Field) (d : Data) (s : List ℕ) (n : ℤ) → member_of f d ≡ Some (value.string s) → count_of (value.string s) ≡ Some n → count_in f d ≡ Ok n
unfolding count_in
count_in-of f d s n e h = ap (known_or f (pos 0) count_of) e ∙ ap (known f) h

pub needed_count-of : (f : Field) (d : Data) (s : List ℕ) (n : ℤ) → member_of f d ≡ Some (value.string s) → count_of (value.string s) ≡ Some n → needed_count f d ≡ Ok n
unfolding needed_count
needed_count-of f d s n e h = ap (λ o. known f (option_and_then count_of o)) e ∙ ap (known f) h

pub needed_bytes-of : (f : Field) (d : Data) (s bs : List ℕ) → member_of f d ≡ Some (value.string s) → bytes_of (value.string s) ≡ Some bs → needed_bytes f d ≡ Ok bs
unfolding needed_bytes
needed_bytes-of f d s bs e h = ap (λ o. known f (option_and_then bytes_of o)) e ∙ ap (known f) h

known-count : (f : Field) (o : Option (Bor (List ℕ))) (n : ℤ) → count_if o ≡ Some n → known_or f (pos 0) count_of (shown o) ≡ Ok n
known-count f None n h = ap (known f) h
known-count f (Some s) n h = ap (known f) h

pub count_in-if : (f : Field) (d : Data) (o : Option (Bor (List ℕ))) (n : ℤ) → member_of f d ≡ shown o → count_if o ≡ Some n → count_in f d ≡ Ok n
unfolding count_in
count_in-if f d o n e h = ap (known_or f (pos 0) count_of) e ∙ known-count f o n h

known-lease : (f : Field) (o : Option (Bor (List ℕ))) (n : ℤ) → lease_if o ≡ Some n → known_or f (pos 0) lease_of (shown o) ≡ Ok n
known-lease f None n h = ap (known f) h
known-lease f (Some s) n h = ap (known f) h

pub lease_in-if : (f : Field) (d : Data) (o : Option (Bor (List ℕ))) (n : ℤ) → member_of f d ≡ shown o → lease_if o ≡ Some n → lease_in f d ≡ Ok n
unfolding lease_in
lease_in-if f d o n e h = ap (known_or f (pos 0) lease_of) e ∙ known-lease f o n h

known-bytes : (f : Field) (o : Option (Bor (List ℕ))) (bs : List ℕ) → bytes_if o ≡ Some bs → known_or f [] bytes_of (shown o) ≡ Ok bs
known-bytes f None bs h = ap (known f) h
known-bytes f (Some s) bs h = ap (known f) h

pub bytes_in-if : (f : Field) (d : Data) (o : Option (Bor (List ℕ))) (bs : List ℕ) → member_of f d ≡ shown o → bytes_if o ≡ Some bs → bytes_in f d ≡ Ok bs
unfolding bytes_in
bytes_in-if f d o bs e h = ap (known_or f [] bytes_of) e ∙ known-bytes f o bs h
