-- Objects whose members' names rise, as a parser keeps them: their texts read back, and each member is found.
use Rattle.std.proofs.Common.{◌≡◌, ℕ, zero, suc, ◌<◌, ◌==◌, inl, inr, ◌≤◌, Bool, true, false, cond, List, [], ◌∷◌, ◌++◌, map, Option, Some, None, option_and_then, option_map, refl, sym, ap, ap₂, subst, ◌∙◌, append_assoc, append-nil, arith}
use Rattle.std.specs.Prelude.{◌&&◌, not, ⊤}
use Rattle.std.specs.List.{list_all}
use Rattle.std.specs.declared.cmp.Ordering.{Ordering}
use Rattle.std.specs.declared.cmp.Ordering.TheVariants.{Less, Equal, Greater}
use Rattle.std.specs.Ordering.{nat_cmp, is_eq, is_lt, match_ordering, ordering_reverse}
use Rattle.std.specs.Cmp.Lexicographic.{slice_cmp}
use Rattle.std.proofs.lemmas.Bool.{and_parts, cases_lt, cases_eq, ne_eqb}
use Rattle.std.proofs.lemmas.Cmp.{nat_list_cmp_total}
use Rattle.std.proofs.lemmas.Map.Lookups.{exact_bytes}
use Rattle.json.specs.Json as json
use Rattle.json.specs.Lex.{tokens}
use Rattle.json.specs.Print.{escape_byte, escape, quoted}
use Rattle.json.specs.Tree as tree
use Rattle.json.specs.Tree.{json_tokens}
use Rattle.json.proofs.Printed.Strings.{escape_byte_plain}
use Rattle.json.proofs.Printed.Tokens.{tokens-print}
use Rattle.json.proofs.Printed.Trees.{value-json_tokens, ArePrintable-json_tokens}
use Rattle.serde_json.specs.Data.{Data, boolean, string, array, object, member, put}
use Rattle.serde_json.specs.Find.{get_member}
use Rattle.serde_json.specs.Read.{read, of_json, of_items, of_members}
use Rattle.serde_json.specs.View.{items_of}
use Rattle.serde_json.specs.Written.{compact_text, items_text, members_text, comma_if, outline, items_outline, members_outline}
use Rattle.serde_json.proofs.Texts.{print-outline}
use Rattle.ev_fields.specs.declared.field.Field.{Field}
use Rattle.ev_fields.specs.Names.{snake, camel}
use Rattle.ev_fields.specs.Members.{members_from, object_of}
use Rattle.ev_fields.specs.Kinds.{or_else, member_of}
use Rattle.zx_base.proofs.Orders.{equal-from_is_eq, less-from_is_lt}
use Rattle.zx_base.proofs.Booleans.{cond-same}

-- ---- members that may be left out

abbrev pub piece : Field → Option Data → List (List ℕ × Data)
piece f None = []
piece f (Some d) = (snake f, d) ∷ []

abbrev pub pieces : List (Field × Option Data) → List (List ℕ × Data)
pieces [] = []
pieces (p ∷ ps) = piece p.0 p.1 ++ pieces ps

-- members that may be left out, grouped as messages are written
abbrev pub gathered : List (List ℕ × Data) → List (Field × Option Data) → List (List ℕ × Data)
gathered fs [] = fs
gathered fs (p ∷ ps) = gathered (fs ++ piece p.0 p.1) ps

pub gathered-pieces : (fs : List (List ℕ × Data)) (ps : List (Field × Option Data)) → gathered fs ps ≡ fs ++ pieces ps
gathered-pieces fs [] = sym (append-nil fs)
gathered-pieces fs (p ∷ ps) = gathered-pieces (fs ++ piece p.0 p.1) ps ∙ append_assoc fs (piece p.0 p.1) (pieces ps)

-- an object with one member
abbrev pub one_piece : Field → Data → List (Field × Option Data)
one_piece f d = (f, Some d) ∷ []

-- ---- names that rise

abbrev pub above : List ℕ → List (Field × Option Data) → Bool
above k [] = true
above k (p ∷ ps) = is_lt (slice_cmp nat_cmp k (snake p.0)) && above k ps

abbrev pub rising : List (Field × Option Data) → Bool
rising [] = true
rising (p ∷ ps) = above (snake p.0) ps && rising ps

-- ---- looking for a member

abbrev pub looked_up : List ℕ → List (Field × Option Data) → Option Data
looked_up k [] = None
looked_up k (p ∷ ps) = cond (is_eq (slice_cmp nat_cmp k (snake p.0))) p.1 (looked_up k ps)

or_else-None : (o : Option Data) → or_else o None ≡ o
or_else-None None = refl
or_else-None (Some d) = refl

matched : (o : Ordering) (d : Data) (rest : Option Data) → match_ordering o rest (Some d) rest ≡ cond (is_eq o) (Some d) rest
matched Less d rest = refl
matched Equal d rest = refl
matched Greater d rest = refl

get_member-piece : (k : List ℕ) (f : Field) (o : Option Data) (fs : List (List ℕ × Data))
    → get_member k (members_from (piece f o ++ fs)) ≡ cond (is_eq (slice_cmp nat_cmp k (snake f))) (or_else o (get_member k (members_from fs))) (get_member k (members_from fs))
get_member-piece k f None fs = sym (cond-same (is_eq (slice_cmp nat_cmp k (snake f))) (get_member k (members_from fs)))
get_member-piece k f (Some d) fs = matched (slice_cmp nat_cmp k (snake f)) d (get_member k (members_from fs))

absent_piece : (b : Bool) (o rest : Option Data) → b ≡ false → rest ≡ None → cond b (or_else o rest) rest ≡ None
absent_piece true o rest h e = absurd cc
absent_piece false o rest h e = e

not_equal : (o : Ordering) → is_lt o ≡ true → is_eq o ≡ false
not_equal Less h = refl
not_equal Equal h = absurd cc
not_equal Greater h = refl

get_member-absent : (k : List ℕ) (ps : List (Field × Option Data)) → above k ps ≡ true → get_member k (members_from (pieces ps)) ≡ None
get_member-absent k [] h = refl
get_member-absent k (p ∷ ps) h =
    let both = and_parts (is_lt (slice_cmp nat_cmp k (snake p.0))) (above k ps) h in
    get_member-piece k p.0 p.1 (pieces ps) ∙ absent_piece (is_eq (slice_cmp nat_cmp k (snake p.0))) p.1 (get_member k (members_from (pieces ps))) (not_equal _ both.0) (get_member-absent k ps both.1)

found_piece : (b : Bool) (o rest looked : Option Data) → (b ≡ true → rest ≡ None) → rest ≡ looked → cond b (or_else o rest) rest ≡ cond b o looked
found_piece true o rest looked h e = ap (or_else o) (h refl) ∙ or_else-None o
found_piece false o rest looked h e = e

get_member-pieces : (k : List ℕ) (ps : List (Field × Option Data)) → rising ps ≡ true → get_member k (members_from (pieces ps)) ≡ looked_up k ps
get_member-pieces k [] h = refl
get_member-pieces k (p ∷ ps) h =
    let both = and_parts (above (snake p.0) ps) (rising ps) h in
    get_member-piece k p.0 p.1 (pieces ps) ∙ found_piece (is_eq (slice_cmp nat_cmp k (snake p.0))) p.1 (get_member k (members_from (pieces ps))) (looked_up k ps)
    (λ same. get_member-absent k ps (subst (λ (l : List ℕ). above l ps ≡ true) (sym (exact_bytes k (snake p.0) (equal-from_is_eq _ same))) both.0))
    (get_member-pieces k ps both.1)

or_else-same : (o : Option Data) → or_else o o ≡ o
or_else-same None = refl
or_else-same (Some d) = refl

-- a member of one name
pub member_one : (f : Field) (ps : List (Field × Option Data)) (o : Option Data) → rising ps ≡ true → looked_up (snake f) ps ≡ o → looked_up (camel f) ps ≡ o → member_of f (object_of (pieces ps)) ≡ o
unfolding member_of object_of
member_one f ps o h s c = ap₂ or_else (get_member-pieces (snake f) ps h ∙ s) (get_member-pieces (camel f) ps h ∙ c) ∙ or_else-same o

-- a member of two names
pub member_two : (f : Field) (ps : List (Field × Option Data)) (o : Option Data) → rising ps ≡ true → looked_up (snake f) ps ≡ o → looked_up (camel f) ps ≡ None → member_of f (object_of (pieces ps)) ≡ o
unfolding member_of object_of
member_two f ps o h s c = ap₂ or_else (get_member-pieces (snake f) ps h ∙ s) (get_member-pieces (camel f) ps h ∙ c) ∙ or_else-None o

-- ---- texts without a line feed

abbrev is_inside : List ℕ → Bool
is_inside = list_all (λ b. not (b == 10))

inside-append : (a b : List ℕ) → is_inside a ≡ true → is_inside b ≡ true → is_inside (a ++ b) ≡ true
inside-append [] b h k = k
inside-append (x ∷ a) b h k = let p = and_parts (not (x == 10)) (is_inside a) h in rw (p.0, inside-append a b p.1 k) refl

-- the escapes of the bytes below n
abbrev inside_below : ℕ → Bool
inside_below zero = true
inside_below (suc n) = is_inside (escape_byte n) && inside_below n

escape_below : (n : ℕ) → inside_below n ≡ true → (x : ℕ) → x < n → is_inside (escape_byte x) ≡ true
escape_below zero e x h = absurd (omega (arith, h))
escape_below (suc n) e x h =
    let p = and_parts (is_inside (escape_byte n)) (inside_below n) e in
    elim (cases_eq x n) [ inl same ↦ rw same p.0 | inr other ↦ escape_below n p.1 x (omega (arith, h, other)) ]

all_below : inside_below 128 ≡ true
unfolding escape_byte
all_below = refl

inside-escape_byte : (x : ℕ) → is_inside (escape_byte x) ≡ true
inside-escape_byte x = elim (cases_lt x 128) [
  | inl small ↦ escape_below 128 all_below x small
  | inr big ↦ rw (escape_byte_plain x (λ e. omega (arith, e, big)) (λ e. omega (arith, e, big)) (omega (arith, big)), ne_eqb x 10 (λ e. omega (arith, e, big))) refl
]

inside-escape : (s : List ℕ) → is_inside (escape s) ≡ true
inside-escape [] = refl
inside-escape (x ∷ s) = inside-append (escape_byte x) (escape s) (inside-escape_byte x) (inside-escape s)

inside-quoted : (s : List ℕ) → is_inside (quoted s) ≡ true
inside-quoted s = inside-append (escape s) (34 ∷ []) (inside-escape s) refl

inside-comma : (later : Bool) → is_inside (comma_if later) ≡ true
inside-comma true = refl
inside-comma false = refl

-- ---- data whose text is one line and reads back

pub record Plain (n : ℕ) (d : Data) : Type 0 where
  pub made : of_json (outline d) ≡ Some d
  pub numbers : tree.HasNumbers (outline d)
  pub shallow : tree.depth (outline d) ≤ n
  pub inside : is_inside (compact_text d) ≡ true

pub read-plain : (d : Data) → Plain 127 d → read (compact_text d) ≡ Some d
read-plain d h =
    let same : tokens (compact_text d) ≡ json_tokens (outline d) ++ [] = ap tokens (sym (print-outline d)) ∙ tokens-print (json_tokens (outline d)) (ArePrintable-json_tokens (outline d) h.numbers) ∙ sym (append-nil (json_tokens (outline d))) in
    ap (λ r. option_and_then of_json (option_and_then (λ p. json.if_last p.0 p.1) r)) (ap (json.value 127) same ∙ value-json_tokens (outline d) 127 [] h.shallow) ∙ h.made

pub plain-string : (n : ℕ) (s : List ℕ) → Plain n (string s)
plain-string n s = record { made = refl; numbers = tt; shallow = omega arith; inside = inside-quoted s }

pub plain-boolean : (n : ℕ) (b : Bool) → Plain n (boolean b)
plain-boolean n true = record { made = refl; numbers = tt; shallow = omega arith; inside = refl }
plain-boolean n false = record { made = refl; numbers = tt; shallow = omega arith; inside = refl }

-- ---- lists

record PlainItems (n : ℕ) (ds : List Data) : Type 0 where
  made : of_items (items_outline (items_of ds)) ≡ Some (items_of ds)
  numbers : tree.ItemsHaveNumbers (items_outline (items_of ds))
  shallow : tree.items_depth (items_outline (items_of ds)) ≤ n
  inside : (later : Bool) → is_inside (items_text later (items_of ds)) ≡ true

items-all : {A : Type 0} (n : ℕ) (shape : A → Data) → ((x : A) → Plain n (shape x)) → (xs : List A) → PlainItems n (map shape xs)
items-all n shape h [] = record { made = refl; numbers = tt; shallow = omega arith; inside = λ later. refl }
items-all n shape h (x ∷ xs) =
    let first = h x in
    let others = items-all n shape h xs in
    record {
      made = rw (first.made, others.made) refl;
      numbers = (first.numbers, others.numbers);
      shallow = omega (arith, first.shallow, others.shallow);
      inside = λ later. inside-append (comma_if later) (compact_text (shape x) ++ items_text true (items_of (map shape xs))) (inside-comma later)
          (inside-append (compact_text (shape x)) (items_text true (items_of (map shape xs))) first.inside (others.inside true));
    }

pub plain-array : {A : Type 0} (n : ℕ) (shape : A → Data) → ((x : A) → Plain n (shape x)) → (xs : List A) → Plain (suc n) (array (items_of (map shape xs)))
plain-array n shape h xs =
    let all = items-all n shape h xs in
    record { made = ap (option_map array) all.made; numbers = all.numbers; shallow = omega (arith, all.shallow); inside = all.inside false }

-- ---- objects

abbrev AllBelow : List ℕ → List (List ℕ × Data) → Type 0
AllBelow k [] = ⊤
AllBelow k (f ∷ fs) = (slice_cmp nat_cmp k f.0 ≡ Greater) × AllBelow k fs

put_last : (k : List ℕ) (d : Data) (fs : List (List ℕ × Data)) → AllBelow k fs → put k d (members_from fs) ≡ members_from (fs ++ (k, d) ∷ [])
put_last k d [] h = refl
put_last k d (f ∷ fs) h = rw h.0 (ap (member f.0 f.1) (put_last k d fs h.1))

abbrev AllUnder : List (List ℕ × Data) → List (Field × Option Data) → Type 0
AllUnder acc [] = ⊤
AllUnder acc (p ∷ ps) = AllBelow (snake p.0) acc × AllUnder acc ps

below-push : (k : List ℕ) (acc : List (List ℕ × Data)) (l : List ℕ) (d : Data) → AllBelow k acc → slice_cmp nat_cmp k l ≡ Greater → AllBelow k (acc ++ (l, d) ∷ [])
below-push k [] l d h g = (g, tt)
below-push k (f ∷ acc) l d h g = (h.0, below-push k acc l d h.1 g)

under-push : (acc : List (List ℕ × Data)) (l : List ℕ) (d : Data) (ps : List (Field × Option Data)) → AllUnder acc ps → above l ps ≡ true → AllUnder (acc ++ (l, d) ∷ []) ps
under-push acc l d [] h a = tt
under-push acc l d (p ∷ ps) h a =
    let both = and_parts (is_lt (slice_cmp nat_cmp l (snake p.0))) (above l ps) a in
    let greater : slice_cmp nat_cmp (snake p.0) l ≡ Greater = nat_list_cmp_total.antisymm (snake p.0) l ∙ ap ordering_reverse (less-from_is_lt _ both.0) in
    (below-push (snake p.0) acc l d h.0 greater, under-push acc l d ps h.1 both.1)

abbrev pub PlainIf : ℕ → Option Data → Type 0
PlainIf n None = ⊤
PlainIf n (Some d) = Plain n d

abbrev pub AllPlain : ℕ → List (Field × Option Data) → Type 0
AllPlain n [] = ⊤
AllPlain n (p ∷ ps) = PlainIf n p.1 × AllPlain n ps

made_members : (n : ℕ) (acc : List (List ℕ × Data)) (ps : List (Field × Option Data)) → AllUnder acc ps → rising ps ≡ true → AllPlain n ps
    → of_members (members_outline (members_from (pieces ps))) (members_from acc) ≡ Some (members_from (acc ++ pieces ps))
made_members n acc [] u r h = ap (λ (fs : List (List ℕ × Data)). Some (members_from fs)) (sym (append-nil acc))
made_members n acc ((f, None) ∷ ps) u r h = made_members n acc ps u.1 (and_parts (above (snake f) ps) (rising ps) r).1 h.1
made_members n acc ((f, Some d) ∷ ps) u r h =
    let both = and_parts (above (snake f) ps) (rising ps) r in
    let rest = members_outline (members_from (pieces ps)) in
    let step : of_members (members_outline (members_from ((snake f, d) ∷ pieces ps))) (members_from acc) ≡ of_members rest (put (snake f) d (members_from acc)) = rw h.0.made refl in
    step ∙ ap (of_members rest) (put_last (snake f) d acc u.0)
    ∙ made_members n (acc ++ (snake f, d) ∷ []) ps (under-push acc (snake f) d ps u.1 both.0) both.1 h.1
    ∙ ap (λ (fs : List (List ℕ × Data)). Some (members_from fs)) (append_assoc acc ((snake f, d) ∷ []) (pieces ps))

under-nil : (ps : List (Field × Option Data)) → AllUnder [] ps
under-nil [] = tt
under-nil (p ∷ ps) = (tt, under-nil ps)

numbers_members : (n : ℕ) (ps : List (Field × Option Data)) → AllPlain n ps → tree.MembersHaveNumbers (members_outline (members_from (pieces ps)))
numbers_members n [] h = tt
numbers_members n ((f, None) ∷ ps) h = numbers_members n ps h.1
numbers_members n ((f, Some d) ∷ ps) h = (h.0.numbers, numbers_members n ps h.1)

shallow_members : (n : ℕ) (ps : List (Field × Option Data)) → AllPlain n ps → tree.members_depth (members_outline (members_from (pieces ps))) ≤ n
shallow_members n [] h = omega arith
shallow_members n ((f, None) ∷ ps) h = shallow_members n ps h.1
shallow_members n ((f, Some d) ∷ ps) h = omega (arith, h.0.shallow, shallow_members n ps h.1)

inside_members : (n : ℕ) (ps : List (Field × Option Data)) → AllPlain n ps → (later : Bool) → is_inside (members_text later (members_from (pieces ps))) ≡ true
inside_members n [] h later = refl
inside_members n ((f, None) ∷ ps) h later = inside_members n ps h.1 later
inside_members n ((f, Some d) ∷ ps) h later =
    let rest = members_text true (members_from (pieces ps)) in
    let value = inside-append (compact_text d) rest h.0.inside (inside_members n ps h.1 true) in
    inside-append (comma_if later) (quoted (snake f) ++ 58 ∷ (compact_text d ++ rest)) (inside-comma later) (inside-append (quoted (snake f)) (58 ∷ (compact_text d ++ rest)) (inside-quoted (snake f)) value)

pub plain-object : (n : ℕ) (ps : List (Field × Option Data)) → rising ps ≡ true → AllPlain n ps → Plain (suc n) (object_of (pieces ps))
unfolding object_of
plain-object n ps r h = record {
  made = ap (option_map object) (made_members n [] ps (under-nil ps) r h);
  numbers = numbers_members n ps h;
  shallow = omega (arith, shallow_members n ps h);
  inside = inside_members n ps h false;
}

-- an object with one member
pub plain-single : (n : ℕ) (k : List ℕ) (d : Data) → Plain n d → Plain (suc n) (object_of ((k, d) ∷ []))
unfolding object_of
plain-single n k d h = record {
  made = rw h.made refl;
  numbers = (h.numbers, tt);
  shallow = omega (arith, h.shallow);
  inside = inside-append (quoted k) (58 ∷ (compact_text d ++ 125 ∷ [])) (inside-quoted k) (inside-append (compact_text d) (125 ∷ []) h.inside refl);
}
