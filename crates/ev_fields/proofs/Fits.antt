-- The test of a text's tokens is exact: it passes just those of a value that nests no deeper than 127 and has no number that is too
-- large to be held.
use Rattle.std.proofs.Common.{◌≡◌, ℕ, ◌+◌, ◌-◌, ◌≤◌, ◌&&◌, List, [], ◌∷◌, ◌++◌, Bool, true, false, Option, Some, None, IsSome, option_map, option_and_then, is_some, nat_lt, if◌then◌else◌, ◌<◌, length, map, drop, get_or, Result, Err, ◌≢◌, refl, sym, ap, ◌∙◌, subst, arith, append_assoc, append-nil, true≢false, ltb-true, lt-ltb}
use Rattle.json.specs.Token.{Token}
use Rattle.json.specs.Lex.{tokens}
use Rattle.json.specs.Json as json
use Rattle.json.specs.Json.{Json, value, if_last, document}
use Rattle.json.specs.Tree.{json_tokens, items_tokens, members_tokens}
use Rattle.json.specs.Tree as tree
use Rattle.json.proofs.Found.{not_found, Some_inj, one_reading, document-BeginsWith}
use Rattle.json.proofs.Nesting.{value-depth}
use Rattle.json.proofs.Printed.Trees.{value-json_tokens}
use Rattle.json.proofs.Unique.Spelling.{tokens-document}
use Rattle.serde_json.specs.Data.{Data, null, boolean, number, string, array, object, Items, no_items, item, Members, no_members, put}
use Rattle.serde_json.specs.Read.{number_of, of_json, of_items, of_members, read}
use Rattle.ev_fields.specs.Fitting.{depth_after, fits_at}
use Rattle.ev_fields.specs.Places.{IsHeld, data_at}
use Rattle.ev_fields.specs.Unparsed.{IsUnparsed, fault_of}
use Rattle.json.specs.Tape.{node_token}
use Rattle.json.specs.declared.tape.Node.{Node}
use Rattle.json.specs.declared.tape.Node.TheVariants.{Object}
use Rattle.std.proofs.lemmas.List.{drop_all, drop_more}
use Rattle.json.specs.declared.error.Error.{Error}
use Rattle.json.specs.declared.error.Error.TheVariants as error
use Rattle.ev_fields.proofs.Placed.{read_at, data_at-is}
use Rattle.zx_base.proofs.Booleans.{and-split, and-true}
use Rattle.zx_base.proofs.Options.{none-unless_some, some-from_is_some}

-- ---- the test, by the value that the tokens spell

abbrev mutual
  ok : ℕ → Json → Bool
  ok d json.null = true
  ok d (json.boolean b) = true
  ok d (json.number s) = is_some (number_of s)
  ok d (json.string s) = true
  ok d (json.array js) = nat_lt d 127 && ok_items (d + 1) js
  ok d (json.object ms) = nat_lt d 127 && ok_members (d + 1) ms

  ok_items : ℕ → json.Items → Bool
  ok_items d json.no_items = true
  ok_items d (json.item j js) = ok d j && ok_items d js

  ok_members : ℕ → json.Members → Bool
  ok_members d json.no_members = true
  ok_members d (json.member k j ms) = ok d j && ok_members d ms

and_assoc : (a b c : Bool) → ((a && b) && c) ≡ (a && (b && c))
and_assoc true b c = refl
and_assoc false b c = refl

at_if : (b : Bool) (d : ℕ) (ts : List Token) → fits_at (if b then Some d else None) ts ≡ (b && fits_at (Some d) ts)
unfolding fits_at
at_if true d ts = refl
at_if false d ts = refl

closes : (d : ℕ) → d + 1 - 1 ≡ d
closes d = omega arith

mutual
  unfolding fits_at

  split : (j : Json) (d : ℕ) (rest : List Token) → fits_at (Some d) (json_tokens j ++ rest) ≡ (ok d j && fits_at (Some d) rest)
  split json.null d rest = refl
  split (json.boolean b) d rest = refl
  split (json.number s) d rest = at_if (is_some (number_of s)) d rest
  split (json.string s) d rest = refl
  split (json.array js) d rest = at_if (nat_lt d 127) (d + 1) (items_tokens js ++ rest) ∙ ap (λ b. nat_lt d 127 && b) (split_items js d rest) ∙ sym (and_assoc (nat_lt d 127) (ok_items (d + 1) js) (fits_at (Some d) rest))
  split (json.object ms) d rest = at_if (nat_lt d 127) (d + 1) (members_tokens ms ++ rest) ∙ ap (λ b. nat_lt d 127 && b) (split_members ms d rest) ∙ sym (and_assoc (nat_lt d 127) (ok_members (d + 1) ms) (fits_at (Some d) rest))

  split_items : (js : json.Items) (d : ℕ) (rest : List Token) → fits_at (Some (d + 1)) (items_tokens js ++ rest) ≡ (ok_items (d + 1) js && fits_at (Some d) rest)
  split_items json.no_items d rest = ap (λ n. fits_at (Some n) rest) (closes d)
  split_items (json.item j js) d rest =
      ap (fits_at (Some (d + 1))) (append_assoc (json_tokens j) (items_tokens js) rest)
      ∙ split j (d + 1) (items_tokens js ++ rest)
      ∙ ap (λ b. ok (d + 1) j && b) (split_items js d rest)
      ∙ sym (and_assoc (ok (d + 1) j) (ok_items (d + 1) js) (fits_at (Some d) rest))

  split_members : (ms : json.Members) (d : ℕ) (rest : List Token) → fits_at (Some (d + 1)) (members_tokens ms ++ rest) ≡ (ok_members (d + 1) ms && fits_at (Some d) rest)
  split_members json.no_members d rest = ap (λ n. fits_at (Some n) rest) (closes d)
  split_members (json.member k j ms) d rest =
      ap (fits_at (Some (d + 1))) (append_assoc (json_tokens j) (members_tokens ms) rest)
      ∙ split j (d + 1) (members_tokens ms ++ rest)
      ∙ ap (λ b. ok (d + 1) j && b) (split_members ms d rest)
      ∙ sym (and_assoc (ok (d + 1) j) (ok_members (d + 1) ms) (fits_at (Some d) rest))

fits_is : (j : Json) → fits_at (Some 0) (json_tokens j) ≡ ok 0 j
unfolding fits_at
fits_is j = ap (fits_at (Some 0)) (sym (append-nil (json_tokens j))) ∙ split j 0 [] ∙ and-true (ok 0 j)

-- ---- what a passed test shows

mutual
  holds : (j : Json) (d : ℕ) → d ≤ 127 → ok d j ≡ true → (x : Data) × (d + tree.depth j ≤ 127) × (of_json j ≡ Some x)
  holds json.null d le e = (null, omega arith, refl)
  holds (json.boolean b) d le e = (boolean b, omega arith, refl)
  holds (json.number s) d le e = let n = some-from_is_some (number_of s) e in (number n.0, omega arith, ap (option_map number) n.1)
  holds (json.string s) d le e = (string s, omega arith, refl)
  holds (json.array js) d le e =
      let h = and-split (nat_lt d 127) (ok_items (d + 1) js) e in
      let lt = ltb-true d 127 h.0 in
      let i = holds_items js (d + 1) (omega (arith, lt)) h.1 in
      (array i.0, omega (arith, i.1), ap (option_map array) i.2)
  holds (json.object ms) d le e =
      let h = and-split (nat_lt d 127) (ok_members (d + 1) ms) e in
      let lt = ltb-true d 127 h.0 in
      let i = holds_members ms (d + 1) no_members (omega (arith, lt)) h.1 in
      (object i.0, omega (arith, i.1), ap (option_map object) i.2)

  holds_items : (js : json.Items) (d : ℕ) → d ≤ 127 → ok_items d js ≡ true → (ds : Items) × (d + tree.items_depth js ≤ 127) × (of_items js ≡ Some ds)
  holds_items json.no_items d le e = (no_items, omega arith, refl)
  holds_items (json.item j js) d le e =
      let h = and-split (ok d j) (ok_items d js) e in
      let x = holds j d le h.0 in
      let xs = holds_items js d le h.1 in
      (item x.0 xs.0, omega (arith, x.1, xs.1), ap (option_and_then (λ y. option_map (item y) (of_items js))) x.2 ∙ ap (option_map (item x.0)) xs.2)

  holds_members : (ms : json.Members) (d : ℕ) (found : Members) → d ≤ 127 → ok_members d ms ≡ true → (out : Members) × (d + tree.members_depth ms ≤ 127) × (of_members ms found ≡ Some out)
  holds_members json.no_members d found le e = (found, omega arith, refl)
  holds_members (json.member k j ms) d found le e =
      let h = and-split (ok d j) (ok_members d ms) e in
      let x = holds j d le h.0 in
      let xs = holds_members ms d (put k x.0 found) le h.1 in
      (xs.0, omega (arith, x.1, xs.1), ap (option_and_then (λ y. of_members ms (put k y found))) x.2 ∙ xs.2)

-- ---- what a failed test shows

not_both : (a b : Bool) → a ≡ true → (a && b) ≡ false → b ≡ false
not_both true b t e = e
not_both false b t e = absurd (true≢false (sym t))

to_none : {A B : Type 0} (f : A → Option B) → ((a : A) → f a ≡ None) → (o : Option A) → option_and_then f o ≡ None
to_none f none None = refl
to_none f none (Some a) = none a

item_fails : (j : Json) (js : json.Items) (d : ℕ) (b : Bool) → ok d j ≡ b → (b && ok_items d js) ≡ false
    → (ok d j ≡ false → of_json j ≡ None) → (ok_items d js ≡ false → of_items js ≡ None) → of_items (json.item j js) ≡ None
item_fails j js d true is e front back = to_none (λ y. option_map (item y) (of_items js)) (λ y. ap (option_map (item y)) (back e)) (of_json j)
item_fails j js d false is e front back = ap (option_and_then (λ y. option_map (item y) (of_items js))) (front is)

member_fails : (k : List ℕ) (j : Json) (ms : json.Members) (d : ℕ) (found : Members) (b : Bool) → ok d j ≡ b → (b && ok_members d ms) ≡ false
    → (ok d j ≡ false → of_json j ≡ None) → ((more : Members) → ok_members d ms ≡ false → of_members ms more ≡ None) → of_members (json.member k j ms) found ≡ None
member_fails k j ms d found true is e front back = to_none (λ y. of_members ms (put k y found)) (λ y. back (put k y found) e) (of_json j)
member_fails k j ms d found false is e front back = ap (option_and_then (λ y. of_members ms (put k y found))) (front is)

mutual
  fails : (j : Json) (d : ℕ) → d + tree.depth j ≤ 127 → ok d j ≡ false → of_json j ≡ None
  fails json.null d le e = absurd (true≢false e)
  fails (json.boolean b) d le e = absurd (true≢false e)
  fails (json.number s) d le e = ap (option_map number) (none-unless_some (number_of s) e)
  fails (json.string s) d le e = absurd (true≢false e)
  fails (json.array js) d le e = ap (option_map array) (fails_items js (d + 1) (omega (arith, le)) (not_both (nat_lt d 127) (ok_items (d + 1) js) (lt-ltb d 127 (omega (arith, le))) e))
  fails (json.object ms) d le e = ap (option_map object) (fails_members ms (d + 1) no_members (omega (arith, le)) (not_both (nat_lt d 127) (ok_members (d + 1) ms) (lt-ltb d 127 (omega (arith, le))) e))

  fails_items : (js : json.Items) (d : ℕ) → d + tree.items_depth js ≤ 127 → ok_items d js ≡ false → of_items js ≡ None
  fails_items json.no_items d le e = absurd (true≢false e)
  fails_items (json.item j js) d le e = item_fails j js d (ok d j) refl e (λ h. fails j d (omega (arith, le)) h) (λ h. fails_items js d (omega (arith, le)) h)

  fails_members : (ms : json.Members) (d : ℕ) (found : Members) → d + tree.members_depth ms ≤ 127 → ok_members d ms ≡ false → of_members ms found ≡ None
  fails_members json.no_members d found le e = absurd (true≢false e)
  fails_members (json.member k j ms) d found le e = member_fails k j ms d found (ok d j) refl e (λ h. fails j d (omega (arith, le)) h) (λ more h. fails_members ms d more (omega (arith, le)) h)

-- ---- the whole text

fitted : (text : List ℕ) (j : Json) → document text ≡ Some j → fits_at (Some 0) (tokens text) ≡ true → IsHeld (tokens text) × (read text ≡ Some (data_at (tokens text)))
fitted text j is fits =
    let spelled = tokens-document text j is in
    let h = holds j 0 (omega arith) (sym (fits_is j) ∙ ap (fits_at (Some 0)) (sym spelled) ∙ fits) in
    let begins = document-BeginsWith text j is in
    let deep : tree.depth j ≤ 127 = omega (arith, h.1) in
    let at127 : value 127 (tokens text) ≡ Some (j, []) = ap (value 127) (spelled ∙ sym (append-nil (json_tokens j))) ∙ value-json_tokens j 127 [] deep in (
      (j, h.0, begins, h.2),
      ap (λ o. option_and_then of_json (option_and_then (λ p. if_last p.0 p.1) o)) at127 ∙ h.2 ∙ ap (λ x. Some x) (sym (data_at-is (tokens text) j h.0 begins h.2)),
    )

unfitted_at : (text : List ℕ) (j : Json) → document text ≡ Some j → fits_at (Some 0) (tokens text) ≡ false → (o : Option (Json × List Token)) → value 127 (tokens text) ≡ o → option_and_then of_json (option_and_then (λ p. if_last p.0 p.1) o) ≡ None
unfitted_at text j is fits None at127 = refl
unfitted_at text j is fits (Some (i, t ∷ r)) at127 = refl
unfitted_at text j is fits (Some (i, [])) at127 =
    let begins = document-BeginsWith text j is in
    let same : i ≡ j = ap (λ p. p.0) (Some_inj (i, []) (j, begins.1) (one_reading 127 begins.0 (tokens text) (i, []) (j, begins.1) at127 begins.2)) in
    let deep : tree.depth j ≤ 127 = subst (λ x. tree.depth x ≤ 127) same (value-depth 127 (tokens text) [] i at127) in
    ap of_json same ∙ fails j 0 (omega (arith, deep)) (sym (fits_is j) ∙ ap (fits_at (Some 0)) (sym (tokens-document text j is)) ∙ fits)

invalid_at : (text : List ℕ) → document text ≡ None → (o : Option (Json × List Token)) → value 127 (tokens text) ≡ o → option_and_then of_json (option_and_then (λ p. if_last p.0 p.1) o) ≡ None
invalid_at text none None at127 = refl
invalid_at text none (Some (i, t ∷ r)) at127 = refl
invalid_at text none (Some (i, [])) at127 =
    let shallow = value-depth 127 (tokens text) [] i at127 in
    let at128 = read_at 128 127 (tokens text) [] i (omega (arith, shallow)) at127 in
    not_found i (sym none ∙ ap (option_and_then (λ p. if_last p.0 p.1)) at128)

pub unreadable : (text : List ℕ) → document text ≡ None → read text ≡ None
unreadable text none = invalid_at text none (value 127 (tokens text)) refl

document_of : (text : List ℕ) → IsSome (document text) → (j : Json) × (document text ≡ Some j)
document_of text h = some-from_is_some (document text) h

pub readable : (text : List ℕ) (tape : List Token) → tape ≡ tokens text → IsSome (document text) → fits_at (Some 0) tape ≡ true → IsHeld tape × (read text ≡ Some (data_at tape))
readable text tape is some fits =
    let j = document_of text some in
    subst (λ ts. IsHeld ts × (read text ≡ Some (data_at ts))) (sym is) (fitted text j.0 j.1 (ap (fits_at (Some 0)) (sym is) ∙ fits))

pub unfit : (text : List ℕ) (tape : List Token) → tape ≡ tokens text → IsSome (document text) → fits_at (Some 0) tape ≡ false → read text ≡ None
unfit text tape is some fits =
    let j = document_of text some in
    unfitted_at text j.0 j.1 (ap (fits_at (Some 0)) (sym is) ∙ fits) (value 127 (tokens text)) refl

-- ---- the loop over the nodes

here : (nodes : List Node) (i : ℕ) → i < length nodes → map node_token (drop i nodes) ≡ node_token (get_or nodes i (Object 0)) ∷ map node_token (drop (i + 1) nodes)
here nodes i lt = ap (λ (ns : List Node). map node_token ns) (drop_more nodes i (Object 0) lt)

pub turn_fails : (nodes : List Node) (i d : ℕ) (total : Bool) → i < length nodes → fits_at (Some d) (map node_token (drop i nodes)) ≡ total → depth_after d (node_token (get_or nodes i (Object 0))) ≡ None → false ≡ total
unfolding fits_at
turn_fails nodes i d total lt so_far e = ap (λ o. fits_at o (map node_token (drop (i + 1) nodes))) (sym e) ∙ sym (ap (fits_at (Some d)) (here nodes i lt)) ∙ so_far

pub turn_goes_on : (nodes : List Node) (i d next : ℕ) (total : Bool) → i < length nodes → fits_at (Some d) (map node_token (drop i nodes)) ≡ total → depth_after d (node_token (get_or nodes i (Object 0))) ≡ Some next
    → fits_at (Some next) (map node_token (drop (i + 1) nodes)) ≡ total
unfolding fits_at
turn_goes_on nodes i d next total lt so_far e = ap (λ o. fits_at o (map node_token (drop (i + 1) nodes))) (sym e) ∙ sym (ap (fits_at (Some d)) (here nodes i lt)) ∙ so_far

pub turns_end : (nodes : List Node) (i d : ℕ) (total : Bool) → length nodes ≤ i → fits_at (Some d) (map node_token (drop i nodes)) ≡ total → true ≡ total
unfolding fits_at
turns_end nodes i d total le so_far = sym (ap (λ (ns : List Node). fits_at (Some d) (map node_token ns)) (drop_all i nodes le)) ∙ so_far

-- ---- errors

pub unparsed_by : {A : Type 0} (text : List ℕ) (r : Result A Error) (e : Error) → r ≡ Err e → (r ≡ Err error.Invalid → document text ≡ None) → r ≢ Err error.DuplicateKey → IsUnparsed text (fault_of e)
unparsed_by text r error.Invalid is invalid never = λ utf8. unreadable text (invalid is)
unparsed_by text r error.DuplicateKey is invalid never = absurd (never is)
unparsed_by text r error.OutOfMemory is invalid never = tt
unparsed_by text r error.TooLong is invalid never = tt
