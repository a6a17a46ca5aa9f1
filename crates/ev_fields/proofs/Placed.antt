-- A value at a place of the tokens, and the same value in the words of `serde_json`.
use Rattle.std.proofs.Common.{◌≡◌, ℕ, ◌≤◌, List, [], ◌∷◌, ◌++◌, length, Bool, true, false, cond, Option, Some, None, option_map, option_and_then, refl, sym, ap, ◌∙◌, subst, arith, append_assoc, length-append, true≢false}
use Rattle.std.specs.Prelude.{⊤, is_some, bytes_eq, MatchOption}
use Rattle.std.proofs.lemmas.Slice.Eq.{bytes_eq-Decides}
use Rattle.json.specs.Token.{Token, begin_array, end_array}
use Rattle.json.specs.Json as json
use Rattle.json.specs.Json.{Json, value, after_end_array}
use Rattle.json.specs.Tree.{json_tokens, items_tokens, members_tokens}
use Rattle.json.specs.Tree as tree
use Rattle.json.specs.Find.{BeginsWith, InItems, later_or, Finds, NextItem}
use Rattle.json.specs.Find as find
use Rattle.json.proofs.Grammar.{closed_array, items_end}
use Rattle.json.proofs.Found.{not_found, Some_inj, items_close, items_go_on}
use Rattle.json.proofs.Printed.Trees.{value-json_tokens}
use Rattle.json.proofs.Unique.Spelling.{value-json_tokens_back}
use Rattle.serde_json.specs.Data.{Data, null, boolean, number, string, array, object, Num, Items, no_items, item, Members, no_members, put}
use Rattle.serde_json.specs.Find.{get, get_member, as_str, as_bool, as_number, as_object, as_array}
use Rattle.serde_json.specs.Read.{number_of, of_json, of_items, of_members}
use Rattle.serde_json.proofs.Views.{get_member-put, get_member-put_other}
use Rattle.ev_fields.specs.Places.{IsHeld, AreHeld, or_null, data_at, items_of, items_at}

-- ---- a value nests no deeper than it has tokens

mutual
  shallow : (j : Json) → tree.depth j ≤ length (json_tokens j)
  shallow json.null = omega arith
  shallow (json.boolean b) = omega arith
  shallow (json.number s) = omega arith
  shallow (json.string s) = omega arith
  shallow (json.array js) = omega (arith, shallow_items js)
  shallow (json.object ms) = omega (arith, shallow_members ms)

  shallow_items : (js : json.Items) → tree.items_depth js ≤ length (items_tokens js)
  shallow_items json.no_items = omega arith
  shallow_items (json.item j js) = omega (arith, shallow j, shallow_items js, length-append (json_tokens j) (items_tokens js))

  shallow_members : (ms : json.Members) → tree.members_depth ms ≤ length (members_tokens ms)
  shallow_members json.no_members = omega arith
  shallow_members (json.member k j ms) = omega (arith, shallow j, shallow_members ms, length-append (json_tokens j) (members_tokens ms))

-- read at a depth that is enough
pub read_at : (e d : ℕ) (ts r : List Token) (j : Json) → tree.depth j ≤ e → value d ts ≡ Some (j, r) → value e ts ≡ Some (j, r)
read_at e d ts r j enough is = ap (value e) (value-json_tokens_back d ts r j is) ∙ value-json_tokens j e r enough

pub data_at-is : (ts : List Token) (j : Json) (d : Data) → BeginsWith ts j → of_json j ≡ Some d → data_at ts ≡ d
unfolding data_at
data_at-is ts j d h e =
    let spelled = value-json_tokens_back h.0 ts h.1 j h.2 in
    let enough : tree.depth j ≤ length ts = omega (arith, ap length spelled, shallow j, length-append (json_tokens j) h.1) in
    ap (λ o. or_null (option_and_then (λ p. of_json p.0) o)) (read_at (length ts) h.0 ts h.1 j enough h.2) ∙ ap or_null e

-- ---- items

abbrev tail : json.Items → json.Items
tail json.no_items = json.no_items
tail (json.item j js) = js

abbrev IsItem : json.Items → Type 0
IsItem json.no_items = ⊥
IsItem (json.item j js) = ⊤

spelled_items : (js : json.Items) (ts : List Token) → InItems ts js → (r : List Token) × (ts ≡ items_tokens js ++ r)
spelled_items json.no_items ts h = go (after_end_array ts) refl
  where
    go : (o : Option (List Token)) → after_end_array ts ≡ o → (r : List Token) × (ts ≡ items_tokens json.no_items ++ r)
    go (Some r) e = (r, closed_array ts r e)
    go None e = absurd (subst IsItem (sym (items_go_on ts json.no_items e h).5) tt)
spelled_items (json.item j js) ts h = go (λ us k. spelled_items js us k) (after_end_array ts) refl
  where
    go : ((us : List Token) → InItems us js → (r : List Token) × (us ≡ items_tokens js ++ r)) → (o : Option (List Token)) → after_end_array ts ≡ o → (r : List Token) × (ts ≡ items_tokens (json.item j js) ++ r)
    go inner (Some r) e = absurd (subst IsItem (items_close r (json.item j js) (subst (λ t. InItems t (json.item j js)) (closed_array ts r e) h)) tt)
    go inner None e =
        let f = items_go_on ts (json.item j js) e h in
        let same : js ≡ f.3 = ap tail f.5 in
        let more = inner f.2 (subst (InItems f.2) (sym same) f.6) in
        (more.0, value-json_tokens_back f.0 ts f.2 f.1 f.4 ∙ ap (λ l. json_tokens f.1 ++ l) (more.1 ∙ ap (λ l. items_tokens l ++ more.0) same) ∙ sym (append_assoc (json_tokens f.1) (items_tokens f.3) more.0) ∙ ap (λ l. items_tokens l ++ more.0) (sym f.5))

begins_list : (ts : List Token) (js : json.Items) → InItems ts js → BeginsWith (begin_array ∷ ts) (json.array js)
begins_list ts js h =
    let s = spelled_items js ts h in
    let d = tree.depth (json.array js) in
    (d, s.0, ap (λ l. value d (begin_array ∷ l)) s.1 ∙ value-json_tokens (json.array js) d s.0 (omega arith))

pub items_at-is : (ts : List Token) (js : json.Items) (ds : Items) → InItems ts js → of_items js ≡ Some ds → items_at ts ≡ ds
unfolding items_at
items_at-is ts js ds h e = ap items_of (data_at-is (begin_array ∷ ts) (json.array js) (array ds) (begins_list ts js h) (ap (option_map array) e))

-- ---- what each value of the grammar is

abbrev pub Shape : Json → Data → Type 0
Shape json.null d = d ≡ null
Shape (json.boolean b) d = d ≡ boolean b
Shape (json.number s) d = (n : Num) × (number_of s ≡ Some n) × (d ≡ number n)
Shape (json.string s) d = d ≡ string s
Shape (json.array js) d = (ds : Items) × (of_items js ≡ Some ds) × (d ≡ array ds)
Shape (json.object ms) d = (out : Members) × (of_members ms no_members ≡ Some out) × (d ≡ object out)

mapped : {A : Type 0} (f : A → Data) (o : Option A) (d : Data) → option_map f o ≡ Some d → (a : A) × (o ≡ Some a) × (d ≡ f a)
mapped f None d e = not_found d e
mapped f (Some a) d e = (a, refl, sym (Some_inj (f a) d e))

pub shape : (j : Json) (d : Data) → of_json j ≡ Some d → Shape j d
shape json.null d e = sym (Some_inj null d e)
shape (json.boolean b) d e = sym (Some_inj (boolean b) d e)
shape (json.number s) d e = mapped number (number_of s) d e
shape (json.string s) d e = sym (Some_inj (string s) d e)
shape (json.array js) d e = mapped array (of_items js) d e
shape (json.object ms) d e = mapped object (of_members ms no_members) d e

-- what f gives at the value, where g gives it at the value of the grammar
pub as_str-is : (j : Json) (d : Data) → Shape j d → find.as_str j ≡ as_str d
as_str-is json.null d h = ap as_str (sym h)
as_str-is (json.boolean b) d h = ap as_str (sym h)
as_str-is (json.number s) d h = ap as_str (sym h.2)
as_str-is (json.string s) d h = ap as_str (sym h)
as_str-is (json.array js) d h = ap as_str (sym h.2)
as_str-is (json.object ms) d h = ap as_str (sym h.2)

pub as_bool-is : (j : Json) (d : Data) → Shape j d → find.as_bool j ≡ as_bool d
as_bool-is json.null d h = ap as_bool (sym h)
as_bool-is (json.boolean b) d h = ap as_bool (sym h)
as_bool-is (json.number s) d h = ap as_bool (sym h.2)
as_bool-is (json.string s) d h = ap as_bool (sym h)
as_bool-is (json.array js) d h = ap as_bool (sym h.2)
as_bool-is (json.object ms) d h = ap as_bool (sym h.2)

pub as_number-is : (j : Json) (d : Data) → Shape j d → option_and_then number_of (find.as_number j) ≡ as_number d
as_number-is json.null d h = ap as_number (sym h)
as_number-is (json.boolean b) d h = ap as_number (sym h)
as_number-is (json.number s) d h = h.1 ∙ ap as_number (sym h.2)
as_number-is (json.string s) d h = ap as_number (sym h)
as_number-is (json.array js) d h = ap as_number (sym h.2)
as_number-is (json.object ms) d h = ap as_number (sym h.2)

pub is_object-is : (j : Json) (d : Data) → Shape j d → is_some (find.as_object j) ≡ is_some (as_object d)
is_object-is json.null d h = ap (λ x. is_some (as_object x)) (sym h)
is_object-is (json.boolean b) d h = ap (λ x. is_some (as_object x)) (sym h)
is_object-is (json.number s) d h = ap (λ x. is_some (as_object x)) (sym h.2)
is_object-is (json.string s) d h = ap (λ x. is_some (as_object x)) (sym h)
is_object-is (json.array js) d h = ap (λ x. is_some (as_object x)) (sym h.2)
is_object-is (json.object ms) d h = ap (λ x. is_some (as_object x)) (sym h.2)

-- ---- members: of two with one name the last counts, in both

abbrev pub Same : Option Json → Option Data → Option Data → Type 0
Same None old new = new ≡ old
Same (Some j) old new = (d : Data) × (of_json j ≡ Some d) × (new ≡ Some d)

module _ (name : List ℕ) where
  last_counts : (o : Option Json) (k : List ℕ) (j : Json) (d : Data) (found : Members) (new : Option Data) (b : Bool) → of_json j ≡ Some d → bytes_eq k name ≡ b
      → Same o (get_member name (put k d found)) new → Same (later_or o (cond b (Some j) None)) (get_member name found) new
  last_counts (Some i) k j d found new b is e h = h
  last_counts None k j d found new true is e h =
      let same : k ≡ name = (bytes_eq-Decides k name).0 e in
      (d, is, h ∙ ap (λ n. get_member n (put k d found)) (sym same) ∙ get_member-put k d found)
  last_counts None k j d found new false is e h =
      h ∙ get_member-put_other name k d found (λ same. true≢false (sym ((bytes_eq-Decides k name).1 (sym same)) ∙ e))

  members_same : (ms : json.Members) (found out : Members) → of_members ms found ≡ Some out → Same (find.get_member name ms) (get_member name found) (get_member name out)
  members_same json.no_members found out e = ap (get_member name) (sym (Some_inj found out e))
  members_same (json.member k j ms) found out e = go (λ d h. members_same ms (put k d found) out h) (of_json j) refl e
    where
      go : ((d : Data) → of_members ms (put k d found) ≡ Some out → Same (find.get_member name ms) (get_member name (put k d found)) (get_member name out)) → (o : Option Data) → of_json j ≡ o → option_and_then (λ d. of_members ms (put k d found)) o ≡ Some out → Same (find.get_member name (json.member k j ms)) (get_member name found) (get_member name out)
      go inner None is h = not_found out h
      go inner (Some d) is h = last_counts (find.get_member name ms) k j d found (get_member name out) (bytes_eq k name) is refl (inner d h)

  pub get_same : (j : Json) (d : Data) → Shape j d → Same (find.get name j) None (get name d)
  get_same json.null d h = ap (get name) h
  get_same (json.boolean b) d h = ap (get name) h
  get_same (json.number s) d h = ap (get name) h.2
  get_same (json.string s) d h = ap (get name) h
  get_same (json.array js) d h = ap (get name) h.2
  get_same (json.object ms) d h = subst (Same (find.get_member name ms) None) (sym (ap (get name) h.2)) (members_same ms no_members h.0 h.1)

-- ---- what a look-up at a place gives

-- a function of the grammar's value that is a function of the value
pub seen : {A : Type 0} (f : Json → A) (g : Data → A) → ((j : Json) (d : Data) → Shape j d → f j ≡ g d) → (ts now : List Token) → ts ≡ now → IsHeld ts → (r : A) → ((j : Json) → BeginsWith ts j → r ≡ f j) → r ≡ g (data_at now)
seen f g same ts now is (j, d, begins, e) r h = h j begins ∙ same j d (shape j d e) ∙ ap g (sym (data_at-is ts j d begins e)) ∙ ap (λ us. g (data_at us)) is

abbrev pub Gets : List ℕ → List Token → Option (List Token) → Type 0
Gets name now None = None ≡ get name (data_at now)
Gets name now (Some us) = IsHeld us × (Some (data_at us) ≡ get name (data_at now))

gets_at : (name : List ℕ) (ts : List Token) → IsHeld ts → (r : Option (List Token)) → ((j : Json) → BeginsWith ts j → Finds r (find.get name j)) → Gets name ts r
gets_at name ts (j, d, begins, e) None f =
    let none : get name d ≡ None = subst (λ o. Same o None (get name d)) (f j begins) (get_same name j d (shape j d e)) in
    sym (ap (get name) (data_at-is ts j d begins e) ∙ none)
gets_at name ts (j, d, begins, e) (Some us) f =
    let found = f j begins in
    let some = subst (λ o. Same o None (get name d)) found.1 (get_same name j d (shape j d e)) in
    ((found.0, some.0, found.2, some.1), ap (λ x. Some x) (data_at-is us found.0 some.0 found.2 some.1) ∙ sym some.2 ∙ ap (get name) (sym (data_at-is ts j d begins e)))

pub gets : (name : List ℕ) (ts now : List Token) → ts ≡ now → IsHeld ts → (r : Option (List Token)) → ((j : Json) → BeginsWith ts j → Finds r (find.get name j)) → Gets name now r
gets name ts now is h r f = subst (λ us. Gets name us r) is (gets_at name ts h r f)

opens_object : (j : Json) (r : Option (List Token)) → MatchOption r (find.as_object j ≡ None) (λ rest. (ms : json.Members) × (j ≡ json.object ms) × find.InMembers rest ms) → is_some r ≡ is_some (find.as_object j)
opens_object j None h = ap is_some (sym h)
opens_object j (Some us) h = ap (λ i. is_some (find.as_object i)) (sym h.1)

pub is_object_at : (ts now : List Token) → ts ≡ now → IsHeld ts → (r : Option (List Token)) → ((j : Json) → BeginsWith ts j → MatchOption r (find.as_object j ≡ None) (λ rest. (ms : json.Members) × (j ≡ json.object ms) × find.InMembers rest ms)) → is_some r ≡ is_some (as_object (data_at now))
is_object_at ts now is h r f = seen (λ j. is_some (find.as_object j)) (λ d. is_some (as_object d)) is_object-is ts now is h (is_some r) (λ j begins. opens_object j r (f j begins))

no_array : (j : Json) (d : Data) → Shape j d → find.as_array j ≡ None → as_array d ≡ None
no_array json.null d h e = ap as_array h
no_array (json.boolean b) d h e = ap as_array h
no_array (json.number s) d h e = ap as_array h.2
no_array (json.string s) d h e = ap as_array h
no_array (json.array js) d h e = not_found js (sym e)
no_array (json.object ms) d h e = ap as_array h.2

abbrev pub Lists : List Token → Option (List Token) → Type 0
Lists now None = None ≡ as_array (data_at now)
Lists now (Some us) = AreHeld us × (Some (items_at us) ≡ as_array (data_at now))

lists_at : (ts : List Token) → IsHeld ts → (r : Option (List Token)) → ((j : Json) → BeginsWith ts j → MatchOption r (find.as_array j ≡ None) (λ rest. (js : json.Items) × (j ≡ json.array js) × InItems rest js)) → Lists ts r
lists_at ts (j, d, begins, e) None f = sym (ap as_array (data_at-is ts j d begins e) ∙ no_array j d (shape j d e) (f j begins))
lists_at ts (j, d, begins, e) (Some us) f =
    let opened = f j begins in
    let s = subst (λ i. Shape i d) opened.1 (shape j d e) in
    ((opened.0, s.0, opened.2, s.1), ap (λ x. Some x) (items_at-is us opened.0 s.0 opened.2 s.1) ∙ ap as_array (sym s.2 ∙ sym (data_at-is ts j d begins e)))

pub lists : (ts now : List Token) → ts ≡ now → IsHeld ts → (r : Option (List Token)) → ((j : Json) → BeginsWith ts j → MatchOption r (find.as_array j ≡ None) (λ rest. (js : json.Items) × (j ≡ json.array js) × InItems rest js)) → Lists now r
lists ts now is h r f = subst (λ us. Lists us r) is (lists_at ts h r f)

-- ---- the items of a list, one after another

closes : InItems (end_array ∷ []) json.no_items
closes = (0, 1, [], items_end (value 0) 1 (end_array ∷ []) [] (omega arith) refl)

pub closed : AreHeld (end_array ∷ [])
closed = (json.no_items, no_items, closes, refl)

pub closed_none : items_at (end_array ∷ []) ≡ no_items
closed_none = items_at-is (end_array ∷ []) json.no_items no_items closes refl

abbrev pub Steps : List Token → Option (List Token) → List Token → Type 0
Steps old None new = items_at old ≡ no_items
Steps old (Some ts) new = IsHeld ts × AreHeld new × (items_at old ≡ item (data_at ts) (items_at new))

first : (j : Json) (js : json.Items) (ds : Items) → of_items (json.item j js) ≡ Some ds → (d : Data) × (rest : Items) × (of_json j ≡ Some d) × (of_items js ≡ Some rest) × (ds ≡ item d rest)
first j js ds e = go (of_json j) refl e
  where
    more : (d : Data) → of_json j ≡ Some d → (o : Option Items) → of_items js ≡ o → option_map (item d) o ≡ Some ds → (d : Data) × (rest : Items) × (of_json j ≡ Some d) × (of_items js ≡ Some rest) × (ds ≡ item d rest)
    more d is None so h = not_found ds h
    more d is (Some rest) so h = (d, rest, is, so, sym (Some_inj (item d rest) ds h))

    go : (o : Option Data) → of_json j ≡ o → option_and_then (λ d. option_map (item d) (of_items js)) o ≡ Some ds → (d : Data) × (rest : Items) × (of_json j ≡ Some d) × (of_items js ≡ Some rest) × (ds ≡ item d rest)
    go None is h = not_found ds h
    go (Some d) is h = more d is (of_items js) refl h

pub steps : (old : List Token) (r : Option (List Token)) (new : List Token) → AreHeld old → NextItem old r new → Steps old r new
steps old None new (js, ds, inside, e) h =
    let none : js ≡ json.no_items = h js inside in
    items_at-is old js ds inside e ∙ sym (Some_inj no_items ds (ap of_items (sym none) ∙ e))
steps old (Some ts) new (js, ds, inside, e) h =
    let n = h js inside in
    let f = first n.0 n.1 ds (ap of_items (sym n.2) ∙ e) in
    ((n.0, f.0, n.3, f.2), (n.1, f.1, n.4, f.3), items_at-is old js ds inside e ∙ f.4 ∙ sym (ap (item f.0) (items_at-is new n.1 f.1 n.4 f.3)) ∙ sym (ap (λ x. item x (items_at new)) (data_at-is ts n.0 f.0 n.3 f.2)))
