-- The tokens of members, one after another.
use Rattle.std.proofs.Common.{◌≡◌, ◌≢◌, ℕ, List, [], ◌∷◌, ◌++◌, length, refl, sym, ap, subst, ◌∙◌, append_assoc, map, arith}
use Rattle.std.specs.Prelude.{codes}
use Rattle.std.specs.List.{flat_map}
use Rattle.std.proofs.lemmas.List.Concat.{flat_map-append}
use Rattle.std.proofs.lemmas.List.{append-nil}
use Rattle.json.specs.Token.{Token, begin_object, end_object, begin_array, end_array, key}
use Rattle.json.specs.Tree.{members_tokens, items_tokens}
use Rattle.serde_json.specs.Data.{Data, array}
use Rattle.serde_json.specs.View.{items_of}
use Rattle.serde_json.proofs.Texts.{print-outline}
use Rattle.json.specs.Print.{print}
use Rattle.serde_json.specs.Written.{compact_text, members_outline, items_outline}
use Rattle.ev_fields.specs.declared.field.Field.{Field}
use Rattle.ev_fields.specs.Names.{snake}
use Rattle.ev_fields.specs.Members.{none, members_from, object_of, given, list_if, kv_member}
use Rattle.ev_fields.specs.Open.{IsOpen, data_tokens, field_tokens, fields_tokens}

pub fields_tokens-append : (a b : List (List ℕ × Data)) → fields_tokens (a ++ b) ≡ fields_tokens a ++ fields_tokens b
unfolding fields_tokens
fields_tokens-append a b = flat_map-append field_tokens a b

members_tokens-from : (fs : List (List ℕ × Data)) → members_tokens (members_outline (members_from fs)) ≡ flat_map field_tokens fs ++ end_object ∷ []
unfolding data_tokens
members_tokens-from [] = refl
members_tokens-from (f ∷ fs) = ap (λ (ts : List Token). key f.0 ∷ (data_tokens f.1 ++ ts)) (members_tokens-from fs) ∙ sym (append_assoc (field_tokens f) (flat_map field_tokens fs) (end_object ∷ []))

pub data_tokens-object : (fs : List (List ℕ × Data)) → data_tokens (object_of fs) ≡ begin_object ∷ [] ++ fields_tokens fs ++ end_object ∷ []
unfolding data_tokens object_of fields_tokens
data_tokens-object fs = ap (λ (ts : List Token). begin_object ∷ ts) (members_tokens-from fs)

items_tokens-of : (ds : List Data) → items_tokens (items_outline (items_of ds)) ≡ flat_map data_tokens ds ++ end_array ∷ []
unfolding data_tokens
items_tokens-of [] = refl
items_tokens-of (d ∷ ds) = ap (λ (ts : List Token). data_tokens d ++ ts) (items_tokens-of ds) ∙ sym (append_assoc (data_tokens d) (flat_map data_tokens ds) (end_array ∷ []))

pub data_tokens-array : (ds : List Data) → data_tokens (array (items_of ds)) ≡ begin_array ∷ [] ++ flat_map data_tokens ds ++ end_array ∷ []
unfolding data_tokens
data_tokens-array ds = ap (λ (ts : List Token). begin_array ∷ ts) (items_tokens-of ds)

pub fields_tokens-given : (name : Field) (d : Data) → fields_tokens (given name d) ≡ key (snake name) ∷ [] ++ data_tokens d
unfolding fields_tokens given
fields_tokens-given name d = ap (λ (ts : List Token). key (snake name) ∷ ts) (append-nil (data_tokens d))

pub ruleset writing_steps = (fields_tokens-append, data_tokens-object, data_tokens-array, fields_tokens-given, append_assoc)

-- ---- the tokens of members after what was written before, grouped as a writer's steps are

pub after-append : (x : List Token) (a b : List (List ℕ × Data)) → x ++ fields_tokens (a ++ b) ≡ (x ++ fields_tokens a) ++ fields_tokens b
after-append x a b = ap (λ (ts : List Token). x ++ ts) (fields_tokens-append a b) ∙ sym (append_assoc x (fields_tokens a) (fields_tokens b))

pub after-object : (x : List Token) (fs : List (List ℕ × Data)) → x ++ data_tokens (object_of fs) ≡ ((x ++ begin_object ∷ []) ++ fields_tokens fs) ++ end_object ∷ []
after-object x fs = rw data_tokens-object (simp append_assoc refl)

pub after-given : (x : List Token) (name : Field) (d : Data) → x ++ fields_tokens (given name d) ≡ (x ++ key (snake name) ∷ []) ++ data_tokens d
after-given x name d = rw fields_tokens-given (simp append_assoc refl)

pub after-array : (x : List Token) (ds : List Data) → x ++ data_tokens (array (items_of ds)) ≡ ((x ++ begin_array ∷ []) ++ flat_map data_tokens ds) ++ end_array ∷ []
after-array x ds = rw data_tokens-array (simp append_assoc refl)

pub ruleset steps = (after-append, after-object, after-given, after-array)

pub opened-append : (before now more : List Token) (fs gs : List (List ℕ × Data)) → IsOpen before fs now → fields_tokens gs ≡ more → IsOpen before (fs ++ gs) (now ++ more)
opened-append before now more fs gs h e = record { tokens = ap (λ (x : List Token). x ++ more) h.tokens ∙ sym (after-append (before ++ begin_object ∷ []) fs gs ∙ ap (λ (x : List Token). ((before ++ begin_object ∷ []) ++ fields_tokens fs) ++ x) e) }

pub opened-none : (before now : List Token) (fs : List (List ℕ × Data)) → IsOpen before fs now → IsOpen before (fs ++ none) now
unfolding none
opened-none before now fs h = record { tokens = h.tokens ∙ ap (λ (x : List (List ℕ × Data)). (before ++ begin_object ∷ []) ++ fields_tokens x) (sym (append-nil fs)) }

pub opened-begin : (before : List Token) → IsOpen before none (before ++ begin_object ∷ [])
unfolding none fields_tokens
opened-begin before = record { tokens = sym (append-nil (before ++ begin_object ∷ [])) }

pub opened-end : (before now : List Token) (fs : List (List ℕ × Data)) → IsOpen before fs now → now ++ end_object ∷ [] ≡ before ++ data_tokens (object_of fs)
opened-end before now fs h = ap (λ (x : List Token). x ++ end_object ∷ []) h.tokens ∙ sym (after-object before fs)

pub ruleset opened = (opened-append, opened-none, opened-begin, opened-end)

pub opened-given : (before now : List Token) (fs : List (List ℕ × Data)) (name : Field) (d : Data) → IsOpen before fs now → IsOpen before (fs ++ given name d) ((now ++ key (snake name) ∷ []) ++ data_tokens d)
opened-given before now fs name d h = subst (IsOpen before (fs ++ given name d)) (sym (append_assoc now (key (snake name) ∷ []) (data_tokens d))) (opened-append before now ((key (snake name) ∷ []) ++ data_tokens d) fs (given name d) h (fields_tokens-given name d))

pub opened-kv : (before now : List Token) (fs : List (List ℕ × Data)) (d : Data) → IsOpen before fs now → IsOpen before (fs ++ kv_member d) ((now ++ key (codes "kv") ∷ []) ++ data_tokens d)
unfolding kv_member fields_tokens
opened-kv before now fs d h = subst (IsOpen before (fs ++ kv_member d)) (sym (append_assoc now (key (codes "kv") ∷ []) (data_tokens d))) (opened-append before now ((key (codes "kv") ∷ []) ++ data_tokens d) fs (kv_member d) h (ap (λ (ts : List Token). key (codes "kv") ∷ ts) (append-nil (data_tokens d))))

pub opened-array : (before now : List Token) (fs : List (List ℕ × Data)) (name : Field) (ds : List Data) → IsOpen before fs now → IsOpen before (fs ++ given name (array (items_of ds))) (((now ++ key (snake name) ∷ []) ++ begin_array ∷ []) ++ flat_map data_tokens ds ++ end_array ∷ [])
opened-array before now fs name ds h = subst (IsOpen before (fs ++ given name (array (items_of ds)))) (after-array (now ++ key (snake name) ∷ []) ds) (opened-given before now fs name (array (items_of ds)) h)

pub list_if-some : {M : Type 0} (shape : M → Data) (name : Field) (ms : List M) → length ms ≢ 0 → list_if name (map shape ms) ≡ given name (array (items_of (map shape ms)))
unfolding list_if
list_if-some shape name [] some = absurd (some refl)
list_if-some shape name (m ∷ ms) some = refl

pub opened-empty : {M : Type 0} (shape : M → Data) (before now : List Token) (fs : List (List ℕ × Data)) (name : Field) (ms : List M) → length ms ≡ 0 → IsOpen before fs now → IsOpen before (fs ++ list_if name (map shape ms)) now
unfolding list_if none
opened-empty shape before now fs name [] e h = opened-none before now fs h
opened-empty shape before now fs name (m ∷ ms) e h = absurd (omega (arith, e))

pub ruleset nested = (opened-given, opened-kv, opened-array)

pub print-data : (ts : List Token) (d : Data) → ts ≡ [] ++ data_tokens d → print ts ≡ compact_text d
unfolding data_tokens
print-data ts d e = ap print e ∙ print-outline d

pub ruleset written = (print-data)
