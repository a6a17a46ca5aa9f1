-- The results of a multi's parts are read exactly where they are spelled.
use Rattle.std.proofs.Common.{◌≡◌, ℕ, ◌≤◌, Bool, true, false, cond, Option, Some, None, List, [], ◌∷◌, ◌++◌, length, map, Ok, Err, refl, sym, ap, subst, ◌∙◌, append_assoc, arith, ℤ, pos, negsuc}
use Rattle.std.specs.Prelude.{◌&&◌}
use Rattle.std.specs.Ordering.{int_eq}
use Rattle.std.proofs.lemmas.Bool.{and_parts}
use Rattle.std.proofs.lemmas.Bool.Decides.{Decides-int_eq}
use Rattle.std.proofs.lemmas.List.{append-nil, length-append}
use Rattle.zx_base.proofs.Options.{none_some, some_none, some_is}
use Rattle.zk_jute.specs.declared.opcode.PartKind.{PartKind}
use Rattle.zk_jute.specs.declared.opcode.PartKind.TheVariants as kinds
use Rattle.zk_model.specs.declared.reply.PartResult.{PartResult}
use Rattle.zk_model.specs.declared.reply.PartResult.TheVariants as results
use Rattle.zk_jute.specs.JuteValues.{Value, int, ustring, Kind, kind_of, Spelled, Spells}
use Rattle.zk_jute.specs.JuteReading.{◌>>=◌, int_at, boolean_at, values_at}
use Rattle.zk_jute.specs.FromValues.{value_in, result_with, result_from}
use Rattle.zk_jute.specs.Numbers.{part_number, part_numbered}
use Rattle.zk_jute.specs.Records.{stat_values}
use Rattle.zk_jute.specs.Results.{result_fields, result_header, good_result, result_values, last_result, Form, last, good, refused, none, form_of_kind, form_of, code_at, good_at, result_after, result_at}
use Rattle.zk_jute.proofs.Conforming.{normals, normals_are}
use Rattle.zk_jute.proofs.Framing.{spelled_join}
use Rattle.zk_jute.proofs.JuteFields.{Takes, bind_ok, ok_is, ended_ok, joined, int_field, boolean_field, values_take, values_again}
use Rattle.zk_jute.proofs.Listing.{TakesLast, IsNext}
use Rattle.zk_jute.proofs.Lists.{spelled_split}
use Rattle.zk_jute.proofs.Numbered.{part_numbered-is}
use Rattle.zk_jute.proofs.PartLaws.{three, three_of}
use Rattle.zk_jute.proofs.Stats.{stat_back, stat_kinds, stat_normals}
use Rattle.zx_base.proofs.Booleans.{same-from_int_eq}

-- ---- forms

-- what a header of this form says
abbrev Says : Form → ℤ → Bool → ℤ → Type 0
Says last type is_last err = (type ≡ negsuc 0) × (is_last ≡ true) × (err ≡ negsuc 0)
Says (good kind) type is_last err = (type ≡ part_number kind) × (is_last ≡ false) × (err ≡ pos 0)
Says refused type is_last err = (type ≡ negsuc 0) × (is_last ≡ false)
Says none type is_last err = Unit {0}

last_says : (type err : ℤ) (b : Bool) → (int_eq type (negsuc 0) && int_eq err (negsuc 0)) ≡ b → Says (cond b last none) type true err
last_says type err false e = tt
last_says type err true e =
    let both = and_parts (int_eq type (negsuc 0)) (int_eq err (negsuc 0)) e in
    (same-from_int_eq type (negsuc 0) both.0, refl, same-from_int_eq err (negsuc 0) both.1)

kind_says : (type err : ℤ) (o : Option PartKind) → part_numbered type ≡ o → err ≡ pos 0 → Says (form_of_kind o) type false err
kind_says type err None n z = tt
kind_says type err (Some kind) n z = (part_numbered-is type kind n, refl, z)

good_says : (type err : ℤ) (zero : Bool) → int_eq err (pos 0) ≡ zero → Says (cond zero (form_of_kind (part_numbered type)) none) type false err
good_says type err false e = tt
good_says type err true e = kind_says type err (part_numbered type) refl (same-from_int_eq err (pos 0) e)

other_says : (type err : ℤ) (coded : Bool) → int_eq type (negsuc 0) ≡ coded → Says (cond coded refused (cond (int_eq err (pos 0)) (form_of_kind (part_numbered type)) none)) type false err
other_says type err true e = (same-from_int_eq type (negsuc 0) e, refl)
other_says type err false e = good_says type err (int_eq err (pos 0)) refl

form_says : (type : ℤ) (is_last : Bool) (err : ℤ) → Says (form_of type is_last err) type is_last err
form_says type true err = last_says type err (int_eq type (negsuc 0) && int_eq err (negsuc 0)) refl
form_says type false err = other_says type err (int_eq type (negsuc 0)) refl

-- ---- what a result is made of

result_with-values : (kind : PartKind) (v : ℕ → Value) → result_values (result_with kind v) ≡ good_result kind (normals (result_fields kind) v)
result_with-values kinds.Create v = refl
result_with-values kinds.Delete v = refl
result_with-values kinds.SetData v = ap (good_result kinds.SetData) (stat_normals v)
result_with-values kinds.Check v = refl

-- ---- reading

abbrev pub IsResult : PartResult → List ℕ → Type 0
IsResult r bytes = Spelled Spells (result_values r) bytes

abbrev pub IsLastResult : List ℕ → Type 0
IsLastResult bytes = Spelled Spells last_result bytes

-- a header, and the bytes after it
record Headed (bytes : List ℕ) (form : Form) (err : ℤ) (after : List ℕ) : Type 0 where
  type : ℤ
  is_last : Bool
  front : List ℕ
  spelled : Spelled Spells (result_header type is_last err) front
  parts : bytes ≡ front ++ after
  says : Says form type is_last err

good_takes : (kind : PartKind) (bytes after : List ℕ) (err : ℤ) (x : PartResult) (rest : List ℕ) → Headed bytes (good kind) err after → good_at kind after ≡ Ok (Some x, rest) → Takes IsResult bytes x rest
good_takes kind bytes after err x rest h e =
    let a = bind_ok (values_at (result_fields kind) after) (λ y. Ok (Some (result_from kind y.0), y.1)) (Some x, rest) e in
    let u = values_take (result_fields kind) after a.0.0 a.0.1 a.1 in
    let same = ok_is (Some (result_from kind a.0.0), a.0.1) (Some x, rest) a.2 in
    let made : result_from kind a.0.0 ≡ x = some_is (ap (λ (y : Option PartResult × List ℕ). y.0) same) in
    let rest_is : a.0.1 ≡ rest = ap (λ (y : Option PartResult × List ℕ). y.1) same in
    let values : good_result kind a.0.0 ≡ result_values x = ap (good_result kind) (sym (normals_are (result_fields kind) a.0.0 u.kinds)) ∙ sym (result_with-values kind (value_in a.0.0)) ∙ ap result_values made in
    let header : Spelled Spells (result_header (part_number kind) false (pos 0)) h.front =
    subst (λ (n : ℤ). Spelled Spells (result_header (part_number kind) false n) h.front) h.says.2
    (subst (λ (b : Bool). Spelled Spells (result_header (part_number kind) b err) h.front) h.says.1 (subst (λ (n : ℤ). Spelled Spells (result_header n h.is_last err) h.front) h.says.0 h.spelled)) in
    record {
      front = h.front ++ u.took.front;
      spelled = subst (λ (vs : List Value). Spelled Spells vs (h.front ++ u.took.front)) values (spelled_join Spells (result_header (part_number kind) false (pos 0)) a.0.0 h.front u.took.front header u.took.spelled);
      parts = joined bytes h.front after u.took.front rest h.parts (u.took.parts ∙ ap (λ (z : List ℕ). u.took.front ++ z) rest_is);
    }

code_takes : (left : ℕ) (bytes after : List ℕ) (err : ℤ) (x : PartResult) (rest : List ℕ) → Headed bytes refused err after → code_at left err after ≡ Ok (Some x, rest) → Takes IsResult bytes x rest
code_takes left bytes after err x rest h e =
    let a = bind_ok (int_at after) (λ code. cond (int_eq code.0 err) (Ok (Some (results.Code code.0), code.1)) (Err left)) (Some x, rest) e in
    let g = ended_ok (int_eq a.0.0 err) left (Some (results.Code a.0.0), a.0.1) (Some x, rest) a.2 in
    let t = int_field.takes after a.0.0 a.0.1 a.1 in
    let code : a.0.0 ≡ err = same-from_int_eq a.0.0 err g.0 in
    let made : results.Code a.0.0 ≡ x = some_is (ap (λ (y : Option PartResult × List ℕ). y.0) g.1) in
    let rest_is : a.0.1 ≡ rest = ap (λ (y : Option PartResult × List ℕ). y.1) g.1 in
    let header : Spelled Spells (result_header (negsuc 0) false a.0.0) h.front =
    subst (λ (n : ℤ). Spelled Spells (result_header (negsuc 0) false n) h.front) (sym code)
    (subst (λ (b : Bool). Spelled Spells (result_header (negsuc 0) b err) h.front) h.says.1 (subst (λ (n : ℤ). Spelled Spells (result_header n h.is_last err) h.front) h.says.0 h.spelled)) in
    let one : Spelled Spells (int a.0.0 ∷ []) t.front = (t.front, [], t.spelled, refl, sym (append-nil t.front)) in
    record {
      front = h.front ++ t.front;
      spelled = subst (λ (r : PartResult). IsResult r (h.front ++ t.front)) made (spelled_join Spells (result_header (negsuc 0) false a.0.0) (int a.0.0 ∷ []) h.front t.front header one);
      parts = joined bytes h.front after t.front rest h.parts (t.parts ∙ ap (λ (z : List ℕ). t.front ++ z) rest_is);
    }

after_takes : (left : ℕ) (form : Form) (bytes after : List ℕ) (err : ℤ) (x : PartResult) (rest : List ℕ) → Headed bytes form err after → result_after left err form after ≡ Ok (Some x, rest) → Takes IsResult bytes x rest
after_takes left last bytes after err x rest h e = absurd (none_some (ap (λ (y : Option PartResult × List ℕ). y.0) (ok_is (None, after) (Some x, rest) e)))
after_takes left (good kind) bytes after err x rest h e = good_takes kind bytes after err x rest h e
after_takes left refused bytes after err x rest h e = code_takes left bytes after err x rest h e
after_takes left none bytes after err x rest h e = absurd cc

last_after : (left : ℕ) (form : Form) (bytes after : List ℕ) (err : ℤ) (rest : List ℕ) → Headed bytes form err after → result_after left err form after ≡ Ok (None, rest) → TakesLast IsLastResult bytes rest
last_after left last bytes after err rest h e =
    let rest_is : after ≡ rest = ap (λ (y : Option PartResult × List ℕ). y.1) (ok_is (None, after) (None, rest) e) in
    let header : IsLastResult h.front =
    subst (λ (n : ℤ). Spelled Spells (result_header (negsuc 0) true n) h.front) h.says.2
    (subst (λ (b : Bool). Spelled Spells (result_header (negsuc 0) b err) h.front) h.says.1 (subst (λ (n : ℤ). Spelled Spells (result_header n h.is_last err) h.front) h.says.0 h.spelled)) in
    record { front = h.front; spelled = header; parts = h.parts ∙ ap (λ (z : List ℕ). h.front ++ z) rest_is }
last_after left (good kind) bytes after err rest h e =
    let a = bind_ok (values_at (result_fields kind) after) (λ y. Ok (Some (result_from kind y.0), y.1)) (None, rest) e in
    absurd (some_none (ap (λ (y : Option PartResult × List ℕ). y.0) (ok_is (Some (result_from kind a.0.0), a.0.1) (None, rest) a.2)))
last_after left refused bytes after err rest h e =
    let a = bind_ok (int_at after) (λ code. cond (int_eq code.0 err) (Ok (Some (results.Code code.0), code.1)) (Err left)) (None, rest) e in
    absurd (some_none (ap (λ (y : Option PartResult × List ℕ). y.0) (ended_ok (int_eq a.0.0 err) left (Some (results.Code a.0.0), a.0.1) (None, rest) a.2).1))
last_after left none bytes after err rest h e = absurd cc

-- the header that a reading begins with, and what is read after it
record Begins (bytes : List ℕ) (y : Option PartResult × List ℕ) : Type 0 where
  form : Form
  err : ℤ
  after : List ℕ
  headed : Headed bytes form err after
  read : result_after (length bytes) err form after ≡ Ok y

begins : (bytes : List ℕ) (y : Option PartResult × List ℕ) → result_at bytes ≡ Ok y → Begins bytes y
begins bytes y e =
    let a = bind_ok (int_at bytes) (λ type. boolean_at type.1 >>= λ is_last. int_at is_last.1 >>= λ err. result_after (length bytes) err.0 (form_of type.0 is_last.0 err.0) err.1) y e in
    let b = bind_ok (boolean_at a.0.1) (λ is_last. int_at is_last.1 >>= λ err. result_after (length bytes) err.0 (form_of a.0.0 is_last.0 err.0) err.1) y a.2 in
    let c = bind_ok (int_at b.0.1) (λ err. result_after (length bytes) err.0 (form_of a.0.0 b.0.0 err.0) err.1) y b.2 in
    let t = int_field.takes bytes a.0.0 a.0.1 a.1 in
    let u = boolean_field.takes a.0.1 b.0.0 b.0.1 b.1 in
    let v = int_field.takes b.0.1 c.0.0 c.0.1 c.1 in
    record {
      form = form_of a.0.0 b.0.0 c.0.0;
      err = c.0.0;
      after = c.0.1;
      headed = record {
        type = a.0.0;
        is_last = b.0.0;
        front = (t.front ++ u.front) ++ v.front;
        spelled = three a.0.0 c.0.0 b.0.0 t.front u.front v.front t.spelled u.spelled v.spelled;
        parts = joined bytes (t.front ++ u.front) b.0.1 v.front c.0.1 (joined bytes t.front a.0.1 u.front b.0.1 t.parts u.parts) v.parts;
        says = form_says a.0.0 b.0.0 c.0.0;
      };
      read = c.2;
    }

result_takes : (bytes : List ℕ) (x : PartResult) (rest : List ℕ) → result_at bytes ≡ Ok (Some x, rest) → Takes IsResult bytes x rest
result_takes bytes x rest e = let b = begins bytes (Some x, rest) e in after_takes (length bytes) b.form bytes b.after b.err x rest b.headed b.read

last_takes : (bytes rest : List ℕ) → result_at bytes ≡ Ok (None, rest) → TakesLast IsLastResult bytes rest
last_takes bytes rest e = let b = begins bytes (None, rest) e in last_after (length bytes) b.form bytes b.after b.err rest b.headed b.read

-- ---- and back

header_again : (type err : ℤ) (is_last : Bool) (front rest : List ℕ) → Spelled Spells (result_header type is_last err) front → result_at (front ++ rest) ≡ result_after (length (front ++ rest)) err (form_of type is_last err) rest
header_again type err is_last front rest is =
    let h = three_of type err is_last front rest is in
    ap result_at h.parts
    ∙ rw (int_field.again type h.a (h.b ++ (h.c ++ rest)) h.is_type, boolean_field.again is_last h.b (h.c ++ rest) h.is_last, int_field.again err h.c rest h.is_err)
    (ap (λ (z : List ℕ). result_after (length z) err (form_of type is_last err) rest) (sym h.parts))

good_again : (kind : PartKind) (values : List Value) (x : PartResult) (front rest : List ℕ) → map kind_of values ≡ result_fields kind → result_from kind values ≡ x → form_of (part_number kind) false (pos 0) ≡ good kind
    → Spelled Spells (good_result kind values) front → result_at (front ++ rest) ≡ Ok (Some x, rest)
good_again kind values x front rest kinds_are made form is =
    let s = spelled_split Spells (result_header (part_number kind) false (pos 0)) values front is in
    let grouped : front ++ rest ≡ s.front ++ (s.rest ++ rest) = ap (λ (z : List ℕ). z ++ rest) s.parts ∙ append_assoc s.front s.rest rest in
    let fields : values_at (result_fields kind) (s.rest ++ rest) ≡ Ok (values, rest) = subst (λ (ks : List Kind). values_at ks (s.rest ++ rest) ≡ Ok (values, rest)) kinds_are (values_again values s.rest rest s.second) in
    ap result_at grouped ∙ header_again (part_number kind) (pos 0) false s.front (s.rest ++ rest) s.first
    ∙ ap (λ (f : Form). result_after (length (s.front ++ (s.rest ++ rest))) (pos 0) f (s.rest ++ rest)) form ∙ rw fields (ap (λ (r : PartResult). Ok (Some r, rest)) made)

same_int : (n : ℤ) → int_eq n n ≡ true
same_int n = (Decides-int_eq n n).1 refl

code_again : (code : ℤ) (front rest : List ℕ) → Spelled Spells (result_values (results.Code code)) front → result_at (front ++ rest) ≡ Ok (Some (results.Code code), rest)
code_again code front rest is =
    let s = spelled_split Spells (result_header (negsuc 0) false code) (int code ∷ []) front is in
    let one : s.rest ≡ s.second.0 = s.second.4 ∙ ap (λ (z : List ℕ). s.second.0 ++ z) s.second.3 ∙ append-nil s.second.0 in
    let grouped : front ++ rest ≡ s.front ++ (s.second.0 ++ rest) = ap (λ (z : List ℕ). z ++ rest) (s.parts ∙ ap (λ (z : List ℕ). s.front ++ z) one) ∙ append_assoc s.front s.second.0 rest in
    ap result_at grouped ∙ header_again (negsuc 0) code false s.front (s.second.0 ++ rest) s.first ∙ rw (int_field.again code s.second.0 rest s.second.2, same_int code) refl

result_again : (x : PartResult) (front rest : List ℕ) → IsResult x front → result_at (front ++ rest) ≡ Ok (Some x, rest)
result_again (results.Created path) front rest is = good_again kinds.Create (ustring path ∷ []) (results.Created path) front rest refl refl refl is
result_again results.Deleted front rest is = good_again kinds.Delete [] results.Deleted front rest refl refl refl is
result_again (results.Set stat) front rest is = good_again kinds.SetData (stat_values stat) (results.Set stat) front rest (stat_kinds stat) (ap results.Set (stat_back stat)) refl is
result_again results.Checked front rest is = good_again kinds.Check [] results.Checked front rest refl refl refl is
result_again (results.Code code) front rest is = code_again code front rest is

last_again : (front rest : List ℕ) → IsLastResult front → result_at (front ++ rest) ≡ Ok (None, rest)
last_again front rest is = header_again (negsuc 0) (negsuc 0) true front rest is

result_long : (x : PartResult) (front : List ℕ) → IsResult x front → 1 ≤ length front
result_long (results.Created path) front is = omega (arith, ap length is.4, length-append is.0 is.1, is.2.0)
result_long results.Deleted front is = omega (arith, ap length is.4, length-append is.0 is.1, is.2.0)
result_long (results.Set stat) front is = omega (arith, ap length is.4, length-append is.0 is.1, is.2.0)
result_long results.Checked front is = omega (arith, ap length is.4, length-append is.0 is.1, is.2.0)
result_long (results.Code code) front is = omega (arith, ap length is.4, length-append is.0 is.1, is.2.0)

pub result_next : IsNext IsResult IsLastResult result_at
result_next = record { takes = result_takes; takes_last = last_takes; again = result_again; again_last = last_again; long = result_long }
