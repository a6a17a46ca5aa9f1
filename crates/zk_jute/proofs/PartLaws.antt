-- The parts of a multi are read exactly where they are spelled.
use Rattle.std.proofs.Common.{◌≡◌, ℕ, ◌≤◌, Bool, true, false, Option, Some, None, List, [], ◌∷◌, ◌++◌, length, Ok, refl, sym, ap, subst, ◌∙◌, append_assoc, arith, ℤ}
use Rattle.std.proofs.lemmas.List.{append-nil, length-append}
use Rattle.zx_base.proofs.Options.{none_some, some_none, some_is}
use Rattle.zk_jute.specs.declared.opcode.PartKind.{PartKind}
use Rattle.zk_model.specs.declared.request.Part.{Part}
use Rattle.zk_jute.specs.JuteValues.{Value, int, boolean, Kind, Spelled, Spells}
use Rattle.zk_jute.specs.JuteReading.{◌>>=◌, int_at, boolean_at, values_at}
use Rattle.zk_jute.specs.FromValues.{value_in, part_from}
use Rattle.zk_jute.specs.Grammar.{IsHeader, IsPart, IsLastHeader}
use Rattle.zk_jute.specs.Numbers.{part_number, part_numbered, part_kind}
use Rattle.zk_jute.specs.Records.{part_fields, part_values}
use Rattle.zk_jute.specs.Requests.{listed_part, part_begun, header_at, part_after, part_at}
use Rattle.zk_jute.proofs.Conforming.{normals_are, part_kinds, part_back, part_with-kind, part_with-values}
use Rattle.zk_jute.proofs.JuteFields.{Takes, bind_ok, ok_is, joined, int_field, boolean_field, values_take, values_again}
use Rattle.zk_jute.proofs.Listing.{TakesLast, IsNext}
use Rattle.zk_jute.proofs.Numbered.{part_numbered-is, part_numbered-part_number}

-- ---- headers

-- what a header that begins this part, or is the last one, is
abbrev Heads : Option PartKind → List ℕ → Type 0
Heads None bytes = IsLastHeader bytes
Heads (Some kind) bytes = IsHeader (part_number kind) false bytes

listed_heads : (type err : ℤ) (left : ℕ) (o part : Option PartKind) (bytes : List ℕ) → part_numbered type ≡ o → listed_part left o ≡ Ok part → Spelled Spells (int type ∷ boolean false ∷ int err ∷ []) bytes → Heads part bytes
listed_heads type err left None part bytes n e is = absurd cc
listed_heads type err left (Some kind) part bytes n e is =
    subst (λ (p : Option PartKind). Heads p bytes) (ok_is (Some kind) part e) (subst (λ (t : ℤ). IsHeader t false bytes) (part_numbered-is type kind n) (err, is))

heads : (type err : ℤ) (last : Bool) (left : ℕ) (part : Option PartKind) (bytes : List ℕ) → part_begun left type last ≡ Ok part → Spelled Spells (int type ∷ boolean last ∷ int err ∷ []) bytes → Heads part bytes
heads type err true left part bytes e is = subst (λ (p : Option PartKind). Heads p bytes) (ok_is None part e) (type, (err, is))
heads type err false left part bytes e is = listed_heads type err left (part_numbered type) part bytes refl e is

-- three values of a header, one after the other
pub three : (type err : ℤ) (last : Bool) (a b c : List ℕ) → Spells (int type) a → Spells (boolean last) b → Spells (int err) c → Spelled Spells (int type ∷ boolean last ∷ int err ∷ []) ((a ++ b) ++ c)
three type err last a b c p q r = (a, b ++ c, p, (b, c, q, (c, [], r, refl, sym (append-nil c)), refl), append_assoc a b c)

header_takes : (bytes : List ℕ) (part : Option PartKind) (rest : List ℕ) → header_at bytes ≡ Ok (part, rest) → Takes Heads bytes part rest
header_takes bytes part rest e =
    let a = bind_ok (int_at bytes) (λ type. boolean_at type.1 >>= λ last. part_begun (length bytes) type.0 last.0 >>= λ part. int_at last.1 >>= λ err. Ok (part, err.1)) (part, rest) e in
    let b = bind_ok (boolean_at a.0.1) (λ last. part_begun (length bytes) a.0.0 last.0 >>= λ part. int_at last.1 >>= λ err. Ok (part, err.1)) (part, rest) a.2 in
    let c = bind_ok (part_begun (length bytes) a.0.0 b.0.0) (λ part. int_at b.0.1 >>= λ err. Ok (part, err.1)) (part, rest) b.2 in
    let d = bind_ok (int_at b.0.1) (λ err. Ok (c.0, err.1)) (part, rest) c.2 in
    let t = int_field.takes bytes a.0.0 a.0.1 a.1 in
    let u = boolean_field.takes a.0.1 b.0.0 b.0.1 b.1 in
    let v = int_field.takes b.0.1 d.0.0 d.0.1 d.1 in
    let parts : bytes ≡ ((t.front ++ u.front) ++ v.front) ++ d.0.1 = joined bytes (t.front ++ u.front) b.0.1 v.front d.0.1 (joined bytes t.front a.0.1 u.front b.0.1 t.parts u.parts) v.parts in
    subst (λ (y : Option PartKind × List ℕ). Takes Heads bytes y.0 y.1) (ok_is (c.0, d.0.1) (part, rest) d.2) (record {
      front = (t.front ++ u.front) ++ v.front;
      spelled = heads a.0.0 d.0.0 b.0.0 (length bytes) c.0 ((t.front ++ u.front) ++ v.front) c.1 (three a.0.0 d.0.0 b.0.0 t.front u.front v.front t.spelled u.spelled v.spelled);
      parts = parts;
    })

-- the three values of a header, and what comes after it
pub record Three (type err : ℤ) (last : Bool) (front rest : List ℕ) : Type 0 where
  pub a : List ℕ
  pub b : List ℕ
  pub c : List ℕ
  pub is_type : Spells (int type) a
  pub is_last : Spells (boolean last) b
  pub is_err : Spells (int err) c
  pub parts : front ++ rest ≡ a ++ (b ++ (c ++ rest))

pub three_of : (type err : ℤ) (last : Bool) (front rest : List ℕ) → Spelled Spells (int type ∷ boolean last ∷ int err ∷ []) front → Three type err last front rest
three_of type err last front rest is =
    let f1 = is.0 in
    let f2 = is.3.0 in
    let f3 = is.3.3.0 in
    let e3 : is.3.1 ≡ f3 = is.3.3.4 ∙ ap (λ (x : List ℕ). f3 ++ x) is.3.3.3 ∙ append-nil f3 in
    let e2 : is.1 ≡ f2 ++ f3 = is.3.4 ∙ ap (λ (x : List ℕ). f2 ++ x) e3 in
    let e1 : front ≡ f1 ++ (f2 ++ f3) = is.4 ∙ ap (λ (x : List ℕ). f1 ++ x) e2 in
    record {
      a = f1;
      b = f2;
      c = f3;
      is_type = is.2;
      is_last = is.3.2;
      is_err = is.3.3.2;
      parts = ap (λ (x : List ℕ). x ++ rest) e1 ∙ append_assoc f1 (f2 ++ f3) rest ∙ ap (λ (x : List ℕ). f1 ++ x) (append_assoc f2 f3 rest);
    }

header_again : (type err : ℤ) (last : Bool) (part : Option PartKind) (front rest : List ℕ) → Spelled Spells (int type ∷ boolean last ∷ int err ∷ []) front → part_begun (length (front ++ rest)) type last ≡ Ok part → header_at (front ++ rest) ≡ Ok (part, rest)
header_again type err last part front rest is begun =
    let h = three_of type err last front rest is in
    let begun_at : part_begun (length (h.a ++ (h.b ++ (h.c ++ rest)))) type last ≡ Ok part = subst (λ (x : List ℕ). part_begun (length x) type last ≡ Ok part) h.parts begun in
    ap header_at h.parts ∙ rw (int_field.again type h.a (h.b ++ (h.c ++ rest)) h.is_type, boolean_field.again last h.b (h.c ++ rest) h.is_last, begun_at, int_field.again err h.c rest h.is_err) refl

begins_part : (left : ℕ) (kind : PartKind) → part_begun left (part_number kind) false ≡ Ok (Some kind)
begins_part left kind = ap (listed_part left) (part_numbered-part_number kind)

-- ---- parts

part_after_takes : (begun : Option PartKind) (bytes after : List ℕ) (x : Part) (rest : List ℕ) → Takes Heads bytes begun after → part_after begun after ≡ Ok (Some x, rest) → Takes IsPart bytes x rest
part_after_takes None bytes after x rest t e = absurd (none_some (ap (λ (y : Option Part × List ℕ). y.0) (ok_is (None, after) (Some x, rest) e)))
part_after_takes (Some kind) bytes after x rest t e =
    let a = bind_ok (values_at (part_fields kind) after) (λ y. Ok (Some (part_from kind y.0), y.1)) (Some x, rest) e in
    let u = values_take (part_fields kind) after a.0.0 a.0.1 a.1 in
    let same = ok_is (Some (part_from kind a.0.0), a.0.1) (Some x, rest) a.2 in
    let part : part_from kind a.0.0 ≡ x = some_is (ap (λ (y : Option Part × List ℕ). y.0) same) in
    let last : a.0.1 ≡ rest = ap (λ (y : Option Part × List ℕ). y.1) same in
    let kind_is : kind ≡ part_kind x = sym (part_with-kind kind (value_in a.0.0)) ∙ ap part_kind part in
    let values_are : a.0.0 ≡ part_values x = sym (part_with-values kind (value_in a.0.0) ∙ normals_are (part_fields kind) a.0.0 u.kinds) ∙ ap part_values part in
    record {
      front = t.front ++ u.took.front;
      spelled = (t.front, u.took.front, subst (λ (k : PartKind). IsHeader (part_number k) false t.front) kind_is t.spelled, subst (λ (vs : List Value). Spelled Spells vs u.took.front) values_are u.took.spelled, refl);
      parts = joined bytes t.front after u.took.front rest t.parts (u.took.parts ∙ ap (λ (z : List ℕ). u.took.front ++ z) last);
    }

part_takes : (bytes : List ℕ) (x : Part) (rest : List ℕ) → part_at bytes ≡ Ok (Some x, rest) → Takes IsPart bytes x rest
part_takes bytes x rest e =
    let a = bind_ok (header_at bytes) (λ begun. part_after begun.0 begun.1) (Some x, rest) e in
    part_after_takes a.0.0 bytes a.0.1 x rest (header_takes bytes a.0.0 a.0.1 a.1) a.2

last_after_takes : (begun : Option PartKind) (bytes after rest : List ℕ) → Takes Heads bytes begun after → part_after begun after ≡ Ok (None, rest) → TakesLast IsLastHeader bytes rest
last_after_takes None bytes after rest t e =
    let last : after ≡ rest = ap (λ (y : Option Part × List ℕ). y.1) (ok_is (None, after) (None, rest) e) in
    record { front = t.front; spelled = t.spelled; parts = t.parts ∙ ap (λ (z : List ℕ). t.front ++ z) last }
last_after_takes (Some kind) bytes after rest t e =
    let a = bind_ok (values_at (part_fields kind) after) (λ y. Ok (Some (part_from kind y.0), y.1)) (None, rest) e in
    absurd (some_none (ap (λ (y : Option Part × List ℕ). y.0) (ok_is (Some (part_from kind a.0.0), a.0.1) (None, rest) a.2)))

last_takes : (bytes rest : List ℕ) → part_at bytes ≡ Ok (None, rest) → TakesLast IsLastHeader bytes rest
last_takes bytes rest e =
    let a = bind_ok (header_at bytes) (λ begun. part_after begun.0 begun.1) (None, rest) e in
    last_after_takes a.0.0 bytes a.0.1 rest (header_takes bytes a.0.0 a.0.1 a.1) a.2

part_again : (x : Part) (front rest : List ℕ) → IsPart x front → part_at (front ++ rest) ≡ Ok (Some x, rest)
part_again x front rest is =
    let grouped : front ++ rest ≡ is.0 ++ (is.1 ++ rest) = ap (λ (z : List ℕ). z ++ rest) is.4 ∙ append_assoc is.0 is.1 rest in
    let fields : values_at (part_fields (part_kind x)) (is.1 ++ rest) ≡ Ok (part_values x, rest) = subst (λ (ks : List Kind). values_at ks (is.1 ++ rest) ≡ Ok (part_values x, rest)) (part_kinds x) (values_again (part_values x) is.1 rest is.3) in
    ap part_at grouped
    ∙ rw (header_again (part_number (part_kind x)) is.2.0 false (Some (part_kind x)) is.0 (is.1 ++ rest) is.2.1 (begins_part (length (is.0 ++ (is.1 ++ rest))) (part_kind x)), fields)
    (ap (λ (p : Part). Ok (Some p, rest)) (part_back x))

last_again : (front rest : List ℕ) → IsLastHeader front → part_at (front ++ rest) ≡ Ok (None, rest)
last_again front rest is = rw (header_again is.0 is.1.0 true None front rest is.1.1 refl) refl

part_long : (x : Part) (front : List ℕ) → IsPart x front → 1 ≤ length front
part_long x front is =
    let h = is.2.1 in
    omega (arith, ap length is.4, length-append is.0 is.1, ap length h.4, length-append h.0 h.1, h.2.0)

pub part_next : IsNext IsPart IsLastHeader part_at
part_next = record { takes = part_takes; takes_last = last_takes; again = part_again; again_last = last_again; long = part_long }
