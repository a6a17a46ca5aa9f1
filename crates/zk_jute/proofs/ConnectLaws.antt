-- A frame is read as a connect exactly where it spells one.
use Rattle.std.proofs.Common.{◌≡◌, ℕ, Bool, true, false, cond, eqb, Option, Some, None, List, [], ◌∷◌, ◌++◌, length, Ok, Err, refl, sym, ap, subst, ◌∙◌}
use Rattle.std.proofs.lemmas.Bool.{eqb-true}
use Rattle.std.proofs.lemmas.List.{append-nil, nil_from_length}
use Rattle.zx_base.proofs.Options.{some_is}
use Rattle.zk_model.specs.declared.connect.ConnectRequest.{ConnectRequest}
use Rattle.zk_jute.specs.JuteValues.{Value, int, long, buffer, IsBoolean, Spelled, Spells}
use Rattle.zk_jute.specs.JuteReading.{Read, ◌>>=◌, boolean_at, values_at, ended}
use Rattle.zk_jute.specs.FromValues.{value_in}
use Rattle.zk_jute.specs.Connects.{connect_fields, optional, connect_with, read_only_at, connect_at, connect_of, read_connect}
use Rattle.zk_jute.specs.Grammar.{IsConnect}
use Rattle.zk_jute.proofs.Conforming.{normals_are}
use Rattle.zk_jute.proofs.Framing.{spelled_join}
use Rattle.zk_jute.proofs.Headers.{whole_is}
use Rattle.zk_jute.proofs.JuteFields.{bind_ok, ok_is, boolean_field, values_take, values_again}
use Rattle.zk_jute.proofs.Lists.{spelled_split}

-- the values before the optional one
abbrev five : ConnectRequest → List Value
five r = int r.protocol ∷ long r.last_zxid ∷ int r.timeout ∷ long r.session ∷ buffer r.passwd ∷ []

-- ---- what comes after the fields

flag_takes : (bytes : List ℕ) (flag : Option Bool) (rest : List ℕ) → (boolean_at bytes >>= λ x. ended (Some x.0, x.1)) ≡ Ok (flag, rest) → Spelled Spells (optional flag) bytes
flag_takes bytes flag rest e =
    let a = bind_ok (boolean_at bytes) (λ x. ended (Some x.0, x.1)) (flag, rest) e in
    let t = boolean_field.takes bytes a.0.0 a.0.1 a.1 in
    let done : Read (Option Bool) = Ok (Some a.0.0, a.0.1) in
    let w = whole_is done flag rest a.2 in
    let same = ok_is (Some a.0.0, a.0.1) (flag, rest) w.0 in
    let last : a.0.1 ≡ [] = ap (λ (y : Option Bool × List ℕ). y.1) same ∙ w.1 in
    subst (λ (f : Option Bool). Spelled Spells (optional f) bytes) (ap (λ (y : Option Bool × List ℕ). y.0) same)
    (t.front, [], t.spelled, refl, t.parts ∙ ap (λ (z : List ℕ). t.front ++ z) last)

read_only_split : (empty : Bool) (bytes : List ℕ) (flag : Option Bool) (rest : List ℕ) → eqb (length bytes) 0 ≡ empty → cond empty (Ok (None, bytes)) (boolean_at bytes >>= λ x. ended (Some x.0, x.1)) ≡ Ok (flag, rest) → Spelled Spells (optional flag) bytes
read_only_split true bytes flag rest none e =
    subst (λ (f : Option Bool). Spelled Spells (optional f) bytes) (ap (λ (y : Option Bool × List ℕ). y.0) (ok_is (None, bytes) (flag, rest) e)) (nil_from_length bytes (eqb-true _ _ none))
read_only_split false bytes flag rest some e = flag_takes bytes flag rest e

read_only_takes : (bytes : List ℕ) (flag : Option Bool) (rest : List ℕ) → read_only_at bytes ≡ Ok (flag, rest) → Spelled Spells (optional flag) bytes
read_only_takes bytes flag rest e = read_only_split (eqb (length bytes) 0) bytes flag rest refl e

one_byte : (b : Bool) (bytes : List ℕ) → IsBoolean b bytes → eqb (length bytes) 0 ≡ false
one_byte b [] is = absurd is
one_byte b (c ∷ []) is = refl
one_byte b (c ∷ d ∷ bytes) is = absurd is

flag_again : (flag : Option Bool) (bytes : List ℕ) → Spelled Spells (optional flag) bytes → read_only_at bytes ≡ Ok (flag, [])
flag_again None bytes is = rw is refl
flag_again (Some b) bytes is =
    let whole : bytes ≡ is.0 ++ [] = is.4 ∙ ap (λ (z : List ℕ). is.0 ++ z) is.3 in
    let same : bytes ≡ is.0 = whole ∙ append-nil is.0 in
    let some : eqb (length bytes) 0 ≡ false = one_byte b bytes (subst (λ (z : List ℕ). IsBoolean b z) (sym same) is.2) in
    let read : boolean_at bytes ≡ Ok (b, []) = ap boolean_at whole ∙ boolean_field.again b is.0 [] is.2 in
    rw (some, read) refl

-- ---- frames

connect_read : (frame : List ℕ) (r : ConnectRequest) (read : Read ConnectRequest) → connect_at frame ≡ read → connect_of read ≡ Some r → (rest : List ℕ) × (connect_at frame ≡ Ok (r, rest))
connect_read frame r (Err left) is e = absurd cc
connect_read frame r (Ok x) is e =
    let same : x.0 ≡ r = cc in
    (x.1, is ∙ ap (λ (q : ConnectRequest). Ok (q, x.1)) same)

pub found : (frame : List ℕ) (r : ConnectRequest) → read_connect frame ≡ Some r → IsConnect r frame
unfolding read_connect
found frame r e =
    let x = connect_read frame r (connect_at frame) refl e in
    let a = bind_ok (values_at connect_fields frame) (λ x. read_only_at x.1 >>= λ read_only. Ok (connect_with (value_in x.0) read_only.0, read_only.1)) (r, x.0) x.1 in
    let b = bind_ok (read_only_at a.0.1) (λ read_only. Ok (connect_with (value_in a.0.0) read_only.0, read_only.1)) (r, x.0) a.2 in
    let t = values_take connect_fields frame a.0.0 a.0.1 a.1 in
    let flag = read_only_takes a.0.1 b.0.0 b.0.1 b.1 in
    let made : connect_with (value_in a.0.0) b.0.0 ≡ r = ap (λ (y : ConnectRequest × List ℕ). y.0) (ok_is (connect_with (value_in a.0.0) b.0.0, b.0.1) (r, x.0) b.2) in
    let values : Spelled Spells (five (connect_with (value_in a.0.0) b.0.0)) t.took.front = subst (λ (vs : List Value). Spelled Spells vs t.took.front) (sym (normals_are connect_fields a.0.0 t.kinds)) t.took.spelled in
    let all = spelled_join Spells (five (connect_with (value_in a.0.0) b.0.0)) (optional b.0.0) t.took.front a.0.1 values flag in
    subst (λ (z : List ℕ). IsConnect r z) (sym t.took.parts) (subst (λ (q : ConnectRequest). IsConnect q (t.took.front ++ a.0.1)) made all)

pub only : (frame : List ℕ) (r : ConnectRequest) → IsConnect r frame → read_connect frame ≡ Some r
unfolding read_connect
only frame r is =
    let s = spelled_split Spells (five r) (optional r.read_only) frame is in
    let fields : values_at connect_fields (s.front ++ s.rest) ≡ Ok (five r, s.rest) = values_again (five r) s.front s.rest s.first in
    ap (λ (z : List ℕ). connect_of (connect_at z)) s.parts ∙ rw (fields, flag_again r.read_only s.rest s.second) refl

-- a frame has one reading
pub one : (frame : List ℕ) (r other : ConnectRequest) → IsConnect r frame → IsConnect other frame → r ≡ other
one frame r other is also = some_is (sym (only frame r is) ∙ only frame other also)
