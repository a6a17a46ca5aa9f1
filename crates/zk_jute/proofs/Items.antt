-- The items that a multi lists, as a loop reads them.
use Rattle.std.proofs.Common.{◌≡◌, ℕ, zero, suc, ◌<◌, ◌≤◌, cond, Option, Some, None, List, [], ◌∷◌, ◌++◌, length, Ok, Err, refl, sym, ap, ◌∙◌, append_assoc, arith, ℤ}
use Rattle.std.specs.Ordering.{int_eq}
use Rattle.std.proofs.lemmas.List.{append-nil, length-append}
use Rattle.zx_base.proofs.Options.{none_some}
use Rattle.zk_jute.specs.declared.opcode.PartKind.{PartKind}
use Rattle.zk_model.specs.declared.reply.PartResult.{PartResult}
use Rattle.zk_model.specs.declared.reply.PartResult.TheVariants as results
use Rattle.zk_model.specs.declared.request.Part.{Part}
use Rattle.zk_jute.specs.JuteValues.{Value, Kind}
use Rattle.zk_jute.specs.JuteReading.{Read, ◌>>=◌, int_at, boolean_at, values_at, until_last, all_until_last}
use Rattle.zk_jute.specs.Records.{part_fields}
use Rattle.zk_jute.specs.FromValues.{part_from, result_from}
use Rattle.zk_jute.specs.Requests.{part_begun, header_at, part_after, part_at}
use Rattle.zk_jute.specs.Results.{Form, last, good, refused, none, form_of, result_fields, result_after, result_at}
use Rattle.zk_jute.proofs.JuteFields.{bind_ok, ok_is, ended_ok, int_field, boolean_field, values_take}

-- what was read before, and what is still read
abbrev pub with_front : {A : Type 0} → List A → Read (List A) → Read (List A)
with_front front read = read >>= λ x. Ok (front ++ x.0, x.1)

pub with_front-cons : {A : Type 0} (front : List A) (x : A) (read : Read (List A)) → with_front front (read >>= λ y. Ok (x ∷ y.0, y.1)) ≡ with_front (front ++ x ∷ []) read
with_front-cons {A = A} front x (Ok y) = ap (λ (xs : List A). Ok (xs, y.1)) (simp append_assoc)
with_front-cons {A = A} front x (Err left) = refl

-- an item takes at least one byte
abbrev pub Shortens : {A : Type 0} → (List ℕ → Read (Option A)) → Type 0
Shortens {A = A} next = (bytes : List ℕ) (x : A) (rest : List ℕ) → next bytes ≡ Ok (Some x, rest) → length rest < length bytes

-- the items so far, and then what is read of the bytes that are left, are the whole
pub record Goes {A : Type 0} (next : List ℕ → Read (Option A)) (items : List A) (bytes : List ℕ) (total : Read (List A)) : Type 0 where
  pub turns : ℕ
  pub enough : length bytes < turns
  pub same : with_front items (until_last next turns bytes) ≡ total

nothing_before : {A : Type 0} (read : Read (List A)) → with_front [] read ≡ read
nothing_before {A = A} (Ok x) = refl
nothing_before {A = A} (Err left) = refl

pub starts : {A : Type 0} (next : List ℕ → Read (Option A)) (bytes : List ℕ) → Goes next [] bytes (all_until_last next bytes)
starts {A = A} next bytes = record { turns = suc (length bytes); enough = omega arith; same = nothing_before (all_until_last next bytes) }

step : {A : Type 0} (next : List ℕ → Read (Option A)) (front : List A) (turns : ℕ) (bytes rest : List ℕ) (x : A) → next bytes ≡ Ok (Some x, rest) → with_front front (until_last next (suc turns) bytes) ≡ with_front (front ++ x ∷ []) (until_last next turns rest)
unfolding until_last
step {A = A} next front turns bytes rest x h = rw h (with_front-cons front x (until_last next turns rest))

goes_more : {A : Type 0} (next : List ℕ → Read (Option A)) (items : List A) (turns : ℕ) (bytes rest : List ℕ) (x : A) (total : Read (List A)) → length bytes < turns → with_front items (until_last next turns bytes) ≡ total
    → next bytes ≡ Ok (Some x, rest) → length rest < length bytes → Goes next (items ++ x ∷ []) rest total
goes_more {A = A} next items zero bytes rest x total enough same h shorter = absurd (omega arith)
goes_more {A = A} next items (suc turns) bytes rest x total enough same h shorter = record { turns = turns; enough = omega arith; same = sym (step next items turns bytes rest x h) ∙ same }

pub goes_on : {A : Type 0} (next : List ℕ → Read (Option A)) → Shortens next → (items : List A) (bytes rest : List ℕ) (x : A) (total : Read (List A)) → Goes next items bytes total → next bytes ≡ Ok (Some x, rest) → Goes next (items ++ x ∷ []) rest total
goes_on {A = A} next shortens items bytes rest x total goes h = goes_more next items goes.turns bytes rest x total goes.enough goes.same h (shortens bytes x rest h)

ended_at : {A : Type 0} (next : List ℕ → Read (Option A)) (front : List A) (turns : ℕ) (bytes rest : List ℕ) → length bytes < turns → next bytes ≡ Ok (None, rest) → with_front front (until_last next turns bytes) ≡ Ok (front, rest)
unfolding until_last
ended_at {A = A} next front zero bytes rest enough h = absurd (omega arith)
ended_at {A = A} next front (suc turns) bytes rest enough h = rw h (ap (λ (xs : List A). Ok (xs, rest)) (append-nil front))

pub is_done : {A : Type 0} (next : List ℕ → Read (Option A)) (items : List A) (bytes rest : List ℕ) (total : Read (List A)) → Goes next items bytes total → next bytes ≡ Ok (None, rest) → total ≡ Ok (items, rest)
is_done {A = A} next items bytes rest total goes h = sym goes.same ∙ ended_at next items goes.turns bytes rest goes.enough h

failed_at : {A : Type 0} (next : List ℕ → Read (Option A)) (front : List A) (turns : ℕ) (bytes : List ℕ) (left : ℕ) → length bytes < turns → next bytes ≡ Err left → with_front front (until_last next turns bytes) ≡ Err left
unfolding until_last
failed_at {A = A} next front zero bytes left enough h = absurd (omega arith)
failed_at {A = A} next front (suc turns) bytes left enough h = rw h refl

pub fails : {A : Type 0} (next : List ℕ → Read (Option A)) (items : List A) (bytes : List ℕ) (left : ℕ) (total : Read (List A)) → Goes next items bytes total → next bytes ≡ Err left → total ≡ Err left
fails {A = A} next items bytes left total goes h = sym goes.same ∙ failed_at next items goes.turns bytes left goes.enough h

-- ---- the items of a request and of a reply take bytes

-- what is left after fields is no longer than what they were read from
pub values_no_longer : {A : Type 0} (ks : List Kind) (bytes : List ℕ) (make : List Value → A) (x : A) (rest : List ℕ) → ◌>>=◌ {B = A × List ℕ} (values_at ks bytes) (λ y. Ok (make y.0, y.1)) ≡ Ok (x, rest) → length rest ≤ length bytes
values_no_longer {A = A} ks bytes make x rest e =
    let a = bind_ok (values_at ks bytes) (λ y. Ok (make y.0, y.1)) (x, rest) e in
    let t = (values_take ks bytes a.0.0 a.0.1 a.1).took in
    let last : a.0.1 ≡ rest = ap (λ (y : A × List ℕ). y.1) (ok_is (make a.0.0, a.0.1) (x, rest) a.2) in
    omega (arith, ap length t.parts, length-append t.front a.0.1, ap length last)

header_shorter : (bytes : List ℕ) (part : Option PartKind) (rest : List ℕ) → header_at bytes ≡ Ok (part, rest) → length rest < length bytes
header_shorter bytes part rest e =
    let a = bind_ok (int_at bytes) (λ type. boolean_at type.1 >>= λ last. part_begun (length bytes) type.0 last.0 >>= λ part. int_at last.1 >>= λ err. Ok (part, err.1)) (part, rest) e in
    let b = bind_ok (boolean_at a.0.1) (λ last. part_begun (length bytes) a.0.0 last.0 >>= λ part. int_at last.1 >>= λ err. Ok (part, err.1)) (part, rest) a.2 in
    let c = bind_ok (part_begun (length bytes) a.0.0 b.0.0) (λ part. int_at b.0.1 >>= λ err. Ok (part, err.1)) (part, rest) b.2 in
    let d = bind_ok (int_at b.0.1) (λ err. Ok (c.0, err.1)) (part, rest) c.2 in
    let t = int_field.takes bytes a.0.0 a.0.1 a.1 in
    let u = boolean_field.takes a.0.1 b.0.0 b.0.1 b.1 in
    let v = int_field.takes b.0.1 d.0.0 d.0.1 d.1 in
    let last : d.0.1 ≡ rest = ap (λ (x : Option PartKind × List ℕ). x.1) (ok_is (c.0, d.0.1) (part, rest) d.2) in
    omega (arith, ap length t.parts, ap length u.parts, ap length v.parts, length-append t.front a.0.1, length-append u.front b.0.1, length-append v.front d.0.1, v.spelled.0, ap length last)

part_no_longer : (begun : Option PartKind) (bytes : List ℕ) (x : Part) (rest : List ℕ) → part_after begun bytes ≡ Ok (Some x, rest) → length rest ≤ length bytes
part_no_longer None bytes x rest e = absurd (none_some (ap (λ (y : Option Part × List ℕ). y.0) (ok_is (None, bytes) (Some x, rest) e)))
part_no_longer (Some kind) bytes x rest e = values_no_longer (part_fields kind) bytes (λ vs. Some (part_from kind vs)) (Some x) rest e

pub part_shorter : Shortens part_at
part_shorter bytes x rest e =
    let a = bind_ok (header_at bytes) (λ begun. part_after begun.0 begun.1) (Some x, rest) e in
    omega (arith, header_shorter bytes a.0.0 a.0.1 a.1, part_no_longer a.0.0 a.0.1 x rest a.2)

result_no_longer : (left : ℕ) (err : ℤ) (form : Form) (bytes : List ℕ) (x : PartResult) (rest : List ℕ) → result_after left err form bytes ≡ Ok (Some x, rest) → length rest ≤ length bytes
result_no_longer left err last bytes x rest e = absurd (none_some (ap (λ (y : Option PartResult × List ℕ). y.0) (ok_is (None, bytes) (Some x, rest) e)))
result_no_longer left err (good kind) bytes x rest e = values_no_longer (result_fields kind) bytes (λ vs. Some (result_from kind vs)) (Some x) rest e
result_no_longer left err refused bytes x rest e =
    let a = bind_ok (int_at bytes) (λ code. cond (int_eq code.0 err) (Ok (Some (results.Code code.0), code.1)) (Err left)) (Some x, rest) e in
    let g = ended_ok (int_eq a.0.0 err) left (Some (results.Code a.0.0), a.0.1) (Some x, rest) a.2 in
    let t = int_field.takes bytes a.0.0 a.0.1 a.1 in
    omega (arith, ap length t.parts, length-append t.front a.0.1, ap (λ (y : Option PartResult × List ℕ). length y.1) g.1)
result_no_longer left err none bytes x rest e = absurd cc

pub result_shorter : Shortens result_at
result_shorter bytes x rest e =
    let a = bind_ok (int_at bytes) (λ type. boolean_at type.1 >>= λ is_last. int_at is_last.1 >>= λ err. result_after (length bytes) err.0 (form_of type.0 is_last.0 err.0) err.1) (Some x, rest) e in
    let b = bind_ok (boolean_at a.0.1) (λ is_last. int_at is_last.1 >>= λ err. result_after (length bytes) err.0 (form_of a.0.0 is_last.0 err.0) err.1) (Some x, rest) a.2 in
    let c = bind_ok (int_at b.0.1) (λ err. result_after (length bytes) err.0 (form_of a.0.0 b.0.0 err.0) err.1) (Some x, rest) b.2 in
    let t = int_field.takes bytes a.0.0 a.0.1 a.1 in
    let u = boolean_field.takes a.0.1 b.0.0 b.0.1 b.1 in
    let v = int_field.takes b.0.1 c.0.0 c.0.1 c.1 in
    omega (
      arith,
      ap length t.parts,
      ap length u.parts,
      ap length v.parts,
      length-append t.front a.0.1,
      length-append u.front b.0.1,
      length-append v.front c.0.1,
      v.spelled.0,
      result_no_longer (length bytes) c.0.0 (form_of a.0.0 b.0.0 c.0.0) c.0.1 x rest c.2,
    )
