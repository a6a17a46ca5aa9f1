-- The numbers at the front of a frame, and its end.
use Rattle.std.proofs.Common.{◌≡◌, ℕ, ◌≤◌, eqb, List, [], ◌++◌, length, drop, Ok, refl, sym, ap, ◌∙◌, arith, ℤ}
use Rattle.std.specs.Int.{w32, w64, cast_signed}
use Rattle.std.proofs.lemmas.Bool.{le-ltb, eqb-true}
use Rattle.std.proofs.lemmas.List.{nil_from_length}
use Rattle.byteorder.specs.Numbers.{big_from-append}
use Rattle.zk_jute.specs.JuteValues.{IsInt, IsLong}
use Rattle.zk_jute.specs.JuteReading.{Read, ◌>>=◌, front_int, front_long, int_at, long_at, ended}
use Rattle.zk_jute.proofs.JuteFields.{Takes, bind_ok, ended_ok, int_field, long_field}

pub front_int_of : (n : ℤ) (front rest : List ℕ) → IsInt n front → front_int (front ++ rest) ≡ n
front_int_of n front rest is = ap (cast_signed w32) (big_from-append 4 front rest (omega (arith, is.0))) ∙ sym is.1

pub front_long_of : (n : ℤ) (front rest : List ℕ) → IsLong n front → front_long (front ++ rest) ≡ n
front_long_of n front rest is = ap (cast_signed w64) (big_from-append 8 front rest (omega (arith, is.0))) ∙ sym is.1

pub first_int : (bytes : List ℕ) (n : ℤ) → 4 ≤ length bytes → front_int bytes ≡ n → Takes IsInt bytes n (drop 4 bytes)
first_int bytes n long is =
    let read : int_at bytes ≡ Ok (front_int bytes, drop 4 bytes) = rw (le-ltb _ _ long) refl in
    int_field.takes bytes n (drop 4 bytes) (read ∙ ap (λ (m : ℤ). Ok (m, drop 4 bytes)) is)

pub first_long : (bytes : List ℕ) (n : ℤ) → 8 ≤ length bytes → front_long bytes ≡ n → Takes IsLong bytes n (drop 8 bytes)
first_long bytes n long is =
    let read : long_at bytes ≡ Ok (front_long bytes, drop 8 bytes) = rw (le-ltb _ _ long) refl in
    long_field.takes bytes n (drop 8 bytes) (read ∙ ap (λ (m : ℤ). Ok (m, drop 8 bytes)) is)

pub whole_is : {A : Type 0} (read : Read A) (x : A) (rest : List ℕ) → (read >>= ended) ≡ Ok (x, rest) → (read ≡ Ok (x, rest)) × (rest ≡ [])
whole_is {A = A} read x rest e =
    let a = bind_ok read ended (x, rest) e in
    let g = ended_ok (eqb (length a.0.1) 0) (length a.0.1) a.0 (x, rest) a.2 in
    (a.1 ∙ ap Ok g.1, sym (ap (λ (p : A × List ℕ). p.1) g.1) ∙ nil_from_length a.0.1 (eqb-true _ _ g.0))
