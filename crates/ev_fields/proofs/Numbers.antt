-- The number that a text of JSON gives, by its sign.
use Rattle.std.proofs.Common.{◌≡◌, ℕ, ◌==◌, List, Bool, true, false, Option, Some, None, option_and_then, get_or, drop, if◌then◌else◌, refl}
use Rattle.std.specs.Float.{binary64, float_is_finite}
use Rattle.fast_float.specs.Text.{Parts, scan, nearest, digits_of, with_sign}
use Rattle.serde_json.specs.Data.{Num, negative, float}
use Rattle.serde_json.specs.Find.{as_u64}
use Rattle.serde_json.specs.Read.{number_of, number_from, float_of}

finite_or_none : (b : Bool) (x : Num) → option_and_then as_u64 (Some x) ≡ None → option_and_then as_u64 (if b then Some x else None) ≡ None
finite_or_none true x e = e
finite_or_none false x e = refl

pub float_is_no_u64 : (sign : Bool) (p : Parts) → option_and_then as_u64 (float_of sign p) ≡ None
float_is_no_u64 sign p = finite_or_none (float_is_finite (nearest binary64 sign p)) (float (nearest binary64 sign p)) refl

pub ruleset no_float = (float_is_no_u64)

either : (b : Bool) (x : Num) (o : Option Num) → option_and_then as_u64 (Some x) ≡ None → option_and_then as_u64 o ≡ None → option_and_then as_u64 (if b then Some x else o) ≡ None
either true x o e f = e
either false x o e f = f

-- a number with a minus is no integer from 0 on
pub below_is_no_u64 : (p : Parts) → option_and_then as_u64 (number_from true p) ≡ None
below_is_no_u64 p = either _ (negative (with_sign true (digits_of p))) (float_of true p) refl (float_is_no_u64 true p)

pub with_minus : (s : List ℕ) → (get_or s 0 0 == 45) ≡ true → number_from true (scan (drop 1 s)) ≡ number_of s
unfolding number_of
with_minus s e = rw e

pub without_minus : (s : List ℕ) → (get_or s 0 0 == 45) ≡ false → number_from false (scan s) ≡ number_of s
unfolding number_of
without_minus s e = rw e
