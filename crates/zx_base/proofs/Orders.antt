-- What comparisons give.
use Rattle.std.proofs.Common.{◌≡◌, true, refl, ◌≢◌, ℕ, sym, ap, ◌∙◌, false}
use Rattle.std.specs.declared.cmp.Ordering.{Ordering}
use Rattle.std.specs.declared.cmp.Ordering.TheVariants.{Less, Equal, Greater}
use Rattle.std.specs.Ordering.{is_eq, is_lt, nat_cmp, eq_by_cmp}
use Rattle.std.specs.Cmp.Lexicographic.{slice_cmp}
use Rattle.std.proofs.lemmas.Cmp.{nat_cmp_total, tied_itself}
use Rattle.std.specs.Prelude.{T, Bool}
use Rattle.zx_base.specs.Maps.{Bytes}

pub equal-from_is_eq : (o : Ordering) → is_eq o ≡ true → o ≡ Equal
equal-from_is_eq Less h = cc
equal-from_is_eq Equal h = refl
equal-from_is_eq Greater h = cc

pub less-from_is_lt : (o : Ordering) → is_lt o ≡ true → o ≡ Less
less-from_is_lt Less h = refl
less-from_is_lt Equal h = cc
less-from_is_lt Greater h = cc

pub less-apart : (k n : ℕ) → is_lt (nat_cmp k n) ≡ true → n ≢ k
less-apart k n h e = equal-less (sym (ap is_lt (tied_itself nat_cmp_total k)) ∙ ap (λ m. is_lt (nat_cmp k m)) (sym e) ∙ h)
  where
    equal-less : false ≡ true → ⊥
    equal-less f = cc

pub less-from_T : (r : Ordering) → T (is_lt r) → r ≡ Less
less-from_T Less h = refl
less-from_T Equal h = absurd h
less-from_T Greater h = absurd h

-- these bytes compare as equal
unfoldable pub is_tied : Bytes → Bytes → Bool
is_tied = eq_by_cmp (slice_cmp nat_cmp)
