-- The tests of numbers are what they test.
use Rattle.std.proofs.Common.{◌≡◌, ℤ, Bool, pos, true, List, [], ◌∷◌, refl, arith}
use Rattle.std.specs.Prelude.{All, ◌↔◌, int_le}
use Rattle.std.specs.List.{list_all}
use Rattle.std.proofs.lemmas.Bool.{and_from, and_parts}
use Rattle.std.proofs.lemmas.Int.{ints}
use Rattle.std.proofs.lemmas.List.Elements.{All-nil, All-cons, All-head, All-tail}
use Rattle.ev_types.specs.declared.answer.ActAns.{ActAns}
use Rattle.ev_types.specs.declared.answer.Kv.{Kv}
use Rattle.ev_types.specs.Store.{last_revision}
use Rattle.zn_view.specs.Adding.{AreNumbers, AreNumbersIn, are_counts, are_numbers, has_counts, is_count}
use Rattle.zn_view.specs.Asks.{found_in}
use Rattle.zn_view.specs.Seen.{AreCounts, IsCountNumber}

pub count-told : (n : ℤ) → (is_count n ≡ true) ↔ IsCountNumber n
count-told n = (
  λ e. let p = and_parts (int_le (pos 0) n) (int_le n last_revision) e in record { least = grind (arith, ints, p.0); most = grind (arith, ints, p.1) },
  λ c. and_from (int_le (pos 0) n) (int_le n last_revision) (grind (arith, ints, c.least)) (grind (arith, ints, c.most)),
)

counts-told : (kv : Kv) → (has_counts kv ≡ true) ↔ AreCounts kv
counts-told kv = (
  λ e. let p = and_parts (is_count kv.mod_revision) (is_count kv.version) e in record { revision = (count-told kv.mod_revision).0 p.0; version = (count-told kv.version).0 p.1 },
  λ c. and_from (is_count kv.mod_revision) (is_count kv.version) ((count-told kv.mod_revision).1 c.revision) ((count-told kv.version).1 c.version),
)

all-told : {X : Type 0} (p : X → Bool) (P : X → Type 0) → ((x : X) → (p x ≡ true) ↔ P x) → (xs : List X) → (list_all p xs ≡ true) ↔ All P xs
all-told p P each [] = (λ e. All-nil P, λ h. refl)
all-told p P each (x ∷ xs) =
    let rest = all-told p P each xs in (
      λ e. let q = and_parts (p x) (list_all p xs) e in All-cons P x xs ((each x).0 q.0) (rest.0 q.1),
      λ h. and_from (p x) (list_all p xs) ((each x).1 (All-head P x xs h)) (rest.1 (All-tail P x xs h)),
    )

part-told : (a : ActAns) → (are_counts a ≡ true) ↔ AreNumbersIn a
part-told a = all-told has_counts AreCounts counts-told (found_in a)

pub numbers-told : (parts : List ActAns) → (are_numbers parts ≡ true) ↔ AreNumbers parts
numbers-told parts = all-told are_counts AreNumbersIn part-told parts
