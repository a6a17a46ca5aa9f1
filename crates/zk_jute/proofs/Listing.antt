-- Items that are listed up to a last one are read exactly where they are spelled.
use Rattle.std.proofs.Common.{◌≡◌, ℕ, zero, suc, ◌<◌, ◌≤◌, Option, Some, None, List, [], ◌∷◌, ◌++◌, length, Ok, refl, sym, ap, subst, ◌∙◌, append_assoc, arith}
use Rattle.std.proofs.lemmas.List.{length-append}
use Rattle.zk_jute.specs.JuteValues.{Spelled}
use Rattle.zk_jute.specs.JuteReading.{Read, more_then, until_last, all_until_last}
use Rattle.zk_jute.specs.Grammar.{IsListed}
use Rattle.zk_jute.proofs.JuteFields.{Takes, bind_ok, ok_is, joined}

-- the bytes of the last item, and then the rest
pub record TakesLast (IsLast : List ℕ → Type 0) (bytes rest : List ℕ) : Type 0 where
  pub front : List ℕ
  pub spelled : IsLast front
  pub parts : bytes ≡ front ++ rest

-- a reader of the next item, and the spelling of items and of the last
pub record IsNext {A : Type 0} (Is : A → List ℕ → Type 0) (IsLast : List ℕ → Type 0) (next : List ℕ → Read (Option A)) : Type 0 where
  pub takes : (bytes : List ℕ) (x : A) (rest : List ℕ) → next bytes ≡ Ok (Some x, rest) → Takes Is bytes x rest
  pub takes_last : (bytes rest : List ℕ) → next bytes ≡ Ok (None, rest) → TakesLast IsLast bytes rest
  pub again : (x : A) (front rest : List ℕ) → Is x front → next (front ++ rest) ≡ Ok (Some x, rest)
  pub again_last : (front rest : List ℕ) → IsLast front → next (front ++ rest) ≡ Ok (None, rest)
  pub long : (x : A) (front : List ℕ) → Is x front → 1 ≤ length front

module _ {A : Type 0} (Is : A → List ℕ → Type 0) (IsLast : List ℕ → Type 0) (next : List ℕ → Read (Option A)) (reads : IsNext Is IsLast next) where
  more_takes : (others : List ℕ → Read (List A)) → ((bytes : List ℕ) (xs : List A) (rest : List ℕ) → others bytes ≡ Ok (xs, rest) → Takes (IsListed Is IsLast) bytes xs rest)
      → (bytes : List ℕ) (one : Option A) (after : List ℕ) → next bytes ≡ Ok (one, after) → (xs : List A) (rest : List ℕ) → more_then others one after ≡ Ok (xs, rest) → Takes (IsListed Is IsLast) bytes xs rest
  more_takes others induct bytes None after e xs rest f =
      let t = reads.takes_last bytes after e in
      subst (λ (y : List A × List ℕ). Takes (IsListed Is IsLast) bytes y.0 y.1) (ok_is ([], after) (xs, rest) f) (record { front = t.front; spelled = ([], t.front, refl, t.spelled, refl); parts = t.parts })
  more_takes others induct bytes (Some x) after e xs rest f =
      let b = bind_ok (others after) (λ ys. Ok (x ∷ ys.0, ys.1)) (xs, rest) f in
      let t = reads.takes bytes x after e in
      let u = induct after b.0.0 b.0.1 b.1 in
      let w = u.spelled in
      let whole : t.front ++ u.front ≡ (t.front ++ w.0) ++ w.1 = ap (λ (z : List ℕ). t.front ++ z) w.4 ∙ sym (append_assoc t.front w.0 w.1) in
      subst (λ (y : List A × List ℕ). Takes (IsListed Is IsLast) bytes y.0 y.1) (ok_is (x ∷ b.0.0, b.0.1) (xs, rest) b.2)
      (record { front = t.front ++ u.front; spelled = (t.front ++ w.0, w.1, (t.front, w.0, t.spelled, w.2, refl), w.3, whole); parts = joined bytes t.front after u.front b.0.1 t.parts u.parts })

  until_takes : (n : ℕ) (bytes : List ℕ) (xs : List A) (rest : List ℕ) → until_last next n bytes ≡ Ok (xs, rest) → Takes (IsListed Is IsLast) bytes xs rest
  unfolding until_last
  until_takes zero bytes xs rest e = absurd cc
  until_takes (suc n) bytes xs rest e =
      let a = bind_ok (next bytes) (λ x. more_then (until_last next n) x.0 x.1) (xs, rest) e in
      more_takes (until_last next n) (until_takes n) bytes a.0.0 a.0.1 a.1 xs rest a.2

  until_again : (n : ℕ) (xs : List A) (front last rest : List ℕ) → length xs < n → Spelled Is xs front → IsLast last → until_last next n (front ++ (last ++ rest)) ≡ Ok (xs, rest)
  unfolding until_last
  until_again zero xs front last rest lt is end = absurd (omega arith)
  until_again (suc n) [] front last rest lt is end =
      ap (until_last next (suc n)) (ap (λ (z : List ℕ). z ++ (last ++ rest)) is) ∙ rw (reads.again_last last rest end) refl
  until_again (suc n) (x ∷ xs) front last rest lt is end =
      let grouped : front ++ (last ++ rest) ≡ is.0 ++ (is.1 ++ (last ++ rest)) = ap (λ (z : List ℕ). z ++ (last ++ rest)) is.4 ∙ append_assoc is.0 is.1 (last ++ rest) in
      ap (until_last next (suc n)) grouped ∙ rw (reads.again x is.0 (is.1 ++ (last ++ rest)) is.2, until_again n xs is.1 last rest (omega arith) is.3 end) refl

  no_more_items : (xs : List A) (front : List ℕ) → Spelled Is xs front → length xs ≤ length front
  no_more_items [] front is = omega arith
  no_more_items (x ∷ xs) front is = omega (arith, reads.long x is.0 is.2, no_more_items xs is.1 is.3, ap length is.4, length-append is.0 is.1)

  pub all_takes : (bytes : List ℕ) (xs : List A) (rest : List ℕ) → all_until_last next bytes ≡ Ok (xs, rest) → Takes (IsListed Is IsLast) bytes xs rest
  all_takes bytes = until_takes (suc (length bytes)) bytes

  pub all_again : (xs : List A) (bytes rest : List ℕ) → IsListed Is IsLast xs bytes → all_until_last next (bytes ++ rest) ≡ Ok (xs, rest)
  all_again xs bytes rest is =
      let grouped : bytes ++ rest ≡ is.0 ++ (is.1 ++ rest) = ap (λ (z : List ℕ). z ++ rest) is.4 ∙ append_assoc is.0 is.1 rest in
      let lt : length xs < suc (length (is.0 ++ (is.1 ++ rest))) = omega (arith, no_more_items xs is.0 is.2, length-append is.0 (is.1 ++ rest)) in
      ap (all_until_last next) grouped ∙ until_again (suc (length (is.0 ++ (is.1 ++ rest)))) xs is.0 is.1 rest lt is.2 is.3
