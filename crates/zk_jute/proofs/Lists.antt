-- What holds of each item of lists put one after the other, and how such lists are spelled.
use Rattle.std.proofs.Common.{◌≡◌, ℕ, List, [], ◌∷◌, ◌++◌, All, refl, sym, ap, ◌∙◌, append_assoc}
use Rattle.std.specs.List.{AllByRecursion, flat_map}
use Rattle.std.proofs.lemmas.List.Elements.{All-from_recursion}
use Rattle.zk_jute.specs.JuteValues.{Spelled}
use Rattle.zk_jute.proofs.Framing.{spelled_join}

pub first_of_both : {A : Type 0} (P : A → Type 0) (xs ys : List A) → AllByRecursion P (xs ++ ys) → AllByRecursion P xs
first_of_both {A = A} P [] ys all = tt
first_of_both {A = A} P (x ∷ xs) ys all = (all.0, first_of_both P xs ys all.1)

pub second_of_both : {A : Type 0} (P : A → Type 0) (xs ys : List A) → AllByRecursion P (xs ++ ys) → AllByRecursion P ys
second_of_both {A = A} P [] ys all = all
second_of_both {A = A} P (x ∷ xs) ys all = second_of_both P xs ys all.1

pub both_of : {A : Type 0} (P : A → Type 0) (xs ys : List A) → AllByRecursion P xs → AllByRecursion P ys → AllByRecursion P (xs ++ ys)
both_of {A = A} P [] ys front back = back
both_of {A = A} P (x ∷ xs) ys front back = (front.0, both_of P xs ys front.1 back)

pub each_of : {A B : Type 0} (P : B → Type 0) (f : A → List B) (xs : List A) → AllByRecursion P (flat_map f xs) → AllByRecursion (λ x. AllByRecursion P (f x)) xs
each_of {A = A} {B = B} P f [] all = tt
each_of {A = A} {B = B} P f (x ∷ xs) all = (first_of_both P (f x) (flat_map f xs) all, each_of P f xs (second_of_both P (f x) (flat_map f xs) all))

-- what holds of the values of all items holds of each item's
pub item_can : {A B : Type 0} (P : B → Type 0) (f : A → List B) (xs : List A) (ys : List B) → AllByRecursion P (flat_map f xs ++ ys) → All (λ x. AllByRecursion P (f x)) xs
item_can {A = A} {B = B} P f xs ys all = All-from_recursion (λ x. AllByRecursion P (f x)) xs (each_of P f xs (first_of_both P (flat_map f xs) ys all))

-- ---- spellings

-- bytes that spell two lists, one after the other
pub record SpelledBoth {A : Type 0} (Is : A → List ℕ → Type 0) (xs ys : List A) (bytes : List ℕ) : Type 0 where
  pub front : List ℕ
  pub rest : List ℕ
  pub first : Spelled Is xs front
  pub second : Spelled Is ys rest
  pub parts : bytes ≡ front ++ rest

pub spelled_split : {A : Type 0} (Is : A → List ℕ → Type 0) (xs ys : List A) (bytes : List ℕ) → Spelled Is (xs ++ ys) bytes → SpelledBoth Is xs ys bytes
spelled_split {A = A} Is [] ys bytes is = record { front = []; rest = bytes; first = refl; second = is; parts = refl }
spelled_split {A = A} Is (x ∷ xs) ys bytes is =
    let s = spelled_split Is xs ys is.1 is.3 in
    record { front = is.0 ++ s.front; rest = s.rest; first = (is.0, s.front, is.2, s.first, refl); second = s.second; parts = is.4 ∙ ap (λ (z : List ℕ). is.0 ++ z) s.parts ∙ sym (append_assoc is.0 s.front s.rest) }

-- items whose values are spelled, and the values of all of them
pub spelled_flat : {A B : Type 0} (Is : B → List ℕ → Type 0) (f : A → List B) (xs : List A) (bytes : List ℕ) → Spelled (λ x. Spelled Is (f x)) xs bytes → Spelled Is (flat_map f xs) bytes
spelled_flat {A = A} {B = B} Is f [] bytes is = is
spelled_flat {A = A} {B = B} Is f (x ∷ xs) bytes is =
    let all = spelled_join Is (f x) (flat_map f xs) is.0 is.1 is.2 (spelled_flat Is f xs is.1 is.3) in
    rw is.4 all

pub spelled_items : {A B : Type 0} (Is : B → List ℕ → Type 0) (f : A → List B) (xs : List A) (bytes : List ℕ) → Spelled Is (flat_map f xs) bytes → Spelled (λ x. Spelled Is (f x)) xs bytes
spelled_items {A = A} {B = B} Is f [] bytes is = is
spelled_items {A = A} {B = B} Is f (x ∷ xs) bytes is =
    let s = spelled_split Is (f x) (flat_map f xs) bytes is in
    (s.front, s.rest, s.first, spelled_items Is f xs s.rest s.second, s.parts)

pub spelled_each : {A : Type 0} (P Q : A → List ℕ → Type 0) → ((x : A) (bytes : List ℕ) → P x bytes → Q x bytes) → (xs : List A) (bytes : List ℕ) → Spelled P xs bytes → Spelled Q xs bytes
spelled_each {A = A} P Q each [] bytes is = is
spelled_each {A = A} P Q each (x ∷ xs) bytes is = (is.0, is.1, each x is.0 is.2, spelled_each P Q each xs is.1 is.3, is.4)
