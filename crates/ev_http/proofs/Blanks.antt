-- Empty lines in front of a head.
use Rattle.std.proofs.Common.{◌≡◌, ℕ, List, [], ◌∷◌, ◌++◌, true, false, IsTrue, refl, sym, ap, subst, ◌∙◌, arith, ◌⊎◌, inl, inr}
use Rattle.std.specs.List.{list_all}
use Rattle.std.proofs.lemmas.Bool.Decides.{nat_tests}
use Rattle.std.proofs.lemmas.List.Elements.{All-head}
use Rattle.std.proofs.lemmas.List.Folds.{list_all-append}
use Rattle.httparse.specs.Grammar.{IsToken, is_token_byte, print_blank}
use Rattle.httparse.proofs.GrammarLemmas.{print_request-append, print_response-append}
use Rattle.ev_http.specs.declared.head.Kind.{Kind}
use Rattle.ev_http.specs.declared.head.Kind.TheVariants as kind
use Rattle.ev_http.specs.Heads.{is_blank_byte, HasNoHead}
use Rattle.zx_base.proofs.Booleans.{and-split}

rest_blank : (a b : List ℕ) → list_all is_blank_byte (a ++ b) ≡ true → list_all is_blank_byte b ≡ true
rest_blank a b e = (and-split _ _ (sym (list_all-append is_blank_byte a b) ∙ e)).1

front : (a b : List ℕ) → list_all is_blank_byte (a ++ b) ≡ true → list_all is_blank_byte a ≡ true
front a b e = (and-split _ _ (sym (list_all-append is_blank_byte a b) ∙ e)).0

pub blank-append : (a b : List ℕ) → list_all is_blank_byte a ≡ true → list_all is_blank_byte b ≡ true → list_all is_blank_byte (a ++ b) ≡ true
blank-append a b first second = list_all-append is_blank_byte a b ∙ rw (first, second) refl

token_is_not_blank : (b : ℕ) → is_token_byte b ≡ true → is_blank_byte b ≡ true → ⊥
unfolding is_token_byte
token_is_not_blank b token blank =
    elim (if_blank b blank) [
      | inl is ↦ (let bad : is_token_byte 13 ≡ true = subst (λ (x : ℕ). is_token_byte x ≡ true) is token in let apart : false ≡ true = bad in cc)
      | inr is ↦ (let bad : is_token_byte 10 ≡ true = subst (λ (x : ℕ). is_token_byte x ≡ true) is token in let apart : false ≡ true = bad in cc)
    ]
  where
    if_blank : (b : ℕ) → is_blank_byte b ≡ true → (b ≡ 13) ⊎ (b ≡ 10)
    if_blank b e = grind (arith, nat_tests)

token_begins : (m more : List ℕ) → IsToken m → list_all is_blank_byte (m ++ more) ≡ true → ⊥
token_begins [] more token blank = omega (arith, token.0)
token_begins (b ∷ m) more token blank = token_is_not_blank b (All-head (λ x. IsTrue (is_token_byte x)) b m token.1) (and-split _ _ blank).0

-- no head is made of CR and LF alone
pub no_head-blank : (k : Kind) (bytes : List ℕ) → list_all is_blank_byte bytes ≡ true → HasNoHead k bytes
no_head-blank kind.Request bytes blank fields head rest is e =
    let whole = e ∙ ap (λ (x : List ℕ). x ++ rest) is.3 ∙ print_request-append is.0 rest in
    token_begins is.0.method _ is.1.method (rest_blank (print_blank is.0.blank) _ (subst (λ (x : List ℕ). list_all is_blank_byte x ≡ true) whole blank))
no_head-blank kind.Response bytes blank fields head rest is e =
    let whole = e ∙ ap (λ (x : List ℕ). x ++ rest) is.3 ∙ print_response-append is.0 rest in
    let bad : false ≡ true = rest_blank (print_blank is.0.blank) _ (subst (λ (x : List ℕ). list_all is_blank_byte x ≡ true) whole blank) in
    absurd cc
