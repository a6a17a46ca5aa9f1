-- A text that was printed, and one more token.
use Rattle.std.proofs.Common.{◌≡◌, ℕ, Bool, true, false, cond, List, [], ◌∷◌, ◌++◌, refl, sym, ap, ◌∙◌, append_assoc, string_bytes}
use Rattle.std.specs.Prelude.{◌&&◌}
use Rattle.json.specs.Token.{Token, key, string}
use Rattle.json.specs.Lex.{tokens}
use Rattle.json.specs.Print.{separator, token_text, begins, ends, escape, quoted, IsPrintable}
use Rattle.json.proofs.Printed.Tokens.{tokens-print, print_from_push, ends_push, ArePrintable-push}
use Rattle.ev_fields.specs.Printed.{IsPrinted}
use Rattle.ev_fields.specs.declared.text.Text.TheInside.{Inside}

pub tokens-printed : (p : Inside) (h : IsPrinted p) → tokens (string_bytes p.text) ≡ h.printed
tokens-printed p h = ap tokens h.text ∙ tokens-print h.printed h.printable

pub pushed : (p q : Inside) (t : Token) → IsPrinted p → IsPrintable t → q.after_value ≡ ends t → string_bytes q.text ≡ string_bytes p.text ++ (separator p.after_value t ++ token_text t) → IsPrinted q
pushed p q t h printable place text =
    record {
      printed = h.printed ++ t ∷ [];
      printable = ArePrintable-push h.printed t h.printable printable;
      text = text ∙ (λ i. h.text i ++ (separator (h.place i) t ++ token_text t)) ∙ sym (print_from_push false h.printed t);
      place = place ∙ sym (ends_push false h.printed t);
    }

pub pushed_tokens : (p q : Inside) (t : Token) → IsPrinted p → IsPrintable t → q.after_value ≡ ends t → string_bytes q.text ≡ string_bytes p.text ++ (separator p.after_value t ++ token_text t)
    → tokens (string_bytes q.text) ≡ tokens (string_bytes p.text) ++ t ∷ []
unfolding pushed
pushed_tokens p q t h printable place text = tokens-printed q (pushed p q t h printable place text) ∙ ap (λ l. l ++ t ∷ []) (sym (tokens-printed p h))

-- ---- the bytes that a step wrote

grouped : (a b c x y : List ℕ) → x ≡ a ++ b → y ≡ x ++ c → y ≡ a ++ (b ++ c)
grouped a b c x y ex ey = ey ∙ ap (λ (l : List ℕ). l ++ c) ex ∙ append_assoc a b c

pub with_comma : (p : Inside) (t : Token) (b : Bool) (x y : List ℕ) → b ≡ begins t → x ≡ string_bytes p.text ++ cond (p.after_value && b) (44 ∷ []) [] → y ≡ x ++ token_text t
    → y ≡ string_bytes p.text ++ (separator p.after_value t ++ token_text t)
with_comma p t b x y is ex ey = grouped (string_bytes p.text) (separator p.after_value t) (token_text t) x y (ex ∙ ap (λ (b : Bool). string_bytes p.text ++ cond (p.after_value && b) (44 ∷ []) []) is) ey

and_true : (b : Bool) → b ≡ (b && true)
and_true true = refl
and_true false = refl

pub string_with_comma : (p : Inside) (s x y : List ℕ) → x ≡ string_bytes p.text ++ cond p.after_value (44 ∷ []) [] → y ≡ x ++ quoted s
    → y ≡ string_bytes p.text ++ (separator p.after_value (string s) ++ token_text (string s))
string_with_comma p s x y ex ey = grouped (string_bytes p.text) (separator p.after_value (string s)) (quoted s) x y (ex ∙ ap (λ (b : Bool). string_bytes p.text ++ cond b (44 ∷ []) []) (and_true p.after_value)) ey

pub key_with_comma : (p : Inside) (s x y : List ℕ) → x ≡ string_bytes p.text ++ cond p.after_value (44 ∷ []) [] → y ≡ x ++ (quoted s ++ 58 ∷ [])
    → y ≡ string_bytes p.text ++ (separator p.after_value (key s) ++ token_text (key s))
key_with_comma p s x y ex ey = grouped (string_bytes p.text) (separator p.after_value (key s)) (quoted s ++ 58 ∷ []) x y (ex ∙ ap (λ (b : Bool). string_bytes p.text ++ cond b (44 ∷ []) []) (and_true p.after_value)) ey

-- between quotes, where nothing is escaped
pub between_quotes : (a s x y z : List ℕ) → escape s ≡ s → x ≡ a ++ 34 ∷ [] → y ≡ x ++ s → z ≡ y ++ 34 ∷ [] → z ≡ a ++ quoted s
between_quotes a s x y z plain ex ey ez =
    ez ∙ ap (λ (l : List ℕ). l ++ 34 ∷ []) (grouped a (34 ∷ []) s x y ex ey) ∙ append_assoc a (34 ∷ s) (34 ∷ []) ∙ ap (λ (l : List ℕ). a ++ 34 ∷ (l ++ 34 ∷ [])) (sym plain)
