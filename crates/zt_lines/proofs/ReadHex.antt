-- Bytes, sessions' numbers and passwords that are read are written in one way, and are in range.
use Rattle.std.proofs.Common.{◌≡◌, ℕ, ◌+◌, ◌*◌, ◌/◌, ◌%◌, ◌^◌, ◌<◌, ◌==◌, ◌&&◌, List, [], ◌∷◌, ◌++◌, length, ℤ, pos, Some, None, refl, sym, ap, subst, ◌∙◌, arith}
use Rattle.std.specs.Prelude.{IfSome, codes, nat_abs, nat_lt}
use Rattle.std.proofs.lemmas.Bool.{and_parts, cond_both, eqb-true, ltb-true}
use Rattle.std.proofs.lemmas.Grind.{common_steps}
use Rattle.std.proofs.lemmas.Int.{ints}
use Rattle.std.proofs.lemmas.Option.{IfSome_then, option_and_then_some, same_Some}
use Rattle.zt_text.specs.Scripts.{as_session_id, digits_value, hex, hex_byte, hex_value, hex_pairs, password, session_id, ◌>>=◌}
use Rattle.zt_text.specs.Transcripts.{AreBytes, hex_byte_text, hex_digit_text, hex_spelled, hex_text, id_text}
use Rattle.zt_text.proofs.Digits.{hex_digit-small}
use Rattle.zt_text.proofs.ReadWords.{session_id-id_text}
use Rattle.zt_lines.specs.Readable.{FitsPassword, FitsSession}
use Rattle.zt_lines.proofs.Steps.{by_form, in_steps, itself}

-- ---- bytes

hex_digit-text : (b d : ℕ) → hex_value b ≡ Some d → b ≡ hex_digit_text d
hex_digit-text b d read = grind (arith, common_steps)

hex_byte-written : (a b : ℕ) → IfSome (hex_byte a b) (λ byte. (a ∷ b ∷ [] ≡ hex_byte_text byte) × (byte < 256))
unfolding hex_byte
hex_byte-written a b =
    in_steps _ (hex_value a) _ (itself (hex_value a)) (λ x high.
    in_steps _ (hex_value b) _ (itself (hex_value b)) (λ y low.
    let x_small = hex_digit-small a x high in
    let y_small = hex_digit-small b y low in
    let first : (x * 16 + y) / 16 ≡ x = omega arith in
    let second : (x * 16 + y) % 16 ≡ y = omega arith in
    (rw (first, second) (λ i. hex_digit-text a x high i ∷ hex_digit-text b y low i ∷ []), omega arith)))

hex_pairs-written : (w : List ℕ) → IfSome (hex_pairs w) (λ bytes. (w ≡ hex_spelled bytes) × AreBytes bytes × (length w ≡ 2 * length bytes))
unfolding hex_pairs hex_spelled
hex_pairs-written [] = (refl, tt, refl)
hex_pairs-written (a ∷ []) = tt
hex_pairs-written (a ∷ b ∷ bs) =
    in_steps _ (hex_byte a b) _ (hex_byte-written a b) (λ byte first.
    in_steps _ (hex_pairs bs) _ (hex_pairs-written bs) (λ bytes rest.
    ((λ i. first.0 i ++ rest.0 i), (first.1, rest.1), omega (arith, rest.2))))

hex_text-some : (bytes : List ℕ) → 0 < length bytes → hex_spelled bytes ≡ hex_text bytes
unfolding hex_text
hex_text-some [] some = absurd (omega arith)
hex_text-some (b ∷ bs) some = refl

abbrev IsHexOf : List ℕ → List ℕ → Type 0
IsHexOf w bytes = (w ≡ hex_text bytes) × AreBytes bytes

pub hex-written : (w : List ℕ) → IfSome (hex w) (IsHexOf w)
unfolding hex hex_text
hex-written [] = tt
hex-written (b ∷ bs) =
    by_form IsHexOf (b ∷ bs) (codes "-") (Some []) (hex_pairs (b ∷ bs)) (refl, tt)
    (IfSome_then (hex_pairs (b ∷ bs)) (hex_pairs-written (b ∷ bs)) (λ bytes h. (h.0 ∙ hex_text-some bytes (omega (arith, h.2)), h.1)))

abbrev IsPasswordOf : List ℕ → List ℕ → Type 0
IsPasswordOf w bytes = (w ≡ hex_text bytes) × FitsPassword bytes

pub password-written : (w : List ℕ) → IfSome (password w) (IsPasswordOf w)
unfolding password
password-written w =
    cond_both (length w == 32) (hex_pairs w) None (λ o. IfSome o (IsPasswordOf w))
    (λ whole.
    let long = eqb-true (length w) 32 whole in
    IfSome_then (hex_pairs w) (hex_pairs-written w) (λ bytes h. (h.0 ∙ hex_text-some bytes (omega (arith, h.2)), (omega (arith, h.2), h.1))))
    (λ other. tt)

-- ---- sessions' numbers

-- as many hex digits of the same value are the same digits
hex_value-injective : (n m value : ℕ) (v w : List ℕ) → length v ≡ length w → digits_value 16 hex_value n v ≡ Some value → digits_value 16 hex_value m w ≡ Some value → (n ≡ m) × (v ≡ w)
hex_value-injective n m value [] [] long first second = (same_Some n m (first ∙ sym second), refl)
hex_value-injective n m value [] (y ∷ w) long first second = absurd (omega arith)
hex_value-injective n m value (x ∷ v) [] long first second = absurd (omega arith)
hex_value-injective n m value (x ∷ v) (y ∷ w) long first second =
    option_and_then_some _ (hex_value x) value first (λ d x_read v_read.
    option_and_then_some _ (hex_value y) value second (λ e y_read w_read.
    let rest = hex_value-injective (n * 16 + d) (m * 16 + e) value v w (omega arith) v_read w_read in
    let front = rest.0 in
    let d_small = hex_digit-small x d x_read in
    let e_small = hex_digit-small y e y_read in
    let digit : d ≡ e = omega arith in
    (omega arith, λ i. (hex_digit-text x d x_read ∙ ap hex_digit_text digit ∙ sym (hex_digit-text y e y_read)) i ∷ rest.1 i)))

abbrev IsSessionOf : List ℕ → ℤ → Type 0
IsSessionOf w id = FitsSession id × (length w ≡ 16) × (digits_value 16 hex_value 0 w ≡ Some (nat_abs id))

session_id-value : (w : List ℕ) → IfSome (session_id w) (IsSessionOf w)
unfolding session_id
session_id-value w =
    cond_both (length w == 16) (digits_value 16 hex_value 0 w >>= as_session_id) None (λ o. IfSome o (IsSessionOf w))
    (λ long.
    in_steps _ (digits_value 16 hex_value 0 w) as_session_id (itself (digits_value 16 hex_value 0 w)) (λ n value.
    cond_both (nat_lt 0 n && nat_lt n (2 ^ 63)) (Some (pos n)) None (λ o. IfSome o (IsSessionOf w))
    (λ fits.
    let parts = and_parts (nat_lt 0 n) (nat_lt n (2 ^ 63)) fits in
    let some = ltb-true 0 n parts.0 in
    let below = ltb-true n (2 ^ 63) parts.1 in
    ((omega (arith, ints), omega (arith, ints)), eqb-true (length w) 16 long, value))
    (λ outside. tt)))
    (λ other. tt)

pub session_id-written : (w : List ℕ) → IfSome (session_id w) (λ id. (w ≡ id_text id) × FitsSession id)
session_id-written w =
    IfSome_then (session_id w) (session_id-value w) (λ id h.
    let own : IsSessionOf (id_text id) id = subst (λ o. IfSome o (IsSessionOf (id_text id))) (session_id-id_text id h.0.0 h.0.1) (session_id-value (id_text id)) in
    ((hex_value-injective 0 0 (nat_abs id) w (id_text id) (h.1 ∙ sym own.1) h.2 own.2).1, h.0))
