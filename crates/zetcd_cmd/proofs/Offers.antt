-- What a line that is read names: sessions' numbers in their range, and passwords of 16 bytes.
use Rattle.std.proofs.Common.{◌≡◌, ℕ, ◌*◌, ◌^◌, List, [], ◌∷◌, length, true, false, if◌then◌else◌, Option, Some, None, refl, subst, arith}
use Rattle.std.proofs.lemmas.Grind.{common_steps}
use Rattle.std.proofs.lemmas.Int.{ints}
use Rattle.std.specs.Prelude.{Bool, ℤ, pos, ◌≤ℤ◌, ◌==◌, ◌&&◌, bytes_eq, codes, nat_lt, option_and_then, IfSome}
use Rattle.zk_model.specs.declared.layout.Layout.TheVariants.{One, Two}
use Rattle.zk_model.specs.declared.layout.Layout.{Layout}
use Rattle.zk_model.specs.Limits.{max_long}
use Rattle.zt_text.specs.declared.script.Happening.{Happening}
use Rattle.zt_text.specs.declared.script.Happening.TheVariants as line
use Rattle.zt_text.specs.Scripts.{as_session_id, bytes_line, digits_value, foreign_line, four_words, frame_happening, happening, hex, hex_byte, hex_value, hex_pairs, lapse_happening, happening_of_form, happening_read, max_line, number, number_and_bytes, numbered_line, of_number, one_word, open_happening, password, pieces, reap_line, session_id, three_words, two_words}
use Rattle.zp_verdict_laws.specs.Written.{NamesSession}
use Rattle.zp_world.specs.Applying.{IsOfScript}

-- ---- what is read in steps

bind : {A B : Type 0} (P : B → Type 0) (o : Option A) (f : A → Option B) → ((x : A) → o ≡ Some x → IfSome (f x) P) → IfSome (option_and_then f o) P
bind P None f each = tt
bind P (Some x) f each = each x refl

either : {A : Type 0} (P : A → Type 0) (b : Bool) (x y : Option A) → IfSome x P → IfSome y P → IfSome (if b then x else y) P
either P true x y p q = p
either P false x y p q = q

if-holds : {A : Type 0} (P : A → Type 0) (b : Bool) (x : Option A) → (b ≡ true → IfSome x P) → IfSome (if b then x else None) P
if-holds P true x holds = holds refl
if-holds P false x holds = tt

weaker : {A : Type 0} {P Q : A → Type 0} (o : Option A) → IfSome o P → ((x : A) → P x → Q x) → IfSome o Q
weaker None p each = tt
weaker (Some x) p each = each x p

some-of : {A : Type 0} (P : A → Type 0) (o : Option A) (x : A) → IfSome o P → o ≡ Some x → P x
some-of P o x p is = subst (λ (q : Option _). IfSome q P) is p

-- ---- numbers of sessions, and passwords

abbrev IsNumber : ℤ → Type 0
IsNumber id = (pos 1 ≤ℤ id) × (id ≤ℤ max_long)

in-range : (n : ℕ) → IfSome (as_session_id n) IsNumber
in-range n = if-holds IsNumber (nat_lt 0 n && nat_lt n (2 ^ 63)) (Some (pos n)) (λ is. (grind (arith, ints, common_steps, is), grind (arith, ints, common_steps, is)))

id-range : (w : List ℕ) → IfSome (session_id w) IsNumber
unfolding session_id
id-range w = either IsNumber (length w == 16) _ None (bind IsNumber (digits_value 16 hex_value 0 w) as_session_id (λ n is. in-range n)) tt

pairs-length : (w : List ℕ) → IfSome (hex_pairs w) (λ bytes. length w ≡ 2 * length bytes)
unfolding hex_pairs
pairs-length [] = refl
pairs-length (a ∷ []) = tt
pairs-length (a ∷ b ∷ bs) =
    bind _ (hex_byte a b) _ (λ byte is. bind _ (hex_pairs bs) _ (λ bytes more. (let rest = some-of _ (hex_pairs bs) bytes (pairs-length bs) more in omega (arith, rest))))

sixteen : (w : List ℕ) (bytes : List ℕ) → (length w == 32) ≡ true → length w ≡ 2 * length bytes → length bytes ≡ 16
sixteen w bytes is twice = grind (arith, common_steps, is, twice)

password-length : (w : List ℕ) → IfSome (password w) (λ bytes. length bytes ≡ 16)
unfolding password
password-length w = if-holds (λ bytes. length bytes ≡ 16) (length w == 32) (hex_pairs w) (λ is. weaker (hex_pairs w) (pairs-length w) (λ bytes twice. sixteen w bytes is twice))

-- ---- lines

abbrev Offers : Happening → Type 0
Offers h = NamesSession h × IsOfScript h

open-offers : (layout : Layout) (words : List (List ℕ)) → IfSome (open_happening layout words) Offers
unfolding open_happening
open-offers layout words =
    bind Offers (four_words words) _ (λ w is. bind Offers (number w.0) _ (λ c is1. bind Offers (number w.1) _ (λ p is2. bind Offers (session_id w.2) _ (λ id is3. bind Offers (password w.3) _ (λ passwd is4.
    (let n = some-of IsNumber (session_id w.2) id (id-range w.2) is3 in
    (record { least = n.0; most = n.1; long = some-of _ (password w.3) passwd (password-length w.3) is4 }, n.0)))))))

frame-offers : (words : List (List ℕ)) → IfSome (frame_happening words) Offers
unfolding frame_happening
frame-offers words = bind Offers (number_and_bytes words) _ (λ x is. (tt, tt))

bytes-offers : (words : List (List ℕ)) → IfSome (bytes_line words) Offers
unfolding bytes_line
bytes-offers words = bind Offers (number_and_bytes words) _ (λ x is. (tt, tt))

lapse-offers : (words : List (List ℕ)) → IfSome (lapse_happening words) Offers
unfolding lapse_happening
lapse-offers words = bind Offers (one_word words) _ (λ w is. bind Offers (session_id w) _ (λ id is1. ((some-of IsNumber (session_id w) id (id-range w) is1).0, tt)))

foreign-offers : (words : List (List ℕ)) → IfSome (foreign_line words) Offers
unfolding foreign_line
foreign-offers words = bind Offers (two_words words) _ (λ w is. bind Offers (hex w.0) _ (λ k is1. bind Offers (hex w.1) _ (λ v is2. (tt, tt))))

reap-offers : (words : List (List ℕ)) → IfSome (reap_line words) Offers
unfolding reap_line
reap-offers words =
    bind Offers (three_words words) _ (λ w is. bind Offers (number w.0) _ (λ c is1. bind Offers (number w.1) _ (λ p is2. bind Offers (session_id w.2) _ (λ id is3.
    (tt, (some-of IsNumber (session_id w.2) id (id-range w.2) is3).0)))))

-- the forms of one number from one of them on, and that none offers anything
abbrev from_settle : List ℕ → ℕ → Option Happening
from_settle form n = if bytes_eq form (codes "settle") then Some (line.Settle n) else None

settle-offers : (form : List ℕ) (n : ℕ) → IfSome (from_settle form n) Offers
settle-offers form n = either Offers (bytes_eq form (codes "settle")) (Some (line.Settle n)) (None) (tt, tt) (tt)

abbrev from_tick : List ℕ → ℕ → Option Happening
from_tick form n = if bytes_eq form (codes "tick") then Some (line.Tick n) else from_settle form n

tick-offers : (form : List ℕ) (n : ℕ) → IfSome (from_tick form n) Offers
tick-offers form n = either Offers (bytes_eq form (codes "tick")) (Some (line.Tick n)) (from_settle form n) (tt, tt) (settle-offers form n)

abbrev from_restart : List ℕ → ℕ → Option Happening
from_restart form n = if bytes_eq form (codes "restart") then Some (line.Restart n) else from_tick form n

restart-offers : (form : List ℕ) (n : ℕ) → IfSome (from_restart form n) Offers
restart-offers form n = either Offers (bytes_eq form (codes "restart")) (Some (line.Restart n)) (from_tick form n) (tt, tt) (tick-offers form n)

abbrev from_end : List ℕ → ℕ → Option Happening
from_end form n = if bytes_eq form (codes "end") then Some (line.End n) else from_restart form n

end-offers : (form : List ℕ) (n : ℕ) → IfSome (from_end form n) Offers
end-offers form n = either Offers (bytes_eq form (codes "end")) (Some (line.End n)) (from_restart form n) (tt, tt) (restart-offers form n)

abbrev from_lag : List ℕ → ℕ → Option Happening
from_lag form n = if bytes_eq form (codes "lag") then Some (line.Lag n) else from_end form n

lag-offers : (form : List ℕ) (n : ℕ) → IfSome (from_lag form n) Offers
lag-offers form n = either Offers (bytes_eq form (codes "lag")) (Some (line.Lag n)) (from_end form n) (tt, tt) (end-offers form n)

abbrev from_entry : List ℕ → ℕ → Option Happening
from_entry form n = if bytes_eq form (codes "entry") then Some (line.Entry n) else from_lag form n

entry-offers : (form : List ℕ) (n : ℕ) → IfSome (from_entry form n) Offers
entry-offers form n = either Offers (bytes_eq form (codes "entry")) (Some (line.Entry n)) (from_lag form n) (tt, tt) (lag-offers form n)

abbrev from_stray : List ℕ → ℕ → Option Happening
from_stray form n = if bytes_eq form (codes "stray") then Some (line.Stray n) else from_entry form n

stray-offers : (form : List ℕ) (n : ℕ) → IfSome (from_stray form n) Offers
stray-offers form n = either Offers (bytes_eq form (codes "stray")) (Some (line.Stray n)) (from_entry form n) (tt, tt) (entry-offers form n)

abbrev from_refuse : List ℕ → ℕ → Option Happening
from_refuse form n = if bytes_eq form (codes "refuse") then Some (line.Refuse n) else from_stray form n

refuse-offers : (form : List ℕ) (n : ℕ) → IfSome (from_refuse form n) Offers
refuse-offers form n = either Offers (bytes_eq form (codes "refuse")) (Some (line.Refuse n)) (from_stray form n) (tt, tt) (stray-offers form n)

abbrev from_cut : List ℕ → ℕ → Option Happening
from_cut form n = if bytes_eq form (codes "cut") then Some (line.Cut n) else from_refuse form n

cut-offers : (form : List ℕ) (n : ℕ) → IfSome (from_cut form n) Offers
cut-offers form n = either Offers (bytes_eq form (codes "cut")) (Some (line.Cut n)) (from_refuse form n) (tt, tt) (refuse-offers form n)

abbrev from_answer : List ℕ → ℕ → Option Happening
from_answer form n = if bytes_eq form (codes "answer") then Some (line.Answer n) else from_cut form n

answer-offers : (form : List ℕ) (n : ℕ) → IfSome (from_answer form n) Offers
answer-offers form n = either Offers (bytes_eq form (codes "answer")) (Some (line.Answer n)) (from_cut form n) (tt, tt) (cut-offers form n)

abbrev from_exec : List ℕ → ℕ → Option Happening
from_exec form n = if bytes_eq form (codes "exec") then Some (line.Exec n) else from_answer form n

exec-offers : (form : List ℕ) (n : ℕ) → IfSome (from_exec form n) Offers
exec-offers form n = either Offers (bytes_eq form (codes "exec")) (Some (line.Exec n)) (from_answer form n) (tt, tt) (answer-offers form n)

number-offers : (form : List ℕ) (n : ℕ) → IfSome (of_number form n) Offers
unfolding of_number
number-offers form n = exec-offers form n

numbered-offers : (form : List ℕ) (words : List (List ℕ)) → IfSome (numbered_line form words) Offers
unfolding numbered_line
numbered-offers form words = bind Offers (one_word words) _ (λ w is. bind Offers (number w) _ (λ n is1. number-offers form n))

-- the forms from one of them on
abbrev of_reap : List ℕ → List (List ℕ) → Option Happening
of_reap form words = if bytes_eq form (codes "reap") then reap_line words else numbered_line form words

reap-on-offers : (form : List ℕ) (words : List (List ℕ)) → IfSome (of_reap form words) Offers
reap-on-offers form words = either Offers (bytes_eq form (codes "reap")) (reap_line words) (numbered_line form words) (reap-offers words) (numbered-offers form words)

abbrev of_foreign : List ℕ → List (List ℕ) → Option Happening
of_foreign form words = if bytes_eq form (codes "foreign") then foreign_line words else of_reap form words

foreign-on-offers : (form : List ℕ) (words : List (List ℕ)) → IfSome (of_foreign form words) Offers
foreign-on-offers form words = either Offers (bytes_eq form (codes "foreign")) (foreign_line words) (of_reap form words) (foreign-offers words) (reap-on-offers form words)

abbrev of_lapse : List ℕ → List (List ℕ) → Option Happening
of_lapse form words = if bytes_eq form (codes "lapse") then lapse_happening words else of_foreign form words

lapse-on-offers : (form : List ℕ) (words : List (List ℕ)) → IfSome (of_lapse form words) Offers
lapse-on-offers form words = either Offers (bytes_eq form (codes "lapse")) (lapse_happening words) (of_foreign form words) (lapse-offers words) (foreign-on-offers form words)

abbrev of_bytes : List ℕ → List (List ℕ) → Option Happening
of_bytes form words = if bytes_eq form (codes "bytes") then bytes_line words else of_lapse form words

bytes-on-offers : (form : List ℕ) (words : List (List ℕ)) → IfSome (of_bytes form words) Offers
bytes-on-offers form words = either Offers (bytes_eq form (codes "bytes")) (bytes_line words) (of_lapse form words) (bytes-offers words) (lapse-on-offers form words)

abbrev of_frame : List ℕ → List (List ℕ) → Option Happening
of_frame form words = if bytes_eq form (codes "frame") then frame_happening words else of_bytes form words

frame-on-offers : (form : List ℕ) (words : List (List ℕ)) → IfSome (of_frame form words) Offers
frame-on-offers form words = either Offers (bytes_eq form (codes "frame")) (frame_happening words) (of_bytes form words) (frame-offers words) (bytes-on-offers form words)

abbrev of_open1 : List ℕ → List (List ℕ) → Option Happening
of_open1 form words = if bytes_eq form (codes "open1") then open_happening One words else of_frame form words

open1-on-offers : (form : List ℕ) (words : List (List ℕ)) → IfSome (of_open1 form words) Offers
open1-on-offers form words = either Offers (bytes_eq form (codes "open1")) (open_happening One words) (of_frame form words) (open-offers One words) (frame-on-offers form words)

abbrev of_open : List ℕ → List (List ℕ) → Option Happening
of_open form words = if bytes_eq form (codes "open") then open_happening Two words else of_open1 form words

open-on-offers : (form : List ℕ) (words : List (List ℕ)) → IfSome (of_open form words) Offers
open-on-offers form words = either Offers (bytes_eq form (codes "open")) (open_happening Two words) (of_open1 form words) (open-offers Two words) (open1-on-offers form words)

form-offers : (form : List ℕ) (words : List (List ℕ)) → IfSome (happening_of_form form words) Offers
unfolding happening_of_form
form-offers form words = open-on-offers form words

words-offer : (words : List (List ℕ)) → IfSome (happening words) Offers
words-offer [] = tt
words-offer (form ∷ words) = form-offers form words

line-offers : (line : List ℕ) → IfSome (happening_read line) Offers
unfolding happening_read
line-offers line = either Offers (nat_lt max_line (length line)) None _ tt (words-offer (pieces 32 line))

pub read-offers : (line : List ℕ) (h : Happening) → happening_read line ≡ Some h → Offers h
read-offers line h is = some-of Offers (happening_read line) h (line-offers line) is
