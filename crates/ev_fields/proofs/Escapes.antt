-- Texts that need no escape, and that base64 is one.
use Rattle.std.proofs.Common.{◌≡◌, ℕ, zero, suc, ◌+◌, ◌*◌, ◌/◌, ◌%◌, ◌<◌, ◌==◌, Bool, true, List, [], ◌∷◌, ◌++◌, length, get_or, replicate, refl, sym, ap, ap₂, append_assoc, ◌∙◌, arith}
use Rattle.std.specs.Prelude.{slice_index}
use Rattle.std.specs.List.{list_all}
use Rattle.std.proofs.lemmas.Bool.{and_parts, or_parts, not-true, eqb-false, ltb-false}
use Rattle.std.proofs.lemmas.List.Folds.{list_all-append}
use Rattle.json.specs.Run.{is_plain}
use Rattle.json.specs.Print.{escape, quoted}
use Rattle.json.proofs.Printed.Strings.{escape_byte_plain}
use Rattle.base64.specs.Engines.{standard}
use Rattle.base64.specs.GeneralPurpose.{encode_of}
use Rattle.ev_fields.specs.declared.field.Field.{Field}
use Rattle.ev_fields.specs.declared.field.Field.TheVariants.{Header, Revision, Succeeded, Responses, ResponsePut, ResponseDeleteRange, ResponseRange, Deleted, Kvs, Key, Value, CreateRevision, ModRevision, Version, Lease, Count, More, Id, Ttl, Result, Events, Kind, CompactRevision, Canceled, Created, Compare, Success, Failure, Target, RequestPut, RequestDeleteRange, RequestRange, RangeEnd, Limit, KeysOnly, CreateRequest, Fragment, ProgressNotify, StartRevision}
use Rattle.ev_fields.specs.Names.{snake}
use Rattle.base64.specs.Rfc4648.{encode_symbols, padding_len}

pub escape-plain : (s : List ℕ) → list_all is_plain s ≡ true → escape s ≡ s
escape-plain [] h = refl
escape-plain (x ∷ xs) h =
    let both = and_parts (is_plain x) (list_all is_plain xs) h in
    let none = or_parts _ _ (not-true _ both.0) in
    let tests = or_parts (x == 34) _ none.0 in
    ap₂ (λ (a b : List ℕ). a ++ b) (escape_byte_plain x (eqb-false x 34 tests.0) (eqb-false x 92 tests.1) (ltb-false x 32 none.1)) (escape-plain xs both.1)

at : (p : ℕ → Bool) (s : List ℕ) (i : ℕ) → i < length s → list_all p s ≡ true → p (get_or s i 0) ≡ true
at p [] i lt h = absurd (omega arith)
at p (x ∷ xs) zero lt h = (and_parts (p x) (list_all p xs) h).0
at p (x ∷ xs) (suc i) lt h = at p xs i (omega (arith, lt)) (and_parts (p x) (list_all p xs) h).1

symbol : (i : ℕ) → i < 64 → is_plain (slice_index standard.encode_table i) ≡ true
symbol i lt = at is_plain standard.encode_table i lt refl

abbrev AreBytes : List ℕ → Type 0
AreBytes m = (k : ℕ) → get_or m k 0 < 256

symbols : (m : List ℕ) → AreBytes m → list_all is_plain (encode_symbols standard.encode_table m) ≡ true
unfolding encode_symbols
symbols [] h = refl
symbols (a ∷ []) h =
    let la = h 0 in
    rw (symbol (a / 4) (omega (arith, la)), symbol (a % 4 * 16) (omega arith)) refl
symbols (a ∷ b ∷ []) h =
    let la = h 0 in
    let lb = h 1 in
    rw (symbol (a / 4) (omega (arith, la)), symbol (a % 4 * 16 + b / 16) (omega (arith, lb)), symbol (b % 16 * 4) (omega arith)) refl
symbols (a ∷ b ∷ c ∷ rest) h =
    let la = h 0 in
    let lb = h 1 in
    let lc = h 2 in
    rw (symbol (a / 4) (omega (arith, la)), symbol (a % 4 * 16 + b / 16) (omega (arith, lb)), symbol (b % 16 * 4 + c / 64) (omega (arith, lc)), symbol (c % 64) (omega arith)) (symbols rest (λ k. h (suc (suc (suc k)))))

padding : (n : ℕ) → list_all is_plain (replicate n 61) ≡ true
padding zero = refl
padding (suc n) = padding n

pub escape-coded : (m : List ℕ) → AreBytes m → escape (encode_of standard m) ≡ encode_of standard m
escape-coded m h =
    let both = list_all-append is_plain (encode_symbols standard.encode_table m) (replicate (padding_len (length m)) 61) in
    escape-plain (encode_of standard m) (both ∙ rw (symbols m h, padding (padding_len (length m))) refl)

names : (f : Field) → list_all is_plain (snake f) ≡ true
unfolding snake
names Header = refl
names Revision = refl
names Succeeded = refl
names Responses = refl
names ResponsePut = refl
names ResponseDeleteRange = refl
names ResponseRange = refl
names Deleted = refl
names Kvs = refl
names Key = refl
names Value = refl
names CreateRevision = refl
names ModRevision = refl
names Version = refl
names Lease = refl
names Count = refl
names More = refl
names Id = refl
names Ttl = refl
names Result = refl
names Events = refl
names Kind = refl
names CompactRevision = refl
names Canceled = refl
names Created = refl
names Compare = refl
names Success = refl
names Failure = refl
names Target = refl
names RequestPut = refl
names RequestDeleteRange = refl
names RequestRange = refl
names RangeEnd = refl
names Limit = refl
names KeysOnly = refl
names CreateRequest = refl
names Fragment = refl
names ProgressNotify = refl
names StartRevision = refl

pub quoted-name : (f : Field) → 34 ∷ (snake f ++ 34 ∷ 58 ∷ []) ≡ quoted (snake f) ++ 58 ∷ []
quoted-name f = ap (λ (l : List ℕ). 34 ∷ l) (ap (λ (l : List ℕ). l ++ 34 ∷ 58 ∷ []) (sym (escape-plain (snake f) (names f))) ∙ sym (append_assoc (escape (snake f)) (34 ∷ []) (58 ∷ [])))
