-- What a reader takes is a spelling of what it gives, and it reads each spelling, whatever follows it.
use Rattle.std.proofs.Common.{◌≡◌, ℕ, zero, suc, ◌≤◌, Bool, true, false, cond, ltb, List, [], ◌∷◌, ◌++◌, length, take, drop, map, Result, Ok, Err, refl, sym, ap, subst, ◌∙◌, append_assoc, arith, inl, inr, ℤ, pos, negsuc}
use Rattle.std.specs.Int.{w32, w64, cast_signed}
use Rattle.std.specs.Str.{is_utf8}
use Rattle.std.specs.Prelude.{◌&&◌, bytes_eq}
use Rattle.std.specs.Ordering.{int_eq}
use Rattle.std.proofs.lemmas.Bool.{ltb-false, le-ltb, and_parts}
use Rattle.std.proofs.lemmas.Bool.Decides.{Decides-int_eq}
use Rattle.std.proofs.lemmas.Slice.Eq.{bytes_eq-Decides}
use Rattle.std.proofs.lemmas.Str.{IsUtf8-from_is_utf8, is_utf8-from_IsUtf8}
use Rattle.std.proofs.lemmas.List.{take_at, drop_at, take-append-drop, length-append, length-take}
use Rattle.byteorder.specs.Endian.{big_number}
use Rattle.byteorder.specs.Numbers.{big_from-append}
use Rattle.zk_model.specs.declared.request.Acl.{Acl}
use Rattle.zk_jute.specs.JuteValues.{Value, int, long, boolean, buffer, ustring, ustrings, acls, Kind, an_int, a_long, a_boolean, a_buffer, a_ustring, some_ustrings, some_acls, open_acl, the_open_acl, kind_of, Spelled, IsInt, IsLong, IsBoolean, IsCountField, IsBuffer, IsUstring, IsVector, IsAcl, Spells}
use Rattle.zk_jute.specs.JuteReading.{Read, ◌>>=◌, int_at, long_at, boolean_at, bytes_after, text_read, ustring_at, count_of, count_at, buffer_at, items_at, vector_at, acl_at, as_value, value_at, values_at, open_of}
use Rattle.zk_model.specs.Access.{is_open_acl, open_entry}

-- the bytes are a spelling of x, and then the rest
pub record Takes {A : Type 0} (Is : A → List ℕ → Type 0) (bytes : List ℕ) (x : A) (rest : List ℕ) : Type 0 where
  pub front : List ℕ
  pub spelled : Is x front
  pub parts : bytes ≡ front ++ rest

pub record IsField {A : Type 0} (Is : A → List ℕ → Type 0) (read : List ℕ → Read A) : Type 0 where
  pub takes : (bytes : List ℕ) (x : A) (rest : List ℕ) → read bytes ≡ Ok (x, rest) → Takes Is bytes x rest
  pub again : (x : A) (front rest : List ℕ) → Is x front → read (front ++ rest) ≡ Ok (x, rest)

-- the value of a step that did not fail
pub bind_ok : {A B : Type 0} (r : Result A ℕ) (f : A → Result B ℕ) (y : B) → (r >>= f) ≡ Ok y → (x : A) × (r ≡ Ok x) × (f x ≡ Ok y)
bind_ok (Ok x) f y e = (x, refl, e)
bind_ok (Err d) f y e = absurd cc

-- a test that did not fail
pub guard_ok : {A : Type 0} (b : Bool) (d : ℕ) (x y : A) → cond b (Err d) (Ok x) ≡ Ok y → (b ≡ false) × (x ≡ y)
guard_ok true d x y e = absurd cc
guard_ok false d x y e = (refl, cc)

pub ended_ok : {A : Type 0} (b : Bool) (d : ℕ) (x y : A) → cond b (Ok x) (Err d) ≡ Ok y → (b ≡ true) × (x ≡ y)
ended_ok true d x y e = (refl, cc)
ended_ok false d x y e = absurd cc

abbrev done : {A : Type 0} → A → Result A ℕ
done x = Ok x

pub ok_is : {A : Type 0} (x y : A) → done x ≡ done y → x ≡ y
ok_is x y e = cc

pub joined : (a f b g c : List ℕ) → a ≡ f ++ b → b ≡ g ++ c → a ≡ (f ++ g) ++ c
joined a f b g c p q = p ∙ ap (λ (x : List ℕ). f ++ x) q ∙ sym (append_assoc f g c)

-- numbers

number_takes : (n : ℕ) (bytes : List ℕ) → n ≤ length bytes → (length (take n bytes) ≡ n) × (big_number n (take n bytes) ≡ big_number n bytes)
number_takes n bytes le =
    let len : length (take n bytes) ≡ n = omega (arith, length-take n bytes) in
    (len, sym (big_from-append n (take n bytes) (drop n bytes) (omega arith)) ∙ ap (big_number n) (take-append-drop n bytes))

int_takes : (bytes : List ℕ) (x : ℤ) (rest : List ℕ) → int_at bytes ≡ Ok (x, rest) → Takes IsInt bytes x rest
int_takes bytes x rest e =
    let g = guard_ok (ltb (length bytes) 4) (length bytes) (cast_signed w32 (big_number 4 bytes), drop 4 bytes) (x, rest) e in
    let n = number_takes 4 bytes (ltb-false _ _ g.0) in
    subst (λ (y : ℤ × List ℕ). Takes IsInt bytes y.0 y.1) g.1 (record { front = take 4 bytes; spelled = (n.0, ap (cast_signed w32) (sym n.1)); parts = sym (take-append-drop 4 bytes) })

int_again : (x : ℤ) (front rest : List ℕ) → IsInt x front → int_at (front ++ rest) ≡ Ok (x, rest)
int_again x front rest is =
    let long_enough : ltb (length (front ++ rest)) 4 ≡ false = le-ltb _ _ (omega (arith, length-append front rest, is.0)) in
    rw (long_enough, big_from-append 4 front rest (omega (arith, is.0)), drop_at front rest 4 is.0, ← is.1) refl

pub int_field : IsField IsInt int_at
int_field = record { takes = int_takes; again = int_again }

long_takes : (bytes : List ℕ) (x : ℤ) (rest : List ℕ) → long_at bytes ≡ Ok (x, rest) → Takes IsLong bytes x rest
long_takes bytes x rest e =
    let g = guard_ok (ltb (length bytes) 8) (length bytes) (cast_signed w64 (big_number 8 bytes), drop 8 bytes) (x, rest) e in
    let n = number_takes 8 bytes (ltb-false _ _ g.0) in
    subst (λ (y : ℤ × List ℕ). Takes IsLong bytes y.0 y.1) g.1 (record { front = take 8 bytes; spelled = (n.0, ap (cast_signed w64) (sym n.1)); parts = sym (take-append-drop 8 bytes) })

long_again : (x : ℤ) (front rest : List ℕ) → IsLong x front → long_at (front ++ rest) ≡ Ok (x, rest)
long_again x front rest is =
    let long_enough : ltb (length (front ++ rest)) 8 ≡ false = le-ltb _ _ (omega (arith, length-append front rest, is.0)) in
    rw (long_enough, big_from-append 8 front rest (omega (arith, is.0)), drop_at front rest 8 is.0, ← is.1) refl

pub long_field : IsField IsLong long_at
long_field = record { takes = long_takes; again = long_again }

-- booleans

boolean_takes : (bytes : List ℕ) (x : Bool) (rest : List ℕ) → boolean_at bytes ≡ Ok (x, rest) → Takes IsBoolean bytes x rest
boolean_takes [] x rest e = absurd cc
boolean_takes (zero ∷ bytes) x rest e = subst (λ (y : Bool × List ℕ). Takes IsBoolean (0 ∷ bytes) y.0 y.1) (ok_is (false, bytes) (x, rest) e) (record { front = 0 ∷ []; spelled = refl; parts = refl })
boolean_takes (suc c ∷ bytes) x rest e = subst (λ (y : Bool × List ℕ). Takes IsBoolean (suc c ∷ bytes) y.0 y.1) (ok_is (true, bytes) (x, rest) e) (record { front = suc c ∷ []; spelled = refl; parts = refl })

boolean_again : (x : Bool) (front rest : List ℕ) → IsBoolean x front → boolean_at (front ++ rest) ≡ Ok (x, rest)
boolean_again x [] rest is = absurd is
boolean_again x (zero ∷ []) rest is = rw is refl
boolean_again x (suc c ∷ []) rest is = rw is refl
boolean_again x (c ∷ d ∷ bytes) rest is = absurd is

pub boolean_field : IsField IsBoolean boolean_at
boolean_field = record { takes = boolean_takes; again = boolean_again }

-- bytes after a length

bytes_after_takes : (all : List ℕ) (n : ℕ) (bytes content rest : List ℕ) → bytes_after all (pos n) bytes ≡ Ok (content, rest) → (length content ≡ n) × (bytes ≡ content ++ rest)
bytes_after_takes all n bytes content rest e =
    let g = guard_ok (ltb (length bytes) n) (length all) (take n bytes, drop n bytes) (content, rest) e in
    let long_enough : n ≤ length bytes = ltb-false _ _ g.0 in
    subst (λ (y : List ℕ × List ℕ). (length y.0 ≡ n) × (bytes ≡ y.0 ++ y.1)) g.1 (omega (arith, length-take n bytes), sym (take-append-drop n bytes))

bytes_after_again : (all content rest : List ℕ) → bytes_after all (pos (length content)) (content ++ rest) ≡ Ok (content, rest)
bytes_after_again all content rest =
    let long_enough : ltb (length (content ++ rest)) (length content) ≡ false = le-ltb _ _ (omega (arith, length-append content rest)) in
    rw (long_enough, take_at content rest (length content) refl, drop_at content rest (length content) refl) refl

count_of_takes : (bytes : List ℕ) (left : ℕ) (z : ℤ) (after : List ℕ) (n : ℕ) (rest : List ℕ) → Takes IsInt bytes z after → count_of left z after ≡ Ok (n, rest) → Takes IsCountField bytes n rest
count_of_takes bytes left (pos m) after n rest t e = subst (λ (y : ℕ × List ℕ). Takes IsCountField bytes y.0 y.1) (ok_is (m, after) (n, rest) e) (record { front = t.front; spelled = inl t.spelled; parts = t.parts })
count_of_takes bytes left (negsuc zero) after n rest t e = subst (λ (y : ℕ × List ℕ). Takes IsCountField bytes y.0 y.1) (ok_is (0, after) (n, rest) e) (record { front = t.front; spelled = inr (refl, t.spelled); parts = t.parts })
count_of_takes bytes left (negsuc (suc m)) after n rest t e = absurd cc

count_takes : (bytes : List ℕ) (n : ℕ) (rest : List ℕ) → count_at bytes ≡ Ok (n, rest) → Takes IsCountField bytes n rest
count_takes bytes n rest e =
    let b = bind_ok (int_at bytes) (λ m. count_of (length bytes) m.0 m.1) (n, rest) e in
    count_of_takes bytes (length bytes) b.0.0 b.0.1 n rest (int_takes bytes b.0.0 b.0.1 b.1) b.2

count_again : (n : ℕ) (front rest : List ℕ) → IsCountField n front → count_at (front ++ rest) ≡ Ok (n, rest)
count_again n front rest (inl is) = rw (int_again (pos n) front rest is) refl
count_again n front rest (inr is) = rw (int_again (negsuc 0) front rest is.1, is.0) refl

buffer_takes : (bytes content rest : List ℕ) → buffer_at bytes ≡ Ok (content, rest) → Takes IsBuffer bytes content rest
buffer_takes bytes content rest e =
    let b = bind_ok (count_at bytes) (λ n. bytes_after bytes (pos n.0) n.1) (content, rest) e in
    let t = count_takes bytes b.0.0 b.0.1 b.1 in
    let c = bytes_after_takes bytes b.0.0 b.0.1 content rest b.2 in
    record { front = t.front ++ content; spelled = (t.front, subst (λ (n : ℕ). IsCountField n t.front) (sym c.0) t.spelled, refl); parts = joined bytes t.front b.0.1 content rest t.parts c.1 }

buffer_again : (content front rest : List ℕ) → IsBuffer content front → buffer_at (front ++ rest) ≡ Ok (content, rest)
buffer_again content front rest is =
    let regrouped : front ++ rest ≡ is.0 ++ (content ++ rest) = rw is.2 (append_assoc is.0 content rest) in
    ap buffer_at regrouped ∙ rw (count_again (length content) is.0 (content ++ rest) is.1) (bytes_after_again (is.0 ++ (content ++ rest)) content rest)

pub buffer_field : IsField IsBuffer buffer_at
buffer_field = record { takes = buffer_takes; again = buffer_again }

-- texts

length_takes : (all : List ℕ) (z : ℤ) (bytes content rest : List ℕ) → bytes_after all z bytes ≡ Ok (content, rest) → (z ≡ pos (length content)) × (bytes ≡ content ++ rest)
length_takes all (pos n) bytes content rest e =
    let c = bytes_after_takes all n bytes content rest e in
    (ap pos (sym c.0), c.1)
length_takes all (negsuc n) bytes content rest e = absurd cc

ustring_takes : (bytes text rest : List ℕ) → ustring_at bytes ≡ Ok (text, rest) → Takes IsUstring bytes text rest
ustring_takes bytes text rest e =
    let b = bind_ok (int_at bytes) (λ n. bytes_after bytes n.0 n.1 >>= text_read (length bytes)) (text, rest) e in
    let a = bind_ok (bytes_after bytes b.0.0 b.0.1) (text_read (length bytes)) (text, rest) b.2 in
    let u = ended_ok (is_utf8 a.0.0) (length bytes) a.0 (text, rest) a.2 in
    let t = int_takes bytes b.0.0 b.0.1 b.1 in
    let c = length_takes bytes b.0.0 b.0.1 a.0.0 a.0.1 a.1 in
    subst (λ (y : List ℕ × List ℕ). Takes IsUstring bytes y.0 y.1) u.1 (record {
      front = t.front ++ a.0.0;
      spelled = (t.front, subst (λ (z : ℤ). IsInt z t.front) c.0 t.spelled, IsUtf8-from_is_utf8 a.0.0 u.0, refl);
      parts = joined bytes t.front b.0.1 a.0.0 a.0.1 t.parts c.1;
    })

ustring_again : (text front rest : List ℕ) → IsUstring text front → ustring_at (front ++ rest) ≡ Ok (text, rest)
ustring_again text front rest is =
    let regrouped : front ++ rest ≡ is.0 ++ (text ++ rest) = rw is.3 (append_assoc is.0 text rest) in
    ap ustring_at regrouped ∙ rw (int_again (pos (length text)) is.0 (text ++ rest) is.1, bytes_after_again (is.0 ++ (text ++ rest)) text rest, is_utf8-from_IsUtf8 text is.2) refl

pub ustring_field : IsField IsUstring ustring_at
ustring_field = record { takes = ustring_takes; again = ustring_again }

-- vectors

items_take : {A : Type 0} (Is : A → List ℕ → Type 0) (item : List ℕ → Read A) → IsField Is item → (n : ℕ) (bytes : List ℕ) (xs : List A) (rest : List ℕ) → items_at item n bytes ≡ Ok (xs, rest)
    → Takes (Spelled Is) bytes xs rest × (length xs ≡ n)
unfolding items_at
items_take {A = A} Is item field zero bytes xs rest e = subst (λ (y : List A × List ℕ). Takes (Spelled Is) bytes y.0 y.1 × (length y.0 ≡ 0)) (ok_is ([], bytes) (xs, rest) e) (record { front = []; spelled = refl; parts = refl }, refl)
items_take {A = A} Is item field (suc n) bytes xs rest e =
    let a = bind_ok (item bytes) (λ first. items_at item n first.1 >>= λ others. Ok (first.0 ∷ others.0, others.1)) (xs, rest) e in
    let b = bind_ok (items_at item n a.0.1) (λ others. Ok (a.0.0 ∷ others.0, others.1)) (xs, rest) a.2 in
    let t = field.takes bytes a.0.0 a.0.1 a.1 in
    let u = items_take Is item field n a.0.1 b.0.0 b.0.1 b.1 in
    subst (λ (y : List A × List ℕ). Takes (Spelled Is) bytes y.0 y.1 × (length y.0 ≡ suc n)) (ok_is (a.0.0 ∷ b.0.0, b.0.1) (xs, rest) b.2)
    (record { front = t.front ++ u.0.front; spelled = (t.front, u.0.front, t.spelled, u.0.spelled, refl); parts = joined bytes t.front a.0.1 u.0.front b.0.1 t.parts u.0.parts }, ap suc u.1)

items_again : {A : Type 0} (Is : A → List ℕ → Type 0) (item : List ℕ → Read A) → IsField Is item → (xs : List A) (front rest : List ℕ) → Spelled Is xs front → items_at item (length xs) (front ++ rest) ≡ Ok (xs, rest)
unfolding items_at
items_again {A = A} Is item field [] front rest is = rw is refl
items_again {A = A} Is item field (x ∷ xs) front rest is =
    let regrouped : front ++ rest ≡ is.0 ++ (is.1 ++ rest) = rw is.4 (append_assoc is.0 is.1 rest) in
    ap (items_at item (suc (length xs))) regrouped ∙ rw (field.again x is.0 (is.1 ++ rest) is.2, items_again Is item field xs is.1 rest is.3) refl

vector_takes : {A : Type 0} (Is : A → List ℕ → Type 0) (item : List ℕ → Read A) → IsField Is item → (bytes : List ℕ) (xs : List A) (rest : List ℕ) → vector_at item bytes ≡ Ok (xs, rest) → Takes (IsVector Is) bytes xs rest
vector_takes {A = A} Is item field bytes xs rest e =
    let b = bind_ok (count_at bytes) (λ n. items_at item n.0 n.1) (xs, rest) e in
    let t = count_takes bytes b.0.0 b.0.1 b.1 in
    let u = items_take Is item field b.0.0 b.0.1 xs rest b.2 in
    record { front = t.front ++ u.0.front; spelled = (t.front, u.0.front, subst (λ (n : ℕ). IsCountField n t.front) (sym u.1) t.spelled, u.0.spelled, refl); parts = joined bytes t.front b.0.1 u.0.front rest t.parts u.0.parts }

vector_again : {A : Type 0} (Is : A → List ℕ → Type 0) (item : List ℕ → Read A) → IsField Is item → (xs : List A) (front rest : List ℕ) → IsVector Is xs front → vector_at item (front ++ rest) ≡ Ok (xs, rest)
vector_again {A = A} Is item field xs front rest is =
    let regrouped : front ++ rest ≡ is.0 ++ (is.1 ++ rest) = rw is.4 (append_assoc is.0 is.1 rest) in
    ap (vector_at item) regrouped ∙ rw (count_again (length xs) is.0 (is.1 ++ rest) is.2) (items_again Is item field xs is.1 rest is.3)

pub vector_field : {A : Type 0} (Is : A → List ℕ → Type 0) (item : List ℕ → Read A) → IsField Is item → IsField (IsVector Is) (vector_at item)
vector_field {A = A} Is item field = record { takes = vector_takes Is item field; again = vector_again Is item field }

-- an entry of an access list

acl_takes : (bytes : List ℕ) (x : Acl) (rest : List ℕ) → acl_at bytes ≡ Ok (x, rest) → Takes IsAcl bytes x rest
acl_takes bytes x rest e =
    let a = bind_ok (int_at bytes) (λ perms. ustring_at perms.1 >>= λ scheme. ustring_at scheme.1 >>= λ id. Ok (record { perms = perms.0; scheme = scheme.0; id = id.0 }, id.1)) (x, rest) e in
    let b = bind_ok (ustring_at a.0.1) (λ scheme. ustring_at scheme.1 >>= λ id. Ok (record { perms = a.0.0; scheme = scheme.0; id = id.0 }, id.1)) (x, rest) a.2 in
    let c = bind_ok (ustring_at b.0.1) (λ id. Ok (record { perms = a.0.0; scheme = b.0.0; id = id.0 }, id.1)) (x, rest) b.2 in
    let t = int_takes bytes a.0.0 a.0.1 a.1 in
    let u = ustring_takes a.0.1 b.0.0 b.0.1 b.1 in
    let v = ustring_takes b.0.1 c.0.0 c.0.1 c.1 in
    let made : Acl × List ℕ = (record { perms = a.0.0; scheme = b.0.0; id = c.0.0 }, c.0.1) in
    subst (λ (y : Acl × List ℕ). Takes IsAcl bytes y.0 y.1) (ok_is made (x, rest) c.2) (record {
      front = t.front ++ u.front ++ v.front;
      spelled = (t.front, u.front, v.front, t.spelled, u.spelled, v.spelled, refl);
      parts = joined bytes (t.front ++ u.front) b.0.1 v.front c.0.1 (joined bytes t.front a.0.1 u.front b.0.1 t.parts u.parts) v.parts;
    })

acl_again : (x : Acl) (front rest : List ℕ) → IsAcl x front → acl_at (front ++ rest) ≡ Ok (x, rest)
acl_again x front rest is =
    let regrouped : front ++ rest ≡ is.0 ++ (is.1 ++ (is.2 ++ rest)) = rw is.6 (simp append_assoc) in
    ap acl_at regrouped ∙ rw (int_again x.perms is.0 (is.1 ++ (is.2 ++ rest)) is.3, ustring_again x.scheme is.1 (is.2 ++ rest) is.4, ustring_again x.id is.2 rest is.5) refl

pub acl_field : IsField IsAcl acl_at
acl_field = record { takes = acl_takes; again = acl_again }

-- the open list

pub record TakesValue (k : Kind) (bytes : List ℕ) (v : Value) (rest : List ℕ) : Type 0 where
  pub kind : kind_of v ≡ k
  pub took : Takes Spells bytes v rest

open_is : (entries : List Acl) → is_open_acl entries ≡ true → entries ≡ open_entry ∷ []
open_is [] e = absurd cc
open_is (entry ∷ []) e =
    let a = and_parts (int_eq entry.perms open_entry.perms) (bytes_eq entry.scheme open_entry.scheme && bytes_eq entry.id open_entry.id) e in
    let b = and_parts (bytes_eq entry.scheme open_entry.scheme) (bytes_eq entry.id open_entry.id) a.1 in
    let perms = (Decides-int_eq entry.perms open_entry.perms).0 a.0 in
    let scheme = (bytes_eq-Decides entry.scheme open_entry.scheme).0 b.0 in
    let id = (bytes_eq-Decides entry.id open_entry.id).0 b.1 in
    ap (λ (z : ℤ). record { perms = z; scheme = entry.scheme; id = entry.id } ∷ []) perms ∙ ap (λ (x : List ℕ). record { perms = open_entry.perms; scheme = x; id = entry.id } ∷ []) scheme ∙ ap (λ (x : List ℕ). record { perms = open_entry.perms; scheme = open_entry.scheme; id = x } ∷ []) id
open_is (a ∷ b ∷ entries) e = absurd cc

open_takes : (bytes : List ℕ) (v : Value) (rest : List ℕ) → value_at the_open_acl bytes ≡ Ok (v, rest) → TakesValue the_open_acl bytes v rest
open_takes bytes v rest e =
    let b = bind_ok (vector_at acl_at bytes) (λ x. open_of (length bytes) x.0 x.1) (v, rest) e in
    let g = ended_ok (is_open_acl b.0.0) (length bytes) (open_acl, b.0.1) (v, rest) b.2 in
    let t = vector_takes IsAcl acl_at acl_field bytes b.0.0 b.0.1 b.1 in
    subst (λ (y : Value × List ℕ). TakesValue the_open_acl bytes y.0 y.1) g.1 (record { kind = refl; took = record { front = t.front; spelled = subst (λ (es : List Acl). IsVector IsAcl es t.front) (open_is b.0.0 g.0) t.spelled; parts = t.parts } })

-- any field

made_takes : {A : Type 0} (Is : A → List ℕ → Type 0) (read : List ℕ → Read A) (make : A → Value) (k : Kind) → IsField Is read → ((x : A) → kind_of (make x) ≡ k) → ((x : A) (front : List ℕ) → Is x front → Spells (make x) front)
    → (bytes : List ℕ) (v : Value) (rest : List ℕ) → as_value make (read bytes) ≡ Ok (v, rest) → TakesValue k bytes v rest
made_takes {A = A} Is read make k field kind same bytes v rest e =
    let b = bind_ok (read bytes) (λ x. Ok (make x.0, x.1)) (v, rest) e in
    let t = field.takes bytes b.0.0 b.0.1 b.1 in
    subst (λ (y : Value × List ℕ). TakesValue k bytes y.0 y.1) (ok_is (make b.0.0, b.0.1) (v, rest) b.2) (record { kind = kind b.0.0; took = record { front = t.front; spelled = same b.0.0 t.front t.spelled; parts = t.parts } })

pub value_takes : (k : Kind) (bytes : List ℕ) (v : Value) (rest : List ℕ) → value_at k bytes ≡ Ok (v, rest) → TakesValue k bytes v rest
value_takes an_int = made_takes IsInt int_at int an_int int_field (λ x. refl) (λ x front is. is)
value_takes a_long = made_takes IsLong long_at long a_long long_field (λ x. refl) (λ x front is. is)
value_takes a_boolean = made_takes IsBoolean boolean_at boolean a_boolean boolean_field (λ x. refl) (λ x front is. is)
value_takes a_buffer = made_takes IsBuffer buffer_at buffer a_buffer buffer_field (λ x. refl) (λ x front is. is)
value_takes a_ustring = made_takes IsUstring ustring_at ustring a_ustring ustring_field (λ x. refl) (λ x front is. is)
value_takes some_ustrings = made_takes (IsVector IsUstring) (vector_at ustring_at) ustrings some_ustrings (vector_field IsUstring ustring_at ustring_field) (λ x. refl) (λ x front is. is)
value_takes some_acls = made_takes (IsVector IsAcl) (vector_at acl_at) acls some_acls (vector_field IsAcl acl_at acl_field) (λ x. refl) (λ x front is. is)
value_takes the_open_acl = open_takes

pub value_again : (v : Value) (front rest : List ℕ) → Spells v front → value_at (kind_of v) (front ++ rest) ≡ Ok (v, rest)
value_again (int x) front rest is = rw (int_again x front rest is) refl
value_again (long x) front rest is = rw (long_again x front rest is) refl
value_again (boolean x) front rest is = rw (boolean_again x front rest is) refl
value_again (buffer x) front rest is = rw (buffer_again x front rest is) refl
value_again (ustring x) front rest is = rw (ustring_again x front rest is) refl
value_again (ustrings x) front rest is = rw (vector_again IsUstring ustring_at ustring_field x front rest is) refl
value_again (acls x) front rest is = rw (vector_again IsAcl acl_at acl_field x front rest is) refl
value_again open_acl front rest is = rw (vector_again IsAcl acl_at acl_field (open_entry ∷ []) front rest is) refl

-- the fields of a record

pub record TakesValues (ks : List Kind) (bytes : List ℕ) (vs : List Value) (rest : List ℕ) : Type 0 where
  pub kinds : map kind_of vs ≡ ks
  pub took : Takes (Spelled Spells) bytes vs rest

pub values_take : (ks : List Kind) (bytes : List ℕ) (vs : List Value) (rest : List ℕ) → values_at ks bytes ≡ Ok (vs, rest) → TakesValues ks bytes vs rest
unfolding values_at
values_take [] bytes vs rest e = subst (λ (y : List Value × List ℕ). TakesValues [] bytes y.0 y.1) (ok_is ([], bytes) (vs, rest) e) (record { kinds = refl; took = record { front = []; spelled = refl; parts = refl } })
values_take (k ∷ ks) bytes vs rest e =
    let a = bind_ok (value_at k bytes) (λ first. values_at ks first.1 >>= λ others. Ok (first.0 ∷ others.0, others.1)) (vs, rest) e in
    let b = bind_ok (values_at ks a.0.1) (λ others. Ok (a.0.0 ∷ others.0, others.1)) (vs, rest) a.2 in
    let t = value_takes k bytes a.0.0 a.0.1 a.1 in
    let u = values_take ks a.0.1 b.0.0 b.0.1 b.1 in
    subst (λ (y : List Value × List ℕ). TakesValues (k ∷ ks) bytes y.0 y.1) (ok_is (a.0.0 ∷ b.0.0, b.0.1) (vs, rest) b.2)
    (record { kinds = rw (t.kind, u.kinds) refl; took = record { front = t.took.front ++ u.took.front; spelled = (t.took.front, u.took.front, t.took.spelled, u.took.spelled, refl); parts = joined bytes t.took.front a.0.1 u.took.front b.0.1 t.took.parts u.took.parts } })

pub values_again : (vs : List Value) (front rest : List ℕ) → Spelled Spells vs front → values_at (map kind_of vs) (front ++ rest) ≡ Ok (vs, rest)
unfolding values_at
values_again [] front rest is = rw is refl
values_again (v ∷ vs) front rest is =
    let regrouped : front ++ rest ≡ is.0 ++ (is.1 ++ rest) = rw is.4 (append_assoc is.0 is.1 rest) in
    ap (values_at (kind_of v ∷ map kind_of vs)) regrouped ∙ rw (value_again v is.0 (is.1 ++ rest) is.2, values_again vs is.1 rest is.3) refl
