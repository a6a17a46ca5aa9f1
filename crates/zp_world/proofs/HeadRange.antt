-- A look at the head: it is never denied, changes nothing, and shows what is kept under its key.
use Rattle.std.proofs.Common.{◌≡◌, ℕ, ◌<◌, refl, sym, ap, ◌∙◌, arith, Bool, false, List, [], ◌∷◌, ◌++◌, length}
use Rattle.std.specs.Prelude.{Option, Some, None, IsSome, ◌↔◌, pos, int_lt, ◌||◌, if◌then◌else◌}
use Rattle.std.specs.Option.{option_to_list}
use Rattle.std.specs.FinMap.{get}
use Rattle.std.proofs.lemmas.Int.{ints}
use Rattle.ev_types.proofs.Found.{found-key}
use Rattle.ev_types.specs.Denials.{carry, is_compacted, is_denied}
use Rattle.ev_types.specs.Ranges.{found}
use Rattle.ev_types.specs.Reads.{key_range, one_found}
use Rattle.ev_types.specs.Store.{Store, carried_out, present, revision}
use Rattle.ev_types.specs.declared.answer.Answer.{Answer}
use Rattle.ev_types.specs.declared.answer.Answer.TheVariants as answer
use Rattle.ev_types.specs.declared.answer.Kv.{Kv}
use Rattle.ev_types.specs.declared.ask.Ask.TheVariants as ask
use Rattle.ev_types.specs.declared.ask.RangeReq.{RangeReq}
use Rattle.zx_base.proofs.Options.{some_is, some_none}
use Rattle.zx_base.specs.Maps.{Bytes}
use Rattle.zx_base.proofs.Booleans.{true-not}

abbrev looked : Store → Bytes → Store × Answer
looked s k = (s, answer.Range (revision s) (found (key_range k) (present s)))

not-future : (n : ℕ) → int_lt (pos n) (pos 0) ≡ false
not-future n = grind (arith, ints)

-- such a look is not denied
pub look-allowed : (s : Store) (k : Bytes) → is_denied s (ask.Range (key_range k)) ≡ false
unfolding is_denied
look-allowed s k = ap (λ b. b || is_compacted s (pos 0)) (not-future (length s.revisions))

pub look-carried : (s : Store) (k : Bytes) → carry s (ask.Range (key_range k)) ≡ Some (looked s k)
unfolding carry carried_out
look-carried s k = ap (λ (b : Bool). if b then None else Some (s, answer.Range (revision s) (found (key_range k) (present s)))) (look-allowed s k)

pub look-keeps : (s t : Store) (k : Bytes) (q : RangeReq) (a : Answer) → q ≡ key_range k → carry s (ask.Range q) ≡ Some (t, a) → t ≡ s
look-keeps s t k q a e h = sym (ap (λ (p : Store × Answer). p.0) (some_is (sym (look-carried s k) ∙ ap (λ (r : RangeReq). carry s (ask.Range r)) (sym e) ∙ h)))

pub look-answers : (s t : Store) (k : Bytes) (q : RangeReq) (a : Answer) → q ≡ key_range k → carry s (ask.Range q) ≡ Some (t, a) → a ≡ answer.Range (revision s) (one_found (get (present s) k))
look-answers s t k q a e h =
    sym (ap (λ (p : Store × Answer). p.1) (some_is (sym (look-carried s k) ∙ ap (λ (r : RangeReq). carry s (ask.Range r)) (sym e) ∙ h)))
    ∙ ap (answer.Range (revision s)) (found-key k (present s))

pub look-not-denied : (s : Store) (k : Bytes) (q : RangeReq) → q ≡ key_range k → carry s (ask.Range q) ≡ None → ⊥
look-not-denied s k q e h = some_none (sym (look-carried s k) ∙ ap (λ (r : RangeReq). carry s (ask.Range r)) (sym e) ∙ h)

-- the last of what a range of one key found
nil-ends : (rest : List Kv) (kv : Kv) → rest ++ kv ∷ [] ≡ [] → ⊥
nil-ends [] kv h = cc
nil-ends (r ∷ rest) kv h = cc

one-ends : (rest : List Kv) (kv last : Kv) → kv ∷ [] ≡ rest ++ last ∷ [] → last ≡ kv
one-ends [] kv last h = cc
one-ends (r ∷ rest) kv last h = absurd (nil-ends rest last (let e : rest ++ last ∷ [] ≡ [] = cc in e))

pub last-found : (o : Option Kv) (rest kvs : List Kv) (x : Option Kv) (n : ℕ) → kvs ≡ (one_found o).kvs → n ≡ length kvs → (IsSome x ↔ (0 < n)) → kvs ≡ rest ++ option_to_list x → x ≡ o
last-found None rest kvs None n is size some h = refl
last-found None rest kvs (Some kv) n is size some h = absurd (nil-ends rest kv (sym h ∙ is))
last-found (Some kv) rest kvs None n is size some h = absurd (true-not (some.1 (let one = ap length is in omega arith)))
last-found (Some kv) rest kvs (Some last) n is size some h = ap Some (one-ends rest kv last (sym is ∙ h))
