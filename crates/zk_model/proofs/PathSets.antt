-- The set of a list has the list's members and no others.
use Rattle.std.proofs.Common.{◌≡◌, ◌≢◌, ℕ, Bool, true, false, ◌||◌, ◌==◌, cond, Option, Some, None, List, [], ◌∷◌, length, refl, sym, ap, ◌∙◌, ⊎_elim, eqb-true, arith}
use Rattle.std.specs.Prelude.{is_some}
use Rattle.std.specs.Cmp.Lexicographic.{slice_cmp}
use Rattle.std.specs.Ordering.{nat_cmp}
use Rattle.std.specs.FinMap.{get, insert, contains_key, len, len-empty, get-empty}
use Rattle.zx_base.specs.Maps.{Bytes, same}
use Rattle.zx_base.proofs.MapLaws.{ext, either, same-refl, same-false, get-insert_same, get-insert_other, get-none_from_len}
use Rattle.zx_base.proofs.Options.{none_some}
use Rattle.zk_model.specs.PathSets.{set_of, has}

abbrev pub marked : Bool → Option (Unit {0})
marked b = cond b (Some tt) None

some_marked : (b : Bool) → is_some (marked b) ≡ b
some_marked true = refl
some_marked false = refl

pub get-set_of : (ps : List Bytes) (q : Bytes) → get (set_of ps) q ≡ marked (has q ps)
get-set_of [] q = get-empty (slice_cmp nat_cmp) q
get-set_of (p ∷ ps) q = ⊎_elim
    (λ (e : q ≡ p). ap (get (insert (set_of ps) p tt)) e ∙ get-insert_same (set_of ps) p tt ∙ sym (ap (λ b. marked (b || has q ps)) (ap (same p) e ∙ same-refl p)))
    (λ (n : q ≢ p). get-insert_other (set_of ps) p q tt n ∙ get-set_of ps q ∙ sym (ap (λ b. marked (b || has q ps)) (same-false p q (λ e. n (sym e)))))
    (either q p)

pub contains-set_of : (ps : List Bytes) (q : Bytes) → contains_key (set_of ps) q ≡ has q ps
contains-set_of ps q = ap is_some (get-set_of ps q) ∙ some_marked (has q ps)

-- lists that have the same paths make one set
pub same_set : (ps qs : List Bytes) → ((q : Bytes) → has q ps ≡ has q qs) → set_of ps ≡ set_of qs
same_set ps qs alike = ext _ _ (λ q. get-set_of ps q ∙ ap marked (alike q) ∙ sym (get-set_of qs q))

-- ---- whether there is a member

not_zero : (n : ℕ) → (n ≡ 0 → ⊥) → (n == 0) ≡ false
not_zero n h = elim (n == 0) as (λ b. (n == 0) ≡ b → b ≡ false) [ true ↦ λ e. absurd (h (eqb-true n 0 e)) | false ↦ λ e. refl ] refl

some_member : (p : Bytes) (ps : List Bytes) → len (set_of (p ∷ ps)) ≡ 0 → ⊥
some_member p ps e = none_some (sym (get-none_from_len (set_of (p ∷ ps)) p e) ∙ get-insert_same (set_of ps) p tt)

pub length-set_of : (ps : List Bytes) → (length ps == 0) ≡ (len (set_of ps) == 0)
length-set_of [] = sym (ap (λ n. n == 0) (len-empty (slice_cmp nat_cmp) (Unit {0})))
length-set_of (p ∷ ps) = not_zero (length (p ∷ ps)) (λ e. omega arith) ∙ sym (not_zero (len (set_of (p ∷ ps))) (some_member p ps))
