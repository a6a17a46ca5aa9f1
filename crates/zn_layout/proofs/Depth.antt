-- The depth of a path, as slashes are counted.
use Rattle.std.proofs.Common.{◌≡◌, suc, ◌+◌, true, false, cond, refl, ap, ◌∙◌, arith, eqb}
use Rattle.std.specs.List.{count_by}
use Rattle.std.proofs.lemmas.List.Recursion.{is_count_by}
use Rattle.zx_base.specs.Maps.{Bytes, same}
use Rattle.zk_model.specs.Paths.{slash, root, slashes, depth}

pub depth-root : (p : Bytes) → same p root ≡ true → depth p ≡ 0
unfolding depth
depth-root p h = ap (λ b. cond b 0 (slashes p)) h

slashes-count : (p : Bytes) → slashes p ≡ count_by (λ b. eqb b slash) p
unfolding slashes
slashes-count p = is_count_by slashes (λ b. eqb b slash) refl (λ x xs. elim (eqb x slash) as (λ b. cond b (suc (slashes xs)) (slashes xs) ≡ cond b (1 + slashes xs) (slashes xs)) [ true ↦ omega arith | false ↦ refl ]) p

pub depth-count : (p : Bytes) → same p root ≡ false → depth p ≡ count_by (λ b. eqb b slash) p
unfolding depth
depth-count p h = ap (λ b. cond b 0 (slashes p)) h ∙ slashes-count p
