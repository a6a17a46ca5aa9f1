-- The words of `stress`.
use Rattle.std.proofs.Common.{◌≡◌, ℕ, List, [], ◌∷◌, length, sym, ◌∙◌, inl, inr, arith}
use Rattle.std.specs.Prelude.{Option, Some, codes, slice_index_or, ◌⊎◌}
use denote.Ref.{Bor}
use Rattle.zetcd_cmd.specs.Outcomes.{IsWord}
use Rattle.zetcd_cmd.specs.Proxying.{NamesServe}
use Rattle.zetcd_cmd.specs.Serving.{NamesEtcd}
use Rattle.zetcd_cmd.specs.Stressing.{IsStress, Stresses, count_in, max_connections, max_steps, number_in}
use Rattle.zetcd_cmd.specs.declared.status.Status.{Status}
use Rattle.zx_base.proofs.Options.{some-both}

pub one_word : (name : List ℕ) (words : List (Bor (List ℕ))) (n c s : ℕ) → IsWord name words → IsStress words n c s → ⊥
one_word name [] n c s is stress = is
one_word name (w ∷ []) n c s is stress = stress
one_word name (w ∷ v ∷ words) n c s is stress = is

pub not_etcd : (words : List (Bor (List ℕ))) (n c s : ℕ) → NamesEtcd words → IsStress words n c s → ⊥
not_etcd [] n c s etcd stress = stress
not_etcd (w ∷ []) n c s etcd stress = stress
not_etcd (w ∷ v ∷ []) n c s etcd stress = stress
not_etcd (w ∷ v ∷ u ∷ []) n c s etcd stress = stress
not_etcd (w ∷ v ∷ u ∷ t ∷ words) n c s etcd stress = etcd.2

pub not_serve : (words : List (Bor (List ℕ))) (n c s : ℕ) → NamesServe words → IsStress words n c s → ⊥
not_serve [] n c s serve stress = stress
not_serve (w ∷ []) n c s serve stress = stress
not_serve (w ∷ v ∷ []) n c s serve stress = stress
not_serve (w ∷ v ∷ u ∷ []) n c s serve stress = stress
not_serve (w ∷ v ∷ u ∷ t ∷ []) n c s serve stress = let apart : codes "serve" ≡ codes "stress" = sym serve.3.0 ∙ stress.0 in cc
not_serve (w ∷ v ∷ u ∷ t ∷ x ∷ words) n c s serve stress = stress

-- words of a command that listens
pub never_listens : (words : List (Bor (List ℕ))) (n c s : ℕ) → NamesEtcd words ⊎ NamesServe words → IsStress words n c s → ⊥
never_listens words n c s (inl etcd) stress = not_etcd words n c s etcd stress
never_listens words n c s (inr serve) stress = not_serve words n c s serve stress

-- words are those of one schedule at most
pub stresses_one : (words : List (Bor (List ℕ))) (n m c d s t : ℕ) → IsStress words n c s → IsStress words m d t → (n ≡ m) × (c ≡ d) × (s ≡ t)
stresses_one [] n m c d s t one two = absurd one
stresses_one (w ∷ []) n m c d s t one two = absurd one
stresses_one (w ∷ v ∷ []) n m c d s t one two = absurd one
stresses_one (w ∷ v ∷ u ∷ []) n m c d s t one two = absurd one
stresses_one (w ∷ v ∷ u ∷ x ∷ []) n m c d s t one two =
    (some-both n m (number_in v.now) one.1 two.1, some-both c d (count_in max_connections u.now) one.2 two.2, some-both s t (count_in max_steps x.now) one.3 two.3)
stresses_one (w ∷ v ∷ u ∷ x ∷ y ∷ words) n m c d s t one two = absurd one

-- four words, the first of which is `stress`
pub of_four : (words : List (Bor (List ℕ))) (d : Bor (List ℕ)) (n c s : ℕ) → length words ≡ 4 → number_in (slice_index_or words 1 d).now ≡ Some n → count_in max_connections (slice_index_or words 2 d).now ≡ Some c →
    count_in max_steps (slice_index_or words 3 d).now ≡ Some s → (slice_index_or words 0 d).now ≡ codes "stress" → IsStress words n c s
of_four [] d n c s long second third fourth first = absurd (omega (arith, long))
of_four (w ∷ []) d n c s long second third fourth first = absurd (omega (arith, long))
of_four (w ∷ v ∷ []) d n c s long second third fourth first = absurd (omega (arith, long))
of_four (w ∷ v ∷ u ∷ []) d n c s long second third fourth first = absurd (omega (arith, long))
of_four (w ∷ v ∷ u ∷ t ∷ []) d n c s long second third fourth first = (first, second, third, fourth)
of_four (w ∷ v ∷ u ∷ t ∷ x ∷ words) d n c s long second third fourth first = absurd (omega (arith, long))

-- what is told of one schedule is told of any that the words name
pub told : (words : List (Bor (List ℕ))) (n m c d s t : ℕ) (status : Status) (taken taken' : Option (List ℕ)) → IsStress words n c s → IsStress words m d t → Stresses status n c s taken taken' → Stresses status m d t taken taken'
told words n m c d s t status taken taken' one two h = let same = stresses_one words n m c d s t one two in rw (sym same.0, sym same.1, sym same.2) h
