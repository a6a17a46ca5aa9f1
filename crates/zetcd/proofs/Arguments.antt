-- Borrowed words are the words themselves.
use Rattle.std.proofs.Common.{◌≡◌, List, ℕ, suc, [], ◌∷◌, length, min, ◌-◌, map, take, drop, codes, string_bytes, refl, ap, ◌∙◌, arith}
use Rattle.std.proofs.Math.Seq.{take-length}
use Rattle.std.specs.declared.string.String.{String}
use denote.Ref.{Bor}
use Rattle.zetcd_cmd.specs.Outcomes.{IsWord}
use Rattle.zetcd_cmd.specs.Proxying.{IsServe}
use Rattle.zetcd_cmd.specs.Serving.{IsEtcd, limit_in}
use Rattle.zetcd_cmd.specs.Stressing.{IsStress, count_in, max_connections, max_steps, number_in}
use Rattle.zetcd.specs.Arguments.{IsProxying, IsServeWords, IsStressing, arguments}

abbrev pub texts : List (Bor (List ℕ)) → List (List ℕ)
texts words = map (λ (w : Bor (List ℕ)). w.now) words

pub is_word-texts : (name : List ℕ) (words : List (Bor (List ℕ))) → texts words ≡ name ∷ [] → IsWord name words
is_word-texts name [] h = absurd cc
is_word-texts name (w ∷ []) h = cc
is_word-texts name (w ∷ v ∷ words) h = absurd cc

pub texts-is_word : (name : List ℕ) (words : List (Bor (List ℕ))) → IsWord name words → texts words ≡ name ∷ []
texts-is_word name [] h = absurd h
texts-is_word name (w ∷ []) h = ap (λ (t : List ℕ). t ∷ []) h
texts-is_word name (w ∷ v ∷ words) h = absurd h

-- the words after the first, if there is a first
pub arguments-after : {Z : Type 0} (words : List (String Z)) (n : ℕ) → n ≡ min (length words) 1 → map string_bytes (take (length words - n) (drop n words)) ≡ arguments words
arguments-after [] n h = rw h refl
arguments-after (w ∷ words) n h = rw (h ∙ one) (ap (map string_bytes) (whole ∙ take-length words))
  where
    one : min (suc (length words)) 1 ≡ 1
    one = omega arith

    whole : take (suc (length words) - 1) words ≡ take (length words) words
    whole = ap (λ n. take n words) (omega arith)

pub serving-etcd : (words : List (Bor (List ℕ))) (listen : List ℕ) (limit : ℕ) → IsServeWords (texts words) listen limit → IsEtcd words listen limit
serving-etcd [] listen limit is = absurd cc
serving-etcd (w ∷ []) listen limit is = absurd cc
serving-etcd (w ∷ v ∷ []) listen limit is = absurd cc
serving-etcd (w ∷ v ∷ u ∷ []) listen limit is =
    let same : w.now ∷ (v.now ∷ (u.now ∷ [])) ≡ codes "etcd" ∷ (listen ∷ (is.0 ∷ [])) = is.1 in
    let third : u.now ≡ is.0 = cc in
    (cc, cc, is.2, ap limit_in third ∙ is.3)
serving-etcd (w ∷ v ∷ u ∷ t ∷ words) listen limit is = absurd cc

pub etcd-serving : (words : List (Bor (List ℕ))) (listen : List ℕ) (limit : ℕ) → IsEtcd words listen limit → IsServeWords (texts words) listen limit
etcd-serving [] listen limit is = absurd is
etcd-serving (w ∷ []) listen limit is = absurd is
etcd-serving (w ∷ v ∷ []) listen limit is = absurd is
etcd-serving (w ∷ v ∷ u ∷ []) listen limit is =
    (u.now, ap (λ (t : List ℕ). t ∷ (v.now ∷ (u.now ∷ []))) is.0 ∙ ap (λ (t : List ℕ). codes "etcd" ∷ (t ∷ (u.now ∷ []))) is.1, is.2, is.3)
etcd-serving (w ∷ v ∷ u ∷ t ∷ words) listen limit is = absurd is

pub proxying-serve : (words : List (Bor (List ℕ))) (listen endpoint : List ℕ) (limit : ℕ) → IsProxying (texts words) listen endpoint limit → IsServe words listen endpoint limit
proxying-serve [] listen endpoint limit is = absurd cc
proxying-serve (w ∷ []) listen endpoint limit is = absurd cc
proxying-serve (w ∷ v ∷ []) listen endpoint limit is = absurd cc
proxying-serve (w ∷ v ∷ u ∷ []) listen endpoint limit is = absurd cc
proxying-serve (w ∷ v ∷ u ∷ t ∷ []) listen endpoint limit is =
    let same : w.now ∷ (v.now ∷ (u.now ∷ (t.now ∷ []))) ≡ codes "serve" ∷ (listen ∷ (endpoint ∷ (is.0 ∷ []))) = is.1 in
    let fourth : t.now ≡ is.0 = cc in
    (cc, cc, is.2, cc, is.3, ap limit_in fourth ∙ is.4)
proxying-serve (w ∷ v ∷ u ∷ t ∷ s ∷ words) listen endpoint limit is = absurd cc

pub serve-proxying : (words : List (Bor (List ℕ))) (listen endpoint : List ℕ) (limit : ℕ) → IsServe words listen endpoint limit → IsProxying (texts words) listen endpoint limit
serve-proxying [] listen endpoint limit is = absurd is
serve-proxying (w ∷ []) listen endpoint limit is = absurd is
serve-proxying (w ∷ v ∷ []) listen endpoint limit is = absurd is
serve-proxying (w ∷ v ∷ u ∷ []) listen endpoint limit is = absurd is
serve-proxying (w ∷ v ∷ u ∷ t ∷ []) listen endpoint limit is = (
  t.now,
  ap (λ (x : List ℕ). x ∷ (v.now ∷ (u.now ∷ (t.now ∷ [])))) is.0 ∙ ap (λ (x : List ℕ). codes "serve" ∷ (x ∷ (u.now ∷ (t.now ∷ [])))) is.1
      ∙ ap (λ (x : List ℕ). codes "serve" ∷ (listen ∷ (x ∷ (t.now ∷ [])))) is.3,
  is.2,
  is.4,
  is.5,
)
serve-proxying (w ∷ v ∷ u ∷ t ∷ s ∷ words) listen endpoint limit is = absurd is

pub stressing-stress : (words : List (Bor (List ℕ))) (number connections steps : ℕ) → IsStressing (texts words) number connections steps → IsStress words number connections steps
stressing-stress [] number connections steps is = absurd cc
stressing-stress (w ∷ []) number connections steps is = absurd cc
stressing-stress (w ∷ v ∷ []) number connections steps is = absurd cc
stressing-stress (w ∷ v ∷ u ∷ []) number connections steps is = absurd cc
stressing-stress (w ∷ v ∷ u ∷ t ∷ []) number connections steps is =
    let same : w.now ∷ (v.now ∷ (u.now ∷ (t.now ∷ []))) ≡ codes "stress" ∷ (is.0 ∷ (is.1 ∷ (is.2 ∷ []))) = is.3 in
    let second : v.now ≡ is.0 = cc in
    let third : u.now ≡ is.1 = cc in
    let fourth : t.now ≡ is.2 = cc in
    (cc, ap number_in second ∙ is.4, ap (count_in max_connections) third ∙ is.5, ap (count_in max_steps) fourth ∙ is.6)
stressing-stress (w ∷ v ∷ u ∷ t ∷ s ∷ words) number connections steps is = absurd cc

pub stress-stressing : (words : List (Bor (List ℕ))) (number connections steps : ℕ) → IsStress words number connections steps → IsStressing (texts words) number connections steps
stress-stressing [] number connections steps is = absurd is
stress-stressing (w ∷ []) number connections steps is = absurd is
stress-stressing (w ∷ v ∷ []) number connections steps is = absurd is
stress-stressing (w ∷ v ∷ u ∷ []) number connections steps is = absurd is
stress-stressing (w ∷ v ∷ u ∷ t ∷ []) number connections steps is =
    (v.now, u.now, t.now, ap (λ (x : List ℕ). x ∷ (v.now ∷ (u.now ∷ (t.now ∷ [])))) is.0, is.1, is.2, is.3)
stress-stressing (w ∷ v ∷ u ∷ t ∷ s ∷ words) number connections steps is = absurd is
