-- What a setWatches put into a set, and taking it out again.
use Rattle.std.proofs.Common.{◌≡◌, ◌≢◌, ℕ, ◌+◌, ◌<◌, length, get_or, drop, Bool, true, false, ◌||◌, cond, Option, Some, None, List, [], ◌∷◌, ◌++◌, refl, sym, ap, ◌∙◌, ⊎_elim, subst}
use Rattle.std.specs.Prelude.{is_some}
use Rattle.std.proofs.lemmas.List.{drop_more}
use Rattle.std.proofs.lemmas.List.Folds.{list_any-append}
use Rattle.std.proofs.Math.Bool.{or-false}
use Rattle.std.specs.FinMap.{get, insert, remove, contains_key}
use Rattle.zx_base.specs.Maps.{Bytes, same}
use Rattle.zx_base.proofs.MapLaws.{ext, either, same-refl, same-false, same-true, get-insert_other, get-remove_same, get-remove_other}
use Rattle.zk_model.specs.PathSets.{has}
use Rattle.zk_model.specs.Watches.{PathSet}
use Rattle.zw_watch.specs.Noted.{IsWithout}
use Rattle.zx_base.proofs.Booleans.{or-second}

absent : (o : Option (Unit {0})) → is_some o ≡ false → o ≡ None
absent None h = refl
absent (Some u) h = absurd cc

has-noted : (q path : Bytes) (noted : List Bytes) → has q (noted ++ path ∷ []) ≡ (has q noted || same path q)
has-noted q path noted = list_any-append (λ p. same p q) noted (path ∷ []) ∙ ap (λ b. has q noted || b) (or-false (same path q))

none_either : (b c : Bool) (o : Option (Unit {0})) → o ≡ None → cond b None o ≡ cond (b || c) None o
none_either true c o h = refl
none_either false true o h = h
none_either false false o h = refl

-- a path that is not there may be noted
pub without-noted : (now before : PathSet) (noted : List Bytes) (path : Bytes) → contains_key now path ≡ false → IsWithout now noted before → IsWithout now (noted ++ path ∷ []) before
without-noted now before noted path gone h q = h q ∙ go (same path q) refl ∙ ap (λ b. cond b None (get now q)) (sym (has-noted q path noted))
  where
    go : (b : Bool) → same path q ≡ b → cond (has q noted) None (get now q) ≡ cond (has q noted || same path q) None (get now q)
    go true e = none_either (has q noted) (same path q) (get now q) (ap (get now) (sym (same-true path q e)) ∙ absent (get now path) gone)
    go false e = ap (λ b. cond b None (get now q)) (sym (ap (λ b. has q noted || b) e ∙ or-false (has q noted)))

-- a path that is noted may be put in
pub without-inserted : (now before : PathSet) (noted : List Bytes) (path : Bytes) → IsWithout now (noted ++ path ∷ []) before → IsWithout (insert now path tt) (noted ++ path ∷ []) before
without-inserted now before noted path h q = ⊎_elim
    (λ (e : q ≡ path).
    let noted_there : has q (noted ++ path ∷ []) ≡ true = has-noted q path noted ∙ or-second (has q noted) (same path q) (ap (same path) e ∙ same-refl path) in
    h q ∙ ap (λ b. cond b None (get now q)) noted_there ∙ sym (ap (λ b. cond b None (get (insert now path tt) q)) noted_there))
    (λ (n : q ≢ path). h q ∙ ap (cond (has q (noted ++ path ∷ [])) None) (sym (get-insert_other now path q tt n)))
    (either q path)

-- the first of the noted paths is taken out
without-removed : (now before : PathSet) (path : Bytes) (rest : List Bytes) → IsWithout now (path ∷ rest) before → IsWithout (remove now path) rest before
without-removed now before path rest h q = ⊎_elim
    (λ (e : q ≡ path).
    let here : same path q ≡ true = ap (same path) e ∙ same-refl path in
    let gone : get (remove now path) q ≡ None = ap (get (remove now path)) e ∙ get-remove_same now path in
    h q ∙ ap (λ b. cond (b || has q rest) None (get now q)) here ∙ none_at (has q rest) (get (remove now path) q) gone)
    (λ (n : q ≢ path).
    h q ∙ ap (λ b. cond (b || has q rest) None (get now q)) (same-false path q (λ e. n (sym e))) ∙ ap (cond (has q rest) None) (sym (get-remove_other now path q n)))
    (either q path)
  where
    none_at : (b : Bool) (o : Option (Unit {0})) → o ≡ None → None ≡ cond b None o
    none_at true o h = refl
    none_at false o h = sym h

pub without-next : (now next before : PathSet) (noted : List Bytes) (i : ℕ) (path : Bytes) → i < length noted → path ≡ get_or noted i path → next ≡ remove now path →
    IsWithout now (drop i noted) before → IsWithout next (drop (i + 1) noted) before
without-next now next before noted i path within here is h =
    let front : drop i noted ≡ path ∷ drop (i + 1) noted = drop_more noted i path within ∙ ap (λ (p : Bytes). p ∷ drop (i + 1) noted) (sym here) in
    subst (λ (s : PathSet). IsWithout s (drop (i + 1) noted) before) (sym is)
    (without-removed now before path (drop (i + 1) noted) (subst (λ (ps : List Bytes). IsWithout now ps before) front h))

-- nothing is noted
pub without-none : (s : PathSet) → IsWithout s [] s
without-none s q = refl

pub without-all : (now before : PathSet) (noted : List Bytes) → noted ≡ [] → IsWithout now noted before → now ≡ before
without-all now before noted none h = ext now before (λ q. sym (h q ∙ ap (λ (ps : List Bytes). cond (has q ps) None (get now q)) none))
