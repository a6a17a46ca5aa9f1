-- The keys of a store that grew.
use Rattle.std.proofs.Common.{◌≡◌, ℕ, suc, ◌+◌, ◌≤◌, pos, ◌+ℤ◌, List, [], ◌∷◌, ◌++◌, length, refl, sym, ap, ◌∙◌, arith}
use Rattle.std.specs.FinMap.{empty}
use Rattle.std.proofs.lemmas.List.{take_all, take-append-le, length-append}
use Rattle.ev_types.specs.Ranges.{Keys}
use Rattle.ev_types.specs.Store.{Store, Change, revision, after_changes, keys_from, store_at, present, grown}

pub keys_from-append : (r : ℕ) (m : Keys) (xs ys : List (List Change)) → keys_from r m (xs ++ ys) ≡ keys_from (r + length xs) (keys_from r m xs) ys
keys_from-append r m [] ys = ap (λ n. keys_from n m ys) (let e : r ≡ r + 0 = omega arith in e)
keys_from-append r m (x ∷ xs) ys =
    keys_from-append (r + 1) (after_changes (pos r) m x) xs ys
    ∙ ap (λ n. keys_from n (keys_from (r + 1) (after_changes (pos r) m x) xs) ys) (let e : r + 1 + length xs ≡ r + suc (length xs) = omega arith in e)

pub present-is : (s : Store) → present s ≡ keys_from 1 empty s.revisions
unfolding store_at
present-is s = ap (keys_from 1 empty) (take_all (length s.revisions) s.revisions (omega arith))

keys_more : (revs : List (List Change)) (cs : List Change) → keys_from 1 empty (revs ++ cs ∷ []) ≡ after_changes (pos (length revs) +ℤ pos 1) (keys_from 1 empty revs) cs
keys_more revs cs = keys_from-append 1 empty revs (cs ∷ []) ∙ ap (λ n. after_changes (pos n) (keys_from 1 empty revs) cs) (let e : 1 + length revs ≡ length revs + 1 = omega arith in e)

pub present-grown : (s : Store) (cs : List Change) → present (grown s cs) ≡ after_changes (revision s +ℤ pos 1) (present s) cs
present-grown s [] = refl
present-grown s (c ∷ cs) =
    present-is (grown s (c ∷ cs)) ∙ keys_more s.revisions (c ∷ cs) ∙ ap (λ (m : Keys). after_changes (revision s +ℤ pos 1) m (c ∷ cs)) (sym (present-is s))

-- a store that grew has the keys of each earlier revision as they were
pub earlier-grown : (s : Store) (cs : List Change) (r : ℕ) → r ≤ length s.revisions → store_at (grown s cs) r ≡ store_at s r
unfolding store_at
earlier-grown s [] r le = refl
earlier-grown s (c ∷ cs) r le = ap (keys_from 1 empty) (take-append-le r s.revisions ((c ∷ cs) ∷ []) le)

pub revision-grown : (s : Store) (c : Change) (cs : List Change) → revision (grown s (c ∷ cs)) ≡ revision s +ℤ pos 1
revision-grown s c cs = ap pos (length-append s.revisions ((c ∷ cs) ∷ []))
