-- What a transaction leaves of a store, by its operations alone.
use Rattle.std.proofs.Common.{◌≡◌, ℤ, pos, ◌+ℤ◌, true, List, [], ◌∷◌, ◌++◌, map, Some, None, refl, sym, ap, ◌∙◌, append_assoc}
use Rattle.std.specs.FinMap.{get, remove}
use Rattle.std.proofs.lemmas.List.Sums.{fold-append}
use Rattle.std.proofs.lemmas.Bool.{and_parts}
use Rattle.ev_types.specs.declared.answer.ActAns.TheVariants as part
use Rattle.ev_types.specs.declared.ask.RangeReq.{RangeReq}
use Rattle.ev_types.specs.declared.ask.Act.{Act}
use Rattle.ev_types.specs.declared.ask.Act.TheVariants as act
use Rattle.ev_types.specs.Ranges.{Keys, found}
use Rattle.ev_types.specs.Reads.{are_present_reads}
use Rattle.ev_types.specs.Store.{Store, Done, revision, changed, after_changes, present, looked_at, key_removal, one_act, then_done, acts_from, worked, grown, act_changes, acts_applied}
use Rattle.zx_base.proofs.MapLaws.{remove-absent}
use Rattle.ev_types.proofs.Grown.{present-grown}

-- ---- what operations change

one_act-changes : (s : Store) (r : ℤ) (m : Keys) (a : Act) → after_changes r m (one_act s m a).changes ≡ after_changes r m (act_changes a)
one_act-changes s r m (act.Put k v lease) = refl
one_act-changes s r m (act.Delete k) = elim (get m k) as (λ o. get m k ≡ o → after_changes r m (key_removal k o).changes ≡ remove m k) [
  | None ↦ λ e. sym (remove-absent m k e)
  | Some kv ↦ λ e. refl
] refl
one_act-changes s r m (act.Range q) = refl

acts_from-changes : (s : Store) (r : ℤ) (m : Keys) (acts : List Act) → after_changes r m (acts_from s r m acts).changes ≡ acts_applied r m acts
acts_from-changes s r m [] = refl
acts_from-changes s r m (a ∷ acts) =
    let first = (one_act s m a).changes in
    let left = after_changes r m first in
    fold-append (changed r) m first (acts_from s r left acts).changes
    ∙ acts_from-changes s r left acts
    ∙ ap (λ (n : Keys). acts_applied r n acts) (one_act-changes s r m a)

pub present-worked : (s : Store) (acts : List Act) → present (grown s (worked s acts).changes) ≡ acts_applied (revision s +ℤ pos 1) (present s) acts
unfolding worked
present-worked s acts = present-grown s _ ∙ acts_from-changes s (revision s +ℤ pos 1) (present s) acts

-- ---- one list of operations after another

then_done_assoc : (a b d : Done) → then_done (then_done a b) d ≡ then_done a (then_done b d)
then_done_assoc a b d i = record { changes = append_assoc a.changes b.changes d.changes i; parts = append_assoc a.parts b.parts d.parts i }

pub acts_from-append : (s : Store) (r : ℤ) (m : Keys) (xs ys : List Act) → acts_from s r m (xs ++ ys) ≡ then_done (acts_from s r m xs) (acts_from s r (acts_applied r m xs) ys)
acts_from-append s r m [] ys = refl
acts_from-append s r m (x ∷ xs) ys =
    let left = after_changes r m (one_act s m x).changes in
    ap (then_done (one_act s m x)) (acts_from-append s r left xs ys)
    ∙ sym (then_done_assoc (one_act s m x) (acts_from s r left xs) (acts_from s r (acts_applied r left xs) ys))
    ∙ ap (λ (n : Keys). then_done (then_done (one_act s m x) (acts_from s r left xs)) (acts_from s r (acts_applied r n xs) ys)) (one_act-changes s r m x)

-- ---- operations that only read

reads_from : (s : Store) (r : ℤ) (m : Keys) (qs : List RangeReq) → acts_from s r m (map act.Range qs) ≡ record { changes = []; parts = map (λ (q : RangeReq). part.Range (found q (looked_at s m q.revision))) qs }
reads_from s r m [] = refl
reads_from s r m (q ∷ qs) = ap (then_done (one_act s m (act.Range q))) (reads_from s r m qs)

-- operations that only read change nothing, and each answers what it finds
pub worked-reads : (s : Store) (qs : List RangeReq) → worked s (map act.Range qs) ≡ record { changes = []; parts = map (λ (q : RangeReq). part.Range (found q (looked_at s (present s) q.revision))) qs }
unfolding worked
worked-reads s qs = reads_from s (revision s +ℤ pos 1) (present s) qs

-- where the reads are of the present, this is known by a test
reads_unchanged : (s : Store) (r : ℤ) (m : Keys) (acts : List Act) → are_present_reads acts ≡ true → (acts_from s r m acts).changes ≡ []
reads_unchanged s r m [] h = refl
reads_unchanged s r m (act.Put k v lease ∷ acts) h = cc
reads_unchanged s r m (act.Delete k ∷ acts) h = cc
reads_unchanged s r m (act.Range q ∷ acts) h = reads_unchanged s r m acts (and_parts _ _ h).1

pub unchanged-reads : (s : Store) (acts : List Act) → are_present_reads acts ≡ true → (worked s acts).changes ≡ []
unfolding worked
unchanged-reads s acts h = reads_unchanged s (revision s +ℤ pos 1) (present s) acts h
