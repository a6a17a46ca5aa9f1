-- Operations one after another: what the first ones did and what the others will do are together what all do.
use Rattle.std.proofs.Common.{◌≡◌, not, true, false, ℤ, pos, ◌+ℤ◌, List, [], ◌∷◌, ◌++◌, Option, Some, None, refl, sym, ap, ◌∙◌, append_assoc, append-nil}
use Rattle.std.specs.List.{list_any}
use Rattle.std.proofs.lemmas.List.Folds.{list_any-append}
use Rattle.std.specs.FinMap.{get}
use Rattle.zx_base.specs.Maps.{Bytes, same}
use Rattle.ev_types.specs.declared.ask.Act.{Act}
use Rattle.ev_types.specs.declared.ask.Act.TheVariants.{Put, Delete, Range}
use Rattle.ev_types.specs.declared.answer.ActAns.{ActAns}
use Rattle.ev_types.specs.declared.answer.Kv.{Kv}
use Rattle.ev_types.specs.Ranges.{Keys}
use Rattle.ev_types.specs.Store.{Store, Change, Puts, Removes, Done, key_removal, one_act, then_done, acts_from, after_changes, changed, worked, present, revision}
use Rattle.ev_types.specs.Denials.{writes, puts, writes_twice}
use Rattle.ev_store.specs.Changes.{put_keys, are_distinct}
use Rattle.std.proofs.lemmas.Bool.{not_from_false, not-true, or_parts, or_from, and_parts, and_from}

pub after_changes-append : (r : ℤ) (m : Keys) (cs ds : List Change) → after_changes r m (cs ++ ds) ≡ after_changes r (after_changes r m cs) ds
after_changes-append r m [] ds = refl
after_changes-append r m (c ∷ cs) ds = after_changes-append r (changed r m c) cs ds

-- what was done so far, and what the operations that are left will do
abbrev pub done_with : Store → ℤ → Keys → List Change → List ActAns → List Act → Done
done_with s r m cs ps acts = then_done (record { changes = cs; parts = ps }) (acts_from s r (after_changes r m cs) acts)

done_more : (s : Store) (r : ℤ) (m : Keys) (cs : List Change) (ps : List ActAns) (a : Act) (acts : List Act) →
    done_with s r m cs ps (a ∷ acts)
    ≡ done_with s r m (cs ++ (one_act s (after_changes r m cs) a).changes) (ps ++ (one_act s (after_changes r m cs) a).parts) acts
done_more s r m cs ps a acts =
    let here = one_act s (after_changes r m cs) a in
    let later = acts_from s r (after_changes r (after_changes r m cs) here.changes) acts in
    let regrouped : then_done (record { changes = cs; parts = ps }) (then_done here later) ≡ then_done (record { changes = cs ++ here.changes; parts = ps ++ here.parts }) later =
    λ i. record { changes = sym (append_assoc cs here.changes later.changes) i; parts = sym (append_assoc ps here.parts later.parts) i } in
    regrouped ∙ ap (λ n. then_done (record { changes = cs ++ here.changes; parts = ps ++ here.parts }) (acts_from s r n acts)) (sym (after_changes-append r m cs here.changes))

-- a step of the loop over the operations
pub done_step : (s : Store) (r : ℤ) (m : Keys) (total : Done) (cs cs' : List Change) (ps ps' : List ActAns) (a : Act) (part : ActAns) (all acts : List Act) →
    all ≡ a ∷ acts → cs' ≡ cs ++ (one_act s (after_changes r m cs) a).changes → (one_act s (after_changes r m cs) a).parts ≡ part ∷ [] → ps' ≡ ps ++ part ∷ [] →
    done_with s r m cs ps all ≡ total → done_with s r m cs' ps' acts ≡ total
done_step s r m total cs cs' ps ps' a part all acts front changes answer parts so_far =
    ap (λ ds. done_with s r m ds ps' acts) changes
    ∙ ap (λ qs. done_with s r m (cs ++ (one_act s (after_changes r m cs) a).changes) qs acts) (parts ∙ ap (λ q. ps ++ q) (sym answer))
    ∙ sym (done_more s r m cs ps a acts)
    ∙ ap (λ xs. done_with s r m cs ps xs) (sym front) ∙ so_far

done-end : (d : Done) → then_done d (record { changes = []; parts = [] }) ≡ d
done-end d = λ i. record { changes = append-nil d.changes i; parts = append-nil d.parts i }

pub done_all : (s : Store) (cs : List Change) (ps : List ActAns) (acts : List Act) → acts ≡ [] → (total : List Act) →
    done_with s (revision s +ℤ pos 1) (present s) cs ps acts ≡ acts_from s (revision s +ℤ pos 1) (present s) total → record { changes = cs; parts = ps } ≡ worked s total
unfolding worked
done_all s cs ps acts none total whole =
    sym (done-end (record { changes = cs; parts = ps })) ∙ ap (λ xs. done_with s (revision s +ℤ pos 1) (present s) cs ps xs) (sym none) ∙ whole

-- ---- keys put once

-- the keys that a list of operations puts
abbrev pub act_keys : List Act → List Bytes
act_keys [] = []
act_keys (Put k v lease ∷ acts) = k ∷ act_keys acts
act_keys (Delete k ∷ acts) = act_keys acts
act_keys (Range q ∷ acts) = act_keys acts

put_keys-append : (cs ds : List Change) → put_keys (cs ++ ds) ≡ put_keys cs ++ put_keys ds
put_keys-append [] ds = refl
put_keys-append (Puts k v lease ∷ cs) ds = ap (λ ks. k ∷ ks) (put_keys-append cs ds)
put_keys-append (Removes k ∷ cs) ds = put_keys-append cs ds

abbrev pub own_keys : Act → List Bytes
own_keys (Put k v lease) = k ∷ []
own_keys (Delete k) = []
own_keys (Range q) = []

removal-keys : (k : Bytes) (o : Option Kv) → put_keys (key_removal k o).changes ≡ []
removal-keys k None = refl
removal-keys k (Some kv) = refl

one_act-keys : (s : Store) (m : Keys) (a : Act) → put_keys (one_act s m a).changes ≡ own_keys a
one_act-keys s m (Put k v lease) = refl
one_act-keys s m (Delete k) = removal-keys k (get m k)
one_act-keys s m (Range q) = refl

act_keys-cons : (a : Act) (acts : List Act) → act_keys (a ∷ acts) ≡ own_keys a ++ act_keys acts
act_keys-cons (Put k v lease) acts = refl
act_keys-cons (Delete k) acts = refl
act_keys-cons (Range q) acts = refl

-- where no key is put twice, so far and by the operations that are left, a step of the loop keeps that so
pub keys_step : (s : Store) (m : Keys) (cs cs' : List Change) (a : Act) (all acts : List Act) → all ≡ a ∷ acts → cs' ≡ cs ++ (one_act s m a).changes →
    are_distinct (put_keys cs ++ act_keys all) ≡ true → are_distinct (put_keys cs' ++ act_keys acts) ≡ true
keys_step s m cs cs' a all acts front changes h =
    ap (λ ds. are_distinct (put_keys ds ++ act_keys acts)) changes
    ∙ ap (λ ks. are_distinct (ks ++ act_keys acts)) (put_keys-append cs (one_act s m a).changes ∙ ap (λ ks. put_keys cs ++ ks) (one_act-keys s m a))
    ∙ ap are_distinct (append_assoc (put_keys cs) (own_keys a) (act_keys acts) ∙ ap (λ ks. put_keys cs ++ ks) (sym (act_keys-cons a acts)))
    ∙ ap (λ xs. are_distinct (put_keys cs ++ act_keys xs)) (sym front) ∙ h

any-front : (k : Bytes) (ks ls : List Bytes) → list_any (same k) (ks ++ ls) ≡ false → list_any (same k) ks ≡ false
any-front k ks ls h = (or_parts _ _ (sym (list_any-append (same k) ks ls) ∙ h)).0

pub distinct-front : (ks ls : List Bytes) → are_distinct (ks ++ ls) ≡ true → are_distinct ks ≡ true
distinct-front [] ls h = refl
distinct-front (k ∷ ks) ls h =
    and_from (not (list_any (same k) ks)) (are_distinct ks) (not_from_false _ (any-front k ks ls (not-true _ (and_parts _ _ h).0))) (distinct-front ks ls (and_parts _ _ h).1)

not_put : (k : Bytes) (acts : List Act) → list_any (writes k) acts ≡ false → list_any (same k) (act_keys acts) ≡ false
not_put k [] h = refl
not_put k (Put x v lease ∷ acts) h = or_from (same k x) (list_any (same k) (act_keys acts)) (or_parts _ _ h).0 (not_put k acts (or_parts _ _ h).1)
not_put k (Delete x ∷ acts) h = not_put k acts (or_parts (same k x) (list_any (writes k) acts) h).1
not_put k (Range q ∷ acts) h = not_put k acts h

pub distinct-acts : (acts : List Act) → writes_twice acts ≡ false → are_distinct (act_keys acts) ≡ true
distinct-acts [] h = refl
distinct-acts (Put k v lease ∷ acts) h =
    and_from (not (list_any (same k) (act_keys acts))) (are_distinct (act_keys acts)) (not_from_false _ (not_put k acts (or_parts _ _ h).0)) (distinct-acts acts (or_parts _ _ h).1)
distinct-acts (Delete k ∷ acts) h = distinct-acts acts (or_parts (list_any (puts k) acts) (writes_twice acts) h).1
distinct-acts (Range q ∷ acts) h = distinct-acts acts h
