-- How many bytes the lists of sessions' nodes have that are written: each session's list once.
use Rattle.std.proofs.Common.{Ordering, ◌≡◌, ℕ, ℤ, pos, ◌+◌, ◌*◌, ◌≤◌, Bool, true, false, cond, length, List, [], ◌∷◌, Option, Some, None, refl, sym, ap, ◌∙◌, subst, inl, inr, ⊎_elim, arith}
use Rattle.std.proofs.lemmas.Bool.{true≢false, or_parts}
use Rattle.std.specs.Prelude.{fold, if◌then◌else◌}
use Rattle.std.specs.BTreeSet.{insert_key}
use Rattle.std.specs.FinMap.{int_cmp-IsAntisymmetric}
use Rattle.std.specs.List.{list_any, sum_by}
use Rattle.std.specs.Option.{option_to_list}
use Rattle.std.specs.Ordering.{int_cmp, int_eq}
use Rattle.std.specs.declared.cmp.Ordering.TheVariants.{Less, Equal, Greater}
use Rattle.std.proofs.lemmas.Bool.Decides.{Decides-int_eq}
use Rattle.std.proofs.lemmas.List.{length-append}
use Rattle.std.proofs.lemmas.List.Concat.{length-flat_map}
use Rattle.std.proofs.lemmas.List.Sums.{sum_by-cons}
use Rattle.zk_jute.proofs.Lengths.{length-string_bytes, length-vector_bytes}
use Rattle.zk_jute.specs.JuteWriting.{string_bytes}
use Rattle.zk_model.specs.declared.request.Part.{Part}
use Rattle.zx_base.specs.Maps.{Bytes}
use Rattle.zn_layout.specs.declared.record.SessionRec.{SessionRec}
use Rattle.zn_layout.specs.Changes.{KeyChange, Put, are_distinct, last, put_or_else, writes_key}
use Rattle.zn_layout.specs.Keys.{Key, HeadKey, DataKey, CountsKey, SessionKey, LeaseKey, same_key}
use Rattle.zn_layout.specs.Records.{session_value}
use Rattle.zn_layout.proofs.Keys.{same_key-refl}
use Rattle.zn_view.specs.declared.plan.Who.{Who}
use Rattle.zn_view.specs.Seen.{View}
use Rattle.zn_view.proofs.Members.{In}
use Rattle.zn_multi.specs.Carrying.{Runs}
use Rattle.zn_multi.specs.declared.carrying.Carried.TheVariants.{Stopped, Passed}
use Rattle.zn_multi.specs.declared.carrying.Progress.{Progress}
use Rattle.zn_multi.proofs.Laid.{rest_distinct, unwritten}

-- ---- the bytes of a list of paths

strings-size : (ps : List Bytes) → sum_by (λ (p : Bytes). length (string_bytes p)) ps ≡ 4 * length ps + sum_by length ps
strings-size [] = refl
strings-size (p ∷ ps) = let h = strings-size ps in omega (arith, h, sum_by-cons (λ (q : Bytes). length (string_bytes q)) p ps, sum_by-cons length p ps, length-string_bytes p)

pub nodes-size : (r : SessionRec) → length (session_value r) ≡ 5 + (4 * length r.paths + sum_by length r.paths)
unfolding session_value
nodes-size r = omega (arith, length-vector_bytes string_bytes r.paths, length-flat_map string_bytes r.paths, strings-size r.paths)

-- ---- the sessions that are counted

some_more : (o : Option ℤ) → length (option_to_list o) ≤ 1
some_more None = omega arith
some_more (Some x) = omega arith

not_stopped : (a : Progress) (k : ℕ) (code : ℤ) → Passed a ≡ Stopped k code → ⊥
not_stopped a k code e = cc

passed_is : (a b : Progress) → Passed a ≡ Passed b → a ≡ b
passed_is a b e = cc

pub touched-few : (who : Who) (now : ℕ) (v : View) (ps : List Part) (old new : Progress) (place : ℕ) → Runs who now v old place ps (Passed new) → length new.touched ≤ length old.touched + length ps
touched-few who now v [] old new place run = subst (λ (p : Progress). length p.touched ≤ length old.touched + 0) (sym (passed_is new old run)) (omega arith)
touched-few who now v (p ∷ ps) old new place (Stopped k code, one, rest) = absurd (not_stopped new k code rest)
touched-few who now v (p ∷ ps) old new place (Passed mid, one, rest) =
    let later = touched-few who now v ps mid new (place + 1) rest in
    let here = ap (λ (l : List ℤ). length l) one.touched ∙ length-append old.touched (option_to_list one.owner) in
    omega (arith, later, here, some_more one.owner)

insert-few : (ss : List ℤ) (k : ℤ) → length (insert_key int_cmp ss k) ≤ length ss + 1
insert-few [] k = omega arith
insert-few (x ∷ xs) k = at (insert-few xs k) (int_cmp k x) refl
  where
    at : length (insert_key int_cmp xs k) ≤ length xs + 1 → (o : Ordering) → int_cmp k x ≡ o → length (insert_key int_cmp (x ∷ xs) k) ≤ length (x ∷ xs) + 1
    at h Less e = rw e (omega arith)
    at h Equal e = rw e (omega arith)
    at h Greater e = rw e (omega (arith, h))

pub distinct-few : (ss before : List ℤ) → length (fold (insert_key int_cmp) before ss) ≤ length before + length ss
distinct-few [] before = omega arith
distinct-few (s ∷ ss) before = let rest = distinct-few ss (insert_key int_cmp before s) in let one = insert-few before s in omega (arith, rest, one)

insert-has : (ss : List ℤ) (k : ℤ) → In k (insert_key int_cmp ss k)
insert-has [] k = inl refl
insert-has (x ∷ xs) k = at (insert-has xs k) (int_cmp k x) refl
  where
    at : In k (insert_key int_cmp xs k) → (o : Ordering) → int_cmp k x ≡ o → In k (insert_key int_cmp (x ∷ xs) k)
    at h Less e = rw e (inl refl)
    at h Equal e = rw e (inl (sym (int_cmp-IsAntisymmetric k x e)))
    at h Greater e = rw e (inr h)

insert-keeps : (ss : List ℤ) (k o : ℤ) → In o ss → In o (insert_key int_cmp ss k)
insert-keeps [] k o bad = absurd bad
insert-keeps (x ∷ xs) k o i = at (insert-keeps xs k o) (int_cmp k x) refl i
  where
    at : (In o xs → In o (insert_key int_cmp xs k)) → (c : Ordering) → int_cmp k x ≡ c → In o (x ∷ xs) → In o (insert_key int_cmp (x ∷ xs) k)
    at h Less e j = rw e (inr j)
    at h Equal e j = rw e j
    at h Greater e (inl same) = rw e (inl same)
    at h Greater e (inr j) = rw e (inr (h j))

fold-keeps : (ss before : List ℤ) (o : ℤ) → In o before → In o (fold (insert_key int_cmp) before ss)
fold-keeps [] before o i = i
fold-keeps (s ∷ ss) before o i = fold-keeps ss (insert_key int_cmp before s) o (insert-keeps before s o i)

pub distinct-has : (ss before : List ℤ) (o : ℤ) → In o ss → In o (fold (insert_key int_cmp) before ss)
distinct-has [] before o bad = absurd bad
distinct-has (s ∷ ss) before o (inl e) = fold-keeps ss (insert_key int_cmp before s) o (subst (λ (k : ℤ). In k (insert_key int_cmp before s)) e (insert-has before s))
distinct-has (s ∷ ss) before o (inr i) = distinct-has ss (insert_key int_cmp before s) o i

-- ---- what is written of sessions

abbrev pub at_session : (ℕ → ℕ) → Key → ℕ
at_session f (SessionKey n) = f n
at_session f HeadKey = 0
at_session f (DataKey p) = 0
at_session f (CountsKey p) = 0
at_session f (LeaseKey n) = 0

abbrev pub of_session : (ℕ → ℕ) → KeyChange → ℕ
of_session f c = at_session f c.key

-- the last change of a key is the one that stands there
pub last-is : (ws : List KeyChange) (c : KeyChange) → are_distinct ws ≡ true → In c ws → last ws c.key ≡ Some c.put
last-is [] c once bad = absurd bad
last-is (w ∷ ws) c once (inl e) = subst (λ (d : KeyChange). last (w ∷ ws) d.key ≡ Some d.put) e
    (λ i. put_or_else (unwritten w.key ws (rest_distinct w ws once).0 i) (cond (same_key-refl w.key i) (Some w.put) None))
last-is (w ∷ ws) c once (inr i) = ap (λ (o : Option (Option Put)). put_or_else o (cond (same_key c.key w.key) (Some w.put) None)) (last-is ws c (rest_distinct w ws once).1 i)

-- one of several is taken out
take_out : (f : ℤ → ℕ) (o : ℤ) (os : List ℤ) → In o os → (rest : List ℤ) × (sum_by f os ≡ f o + sum_by f rest) × ((q : ℤ) → In q os → (q ≡ o → ⊥) → In q rest)
take_out f o [] bad = absurd bad
take_out f o (x ∷ xs) (inl e) = (xs, sum_by-cons f x xs ∙ ap (λ (k : ℤ). f k + sum_by f xs) e, λ q i apart. ⊎_elim (λ same. absurd (apart (sym same ∙ e))) (λ j. j) i)
take_out f o (x ∷ xs) (inr i) =
    let rest = take_out f o xs i in
    let sum = rest.1 in
    (x ∷ rest.0, omega (arith, sum, sum_by-cons f x xs, sum_by-cons f x rest.0), λ q j apart. ⊎_elim (λ same. inl same) (λ k. inr (rest.2 q k apart)) j)

writes_other : (n m : ℕ) (k : Key) (ws : List KeyChange) → list_any (writes_key (SessionKey n)) ws ≡ false → (c : KeyChange) → In c ws → c.key ≡ SessionKey m → m ≡ n → ⊥
writes_other n m k [] h c bad e same = bad
writes_other n m k (w ∷ ws) h c i e same = ⊎_elim
    (λ is. true≢false (sym (ap (λ (x : Key). same_key (SessionKey n) x) (ap (λ (d : KeyChange). d.key) is ∙ e ∙ ap SessionKey same) ∙ same_key-refl (SessionKey n)) ∙ (or_parts (writes_key (SessionKey n) w) _ h).0))
    (λ j. writes_other n m k ws (or_parts (writes_key (SessionKey n) w) _ h).1 c j e same)
    i

pub sessions-within : (f : ℤ → ℕ) (ws : List KeyChange) (os : List ℤ) → are_distinct ws ≡ true → ((c : KeyChange) (n : ℕ) → In c ws → c.key ≡ SessionKey n → In (pos n) os) → sum_by (of_session (λ n. f (pos n))) ws ≤ sum_by f os
sessions-within f [] os once inside = omega arith
sessions-within f (w ∷ ws) os once inside = at (sessions-within f ws) w.key refl
  where
    rest : (list_any (writes_key w.key) ws ≡ false) × (are_distinct ws ≡ true)
    rest = rest_distinct w ws once

    plain : ((ps : List ℤ) → are_distinct ws ≡ true → ((c : KeyChange) (n : ℕ) → In c ws → c.key ≡ SessionKey n → In (pos n) ps) → sum_by (of_session (λ n. f (pos n))) ws ≤ sum_by f ps) → at_session (λ n. f (pos n)) w.key ≡ 0 → sum_by (of_session (λ n. f (pos n))) (w ∷ ws) ≤ sum_by f os
    plain within e = let h = within os rest.1 (λ c n i k. inside c n (inr i) k) in omega (arith, h, e, sum_by-cons (of_session (λ n. f (pos n))) w ws)

    apart_pos : (m n : ℕ) → pos m ≡ pos n → m ≡ n
    apart_pos m n e = cc

    at : ((ps : List ℤ) → are_distinct ws ≡ true → ((c : KeyChange) (n : ℕ) → In c ws → c.key ≡ SessionKey n → In (pos n) ps) → sum_by (of_session (λ n. f (pos n))) ws ≤ sum_by f ps) → (k : Key) → w.key ≡ k → sum_by (of_session (λ n. f (pos n))) (w ∷ ws) ≤ sum_by f os
    at within HeadKey e = plain within (ap (at_session (λ n. f (pos n))) e)
    at within (DataKey p) e = plain within (ap (at_session (λ n. f (pos n))) e)
    at within (CountsKey p) e = plain within (ap (at_session (λ n. f (pos n))) e)
    at within (LeaseKey n) e = plain within (ap (at_session (λ n. f (pos n))) e)
    at within (SessionKey n) e =
        let out = take_out f (pos n) os (inside w n (inl refl) e) in
        let later = within out.0 rest.1 (λ c m i k. out.2 (pos m) (inside c m (inr i) k) (λ same. writes_other n m w.key ws (subst (λ (x : Key). list_any (writes_key x) ws ≡ false) e rest.0) c i k (apart_pos m n same))) in
        let sum = out.1 in
        let here : at_session (λ k. f (pos k)) w.key ≡ f (pos n) = ap (at_session (λ k. f (pos k))) e in
        omega (arith, later, sum, here, sum_by-cons (of_session (λ k. f (pos k))) w ws)

-- what counts for one session alone counts once
none_more : (id : ℤ) (most : ℕ) (n : ℕ) (ws : List KeyChange) → id ≡ pos n → list_any (writes_key (SessionKey n)) ws ≡ false → sum_by (of_session (λ k. if int_eq id (pos k) then most else 0)) ws ≡ 0
none_more id most n [] is h = refl
none_more id most n (w ∷ ws) is h = let rest = none_more id most n ws is (or_parts (writes_key (SessionKey n) w) _ h).1 in let here = zero w.key refl in omega (arith, rest, here, sum_by-cons (of_session (λ k. if int_eq id (pos k) then most else 0)) w ws)
  where
    pos_is : (m k : ℕ) → pos m ≡ pos k → m ≡ k
    pos_is m k e = cc

    other : (m : ℕ) → w.key ≡ SessionKey m → (b : Bool) → int_eq id (pos m) ≡ b → (if b then most else 0) ≡ 0
    other m e false f = refl
    other m e true f =
        let same : m ≡ n = pos_is m n (sym ((Decides-int_eq id (pos m)).0 f) ∙ is) in
        absurd (true≢false (sym (ap (λ (x : Key). same_key (SessionKey n) x) (e ∙ ap SessionKey same) ∙ same_key-refl (SessionKey n)) ∙ (or_parts (writes_key (SessionKey n) w) _ h).0))

    zero : (k : Key) → w.key ≡ k → at_session (λ k. if int_eq id (pos k) then most else 0) w.key ≡ 0
    zero HeadKey e = ap (at_session (λ k. if int_eq id (pos k) then most else 0)) e
    zero (DataKey p) e = ap (at_session (λ k. if int_eq id (pos k) then most else 0)) e
    zero (CountsKey p) e = ap (at_session (λ k. if int_eq id (pos k) then most else 0)) e
    zero (LeaseKey m) e = ap (at_session (λ k. if int_eq id (pos k) then most else 0)) e
    zero (SessionKey m) e = ap (at_session (λ k. if int_eq id (pos k) then most else 0)) e ∙ other m e (int_eq id (pos m)) refl

pub once-counted : (id : ℤ) (most : ℕ) (ws : List KeyChange) → are_distinct ws ≡ true → sum_by (of_session (λ k. if int_eq id (pos k) then most else 0)) ws ≤ most
once-counted id most [] once = omega arith
once-counted id most (w ∷ ws) once = at (once-counted id most ws (rest_distinct w ws once).1) w.key refl
  where
    rest : (list_any (writes_key w.key) ws ≡ false) × (are_distinct ws ≡ true)
    rest = rest_distinct w ws once

    plain : sum_by (of_session (λ k. if int_eq id (pos k) then most else 0)) ws ≤ most → at_session (λ k. if int_eq id (pos k) then most else 0) w.key ≡ 0 → sum_by (of_session (λ k. if int_eq id (pos k) then most else 0)) (w ∷ ws) ≤ most
    plain h e = omega (arith, h, e, sum_by-cons (of_session (λ k. if int_eq id (pos k) then most else 0)) w ws)

    by_id : sum_by (of_session (λ k. if int_eq id (pos k) then most else 0)) ws ≤ most → (n : ℕ) → w.key ≡ SessionKey n → (b : Bool) → int_eq id (pos n) ≡ b → sum_by (of_session (λ k. if int_eq id (pos k) then most else 0)) (w ∷ ws) ≤ most
    by_id h n e false f = plain h (ap (at_session (λ k. if int_eq id (pos k) then most else 0)) e ∙ ap (λ b. if b then most else 0) f)
    by_id h n e true f =
        let here : at_session (λ k. if int_eq id (pos k) then most else 0) w.key ≡ most = ap (at_session (λ k. if int_eq id (pos k) then most else 0)) e ∙ ap (λ b. if b then most else 0) f in
        let none = none_more id most n ws ((Decides-int_eq id (pos n)).0 f) (subst (λ (x : Key). list_any (writes_key x) ws ≡ false) e rest.0) in
        omega (arith, here, none, sum_by-cons (of_session (λ k. if int_eq id (pos k) then most else 0)) w ws)

    at : sum_by (of_session (λ k. if int_eq id (pos k) then most else 0)) ws ≤ most → (k : Key) → w.key ≡ k → sum_by (of_session (λ k. if int_eq id (pos k) then most else 0)) (w ∷ ws) ≤ most
    at h HeadKey e = plain h (ap (at_session (λ k. if int_eq id (pos k) then most else 0)) e)
    at h (DataKey p) e = plain h (ap (at_session (λ k. if int_eq id (pos k) then most else 0)) e)
    at h (CountsKey p) e = plain h (ap (at_session (λ k. if int_eq id (pos k) then most else 0)) e)
    at h (LeaseKey n) e = plain h (ap (at_session (λ k. if int_eq id (pos k) then most else 0)) e)
    at h (SessionKey n) e = by_id h n e (int_eq id (pos n)) refl
