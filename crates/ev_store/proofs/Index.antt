-- A key's versions: what a look-up reads, and what a change adds.
use Rattle.std.proofs.Common.{◌≡◌, ℕ, zero, suc, ◌+◌, ◌-◌, ◌≤◌, ◌<◌, Bool, true, false, cond, ℤ, pos, List, [], ◌∷◌, ◌++◌, length, get_or, take, drop, Option, Some, None, refl, sym, ap, ◌∙◌, subst, inl, inr, arith}
use Rattle.std.specs.Prelude.{slice_get}
use Rattle.std.specs.Option.{unwrap_or}
use Rattle.std.specs.List.{filter}
use Rattle.std.proofs.lemmas.Bool.{cases_order}
use Rattle.std.proofs.lemmas.Bool.{le-leb, lt-leb}
use Rattle.std.proofs.lemmas.List.{take_more, take_all, take-append-le, take-append-drop, drop-take}
use Rattle.std.proofs.lemmas.List.Elements.{filter-append}
use Rattle.std.proofs.lemmas.List.Sorted.{IsNonDecreasingBy-push}
use Rattle.std.proofs.lemmas.Option.{slice_get_within, get_or_from_slice_get, slice_get-get_or}
use Rattle.std.specs.BTreeMap.{is_at}
use Rattle.std.specs.Ordering.{nat_cmp}
use Rattle.std.specs.Cmp.Lexicographic.{slice_cmp}
use Rattle.zx_base.specs.Maps.{Bytes, same}
use Rattle.zx_base.proofs.MapLaws.{same-true}
use Rattle.ev_types.proofs.Names.{names-tie}
use Rattle.ev_types.specs.declared.answer.Kv.{Kv}
use Rattle.ev_types.specs.declared.ask.RangeReq.{RangeReq}
use Rattle.ev_types.specs.Ranges.{is_within}
use Rattle.ev_types.specs.Store.{Change, Puts, Removes}
use Rattle.ev_store.specs.declared.versions.Version.{Version}
use Rattle.ev_store.specs.Changes.{key_of}
use Rattle.ev_store.specs.Folds.{kv_after_put, key_after_change, key_after_changes, key_after_revisions, within_revisions}
use Rattle.ev_store.specs.Versions.{state_of, state_after, last_state, is_up_to, state_at, AreInOrder, AreUpTo, AddsChange, StandFor, nth_changes, within_at}

-- ---- the last version

pub state_after-append : (k : Bytes) (o : Option Kv) (xs ys : List Version) → state_after k o (xs ++ ys) ≡ state_after k (state_after k o xs) ys
state_after-append k o [] ys = refl
state_after-append k o (v ∷ xs) ys = state_after-append k (state_of k v) xs ys

pub last_state-add : (k : Bytes) (vs : List Version) (v : Version) → last_state k (vs ++ v ∷ []) ≡ state_of k v
last_state-add k vs v = state_after-append k None vs (v ∷ [])

-- ---- versions up to a revision

up-is : (r : ℕ) (v : Version) → v.revision ≤ r → is_up_to r v ≡ true
up-is r v h = le-leb v.revision r h

later-is : (r : ℕ) (v : Version) → r < v.revision → is_up_to r v ≡ false
later-is r v h = lt-leb v.revision r h

pub filter_all : (n r : ℕ) (vs : List Version) → AreUpTo n vs → n ≤ r → filter (is_up_to r) vs ≡ vs
filter_all n r [] h le = refl
filter_all n r (v ∷ vs) h le =
    ap (λ b. cond b (v ∷ filter (is_up_to r) vs) (filter (is_up_to r) vs)) (up-is r v (omega (arith, h.0, le)))
    ∙ ap (λ ws. v ∷ ws) (filter_all n r vs h.1 le)

pub state_at-all : (k : Bytes) (n r : ℕ) (vs : List Version) → AreUpTo n vs → n ≤ r → state_at k r vs ≡ last_state k vs
state_at-all k n r vs h le = ap (last_state k) (filter_all n r vs h le)

pub state_at-later : (k : Bytes) (r : ℕ) (vs : List Version) (v : Version) → r < v.revision → state_at k r (vs ++ v ∷ []) ≡ state_at k r vs
state_at-later k r vs v h =
    ap (last_state k) (filter-append (is_up_to r) vs (v ∷ []) ∙ ap (λ b. filter (is_up_to r) vs ++ cond b (v ∷ []) []) (later-is r v h))
    ∙ state_after-append k None (filter (is_up_to r) vs) []

pub up_to-add : (n : ℕ) (vs : List Version) (v : Version) → AreUpTo n vs → v.revision ≤ n → AreUpTo n (vs ++ v ∷ [])
up_to-add n [] v h le = (le, tt)
up_to-add n (x ∷ vs) v h le = (h.0, up_to-add n vs v h.1 le)

pub up_to-more : (n m : ℕ) (vs : List Version) → AreUpTo n vs → n ≤ m → AreUpTo m vs
up_to-more n m [] h le = tt
up_to-more n m (v ∷ vs) h le = (omega (arith, h.0, le), up_to-more n m vs h.1 le)

up_to-at : (n : ℕ) (vs : List Version) → AreUpTo n vs → (k : ℕ) (d : Version) → k < length vs → (get_or vs k d).revision ≤ n
up_to-at n [] h k d within = absurd (omega (arith, within))
up_to-at n (v ∷ vs) h zero d within = h.0
up_to-at n (v ∷ vs) h (suc k) d within = up_to-at n vs h.1 k d (omega (arith, within))

order-add : (n : ℕ) (vs : List Version) (v : Version) → AreInOrder vs → AreUpTo n vs → v.revision ≡ n → AreInOrder (vs ++ v ∷ [])
order-add n vs v h up is =
    IsNonDecreasingBy-push (λ w. w.revision) vs v h (λ d some. let e = up_to-at n vs up (length vs - 1) d (omega (arith, some)) in omega (arith, e, is))

-- where the first n versions are of revisions up to r and the others are later, the first n are those up to r
pub filter-split : (p : Version → Bool) (n : ℕ) (vs : List Version) → ((k : ℕ) (d : Version) → k < n → k < length vs → p (get_or vs k d) ≡ true) →
    ((k : ℕ) (d : Version) → n ≤ k → k < length vs → p (get_or vs k d) ≡ false) → filter p vs ≡ take n vs
filter-split p zero [] pass fail = refl
filter-split p (suc n) [] pass fail = refl
filter-split p zero (v ∷ vs) pass fail =
    ap (λ b. cond b (v ∷ filter p vs) (filter p vs)) (fail 0 v (omega arith) (omega arith))
    ∙ filter-split p zero vs (λ k d lt within. absurd (omega (arith, lt))) (λ k d le within. fail (suc k) d (omega arith) (omega (arith, within)))
filter-split p (suc n) (v ∷ vs) pass fail =
    ap (λ b. cond b (v ∷ filter p vs) (filter p vs)) (pass 0 v (omega arith) (omega arith))
    ∙ ap (λ ws. v ∷ ws) (filter-split p n vs (λ k d lt within. pass (suc k) d (omega (arith, lt)) (omega (arith, within))) (λ k d le within. fail (suc k) d (omega (arith, le)) (omega (arith, within))))

-- ---- the folds

pub key_after_changes-add : (r : ℤ) (q : Bytes) (o : Option Kv) (cs : List Change) (c : Change) → key_after_changes r q o (cs ++ c ∷ []) ≡ key_after_change r q (key_after_changes r q o cs) c
key_after_changes-add r q o [] c = refl
key_after_changes-add r q o (x ∷ cs) c = key_after_changes-add r q (key_after_change r q o x) cs c

key_after_other : (r : ℤ) (q : Bytes) (o : Option Kv) (c : Change) → same (key_of c) q ≡ false → key_after_change r q o c ≡ o
key_after_other r q o (Puts k v lease) h = ap (λ b. cond b (Some (kv_after_put r k v lease o)) o) h
key_after_other r q o (Removes k) h = ap (λ b. cond b None o) h

pub key_after_revisions-append : (r : ℕ) (q : Bytes) (o : Option Kv) (xs ys : List (List Change)) →
    key_after_revisions r q o (xs ++ ys) ≡ key_after_revisions (r + length xs) q (key_after_revisions r q o xs) ys
key_after_revisions-append r q o [] ys = ap (λ n. key_after_revisions n q o ys) (let e : r ≡ r + 0 = omega arith in e)
key_after_revisions-append r q o (x ∷ xs) ys =
    key_after_revisions-append (r + 1) q (key_after_changes (pos r) q o x) xs ys
    ∙ ap (λ n. key_after_revisions n q (key_after_revisions (r + 1) q (key_after_changes (pos r) q o x) xs) ys) (let e : r + 1 + length xs ≡ r + suc (length xs) = omega arith in e)

length-front : {A : Type 0} (n : ℕ) (xs : List A) → n ≤ length xs → length (take n xs) ≡ n
length-front zero xs h = refl
length-front (suc n) [] h = absurd (omega (arith, h))
length-front (suc n) (x ∷ xs) h = ap suc (length-front n xs (omega (arith, h)))

pub one_revision_more : (q : Bytes) (i : ℕ) (css : List (List Change)) → i < length css →
    key_after_revisions 1 q None (take (i + 1) css) ≡ key_after_changes (pos (i + 1)) q (key_after_revisions 1 q None (take i css)) (nth_changes i css)
one_revision_more q i css within =
    let count : 1 + length (take i css) ≡ i + 1 = (let e = length-front i css (omega (arith, within)) in omega (arith, e)) in
    let is : nth_changes i css ≡ get_or css i [] = ap (λ o. unwrap_or o []) (slice_get-get_or css i [] within) in
    ap (key_after_revisions 1 q None) (take_more css i [] within)
    ∙ key_after_revisions-append 1 q None (take i css) (get_or css i [] ∷ [])
    ∙ ap (λ n. key_after_changes (pos n) q (key_after_revisions 1 q None (take i css)) (get_or css i [])) count
    ∙ ap (key_after_changes (pos (i + 1)) q (key_after_revisions 1 q None (take i css))) (sym is)

-- the changes of a revision that there is
pub nth_changes-at : (css : List (List Change)) (i : ℕ) (cs : List Change) → i < length css → cs ≡ get_or css i cs → nth_changes i css ≡ cs
nth_changes-at css i cs within here = ap (λ o. unwrap_or o []) (slice_get-get_or css i cs within) ∙ sym here

-- ---- the index, step by step

stands-add : (css : List (List Change)) (i : ℕ) (cs : List Change) (c : Change) (q : Bytes) (vs ws : List Version) →
    StandFor css i cs q vs → AddsChange (i + 1) (pos (i + 1)) c q vs ws → StandFor css i (cs ++ c ∷ []) q ws
stands-add css i cs c q vs ws h adds = go (same (key_of c) q) refl
  where
    before : Option Kv
    before = key_after_revisions 1 q None (take i css)

    go : (b : Bool) → same (key_of c) q ≡ b → StandFor css i (cs ++ c ∷ []) q ws
    go true e =
        let a = adds.own e in
        subst (StandFor css i (cs ++ c ∷ []) q) (sym a.added) (record {
          in_order = order-add (i + 1) vs a.version h.in_order h.up_to a.revision;
          up_to = up_to-add (i + 1) vs a.version h.up_to (omega (arith, a.revision));
          whole = λ r le. state_at-later q r vs a.version (omega (arith, a.revision, le)) ∙ h.whole r le;
          last = last_state-add q vs a.version ∙ a.state ∙ ap (λ o. key_after_change (pos (i + 1)) q o c) h.last ∙ sym (key_after_changes-add (pos (i + 1)) q before cs c);
        })
    go false e =
        subst (StandFor css i (cs ++ c ∷ []) q) (sym (adds.other e)) (record {
          in_order = h.in_order;
          up_to = h.up_to;
          whole = h.whole;
          last = h.last ∙ sym (key_after_other (pos (i + 1)) q (key_after_changes (pos (i + 1)) q before cs) c e) ∙ sym (key_after_changes-add (pos (i + 1)) q before cs c);
        })

-- a revision of which all changes were added
pub stands-next : (css : List (List Change)) (i : ℕ) (q : Bytes) (vs : List Version) → i < length css → StandFor css i (nth_changes i css) q vs → StandFor css (i + 1) [] q vs
stands-next css i q vs within h =
    let all : last_state q vs ≡ key_after_revisions 1 q None (take (i + 1) css) = h.last ∙ sym (one_revision_more q i css within) in
    record {
      in_order = h.in_order;
      up_to = up_to-more (i + 1) (i + 1 + 1) vs h.up_to (omega arith);
      whole = λ r le. elim (cases_order r (i + 1)) [
        | inl e ↦ ap (λ n. state_at q n vs) e ∙ state_at-all q (i + 1) (i + 1) vs h.up_to (omega arith) ∙ all ∙ sym (ap (λ n. key_after_revisions 1 q None (take n css)) e)
        | inr e ↦ elim e [
          | inl lt ↦ h.whole r (omega (arith, lt))
          | inr gt ↦ absurd (omega (arith, gt, le))
        ]
      ];
      last = all;
    }

-- a revision that the index doesn't have yet
pub stands-grown : (css : List (List Change)) (d : List Change) (i : ℕ) (cs : List Change) (q : Bytes) (vs : List Version) → i ≤ length css → StandFor css i cs q vs → StandFor (css ++ d ∷ []) i cs q vs
stands-grown css d i cs q vs within h = record {
  in_order = h.in_order;
  up_to = h.up_to;
  whole = λ r le. h.whole r le ∙ ap (key_after_revisions 1 q None) (sym (take-append-le r css (d ∷ []) (omega (arith, le, within))));
  last = h.last ∙ ap (λ xs. key_after_changes (pos (i + 1)) q (key_after_revisions 1 q None xs) cs) (sym (take-append-le i css (d ∷ []) within));
}

-- the next change of a revision
pub stands-change : (css : List (List Change)) (i j : ℕ) (cs : List Change) (c : Change) (q : Bytes) (vs ws : List Version) → slice_get css i ≡ Some cs → slice_get cs j ≡ Some c →
    StandFor css i (take j (nth_changes i css)) q vs → AddsChange (i + 1) (pos (i + 1)) c q vs ws → StandFor css i (take (j + 1) (nth_changes i css)) q ws
stands-change css i j cs c q vs ws there here h adds =
    let is : nth_changes i css ≡ cs = ap (λ o. unwrap_or o []) there in
    let more : take (j + 1) (nth_changes i css) ≡ take j (nth_changes i css) ++ c ∷ [] =
    ap (take (j + 1)) is ∙ take_more cs j c (slice_get_within cs j c here) ∙ ap (λ x. take j cs ++ x ∷ []) (get_or_from_slice_get cs j c c here) ∙ ap (λ xs. take j xs ++ c ∷ []) (sym is) in
    subst (λ (xs : List Change). StandFor css i xs q ws) (sym more) (stands-add css i (take j (nth_changes i css)) c q vs ws h adds)

pub change-within : (css : List (List Change)) (i j : ℕ) (cs : List Change) (c : Change) → slice_get css i ≡ Some cs → slice_get cs j ≡ Some c → j + 1 ≤ length (nth_changes i css)
change-within css i j cs c there here =
    let is : length (nth_changes i css) ≡ length cs = ap (λ o. length (unwrap_or o [])) there in
    let within = slice_get_within cs j c here in
    omega (arith, is, within)

-- the end of a revision
pub stands-end : (css : List (List Change)) (i j : ℕ) (cs : List Change) (q : Bytes) (vs : List Version) → slice_get css i ≡ Some cs → length cs ≤ j →
    StandFor css i (take j (nth_changes i css)) q vs → StandFor css (i + 1) [] q vs
stands-end css i j cs q vs there past h =
    let is : nth_changes i css ≡ cs = ap (λ o. unwrap_or o []) there in
    let all : take j (nth_changes i css) ≡ nth_changes i css = ap (take j) is ∙ take_all j cs past ∙ sym is in
    stands-next css i q vs (slice_get_within css i cs there) (subst (λ (xs : List Change). StandFor css i xs q vs) all h)

-- a revision more
nth-grown : (d : List Change) (css : List (List Change)) (i j : ℕ) → i ≤ length css → j ≤ length (nth_changes i css) →
    (take j (nth_changes i (css ++ d ∷ [])) ≡ take j (nth_changes i css)) × (j ≤ length (nth_changes i (css ++ d ∷ [])))
nth-grown d [] zero j le few =
    let e : j ≡ 0 = omega (arith, few) in
    (ap (λ n. take n d) e ∙ sym (ap (λ n. take {A = Change} n []) e), omega (arith, few))
nth-grown d [] (suc i) j le few = absurd (omega (arith, le))
nth-grown d (x ∷ css) zero j le few = (refl, few)
nth-grown d (x ∷ css) (suc i) j le few = nth-grown d css i j (omega (arith, le)) few

pub grown-begun : (d : List Change) (css : List (List Change)) (i j : ℕ) → i ≤ length css → j ≤ length (nth_changes i css) → j ≤ length (nth_changes i (css ++ d ∷ []))
grown-begun d css i j le few = (nth-grown d css i j le few).1

pub stands-pushed : (css : List (List Change)) (d : List Change) (i j : ℕ) (q : Bytes) (vs : List Version) → i ≤ length css → j ≤ length (nth_changes i css) →
    StandFor css i (take j (nth_changes i css)) q vs → StandFor (css ++ d ∷ []) i (take j (nth_changes i (css ++ d ∷ []))) q vs
stands-pushed css d i j q vs le few h =
    subst (λ (xs : List Change). StandFor (css ++ d ∷ []) i xs q vs) (sym (nth-grown d css i j le few).0) (stands-grown css d i (take j (nth_changes i css)) q vs le h)

pub length-add : {A : Type 0} (xs : List A) (x : A) → length (xs ++ x ∷ []) ≡ length xs + 1
length-add [] x = refl
length-add (y ∷ xs) x = let e = length-add xs x in omega (arith, e)

-- ---- what a look-up reads, past what the index has

take-less : {A : Type 0} (m n : ℕ) (xs : List A) → m ≤ n → take m (take n xs) ≡ take m xs
take-less zero n xs h = refl
take-less (suc m) zero xs h = absurd (omega (arith, h))
take-less (suc m) (suc n) [] h = refl
take-less (suc m) (suc n) (x ∷ xs) h = ap (λ ys. x ∷ ys) (take-less m n xs (omega (arith, h)))

-- a part of a list, as code reads it
pub part-is : {A : Type 0} (xs : List A) (m n : ℕ) → m ≤ n → take (n - m) (drop m xs) ≡ drop m (take n xs)
part-is xs m n le = sym (drop-take m (n - m) xs) ∙ ap (λ k. drop m (take k xs)) (let e : m + (n - m) ≡ n = omega (arith, le) in e)

pub read_on : (q : Bytes) (css : List (List Change)) (m n : ℕ) → m ≤ n → n ≤ length css →
    key_after_revisions (m + 1) q (key_after_revisions 1 q None (take m css)) (drop m (take n css)) ≡ key_after_revisions 1 q None (take n css)
read_on q css m n le within =
    let front : take m (take n css) ≡ take m css = take-less m n css le in
    let count : 1 + length (take m (take n css)) ≡ m + 1 = (let e = ap length front in let f = length-front m css (omega (arith, le, within)) in omega (arith, e, f)) in
    sym (ap (key_after_revisions 1 q None) (sym (take-append-drop m (take n css)))
    ∙ key_after_revisions-append 1 q None (take m (take n css)) (drop m (take n css))
    ∙ ap (λ k. key_after_revisions k q (key_after_revisions 1 q None (take m (take n css))) (drop m (take n css))) count
    ∙ ap (λ xs. key_after_revisions (m + 1) q (key_after_revisions 1 q None xs) (drop m (take n css))) front)

pub read_on_within : (range : RangeReq) (q : Bytes) (css : List (List Change)) (m n : ℕ) (vs : List Version) → m ≤ n → n ≤ length css →
    state_at q m vs ≡ key_after_revisions 1 q None (take m css) →
    within_revisions range (m + 1) q (within_at range m q vs) (drop m (take n css)) ≡ within_revisions range 1 q None (take n css)
read_on_within range q css m n vs le within whole =
    elim (is_within range.key range.end q) as (λ b. cond b (key_after_revisions (m + 1) q (cond b (state_at q m vs) None) (drop m (take n css))) (cond b (state_at q m vs) None) ≡ cond b (key_after_revisions 1 q None (take n css)) None) [
      | true ↦ ap (λ o. key_after_revisions (m + 1) q o (drop m (take n css))) whole ∙ read_on q css m n le within
      | false ↦ refl
    ]

-- ---- what the code reads last

state_after-last : (k : Bytes) (o : Option Kv) (vs : List Version) (m : ℕ) (d : Version) → length vs ≡ m + 1 → state_after k o vs ≡ state_of k (get_or vs m d)
state_after-last k o [] m d count = absurd (omega (arith, count))
state_after-last k o (x ∷ []) zero d count = refl
state_after-last k o (x ∷ []) (suc m) d count = absurd (omega (arith, count))
state_after-last k o (x ∷ y ∷ ys) zero d count = absurd (omega (arith, count))
state_after-last k o (x ∷ y ∷ ys) (suc m) d count = state_after-last k (state_of k x) (y ∷ ys) m d (omega (arith, count))

pub last_state-is : (k : Bytes) (vs : List Version) (v : Version) → slice_get vs (length vs - 1) ≡ Some v → last_state k vs ≡ state_of k v
last_state-is k vs v h =
    let within = slice_get_within vs (length vs - 1) v h in
    state_after-last k None vs (length vs - 1) v (omega (arith, within)) ∙ ap (state_of k) (get_or_from_slice_get vs (length vs - 1) v v h)

-- ---- a key's list after one was written

module _ {X : Type 0} where
  chosen : (k q : Bytes) (n : Option (List X)) (w : List X) (m : Option (List X)) → n ≡ cond (is_at (slice_cmp nat_cmp k) q) (Some w) m → unwrap_or n [] ≡ cond (same k q) w (unwrap_or m [])
  chosen k q n w m h =
      ap (λ o. unwrap_or o []) (h ∙ ap (λ b. cond b (Some w) m) (names-tie k q))
      ∙ elim (same k q) as (λ b. unwrap_or (cond b (Some w) m) [] ≡ cond b w (unwrap_or m [])) [ true ↦ refl | false ↦ refl ]

  pub added : (m n : Bytes → Option (List X)) (k : Bytes) (w : List X) (x : X) → w ≡ unwrap_or (m k) [] ++ x ∷ [] → ((q : Bytes) → n q ≡ cond (is_at (slice_cmp nat_cmp k) q) (Some w) (m q)) →
      (q : Bytes) → unwrap_or (n q) [] ≡ cond (same k q) (unwrap_or (m q) [] ++ x ∷ []) (unwrap_or (m q) [])
  added m n k w x is writes q =
      chosen k q (n q) w (m q) (writes q)
      ∙ elim (same k q) as (λ b. same k q ≡ b → cond b w (unwrap_or (m q) []) ≡ cond b (unwrap_or (m q) [] ++ x ∷ []) (unwrap_or (m q) [])) [
        | true ↦ λ e. is ∙ ap (λ y. unwrap_or (m y) [] ++ x ∷ []) (same-true k q e)
        | false ↦ λ e. refl
      ] refl

  pub kept : (m n : Bytes → Option (List X)) (k : Bytes) (w : List X) → w ≡ unwrap_or (m k) [] → ((q : Bytes) → n q ≡ cond (is_at (slice_cmp nat_cmp k) q) (Some w) (m q)) →
      (q : Bytes) → unwrap_or (n q) [] ≡ unwrap_or (m q) []
  kept m n k w is writes q =
      chosen k q (n q) w (m q) (writes q)
      ∙ elim (same k q) as (λ b. same k q ≡ b → cond b w (unwrap_or (m q) []) ≡ unwrap_or (m q) []) [
        | true ↦ λ e. is ∙ ap (λ y. unwrap_or (m y) []) (same-true k q e)
        | false ↦ λ e. refl
      ] refl
