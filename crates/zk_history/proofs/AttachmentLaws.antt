-- The open sessions by the connections that they are attached to.
use Rattle.std.proofs.Common.{◌≡◌, ◌≢◌, ℕ, ℤ, ◌≤◌, ◌<◌, Bool, true, false, ◌&&◌, cond, Some, None, List, [], ◌∷◌, refl, sym, ap, ◌∙◌, subst, inl, inr, arith, pos, negsuc, w64, SFits}
use Rattle.std.proofs.lemmas.Int.{ints}
use Rattle.std.specs.Prelude.{T, ◌==◌, ◌≤ℤ◌, ◌<ℤ◌, IfSome, slice_get}
use Rattle.std.proofs.lemmas.Bool.{cases_Bool}
use Rattle.std.proofs.lemmas.Cmp.{ranked, int_ranked, by_ranked, tied_itself, nat_cmp_total, int_cmp_total}
use Rattle.std.proofs.lemmas.Map.Lookups.{exact_signed}
use Rattle.std.specs.Cmp.{unsigned_tied, eq_by_cmp_equiv, nat_eq_equiv, tied_then}
use Rattle.std.specs.Ordering.{int_cmp, nat_cmp, ordering_then, is_eq, is_lt, is_gt}
use Rattle.std.specs.declared.cmp.Ordering.{Ordering}
use Rattle.std.specs.declared.cmp.Ordering.TheVariants.{Less, Equal, Greater}
use Rattle.std.specs.declared.ops.Bound.TheVariants.{Included, Unbounded}
use Rattle.std.specs.BTreeMap.{is_at}
use Rattle.std.specs.BTreeMap.Range.{IsLeBy, IsInRange}
use Rattle.std.specs.List.{list_any}
use Rattle.std.specs.BTreeSet.{BTreeSet, contains, IsKeyInRange, IsKeyRangeOf}
use Rattle.std.specs.FinMap.{find, is_sorted, get, insert, remove, entries, entries_sorted, get-entries, get-insert, get-remove}
use Rattle.std.specs.FinMap.Entries.{below_all}
use Rattle.zk_service.specs.States.{Session, Sessions, attached_in, is_attached_to}
use Rattle.zk_history.specs.Attachments.{Pair, pair_order, has, is_on, least_id, AreAttached, IsLeastAttached}
use Rattle.zk_history.proofs.SessionLaws.{Entries, numbered, get-numbered}
use Rattle.zx_base.proofs.Orders.{equal-from_is_eq, less-from_T}
use Rattle.zx_base.proofs.Booleans.{and-false, T-and, T-first, T-second, and-true}

-- ---- the session with the least number among those on a connection

-- a number below all has no session
find-below : (id : ℤ) (es : Entries) → T (below_all int_cmp id es) → find int_cmp id es ≡ None
find-below id [] below = refl
find-below id (e ∷ es) below =
    ap (λ r. cond (is_eq r) (Some e.1) (find int_cmp id es)) (less-from_T _ (T-first _ _ below)) ∙ find-below id es (T-second _ _ below)

below-less : (i k : ℤ) (es : Entries) → int_cmp i k ≡ Less → T (below_all int_cmp k es) → T (below_all int_cmp i es)
below-less i k [] h below = tt
below-less i k (e ∷ es) h below =
    let next : int_cmp i e.0 ≡ Less = int_cmp_total.trans i k e.0 h (less-from_T _ (T-first _ _ below)) in
    T-and _ _ (subst (λ (r : Ordering). T (is_lt r)) (sym next) tt) (below-less i k es h (T-second _ _ below))

find-here : (e : ℤ × Session) (es : Entries) → find int_cmp e.0 (e ∷ es) ≡ Some e.1
find-here e es = ap (λ r. cond (is_eq r) (Some e.1) (find int_cmp e.0 es)) (tied_itself int_cmp_total e.0)

-- a session on a connection that the later entries have is not that of the first entry
find-after : (c : ℕ) (id : ℤ) (e : ℤ × Session) (es : Entries) → T (below_all int_cmp e.0 es) → is_on c (find int_cmp id es) ≡ true → find int_cmp id (e ∷ es) ≡ find int_cmp id es
find-after c id e es below on =
    elim (int_cmp id e.0) as (λ r. int_cmp id e.0 ≡ r → cond (is_eq r) (Some e.1) (find int_cmp id es) ≡ find int_cmp id es) [
      | Less ↦ λ h. refl
      | Equal ↦ λ h.
          let none : find int_cmp id es ≡ None = ap (λ (k : ℤ). find int_cmp k es) (exact_signed id e.0 h) ∙ find-below e.0 es below in
          let off : is_on c (find int_cmp id es) ≡ false = ap (is_on c) none in
          absurd (cc)
      | Greater ↦ λ h. refl
    ] refl

least-in : (c : ℕ) (es : Entries) (id : ℤ) (s : Session) → T (is_sorted int_cmp es) → find int_cmp id es ≡ Some s → is_on c (Some s) ≡ true
    → ((other : ℤ) → is_on c (find int_cmp other es) ≡ true → id ≤ℤ other) → attached_in c es ≡ Some (id, s)
least-in c [] id s sorted is on least = absurd (cc)
least-in c (e ∷ es) id s sorted is on least =
    let below : T (below_all int_cmp e.0 es) = T-first _ _ sorted in
    by_ranked (id <ℤ e.0) (id ≡ e.0) (e.0 <ℤ id) (int_cmp id e.0) (int_ranked id e.0 _ refl)
    (λ h lt.
    let none : find int_cmp id (e ∷ es) ≡ None = find-below id (e ∷ es) (T-and _ _ (subst (λ (r : Ordering). T (is_lt r)) (sym h) tt) (below-less id e.0 es h below)) in
    absurd (cc))
    (λ h eq.
    let first : Some e.1 ≡ Some s = sym (find-here e es) ∙ ap (λ (k : ℤ). find int_cmp k (e ∷ es)) (sym eq) ∙ is in
    let same : e.1 ≡ s = cc in
    let on_first : is_attached_to c e ≡ true = ap (λ (x : Session). is_on c (Some x)) same ∙ on in
    ap (λ b. cond b (Some e) (attached_in c es)) on_first ∙ (λ i. Some (sym eq i, same i)))
    (λ h gt.
    let later : find int_cmp id es ≡ Some s = sym (ap (λ r. cond (is_eq r) (Some e.1) (find int_cmp id es)) h) ∙ is in
    elim (is_attached_to c e) as (λ b. is_attached_to c e ≡ b → cond b (Some e) (attached_in c es) ≡ Some (id, s)) [
      | true ↦ λ at. absurd (let up : id ≤ℤ e.0 = least e.0 (ap (is_on c) (find-here e es) ∙ at) in omega (arith, ints))
      | false ↦ λ at. least-in c es id s (T-second _ _ sorted) later on (λ other there. least other (ap (is_on c) (find-after c other e es below there) ∙ there))
    ] refl)

none-in : (c : ℕ) (es : Entries) → T (is_sorted int_cmp es) → ((other : ℤ) → is_on c (find int_cmp other es) ≡ false) → attached_in c es ≡ None
none-in c [] sorted off = refl
none-in c (e ∷ es) sorted off =
    let here : is_attached_to c e ≡ false = sym (ap (is_on c) (find-here e es)) ∙ off e.0 in
    ap (λ b. cond b (Some e) (attached_in c es)) here
    ∙ none-in c es (T-second _ _ sorted) (λ other. elim (cases_Bool (is_on c (find int_cmp other es))) [
      | inl on ↦ sym (ap (is_on c) (find-after c other e es (T-first _ _ sorted) on)) ∙ off other
      | inr not_on ↦ not_on
    ])

-- ---- pairs in their order

refuted : (r : Ordering) → r ≡ Greater → is_gt r ≡ false → ⊥
refuted r h e = let gt : is_gt r ≡ true = ap is_gt h in absurd (cc)

le-int : (x y : ℤ) → is_gt (int_cmp x y) ≡ false → x ≤ℤ y
le-int x y h = by_ranked (x <ℤ y) (x ≡ y) (y <ℤ x) (int_cmp x y) (int_ranked x y _ refl) (λ is lt. omega (arith, ints)) (λ is eq. omega (arith, ints)) (λ is gt. absurd (refuted _ is h))

int-le : (x y : ℤ) → x ≤ℤ y → is_gt (int_cmp x y) ≡ false
int-le x y h = by_ranked (x <ℤ y) (x ≡ y) (y <ℤ x) (int_cmp x y) (int_ranked x y _ refl) (λ is lt. ap is_gt is) (λ is eq. ap is_gt is) (λ is gt. absurd (omega (arith, ints)))

-- of two pairs in order, the connections do not fall
le-first : (p q : Pair) → is_gt (pair_order p q) ≡ false → p.0 ≤ q.0
le-first p q h = by_ranked (p.0 < q.0) (p.0 ≡ q.0) (q.0 < p.0) (nat_cmp p.0 q.0) (ranked p.0 q.0 _ refl)
    (λ is lt. omega arith) (λ is eq. omega arith) (λ is gt. absurd (refuted _ (ap (λ r. ordering_then r (int_cmp p.1 q.1)) is) h))

-- of two pairs in order with the same connection, the sessions' numbers do not fall
le-second : (p q : Pair) → p.0 ≡ q.0 → is_gt (pair_order p q) ≡ false → p.1 ≤ℤ q.1
le-second p q same h =
    let level : nat_cmp p.0 q.0 ≡ Equal = ap (nat_cmp p.0) (sym same) ∙ tied_itself nat_cmp_total p.0 in
    le-int p.1 q.1 (sym (ap (λ r. is_gt (ordering_then r (int_cmp p.1 q.1))) level) ∙ h)

second-le : (c : ℕ) (x y : ℤ) → x ≤ℤ y → is_gt (pair_order (c, x) (c, y)) ≡ false
second-le c x y h = ap (λ r. is_gt (ordering_then r (int_cmp x y))) (tied_itself nat_cmp_total c) ∙ int-le x y h

-- ---- the least number of a session on a connection, as the first pair from the least long on

module _ (pairs : BTreeSet Pair) (c : ℕ) (rest : List Pair) where
  abbrev IsRest : Type 0
  IsRest = IsKeyRangeOf pair_order (Included (c, least_id)) Unbounded pairs rest

  is_in : (id : ℤ) → least_id ≤ℤ id → IsInRange pair_order (Included (c, least_id)) Unbounded (c, id)
  is_in id h = (second-le c least_id id h, tt)

  head_in : (p : Pair) (more : List Pair) → IsRest → rest ≡ p ∷ more → IsKeyInRange pair_order (Included (c, least_id)) Unbounded pairs p
  head_in p more part is = subst (λ (ps : List Pair). IfSome (slice_get ps 0) (IsKeyInRange pair_order (Included (c, least_id)) Unbounded pairs)) is part.1

  head-least : (p : Pair) (more : List Pair) (id : ℤ) → IsRest → rest ≡ p ∷ more → least_id ≤ℤ id → has pairs c id ≡ true → is_gt (pair_order p (c, id)) ≡ false
  head-least p more id part is long there =
      subst (λ (ps : List Pair). IfSome (slice_get ps 0) (λ q. IsLeBy pair_order q (c, id))) is (part.2 (c, id) (is_in id long) there)

  pub first-found : (p : Pair) (more : List Pair) → IsRest → rest ≡ p ∷ more → p.0 ≡ c → IsLeastAttached pairs c (Some p.1)
  first-found p more part is same = (
    ap (λ (d : ℕ). has pairs d p.1) (sym same) ∙ (head_in p more part is).1,
    λ id long there. le-second p (c, id) same (head-least p more id part is long there),
  )

  pub first-other : (p : Pair) (more : List Pair) → IsRest → rest ≡ p ∷ more → p.0 ≢ c → IsLeastAttached pairs c None
  first-other p more part is other id long = elim (cases_Bool (has pairs c id)) [
    | inl there ↦
        let up : c ≤ p.0 = le-first (c, least_id) p (head_in p more part is).0.0 in
        let down : p.0 ≤ c = le-first p (c, id) (head-least p more id part is long there) in
        absurd (other (omega arith))
    | inr gone ↦ gone
  ]

  pub first-none : IsRest → rest ≡ [] → IsLeastAttached pairs c None
  first-none part is id long = part.5 is (c, id) (is_in id long)

-- ---- one session more or less

pub long : (id : ℤ) → SFits w64 id → least_id ≤ℤ id
long (pos n) fits = omega (arith, ints)
long (negsuc n) fits = omega (arith, ints, fits.sfits)

tied : (p : Pair) (c : ℕ) (id : ℤ) → is_eq (pair_order p (c, id)) ≡ ((p.0 == c) && is_eq (int_cmp p.1 id))
tied p c id = sym (tied_then (nat_cmp p.0 c) (int_cmp p.1 id)) ∙ ap (λ b. b && is_eq (int_cmp p.1 id)) (unsigned_tied p.0 c)

-- where a pair has the number of p, it is p exactly where it has p's connection
tied-here : (p : Pair) (c : ℕ) (id : ℤ) → is_eq (int_cmp p.1 id) ≡ true → is_eq (pair_order p (c, id)) ≡ (c == p.0)
tied-here p c id here = tied p c id ∙ ap (λ b. (p.0 == c) && b) here ∙ and-true (p.0 == c) ∙ nat_eq_equiv.symm p.0 c

tied-elsewhere : (p : Pair) (c : ℕ) (id : ℤ) → is_eq (int_cmp p.1 id) ≡ false → is_eq (pair_order p (c, id)) ≡ false
tied-elsewhere p c id other = tied p c id ∙ ap (λ b. (p.0 == c) && b) other ∙ and-false (p.0 == c)

removed-here : (m : Sessions) (k id : ℤ) → is_eq (int_cmp k id) ≡ true → get (remove m k) id ≡ None
removed-here m k id here =
    get-remove int_cmp_total m k id ∙ ap (λ b. cond b None (get m id)) ((eq_by_cmp_equiv int_cmp_total).symm id k ∙ here)

removed-elsewhere : (m : Sessions) (k id : ℤ) → is_eq (int_cmp k id) ≡ false → get (remove m k) id ≡ get m id
removed-elsewhere m k id other =
    get-remove int_cmp_total m k id ∙ ap (λ b. cond b None (get m id)) ((eq_by_cmp_equiv int_cmp_total).symm id k ∙ other)

inserted-here : (m : Sessions) (k id : ℤ) (s : Session) → is_eq (int_cmp k id) ≡ true → get (insert m k s) id ≡ Some s
inserted-here m k id s here =
    get-insert int_cmp_total m k s id ∙ ap (λ b. cond b (Some s) (get m id)) ((eq_by_cmp_equiv int_cmp_total).symm id k ∙ here)

inserted-elsewhere : (m : Sessions) (k id : ℤ) (s : Session) → is_eq (int_cmp k id) ≡ false → get (insert m k s) id ≡ get m id
inserted-elsewhere m k id s other =
    get-insert int_cmp_total m k s id ∙ ap (λ b. cond b (Some s) (get m id)) ((eq_by_cmp_equiv int_cmp_total).symm id k ∙ other)

longs-removed : (m : Sessions) (pairs : BTreeSet Pair) (k id : ℤ) (s : Session) → AreAttached m pairs → get (remove m k) id ≡ Some s → least_id ≤ℤ id
longs-removed m pairs k id s before is = elim (cases_Bool (is_eq (int_cmp k id))) [
  | inl here ↦ let gone : get (remove m k) id ≡ None = removed-here m k id here in absurd (cc)
  | inr other ↦ before.longs id s (sym (removed-elsewhere m k id other) ∙ is)
]

pub detached-none : (m : Sessions) (pairs : BTreeSet Pair) (k : ℤ) → get m k ≡ None → AreAttached m pairs → AreAttached (remove m k) pairs
detached-none m pairs k none before = record {
  each = λ c id. before.each c id ∙ elim (cases_Bool (is_eq (int_cmp k id))) [
    | inl here ↦ ap (is_on c) (ap (get m) (sym (exact_signed k id (equal-from_is_eq _ here))) ∙ none ∙ sym (removed-here m k id here))
    | inr other ↦ ap (is_on c) (sym (removed-elsewhere m k id other))
  ];
  longs = λ id s is. longs-removed m pairs k id s before is;
}

left_out : (b d : Bool) → d ≡ b → cond b false d ≡ false
left_out true d e = refl
left_out false d e = e

pub detached-some : (m : Sessions) (pairs rest : BTreeSet Pair) (k : ℤ) (s : Session) → get m k ≡ Some s
    → ((q : Pair) → contains pair_order rest q ≡ cond (is_eq (pair_order (s.connection, k) q)) false (contains pair_order pairs q))
    → AreAttached m pairs → AreAttached (remove m k) rest
detached-some m pairs rest k s some updates before = record {
  each = λ c id. updates (c, id) ∙ elim (cases_Bool (is_eq (int_cmp k id))) [
    | inl here ↦
        let on : has pairs c id ≡ (c == s.connection) = before.each c id ∙ ap (is_on c) (ap (get m) (sym (exact_signed k id (equal-from_is_eq _ here))) ∙ some) in
        ap (λ b. cond b false (has pairs c id)) (tied-here (s.connection, k) c id here) ∙ left_out _ _ on ∙ sym (ap (is_on c) (removed-here m k id here))
    | inr other ↦
        ap (λ b. cond b false (has pairs c id)) (tied-elsewhere (s.connection, k) c id other) ∙ before.each c id ∙ ap (is_on c) (sym (removed-elsewhere m k id other))
  ];
  longs = λ id t is. longs-removed m pairs k id t before is;
}

put_in : (b d : Bool) → d ≡ false → cond b true d ≡ b
put_in true d e = refl
put_in false d e = e

removed-inserted : (m : Sessions) (k id : ℤ) (s : Session) → is_eq (int_cmp k id) ≡ false → get (remove m k) id ≡ get (insert m k s) id
removed-inserted m k id s other = removed-elsewhere m k id other ∙ sym (inserted-elsewhere m k id s other)

pub attached-more : (m : Sessions) (rest pairs : BTreeSet Pair) (k : ℤ) (s : Session) → least_id ≤ℤ k
    → ((q : Pair) → contains pair_order pairs q ≡ cond (is_eq (pair_order (s.connection, k) q)) true (contains pair_order rest q))
    → AreAttached (remove m k) rest → AreAttached (insert m k s) pairs
attached-more m rest pairs k s long updates before = record {
  each = λ c id. updates (c, id) ∙ elim (cases_Bool (is_eq (int_cmp k id))) [
    | inl here ↦
        let off : has rest c id ≡ false = before.each c id ∙ ap (is_on c) (removed-here m k id here) in
        ap (λ b. cond b true (has rest c id)) (tied-here (s.connection, k) c id here) ∙ put_in _ _ off ∙ sym (ap (is_on c) (inserted-here m k id s here))
    | inr other ↦
        ap (λ b. cond b true (has rest c id)) (tied-elsewhere (s.connection, k) c id other) ∙ before.each c id ∙ ap (is_on c) (removed-inserted m k id s other)
  ];
  longs = λ id t is. elim (cases_Bool (is_eq (int_cmp k id))) [
    | inl here ↦ subst (λ (z : ℤ). least_id ≤ℤ z) (exact_signed k id (equal-from_is_eq _ here)) long
    | inr other ↦ before.longs id t (removed-inserted m k id s other ∙ is)
  ];
}

-- ---- the session on a connection

pub attached-first : (m : Sessions) (pairs : BTreeSet Pair) (c : ℕ) (id : ℤ) (s : Session) → AreAttached m pairs → IsLeastAttached pairs c (Some id) → get m id ≡ Some s
    → attached_in c (entries m) ≡ Some (id, s)
attached-first m pairs c id s stand first is =
    least-in c (entries m) id s (entries_sorted m) (sym (get-entries m id) ∙ is) (ap (is_on c) (sym is) ∙ sym (stand.each c id) ∙ first.0)
    (λ other on.
    let there : is_on c (get m other) ≡ true = ap (is_on c) (get-entries m other) ∙ on in
    first.1 other (long other there) (stand.each c other ∙ there))
  where
    long : (other : ℤ) → is_on c (get m other) ≡ true → least_id ≤ℤ other
    long other there = elim (get m other) as (λ o. get m other ≡ o → is_on c o ≡ true → least_id ≤ℤ other) [
      | Some t ↦ λ e h. stand.longs other t e
      | None ↦ λ e h. absurd (cc)
    ] refl there

pub attached-none : (m : Sessions) (pairs : BTreeSet Pair) (c : ℕ) → AreAttached m pairs → IsLeastAttached pairs c None → attached_in c (entries m) ≡ None
attached-none m pairs c stand none =
    none-in c (entries m) (entries_sorted m) (λ other. ap (is_on c) (sym (get-entries m other)) ∙ off other)
  where
    off : (other : ℤ) → is_on c (get m other) ≡ false
    off other = elim (get m other) as (λ o. get m other ≡ o → is_on c o ≡ false) [
      | Some t ↦ λ e. ap (is_on c) (sym e) ∙ sym (stand.each c other) ∙ none other (stand.longs other t e)
      | None ↦ λ e. refl
    ] refl

-- ---- no sessions

nothing_attached : (pairs : BTreeSet Pair) → pairs.keys ≡ [] → AreAttached (numbered []) pairs
nothing_attached pairs none = record {
  each = λ c id. ap (λ (ps : List Pair). list_any (is_at (pair_order (c, id))) ps) none ∙ sym (ap (is_on c) (get-numbered [] id));
  longs = λ id s is. let gone : get (numbered []) id ≡ None = get-numbered [] id in absurd (cc);
}

pub attached-empty : (es : Entries) (pairs : BTreeSet Pair) → es ≡ [] → pairs.keys ≡ [] → AreAttached (numbered es) pairs
attached-empty es pairs empty none = subst (λ (fs : Entries). AreAttached (numbered fs) pairs) (sym empty) (nothing_attached pairs none)
