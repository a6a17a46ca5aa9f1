-- A lapse: the keys of the lease among all keys, and what is left without them.
use Rattle.std.proofs.Common.{◌≡◌, Bool, true, false, not, ◌||◌, cond, ℤ, pos, List, [], ◌∷◌, ◌++◌, Option, Some, None, refl, sym, ap, ◌∙◌, append_assoc}
use Rattle.std.specs.Prelude.{is_some, is_none}
use Rattle.std.specs.List.{AllByRecursion}
use Rattle.std.specs.List.Sorted.{IsStrictlySortedBy}
use Rattle.std.specs.Map.{keys_of, lookup}
use Rattle.std.specs.BTreeMap.{is_at}
use Rattle.std.specs.declared.cmp.Ordering.TheVariants.{Less}
use Rattle.std.specs.Ordering.{nat_cmp}
use Rattle.std.specs.Cmp.{eq_by_cmp_equiv}
use Rattle.std.specs.Cmp.Lexicographic.{slice_cmp, nat_list_cmp_total}
use Rattle.std.specs.FinMap.{get, remove, retain_keys}
use Rattle.std.proofs.lemmas.Map.Entries.{option_filter, lookup-filter-values}
use Rattle.std.proofs.lemmas.Map.Keys.{IsDistinct-from_sorted}
use Rattle.std.proofs.lemmas.Map.Lookups.{exact_bytes}
use Rattle.zx_base.specs.Maps.{Bytes}
use Rattle.zx_base.proofs.MapLaws.{get-retain}
use Rattle.ev_types.specs.declared.answer.Kv.{Kv}
use Rattle.ev_types.specs.Store.{Store, Change, Puts, grown, present}
use Rattle.ev_types.specs.Denials.{has_lease, is_full_store}
use Rattle.ev_types.specs.Lapses.{is_leased, leased_keys, removals, lapse, foreign}
use Rattle.ev_store.specs.declared.fault.Denied.{Denied}
use Rattle.ev_store.specs.declared.fault.Denied.TheVariants as denied
use Rattle.ev_store.specs.Changes.{leased_among, put_keys, are_distinct, puts_once}
use Rattle.ev_store.specs.Leased.{with_lease}
use Rattle.ev_store.specs.FirstDenial.{full, lapse_denial, foreign_denial}
use Rattle.ev_store.proofs.Denying.{full-there}
use Rattle.ev_store.proofs.Entries.{entries_from_gets}
use Rattle.zx_base.proofs.Options.{none-from_is_none}

-- ---- the loop over the keys

leased_more : (id : ℤ) (e : Bytes × Kv) (es : List (Bytes × Kv)) →
    removals (keys_of (leased_among id (e ∷ es))) ≡ removals (keys_of (leased_among id (e ∷ []))) ++ removals (keys_of (leased_among id es))
leased_more id e es = elim (is_leased id (Some e.1)) as (λ b. removals (keys_of (cond b (e ∷ leased_among id es) (leased_among id es))) ≡ removals (keys_of (cond b (e ∷ []) [])) ++ removals (keys_of (leased_among id es))) [ true ↦ refl | false ↦ refl ]

pub removed_more : (id : ℤ) (out now total : List Change) (e : Bytes × Kv) (rest after : List (Bytes × Kv)) → rest ≡ e ∷ after →
    now ≡ out ++ removals (keys_of (leased_among id (e ∷ []))) → out ++ removals (keys_of (leased_among id rest)) ≡ total → now ++ removals (keys_of (leased_among id after)) ≡ total
removed_more id out now total e rest after first pushed so_far =
    ap (λ n. n ++ removals (keys_of (leased_among id after))) pushed
    ∙ append_assoc out (removals (keys_of (leased_among id (e ∷ [])))) (removals (keys_of (leased_among id after)))
    ∙ ap (λ cs. out ++ cs) (sym (leased_more id e after) ∙ ap (λ es. removals (keys_of (leased_among id es))) (sym first))
    ∙ so_far

-- ---- the keys that it finds

below-leased : (id : ℤ) (k : Bytes) (es : List (Bytes × Kv)) → AllByRecursion (λ y. slice_cmp nat_cmp k y ≡ Less) (keys_of es) → AllByRecursion (λ y. slice_cmp nat_cmp k y ≡ Less) (keys_of (leased_among id es))
below-leased id k [] h = tt
below-leased id k (e ∷ es) h = elim (is_leased id (Some e.1)) as (λ b. AllByRecursion (λ y. slice_cmp nat_cmp k y ≡ Less) (keys_of (cond b (e ∷ leased_among id es) (leased_among id es)))) [
  | true ↦ (h.0, below-leased id k es h.1)
  | false ↦ below-leased id k es h.1
]

ordered-leased : (id : ℤ) (es : List (Bytes × Kv)) → IsStrictlySortedBy (slice_cmp nat_cmp) (keys_of es) → IsStrictlySortedBy (slice_cmp nat_cmp) (keys_of (leased_among id es))
unfolding IsStrictlySortedBy
ordered-leased id [] h = tt
ordered-leased id (e ∷ es) h = elim (is_leased id (Some e.1)) as (λ b. IsStrictlySortedBy (slice_cmp nat_cmp) (keys_of (cond b (e ∷ leased_among id es) (leased_among id es)))) [
  | true ↦ (below-leased id e.0 es h.0, ordered-leased id es h.1)
  | false ↦ ordered-leased id es h.1
]

kept_leased : (id : ℤ) (o : Option Kv) → option_filter (λ kv. is_leased id (Some kv)) o ≡ with_lease id o
kept_leased id None = refl
kept_leased id (Some kv) = refl

-- keys that show all that have the lease as they are now
pub keys-leased : (s : Store) (id : ℤ) (es : List (Bytes × Kv)) → IsStrictlySortedBy (slice_cmp nat_cmp) (keys_of es) →
    ((q : Bytes) → with_lease id (lookup (is_at (slice_cmp nat_cmp q)) es) ≡ with_lease id (get (present s) q)) → keys_of (leased_among id es) ≡ leased_keys s id
keys-leased s id es ordered gets =
    ap keys_of (entries_from_gets nat_list_cmp_total exact_bytes (retain_keys (present s) (λ k. is_leased id (get (present s) k))) (leased_among id es) (ordered-leased id es ordered) (λ q.
    lookup-filter-values (eq_by_cmp_equiv nat_list_cmp_total) (λ kv. is_leased id (Some kv)) q es (IsDistinct-from_sorted (slice_cmp nat_cmp) (keys_of es) ordered)
    ∙ kept_leased id (lookup (is_at (slice_cmp nat_cmp q)) es) ∙ gets q
    ∙ sym (get-retain (present s) (λ k. is_leased id (get (present s) k)) q)))

puts-removals : (ks : List Bytes) → put_keys (removals ks) ≡ []
puts-removals [] = refl
puts-removals (k ∷ ks) = puts-removals ks

pub removals_once : (ks : List Bytes) (cs : List Change) → cs ≡ removals ks → puts_once cs ≡ true
removals_once ks cs is = ap puts_once is ∙ ap are_distinct (puts-removals ks)

-- ---- the lapse

-- a lease goes before its keys, or after them
grown-leases : (s : Store) (id : ℤ) (cs : List Change) → grown (record s { leases = remove s.leases id }) cs ≡ record (grown s cs) { leases = remove (grown s cs).leases id }
grown-leases s id [] = refl
grown-leases s id (c ∷ cs) = refl

pub lapse_done : (s mid new : Store) (id : ℤ) (cs : List Change) → has_lease s id ≡ true → cs ≡ removals (leased_keys s id) → full s cs ≡ None → mid ≡ grown s cs →
    new ≡ record mid { leases = remove mid.leases id } → lapse s id ≡ Some new
unfolding lapse
lapse_done s mid new id cs there all room added dropped =
    ap (λ b. cond (not b || is_full_store s (removals (leased_keys s id))) None (Some (grown (record s { leases = remove s.leases id }) (removals (leased_keys s id))))) there
    ∙ ap (λ ds. cond (is_full_store s ds) None (Some (grown (record s { leases = remove s.leases id }) ds))) (sym all)
    ∙ ap (λ b. cond b None (Some (grown (record s { leases = remove s.leases id }) cs))) (sym (full-there s cs) ∙ ap is_some room)
    ∙ ap Some (grown-leases s id cs ∙ ap (λ (m : Store). record m { leases = remove m.leases id }) (sym added) ∙ sym dropped)

none-there : {A : Type 0} (b : Bool) (x : A) → is_none (cond b None (Some x)) ≡ b
none-there true x = refl
none-there false x = refl

named_or : (b : Bool) (o : Option Denied) (d : Denied) → is_some (cond b o (Some d)) ≡ (not b || is_some o)
named_or true o d = refl
named_or false o d = refl

pub lapse-named : (s : Store) (id : ℤ) → is_some (lapse_denial s id) ≡ is_none (lapse s id)
unfolding lapse_denial lapse
lapse-named s id =
    named_or (has_lease s id) (full s (removals (leased_keys s id))) (denied.NoLease id)
    ∙ (λ i. not (has_lease s id) || full-there s (removals (leased_keys s id)) i)
    ∙ sym (none-there (not (has_lease s id) || is_full_store s (removals (leased_keys s id))) (grown (record s { leases = remove s.leases id }) (removals (leased_keys s id))))

pub lapse_denied : (s : Store) (id : ℤ) (d : Denied) → lapse_denial s id ≡ Some d → lapse s id ≡ None
lapse_denied s id d h = none-from_is_none (lapse s id) (sym (lapse-named s id) ∙ ap is_some h)

-- ---- a put of another user

pub foreign_done : (s new : Store) (k v : Bytes) (cs : List Change) → cs ≡ Puts k v (pos 0) ∷ [] → full s cs ≡ None → new ≡ grown s cs → foreign s k v ≡ Some new
unfolding foreign
foreign_done s new k v cs is room added =
    ap (λ ds. cond (is_full_store s ds) None (Some (grown s ds))) (sym is)
    ∙ ap (λ b. cond b None (Some (grown s cs))) (sym (full-there s cs) ∙ ap is_some room) ∙ ap Some (sym added)

pub foreign-named : (s : Store) (k v : Bytes) → is_some (foreign_denial s k v) ≡ is_none (foreign s k v)
unfolding foreign
foreign-named s k v = full-there s (Puts k v (pos 0) ∷ []) ∙ sym (none-there (is_full_store s (Puts k v (pos 0) ∷ [])) (grown s (Puts k v (pos 0) ∷ [])))

pub foreign_denied : (s : Store) (k v : Bytes) (d : Denied) → foreign_denial s k v ≡ Some d → foreign s k v ≡ None
foreign_denied s k v d h = none-from_is_none (foreign s k v) (sym (foreign-named s k v) ∙ ap is_some h)
