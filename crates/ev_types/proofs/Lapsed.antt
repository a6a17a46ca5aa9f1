-- A lease that lapsed, and a put of another user.
use Rattle.std.proofs.Common.{◌≡◌, ℕ, ◌≤◌, ◌||◌, Bool, true, false, cond, not, ℤ, pos, ◌+ℤ◌, List, [], ◌∷◌, length, Option, Some, None, refl, sym, ap, ◌∙◌, subst, ⊎_elim, arith}
use Rattle.std.specs.Prelude.{◌≤ℤ◌, ◌<ℤ◌, is_some}
use Rattle.std.specs.List.{list_any}
use Rattle.std.specs.Ordering.{is_eq}
use Rattle.std.specs.Cmp.Lexicographic.{nat_list_cmp_total}
use Rattle.std.specs.FinMap.{get, insert, remove, retain_keys, get-remove, contains_key-keys}
use Rattle.std.proofs.lemmas.Cmp.{tied_itself}
use Rattle.std.proofs.lemmas.Bool.{or_left, le-ltb, lt-ltb}
use Rattle.std.proofs.lemmas.Int.{ints}
use Rattle.zx_base.specs.Maps.{Bytes, same}
use Rattle.zx_base.proofs.MapLaws.{either, same-refl, same-false, get-insert_same, get-insert_other, get-retain}
use Rattle.zx_base.proofs.Options.{some_is}
use Rattle.ev_types.specs.declared.answer.Kv.{Kv}
use Rattle.ev_types.specs.Ranges.{Keys}
use Rattle.ev_types.specs.Store.{Store, Change, Puts, revision, after_changes, present, store_at, put_over, grown, last_revision, max_revisions}
use Rattle.ev_types.specs.Denials.{has_lease, is_full_store}
use Rattle.ev_types.specs.Lapses.{is_leased, leased_keys, removals, lapse, foreign}
use Rattle.ev_types.proofs.Grown.{present-grown, earlier-grown, revision-grown}
use Rattle.zx_base.proofs.Orders.{is_tied}

-- ---- what is there after removals

removed_once : (b c : Bool) (o : Option Kv) → cond b None (cond c None o) ≡ cond (c || b) None o
removed_once true true o = refl
removed_once true false o = refl
removed_once false true o = refl
removed_once false false o = refl

get-removals : (r : ℤ) (m : Keys) (ks : List Bytes) (q : Bytes) → get (after_changes r m (removals ks)) q ≡ cond (list_any (is_tied q) ks) None (get m q)
unfolding is_tied
get-removals r m [] q = refl
get-removals r m (k ∷ ks) q =
    get-removals r (remove m k) ks q
    ∙ ap (cond (list_any (is_tied q) ks) None) (get-remove nat_list_cmp_total m k q)
    ∙ removed_once (list_any (is_tied q) ks) (is_tied q k) (get m q)

among : (s : Store) (id : ℤ) (q : Bytes) → list_any (is_tied q) (leased_keys s id) ≡ is_leased id (get (present s) q)
unfolding is_tied
among s id q = sym (contains_key-keys (retain_keys (present s) (λ k. is_leased id (get (present s) k))) q)
    ∙ ap is_some (get-retain (present s) (λ k. is_leased id (get (present s) k)) q) ∙ passes (get (present s) q)
  where
    kept : (b : Bool) (kv : Kv) → is_some (cond b (Some kv) None) ≡ b
    kept true kv = refl
    kept false kv = refl

    passes : (o : Option Kv) → is_some (cond (is_leased id o) o None) ≡ is_leased id o
    passes None = refl
    passes (Some kv) = kept (is_leased id (Some kv)) kv

-- ---- a lapse

-- the store without the lease, before its keys go
abbrev without : Store → ℤ → Store
without s id = record s { leases = remove s.leases id }

present-without : (s : Store) (id : ℤ) → present (without s id) ≡ present s
unfolding store_at
present-without s id = refl

store_at-without : (s : Store) (id : ℤ) (r : ℕ) → store_at (without s id) r ≡ store_at s r
unfolding store_at
store_at-without s id r = refl

chosen : {A : Type 0} (b : Bool) (x y : A) → cond b None (Some x) ≡ Some y → (b ≡ false) × (x ≡ y)
chosen true x y e = absurd cc
chosen false x y e = (refl, some_is e)

record IsLapsed (s new : Store) (id : ℤ) : Type 0 where
  pub there : has_lease s id ≡ true
  pub is : new ≡ grown (without s id) (removals (leased_keys s id))

was_there : (b c : Bool) → (not b || c) ≡ false → b ≡ true
was_there true c h = refl
was_there false c h = absurd cc

lapsed : (s new : Store) (id : ℤ) → lapse s id ≡ Some new → IsLapsed s new id
unfolding lapse
lapsed s new id e =
    let c = chosen (not (has_lease s id) || is_full_store s (removals (leased_keys s id))) (grown (without s id) (removals (leased_keys s id))) new e in
    record { there = was_there (has_lease s id) _ c.0; is = sym c.1 }

has_room : (s : Store) (cs : List Change) → revision s <ℤ last_revision → is_full_store s cs ≡ false
has_room s [] room = refl
has_room s (c ∷ cs) room = ap not (lt-ltb (length s.revisions) max_revisions (omega (arith, ints)))

pub lapse-lapses : (s : Store) (id : ℤ) → has_lease s id ≡ true → revision s <ℤ last_revision → (new : Store) × (lapse s id ≡ Some new)
unfolding lapse
lapse-lapses s id there room =
    (grown (without s id) (removals (leased_keys s id)), rw (there, has_room s (removals (leased_keys s id)) room) refl)

pub lapse-zero : (s : Store) → lapse s (pos 0) ≡ None
unfolding lapse
lapse-zero s = refl

pub lapse-there : (s new : Store) (id : ℤ) → lapse s id ≡ Some new → has_lease s id ≡ true
lapse-there s new id e = (lapsed s new id e).there

pub lapse-keys : (s new : Store) (id : ℤ) (k : Bytes) → lapse s id ≡ Some new → get (present new) k ≡ cond (is_leased id (get (present s) k)) None (get (present s) k)
lapse-keys s new id k e =
    ap (λ (t : Store). get (present t) k) (lapsed s new id e).is
    ∙ ap (λ (m : Keys). get m k) (present-grown (without s id) (removals (leased_keys s id)))
    ∙ ap (λ (m : Keys). get (after_changes (revision s +ℤ pos 1) m (removals (leased_keys s id))) k) (present-without s id)
    ∙ get-removals (revision s +ℤ pos 1) (present s) (leased_keys s id) k
    ∙ ap (λ b. cond b None (get (present s) k)) (among s id k)

leases-grown : (s : Store) (cs : List Change) → (grown s cs).leases ≡ s.leases
leases-grown s [] = refl
leases-grown s (c ∷ cs) = refl

pub lapse-lease : (s new : Store) (id : ℤ) → lapse s id ≡ Some new → new.leases ≡ remove s.leases id
lapse-lease s new id e = ap (λ (t : Store). t.leases) (lapsed s new id e).is ∙ leases-grown (without s id) (removals (leased_keys s id))

revision-removals : (s : Store) (ks : List Bytes) (q : Bytes) → list_any (is_tied q) ks ≡ true → revision (grown s (removals ks)) ≡ revision s +ℤ pos 1
revision-removals s [] q h = cc
revision-removals s (k ∷ ks) q h = revision-grown s _ _

pub lapse-one : (s new : Store) (id : ℤ) (k : Bytes) → lapse s id ≡ Some new → is_leased id (get (present s) k) ≡ true → revision new ≡ revision s +ℤ pos 1
lapse-one s new id k e h = ap revision (lapsed s new id e).is ∙ revision-removals (without s id) (leased_keys s id) k (among s id k ∙ h)

-- a list in which nothing is found has nothing
nothing : (ks : List Bytes) → ((q : Bytes) → list_any (is_tied q) ks ≡ false) → ks ≡ []
unfolding is_tied
nothing [] none = refl
nothing (k ∷ ks) none = absurd (let here : (is_tied k k || list_any (is_tied k) ks) ≡ true = or_left (is_tied k k) _ (ap is_eq (tied_itself nat_list_cmp_total k)) in let not_here = none k in cc)

pub lapse-none : (s new : Store) (id : ℤ) → lapse s id ≡ Some new → ((k : Bytes) → is_leased id (get (present s) k) ≡ false) → revision new ≡ revision s
lapse-none s new id e none =
    ap revision (lapsed s new id e).is ∙ ap (λ (ks : List Bytes). revision (grown (without s id) (removals ks))) (nothing (leased_keys s id) (λ q. among s id q ∙ none q))

pub lapse-earlier : (s new : Store) (id : ℤ) (r : ℕ) → lapse s id ≡ Some new → r ≤ length s.revisions → store_at new r ≡ store_at s r
lapse-earlier s new id r e le =
    ap (λ (t : Store). store_at t r) (lapsed s new id e).is ∙ earlier-grown (without s id) (removals (leased_keys s id)) r le ∙ store_at-without s id r

-- ---- a put of another user

put_foreign : (s new : Store) (k v : Bytes) → foreign s k v ≡ Some new → new ≡ grown s (Puts k v (pos 0) ∷ [])
unfolding foreign
put_foreign s new k v e = sym (chosen (is_full_store s (Puts k v (pos 0) ∷ [])) (grown s (Puts k v (pos 0) ∷ [])) new e).1

get-put : (m : Keys) (k q : Bytes) (kv : Kv) → get (insert m k kv) q ≡ cond (same q k) (Some kv) (get m q)
get-put m k q kv = ⊎_elim
    (λ e. subst (λ (x : Bytes). get (insert m k kv) x ≡ cond (same x k) (Some kv) (get m x)) (sym e) (get-insert_same m k kv ∙ sym (ap (λ b. cond b (Some kv) (get m k)) (same-refl k))))
    (λ n. get-insert_other m k q kv n ∙ sym (ap (λ b. cond b (Some kv) (get m q)) (same-false q k n)))
    (either q k)

pub foreign-puts : (s : Store) (k v : Bytes) → revision s <ℤ last_revision → (new : Store) × (foreign s k v ≡ Some new)
unfolding foreign
foreign-puts s k v room = (grown s (Puts k v (pos 0) ∷ []), rw (has_room s (Puts k v (pos 0) ∷ []) room) refl)

pub foreign-full : (s : Store) (k v : Bytes) → last_revision ≤ℤ revision s → foreign s k v ≡ None
unfolding foreign
foreign-full s k v full = ap (λ b. cond b None (Some (grown s (Puts k v (pos 0) ∷ [])))) (ap not (le-ltb (length s.revisions) max_revisions (omega (arith, ints))))

pub foreign-one : (s new : Store) (k v : Bytes) → foreign s k v ≡ Some new → revision new ≡ revision s +ℤ pos 1
foreign-one s new k v e = ap revision (put_foreign s new k v e) ∙ revision-grown s _ _

pub foreign-keys : (s new : Store) (k v q : Bytes) → foreign s k v ≡ Some new →
    get (present new) q ≡ cond (same q k) (Some (put_over (revision new) k v (pos 0) (get (present s) k))) (get (present s) q)
foreign-keys s new k v q e =
    ap (λ (t : Store). get (present t) q) (put_foreign s new k v e)
    ∙ ap (λ (m : Keys). get m q) (present-grown s (Puts k v (pos 0) ∷ []))
    ∙ get-put (present s) k q (put_over (revision s +ℤ pos 1) k v (pos 0) (get (present s) k))
    ∙ ap (λ (r : ℤ). cond (same q k) (Some (put_over r k v (pos 0) (get (present s) k))) (get (present s) q)) (sym (foreign-one s new k v e))

pub foreign-leases : (s new : Store) (k v : Bytes) → foreign s k v ≡ Some new → new.leases ≡ s.leases
foreign-leases s new k v e = ap (λ (t : Store). t.leases) (put_foreign s new k v e)

pub foreign-earlier : (s new : Store) (k v : Bytes) (r : ℕ) → foreign s k v ≡ Some new → r ≤ length s.revisions → store_at new r ≡ store_at s r
foreign-earlier s new k v r e le = ap (λ (t : Store). store_at t r) (put_foreign s new k v e) ∙ earlier-grown s (Puts k v (pos 0) ∷ []) r le
