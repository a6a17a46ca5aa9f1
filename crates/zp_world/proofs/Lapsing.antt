-- When a lapse and a put of another user are possible, by what the store answers.
use Rattle.std.proofs.Common.{◌≡◌, refl, sym, ap, ◌∙◌, arith, Bool, true, false, [], ◌∷◌}
use Rattle.std.specs.Prelude.{Option, Some, None, not, ◌||◌, pos, ℤ, ◌≤ℤ◌, int_lt, if◌then◌else◌}
use Rattle.std.specs.FinMap.{remove}
use Rattle.std.proofs.lemmas.Int.{ints}
use Rattle.std.proofs.lemmas.Bool.{and_parts}
use Rattle.ev_store.specs.FirstDenial.{foreign_denial, lapse_denial}
use Rattle.ev_store.specs.declared.fault.Denied.{Denied}
use Rattle.ev_store.specs.declared.fault.Denied.TheVariants as denied
use Rattle.ev_types.specs.Denials.{has_lease, is_full_store}
use Rattle.ev_types.specs.Lapses.{foreign, lapse, leased_keys, removals}
use Rattle.ev_types.specs.Store.{Puts, Store, grown, revision}
use Rattle.ev_types.proofs.Lapsed.{lapse-there}
use Rattle.zt_text.specs.declared.script.Why.{Why}
use Rattle.zt_text.specs.declared.script.Why.TheVariants as why
use Rattle.zp_script.specs.Faults.{full_fault, if_fails, is_kept_key}
use Rattle.zx_base.proofs.Options.{none_some, some_is}
use Rattle.zx_base.specs.Maps.{Bytes}

abbrev LapseFault : Store → ℤ → Option Why
LapseFault s id = if_fails (not (has_lease s id)) why.NoSuchLease (full_fault s (removals (leased_keys s id)))

pub lapse-possible : (s t : Store) (id : ℤ) → lapse s id ≡ Some t → LapseFault s id ≡ None
unfolding lapse
lapse-possible s t id h = go (has_lease s id) (is_full_store s (removals (leased_keys s id))) (grown (record s { leases = remove s.leases id }) (removals (leased_keys s id))) h
  where
    go : (b f : Bool) (x : Store) → (if not b || f then None else Some x) ≡ Some t → if_fails (not b) why.NoSuchLease (if_fails f why.StoreFull None) ≡ None
    go true true x h = absurd (none_some h)
    go true false x h = refl
    go false f x h = absurd (none_some h)

pub lapse-full : (s : Store) (id r : ℤ) → lapse_denial s id ≡ Some (denied.Full r) → LapseFault s id ≡ Some why.StoreFull
unfolding lapse_denial
lapse-full s id r h = go (has_lease s id) (is_full_store s (removals (leased_keys s id))) h
  where
    go : (b f : Bool) → (if b then (if f then Some (denied.Full (revision s)) else None) else Some (denied.NoLease id)) ≡ Some (denied.Full r) → if_fails (not b) why.NoSuchLease (if_fails f why.StoreFull None) ≡ Some why.StoreFull
    go true true h = refl
    go true false h = absurd (none_some h)
    go false f h = absurd (cc)

pub lapse-missing : (s : Store) (id : ℤ) (d : Denied) → lapse_denial s id ≡ Some d → ((r : ℤ) → d ≡ denied.Full r → ⊥) → LapseFault s id ≡ Some why.NoSuchLease
unfolding lapse_denial
lapse-missing s id d h other = go (has_lease s id) (is_full_store s (removals (leased_keys s id))) h
  where
    go : (b f : Bool) → (if b then (if f then Some (denied.Full (revision s)) else None) else Some (denied.NoLease id)) ≡ Some d → if_fails (not b) why.NoSuchLease (if_fails f why.StoreFull None) ≡ Some why.NoSuchLease
    go true true h = absurd (other (revision s) (sym (some_is h)))
    go true false h = absurd (none_some h)
    go false f h = refl

-- a lease that lapses has a number from 1 on
pub lapse-least : (s t : Store) (id : ℤ) → lapse s id ≡ Some t → pos 1 ≤ℤ id
lapse-least s t id h =
    let there : int_lt (pos 0) id ≡ true = (and_parts _ _ (lapse-there s t id h)).0 in
    grind (arith, ints)

abbrev ForeignFault : Store → Bytes → Bytes → Option Why
ForeignFault s k v = if_fails (is_kept_key k) why.KeyKept (full_fault s (Puts k v (pos 0) ∷ []))

pub foreign-possible : (s t : Store) (k v : Bytes) → is_kept_key k ≡ false → foreign s k v ≡ Some t → ForeignFault s k v ≡ None
unfolding foreign
foreign-possible s t k v kept h = ap (λ b. if_fails b why.KeyKept (full_fault s (Puts k v (pos 0) ∷ []))) kept ∙ go (is_full_store s (Puts k v (pos 0) ∷ [])) h
  where
    go : (f : Bool) → (if f then None else Some (grown s (Puts k v (pos 0) ∷ []))) ≡ Some t → if_fails f why.StoreFull None ≡ None
    go true h = absurd (none_some h)
    go false h = refl

pub foreign-full : (s : Store) (k v : Bytes) (d : Denied) → is_kept_key k ≡ false → foreign_denial s k v ≡ Some d → ForeignFault s k v ≡ Some why.StoreFull
foreign-full s k v d kept h = ap (λ b. if_fails b why.KeyKept (full_fault s (Puts k v (pos 0) ∷ []))) kept ∙ go (is_full_store s (Puts k v (pos 0) ∷ [])) h
  where
    go : (f : Bool) → (if f then Some (denied.Full (revision s)) else None) ≡ Some d → if_fails f why.StoreFull None ≡ Some why.StoreFull
    go true h = refl
    go false h = absurd (none_some h)

pub foreign-kept : (s : Store) (k v : Bytes) → is_kept_key k ≡ true → ForeignFault s k v ≡ Some why.KeyKept
foreign-kept s k v kept = ap (λ b. if_fails b why.KeyKept (full_fault s (Puts k v (pos 0) ∷ []))) kept
