-- What the operations of changes leave under a key.
use Rattle.std.proofs.Common.{◌≡◌, ◌≢◌, ℤ, Bool, true, false, cond, List, [], ◌∷◌, ◌++◌, Option, Some, None, refl, sym, ap, ◌∙◌, subst}
use Rattle.std.specs.FinMap.{get, insert, remove}
use Rattle.ev_types.specs.declared.answer.Kv.{Kv}
use Rattle.ev_types.specs.declared.ask.Act.{Act}
use Rattle.ev_types.specs.Ranges.{Keys}
use Rattle.ev_types.specs.Store.{put_over, after_changes, act_changes, acts_applied}
use Rattle.zx_base.specs.Maps.{Bytes}
use Rattle.zx_base.proofs.MapLaws.{get-insert_same, get-insert_other, get-remove_same, get-remove_other}
use Rattle.zn_layout.specs.Keys.{Key, key_bytes, same_key}
use Rattle.zn_layout.specs.StandsFor.{Stored, stored_of, at}
use Rattle.zn_layout.specs.Changes.{Put, KeyChange, act_at, act_of, acts_of, put_or_else, last}
use Rattle.zn_layout.specs.Fits.{left}
use Rattle.zn_layout.proofs.Keys.{same_key-true, same_key-false}

pub acts_applied-append : (z : ℤ) (keys : Keys) (xs ys : List Act) → acts_applied z keys (xs ++ ys) ≡ acts_applied z (acts_applied z keys xs) ys
acts_applied-append z keys [] ys = refl
acts_applied-append z keys (x ∷ xs) ys = acts_applied-append z (after_changes z keys (act_changes x)) xs ys

-- ---- one change

-- what a put at revision z leaves of what a key had
abbrev pub put_kv : ℤ → Bytes → Put → Option Kv → Kv
put_kv z key w old = put_over z key w.value w.lease old

abbrev pub write : ℤ → Bytes → Option Put → Keys → Keys
write z key None keys = remove keys key
write z key (Some w) keys = insert keys key (put_kv z key w (get keys key))

pub write-is : (z : ℤ) (key : Bytes) (w : Option Put) (keys : Keys) → after_changes z keys (act_changes (act_at key w)) ≡ write z key w keys
write-is z key None keys = refl
write-is z key (Some w) keys = refl

pub write_other : (z : ℤ) (w : Option Put) (keys : Keys) (k key : Bytes) → key ≢ k → get (write z k w keys) key ≡ get keys key
write_other z None keys k key n = get-remove_other keys k key n
write_other z (Some w) keys k key n = get-insert_other keys k key _ n

stored_put : (z : ℤ) (key : Bytes) (w : Put) (old : Option Kv) → stored_of (Some (put_kv z key w old)) ≡ left z (Some w)
stored_put z key w None = refl
stored_put z key w (Some kv) = refl

pub write_same : (z : ℤ) (w : Option Put) (keys : Keys) (key : Bytes) → stored_of (get (write z key w keys) key) ≡ left z w
write_same z None keys key = ap stored_of (get-remove_same keys key)
write_same z (Some w) keys key = ap stored_of (get-insert_same keys key _) ∙ stored_put z key w (get keys key)

-- ---- a list of changes

-- what is left under a key: what was there, or the last put
abbrev pub over : ℤ → Option (Option Put) → Option Stored → Option Stored
over z None o = o
over z (Some w) o = left z w

over_more : (z : ℤ) (l : Option (Option Put)) (b : Bool) (w : Option Put) (o : Option Stored) → over z l (cond b (left z w) o) ≡ over z (put_or_else l (cond b (Some w) None)) o
over_more z None true w o = refl
over_more z None false w o = refl
over_more z (Some v) b w o = refl

-- the keys after one change
abbrev pub one_more : ℤ → KeyChange → Keys → Keys
one_more z c keys = after_changes z keys (act_changes (act_of c))

stored-one : (z : ℤ) (c : KeyChange) (keys : Keys) (k : Key) → stored_of (at (one_more z c keys) k) ≡ cond (same_key k c.key) (left z c.put) (stored_of (at keys k))
stored-one z c keys k = ap (λ (m : Keys). stored_of (at m k)) (write-is z (key_bytes c.key) c.put keys) ∙ elim (same_key k c.key) as (λ b. same_key k c.key ≡ b → stored_of (at (write z (key_bytes c.key) c.put keys) k) ≡ cond b (left z c.put) (stored_of (at keys k))) [
  | true ↦ λ h. subst (λ (x : Key). stored_of (at (write z (key_bytes c.key) c.put keys) x) ≡ left z c.put) (sym (same_key-true k c.key h)) (write_same z c.put keys (key_bytes c.key))
  | false ↦ λ h. ap stored_of (write_other z c.put keys (key_bytes c.key) (key_bytes k) (same_key-false k c.key h))
] refl

pub stored-changes : (z : ℤ) (cs : List KeyChange) (keys : Keys) (k : Key) → stored_of (at (acts_applied z keys (acts_of cs)) k) ≡ over z (last cs k) (stored_of (at keys k))
stored-changes z [] keys k = refl
stored-changes z (c ∷ cs) keys k = stored-changes z cs (one_more z c keys) k ∙ ap (over z (last cs k)) (stored-one z c keys k) ∙ over_more z (last cs k) (same_key k c.key) c.put (stored_of (at keys k))

-- ---- a key that isn't written keeps all that it has

unwritten : (l : Option (Option Put)) (b : Bool) (w : Option Put) → put_or_else l (cond b (Some w) None) ≡ None → (l ≡ None) × (b ≡ false)
unwritten None true w e = absurd cc
unwritten None false w e = (refl, refl)
unwritten (Some v) b w e = absurd cc

at-one : (z : ℤ) (c : KeyChange) (keys : Keys) (k : Key) → same_key k c.key ≡ false → at (one_more z c keys) k ≡ at keys k
at-one z c keys k h = ap (λ (m : Keys). at m k) (write-is z (key_bytes c.key) c.put keys) ∙ write_other z c.put keys (key_bytes c.key) (key_bytes k) (same_key-false k c.key h)

pub at-unwritten : (z : ℤ) (cs : List KeyChange) (keys : Keys) (k : Key) → last cs k ≡ None → at (acts_applied z keys (acts_of cs)) k ≡ at keys k
at-unwritten z [] keys k e = refl
at-unwritten z (c ∷ cs) keys k e =
    let parts = unwritten (last cs k) (same_key k c.key) c.put e in
    at-unwritten z cs (one_more z c keys) k parts.0 ∙ at-one z c keys k parts.1
