-- What a range of one key at a revision shows.
use Rattle.std.proofs.Common.{◌≡◌, inl, inr, ℕ, ◌+◌, ◌≤◌, nat_lt, Bool, true, false, length, refl, sym, ap, subst, ◌∙◌, arith}
use Rattle.std.proofs.lemmas.Bool.{ltb-true, ltb-false, cases_lt}
use Rattle.std.proofs.lemmas.Bool.Decides.{Decides-int_eq}
use Rattle.std.proofs.lemmas.Int.{ints}
use Rattle.std.specs.Prelude.{ℤ, pos, int_lt, ◌<ℤ◌, ◌<◌, not, ◌&&◌, ◌||◌, Option, Some, None, if◌then◌else◌}
use Rattle.std.specs.FinMap.{get}
use Rattle.std.specs.Ordering.{int_eq}
use Rattle.ev_types.proofs.Found.{found-key}
use Rattle.ev_types.specs.Denials.{carry, is_denied, is_future, is_compacted}
use Rattle.ev_types.specs.Ranges.{Keys, found, in_range}
use Rattle.ev_types.specs.Reads.{one_found}
use Rattle.ev_types.specs.Store.{Store, carried_out, looked_at, max_revisions, present, revision, store_at}
use Rattle.ev_types.specs.declared.answer.Answer.{Answer}
use Rattle.ev_types.specs.declared.answer.Kv.{Kv}
use Rattle.ev_types.specs.declared.ask.Ask.TheVariants as ask
use Rattle.ev_store.specs.FirstDenial.{first_denial}
use Rattle.ev_store.specs.declared.fault.Denied.{Denied}
use Rattle.ev_store.specs.declared.fault.Denied.TheVariants as denied
use Rattle.ev_store.specs.declared.fault.StoreFault.TheVariants as fault
use Rattle.ev_call.specs.Fitting.{Fits}
use Rattle.ev_types.proofs.Keyed.{store-keyed}
use Rattle.ev_shared.specs.declared.shared_store.Watched.TheVariants as watched
use Rattle.ev_shared.specs.declared.watch.Look.TheVariants as look
use Rattle.ev_shared.specs.Watching.{IsNext, Looks, key_at, listed, found_in, put_by, put_at, NonePut, Unseen}
use Rattle.zx_base.specs.Maps.{Bytes}
use Rattle.zx_base.proofs.Numbers.{pos-nonzero}

one_at : (k : Bytes) (n : ℕ) (m : Keys) → found (key_at k n) m ≡ one_found (get m k)
unfolding in_range
one_at k n m = found-key k m

kvs_of : (o : Option Kv) → (one_found o).kvs ≡ listed o
kvs_of None = refl
kvs_of (Some kv) = refl

if_carried : {A : Type 0} (b : Bool) (x y : A) → (if b then None else Some x) ≡ Some y → (b ≡ false) × (x ≡ y)
if_carried true x y e = absurd cc
if_carried false x y e = (refl, cc)

neither : (a b : Bool) → (a || b) ≡ false → a ≡ false
neither true b e = absurd cc
neither false b e = refl

past : (s : Store) (n : ℕ) → 1 ≤ n → looked_at s (present s) (pos n) ≡ store_at s n
past s n some = ap (λ (b : Bool). if b then present s else store_at s n) (pos-nonzero n some)

pub ranged : (s t : Store) (k : Bytes) (n : ℕ) (a : Answer) → 1 ≤ n → carry s (ask.Range (key_at k n)) ≡ Some (t, a)
    → (t ≡ s) × (found_in a ≡ listed (get (store_at s n) k)) × (n ≤ length s.revisions)
unfolding carry carried_out is_denied
ranged s t k n a some e =
    let both = if_carried (is_future s (pos n) || is_compacted s (pos n)) _ (t, a) e in
    let seen : nat_lt (length s.revisions) n ≡ false = neither (is_future s (pos n)) (is_compacted s (pos n)) both.0 in
    let shown = ap (λ (x : Store × Answer). found_in x.1) both.1 in (
      sym (ap (λ (x : Store × Answer). x.0) both.1),
      sym shown ∙ ap (λ (f : _). f.kvs) (one_at k n (looked_at s (present s) (pos n))) ∙ kvs_of (get (looked_at s (present s) (pos n)) k) ∙ ap (λ (m : Keys). listed (get m k)) (past s n some),
      ltb-false (length s.revisions) n seen,
    )

compacted_below : (s : Store) (n : ℕ) → is_compacted s (pos n) ≡ true → pos n <ℤ s.floor
compacted_below s n e = go (not (int_eq (pos n) (pos 0))) e
  where
    go : (b : Bool) → (b && int_lt (pos n) s.floor) ≡ true → pos n <ℤ s.floor
    go true e = omega (arith, ints)
    go false e = absurd cc

by_future : (s : Store) (n : ℕ) (d : Denied) (b c : Bool) → nat_lt (length s.revisions) n ≡ b → is_compacted s (pos n) ≡ c
    → (if b then Some (denied.Future (pos n) (revision s)) else if c then Some (denied.Compacted (pos n) s.floor) else None) ≡ Some d → Unseen s n (fault.Denied d)
by_future s n d true c is low e = subst (λ (x : Denied). Unseen s n (fault.Denied x)) (same e) (ltb-true (length s.revisions) n is)
  where
    same : {x y : Denied} → Some x ≡ Some y → x ≡ y
    same e = cc
by_future s n d false true is low e = subst (λ (x : Denied). Unseen s n (fault.Denied x)) (same e) (refl, compacted_below s n low)
  where
    same : {x y : Denied} → Some x ≡ Some y → x ≡ y
    same e = cc
by_future s n d false false is low e = absurd cc

pub unseen : (s : Store) (k : Bytes) (n : ℕ) (d : Denied) → first_denial s (ask.Range (key_at k n)) ≡ Some d → Unseen s n (fault.Denied d)
unfolding first_denial
unseen s k n d e = by_future s n d (is_future s (pos n)) (is_compacted s (pos n)) refl refl e

pub bounded : (s t : Store) (k : Bytes) (n : ℕ) (a : Answer) → carry s (ask.Range (key_at k n)) ≡ Some (t, a) → Fits (ask.Range (key_at k n)) a → length s.revisions ≤ max_revisions
unfolding carry carried_out is_denied
bounded s t k n a e fits =
    let both = if_carried (is_future s (pos n) || is_compacted s (pos n)) _ (t, a) e in
    let here = subst (λ (x : Answer). Fits (ask.Range (key_at k n)) x) (sym (ap (λ (x : Store × Answer). x.1) both.1)) fits in
    let most = here.0.most in
    omega (arith, ints)

pub moved_on : (s : Store) (k : Bytes) (from n : ℕ) → NonePut s k from n → put_at s k n ≡ None → NonePut s k from (n + 1)
moved_on s k from n before here m least most = elim (cases_lt m n) [
  | inl lt ↦ before m least lt
  | inr le ↦ (let same : n ≡ m = omega (arith, le, most) in subst (λ (x : ℕ). put_at s k x ≡ None) same here)
]

put_from : (s : Store) (k : Bytes) (n : ℕ) (kv : Kv) → put_at s k n ≡ Some kv → (kv.mod_revision ≡ pos n) × (get (store_at s n) k ≡ Some kv)
put_from s k n kv e = by_put (get (store_at s n) k) e
  where
    if_same : (b : Bool) (x : Kv) → int_eq x.mod_revision (pos n) ≡ b → (if b then Some x else None) ≡ Some kv → (kv.mod_revision ≡ pos n) × (Some x ≡ Some kv)
    if_same true x is e = let same : x ≡ kv = cc in (subst (λ (y : Kv). y.mod_revision ≡ pos n) same ((Decides-int_eq x.mod_revision (pos n)).0 is), e)
    if_same false x is e = absurd cc

    by_put : (o : Option Kv) → put_by (pos n) o ≡ Some kv → (kv.mod_revision ≡ pos n) × (o ≡ Some kv)
    by_put None e = absurd cc
    by_put (Some x) e = if_same (int_eq x.mod_revision (pos n)) x refl e

pub looks_next : (s : Store) (k : Bytes) (from next : ℕ) (kv : Kv) → from ≤ next → Looks s k next (look.Put kv) → IsNext k from (watched.Put kv)
looks_next s k from next kv le h =
    let is = put_from s k h.0 kv h.3 in
    let at = is.0 in
    let least = h.1 in
    let most = h.2 in
    (store-keyed s h.0 k kv is.1, omega (arith, ints), omega (arith, ints))

pub gone : (s t : Store) (k : Bytes) (from n : ℕ) (asked floor : ℤ) → from ≤ n → t ≡ s → Unseen s n (fault.Denied (denied.Compacted asked floor)) → Looks t k from (look.Compacted floor)
gone s t k from n asked floor le same h = let below = h.1 in (h.0 ∙ sym (ap (λ (x : Store). x.floor) same), omega (arith, ints))

pub gone_next : (s : Store) (k : Bytes) (from next : ℕ) (floor : ℤ) → from ≤ next → Looks s k next (look.Compacted floor) → pos from <ℤ floor
gone_next s k from next floor le h = let below = h.1 in omega (arith, ints)
