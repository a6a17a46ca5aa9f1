-- A plan with the guards of its view and an update's operations is one that may be asked.
use Rattle.std.proofs.Common.{◌≡◌, ℕ, zero, suc, ℤ, pos, refl, sym, ◌∙◌, subst, arith, Bool, true, false, List, [], ◌∷◌, ◌++◌}
use Rattle.std.specs.Prelude.{Option, Some, None, All, IfSome, Contains, nat_abs, ◌≤ℤ◌, if◌then◌else◌}
use Rattle.std.specs.FinMap.{get}
use Rattle.std.proofs.lemmas.List.Elements.{All-contains_itself, All-weaker}
use Rattle.ev_types.specs.declared.answer.Kv.{Kv}
use Rattle.ev_types.specs.declared.ask.Guard.{Guard}
use Rattle.ev_types.specs.Ranges.{Keys}
use Rattle.ev_types.specs.Store.{mod_of}
use Rattle.zk_model.specs.declared.node.Trigger.{Trigger}
use Rattle.zk_service.specs.States.{State}
use Rattle.zx_base.specs.Maps.{Bytes, same}
use Rattle.zx_base.proofs.MapLaws.{same-true}
use Rattle.zn_layout.specs.Changes.{KeyChange, acts_of, head_put, update_acts}
use Rattle.zn_layout.specs.Keys.{HeadKey, LeaseKey, key_bytes}
use Rattle.zn_layout.specs.StandsFor.{StandsFor}
use Rattle.zn_layout.proofs.Keys.{key_bytes-injective}
use Rattle.zn_view.specs.declared.plan.Plan.{Plan}
use Rattle.zn_view.specs.declared.plan.Who.{Who}
use Rattle.zn_view.specs.declared.snapshot.SeenKey.{SeenKey}
use Rattle.zn_view.specs.Asks.{guards_of, again_of, lease_guard, IsAskedPlan}
use Rattle.zn_view.specs.Laws.{life_seen}
use Rattle.zn_view.specs.Seen.{View, seen_in}
use Rattle.zn_view.specs.Views.{Agrees, WasPut}

-- ---- a key that was seen is guarded

pub guard_later : (g : Guard) (x : SeenKey) (xs : List SeenKey) (b : Bool) → Contains (guards_of xs) g → Contains (if b then guards_of xs else record { key = x.key; mod_revision = mod_of x.found } ∷ guards_of xs) g
guard_later g x xs true h = h
guard_later g x xs false (i, lt, e) = (suc i, omega (arith, lt), e)

guard_first : (k : Bytes) (kv : Kv) (x : SeenKey) (xs : List SeenKey) (b : Bool) → same x.key (key_bytes HeadKey) ≡ b → x.key ≡ k → x.found ≡ Some kv → (k ≡ key_bytes HeadKey → ⊥)
    → Contains (if b then guards_of xs else record { key = x.key; mod_revision = mod_of x.found } ∷ guards_of xs) (record { key = k; mod_revision = kv.mod_revision })
guard_first k kv x xs true e is found apart = absurd (apart (sym is ∙ same-true x.key (key_bytes HeadKey) e))
guard_first k kv x xs false e is found apart = (zero, omega arith, λ i. record { key = is i; mod_revision = mod_of (found i) })

guard_at_first : (k : Bytes) (kv : Kv) (x : SeenKey) (xs : List SeenKey) (b : Bool) → same x.key k ≡ b → (k ≡ key_bytes HeadKey → ⊥) → (seen_in k xs ≡ Some (Some kv) → Contains (guards_of xs) (record { key = k; mod_revision = kv.mod_revision }))
    → (if b then Some x.found else seen_in k xs) ≡ Some (Some kv) → Contains (guards_of (x ∷ xs)) (record { key = k; mod_revision = kv.mod_revision })
guard_at_first k kv x xs true e apart later h =
    let found : x.found ≡ Some kv = cc in
    guard_first k kv x xs (same x.key (key_bytes HeadKey)) refl (same-true x.key k e) found apart
guard_at_first k kv x xs false e apart later h = guard_later (record { key = k; mod_revision = kv.mod_revision }) x xs (same x.key (key_bytes HeadKey)) (later h)

pub seen-guarded : (k : Bytes) (kv : Kv) (xs : List SeenKey) → (k ≡ key_bytes HeadKey → ⊥) → seen_in k xs ≡ Some (Some kv) → Contains (guards_of xs) (record { key = k; mod_revision = kv.mod_revision })
seen-guarded k kv [] apart h = absurd (cc)
seen-guarded k kv (x ∷ xs) apart h = guard_at_first k kv x xs (same x.key k) refl apart (seen-guarded k kv xs apart) h

pub life-apart : (n : ℕ) → key_bytes (LeaseKey n) ≡ key_bytes HeadKey → ⊥
life-apart n h = let e = key_bytes-injective (LeaseKey n) HeadKey h in absurd (cc)

-- ---- the plan

pub plan-asked : (who : Who) (v : View) (p : Plan) (cs : List KeyChange) (ts : List Trigger) (kv : Kv) → p.guards ≡ guards_of v.keys → p.again ≡ again_of v.keys → p.success ≡ update_acts cs ts
    → life_seen v who ≡ Some (Some kv) → kv.mod_revision ≡ who.mine → IsAskedPlan who v p
plan-asked who v p cs ts kv guards again acts saw mine =
    let k = key_bytes (LeaseKey (nat_abs who.session)) in
    let guarded = seen-guarded k kv v.keys (life-apart (nat_abs who.session)) saw in
    record {
      keys = v.keys;
      among = All-contains_itself v.keys;
      guards = guards;
      again = again;
      lease = subst (λ (gs : List Guard). Contains gs (lease_guard who)) (sym guards) (subst (λ (n : ℤ). Contains (guards_of v.keys) (record { key = k; mod_revision = n })) mine guarded);
      shows = (acts_of (cs ++ head_put ts ∷ []), acts);
    }

-- ---- what a view of a state saw was put

put_by : (m : Keys) → ((key : Bytes) (kv : Kv) → get m key ≡ Some kv → pos 1 ≤ℤ kv.mod_revision) → (x : SeenKey) (o : Option Kv) → x.found ≡ o → get m x.key ≡ x.found → IfSome o (λ (kv : Kv). pos 1 ≤ℤ kv.mod_revision)
put_by m least x None e is = tt
put_by m least x (Some kv) e is = least x.key kv (is ∙ e)

pub stands-put : (v : View) (m : Keys) (s : State) → StandsFor m s → Agrees v m → All WasPut v.keys
stands-put v m s stands a = All-weaker (λ (x : SeenKey). get m x.key ≡ x.found) WasPut (λ x is. put_by m (stands.layout).least x x.found refl is) v.keys a.keys
