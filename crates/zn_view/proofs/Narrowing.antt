-- A view with some of its keys alone shows them as the whole view does; and where a plan guards these alone, what it is worth on
-- them it is worth on the whole view.
use Rattle.std.proofs.Common.{◌≡◌, ℕ, ℤ, true, false, List, [], ◌∷◌, ◌++◌, Option, Some, None, refl, sym, ap, ◌∙◌, subst, inl, inr, ⊎_elim, arith, zero, suc}
use Rattle.std.specs.Prelude.{All, Contains, nat_abs, if◌then◌else◌}
use Rattle.std.specs.FinMap.{get}
use Rattle.std.proofs.lemmas.Bool.{true≢false}
use Rattle.std.proofs.lemmas.List.Elements.{All-nil, All-cons, All-head, All-tail, All-weaker, All-contains}
use Rattle.ev_types.specs.declared.answer.Kv.{Kv}
use Rattle.ev_types.specs.declared.ask.Guard.{Guard}
use Rattle.ev_types.specs.Ranges.{Keys}
use Rattle.ev_types.specs.Store.{mod_of}
use Rattle.zk_model.specs.declared.reply.Reply.{Reply}
use Rattle.zk_model.specs.declared.request.Request.{Request}
use Rattle.zx_base.specs.Maps.{Bytes, same}
use Rattle.zx_base.proofs.MapLaws.{same-true, same-refl}
use Rattle.zx_base.proofs.Options.{none_some, some_is}
use Rattle.zn_layout.specs.Changes.{KeyChange, acts_of, head_put, update_acts}
use Rattle.zn_layout.specs.Keys.{HeadKey, LeaseKey, key_bytes}
use Rattle.zn_view.specs.declared.plan.Plan.{Plan}
use Rattle.zn_view.specs.declared.plan.Who.{Who}
use Rattle.zn_view.specs.declared.snapshot.SeenKey.{SeenKey}
use Rattle.zn_view.specs.Asks.{again_of, guards_of, lease_guard, narrowed, picked, with_found, IsAskedPlan}
use Rattle.zn_view.specs.Seen.{View, seen, seen_in}
use Rattle.zn_view.specs.Views.{Agrees, IsPlan, MayCommit, WasPut}
use Rattle.zn_view.proofs.AsSeen.{agrees-seen}
use Rattle.zn_view.proofs.Asked.{life-apart, seen-guarded}
use Rattle.zn_view.proofs.Members.{In, contains_in}

-- ---- what is seen

-- what is seen among the picked keys was seen
pub picked-seen : (v : View) (ks : List Bytes) (k : Bytes) (o : Option Kv) → seen_in k (picked v ks) ≡ Some o → seen v k ≡ Some o
picked-seen v [] k o e = absurd (none_some e)
picked-seen v (j ∷ ks) k o e =
    elim (seen v j) as (λ s. seen v j ≡ s → seen_in k (with_found j s (picked v ks)) ≡ Some o → seen v k ≡ Some o) [
      | None ↦ λ f h. picked-seen v ks k o h
      | Some p ↦ λ f h. elim (same j k) as (λ b. same j k ≡ b → (if b then Some p else seen_in k (picked v ks)) ≡ Some o → seen v k ≡ Some o) [
        | true ↦ λ g is. ap (seen v) (sym (same-true j k g)) ∙ f ∙ is
        | false ↦ λ g is. picked-seen v ks k o is
      ] refl h
    ] refl e

-- each picked key that was looked up is seen among the picked ones
pub picked-told : (v : View) (ks : List Bytes) (k : Bytes) (o : Option Kv) → In k ks → seen v k ≡ Some o → seen_in k (picked v ks) ≡ Some o
picked-told v [] k o h e = absurd h
picked-told v (j ∷ ks) k o h e =
    elim (seen v j) as (λ s. seen v j ≡ s → seen_in k (with_found j s (picked v ks)) ≡ Some o) [
      | None ↦ λ f. ⊎_elim (λ is. absurd (none_some (sym f ∙ ap (seen v) is ∙ e))) (λ later. picked-told v ks k o later e) h
      | Some p ↦ λ f. elim (same j k) as (λ b. same j k ≡ b → (if b then Some p else seen_in k (picked v ks)) ≡ Some o) [
        | true ↦ λ g. sym f ∙ ap (seen v) (same-true j k g) ∙ e
        | false ↦ λ g. ⊎_elim (λ is. absurd (true≢false (sym (ap (λ (x : Bytes). same j x) (sym is) ∙ same-refl j) ∙ g))) (λ later. picked-told v ks k o later e) h
      ] refl
    ] refl

-- a key that wasn't looked up isn't seen among the picked ones
picked-unseen : (v : View) (ks : List Bytes) (k : Bytes) → seen v k ≡ None → seen_in k (picked v ks) ≡ None
picked-unseen v ks k none = elim (seen_in k (picked v ks)) as (λ o. seen_in k (picked v ks) ≡ o → o ≡ None) [
  | None ↦ λ e. refl
  | Some o ↦ λ e. absurd (none_some (sym none ∙ picked-seen v ks k o e))
] refl

-- a picked key is seen as the whole view saw it
pub narrowed-seen : (v : View) (ks : List Bytes) (k : Bytes) → In k ks → seen (narrowed v ks) k ≡ seen v k
narrowed-seen v ks k h = elim (seen v k) as (λ o. seen v k ≡ o → seen_in k (picked v ks) ≡ o) [
  | None ↦ λ e. picked-unseen v ks k e
  | Some o ↦ λ e. picked-told v ks k o h e
] refl

-- ---- each of the picked keys

pub picked-each : (P : SeenKey → Type 0) (v : View) (ks : List Bytes) → ((k : Bytes) (o : Option Kv) → In k ks → seen v k ≡ Some o → P (record { key = k; found = o })) → All P (picked v ks)
picked-each P v [] each = All-nil P
picked-each P v (k ∷ ks) each =
    elim (seen v k) as (λ s. seen v k ≡ s → All P (with_found k s (picked v ks))) [
      | None ↦ λ f. picked-each P v ks (λ j o h e. each j o (inr h) e)
      | Some o ↦ λ f. All-cons P (record { key = k; found = o }) (picked v ks) (each k o (inl refl) f) (picked-each P v ks (λ j p h e. each j p (inr h) e))
    ] refl

pub found_contained : (k : Bytes) (o : Option Kv) (xs : List SeenKey) → seen_in k xs ≡ Some o → Contains xs (record { key = k; found = o })
found_contained k o [] e = absurd (none_some e)
found_contained k o (x ∷ xs) e =
    elim (same x.key k) as (λ b. same x.key k ≡ b → (if b then Some x.found else seen_in k xs) ≡ Some o → Contains (x ∷ xs) (record { key = k; found = o })) [
      | true ↦ λ g is. (zero, omega arith, λ i. record { key = same-true x.key k g i; found = some_is is i })
      | false ↦ λ g is. let later = found_contained k o xs is in let lt = later.1 in (suc later.0, omega (arith, lt), later.2)
    ] refl e

pub picked-among : (v : View) (ks : List Bytes) → All (Contains v.keys) (picked v ks)
picked-among v ks = picked-each (Contains v.keys) v ks (λ k o h e. found_contained k o v.keys e)

pub picked-put : (v : View) (ks : List Bytes) → All WasPut v.keys → All WasPut (picked v ks)
picked-put v ks put = picked-each WasPut v ks (λ k o h e. All-contains WasPut v.keys (record { key = k; found = o }) put (found_contained k o v.keys e))

-- keys that the whole view agrees with
pub narrowed-agrees : (v : View) (ks : List Bytes) (m : Keys) → Agrees v m → Agrees (narrowed v ks) m
narrowed-agrees v ks m a = record {
  keys = picked-each (λ (x : SeenKey). get m x.key ≡ x.found) v ks (λ k o h e. agrees-seen v m k o a e);
  lists = a.lists;
}

-- keys that a plan guards had what was found, where the view agreed
pub asked-found : (who : Who) (v : View) (p : Plan) (m : Keys) (asked : IsAskedPlan who v p) → Agrees v m → All (λ (x : SeenKey). get m x.key ≡ x.found) asked.keys
asked-found who v p m asked a = All-weaker (Contains v.keys) (λ (x : SeenKey). get m x.key ≡ x.found) (λ x inside. All-contains (λ (y : SeenKey). get m y.key ≡ y.found) v.keys x a.keys inside) asked.keys asked.among

-- ---- plans

abbrev SameAs : View → Keys → Guard → Type 0
SameAs v m g = (kv : Kv) → get m g.key ≡ Some kv → seen v g.key ≡ Some (Some kv)

abbrev GuardIn : List Bytes → Guard → Type 0
GuardIn ks g = In g.key ks

guards_in : (ks : List Bytes) (xs : List SeenKey) → All (λ (x : SeenKey). In x.key ks) xs → All (GuardIn ks) (guards_of xs)
guards_in ks [] all = All-nil (GuardIn ks)
guards_in ks (x ∷ xs) all =
    let rest = guards_in ks xs (All-tail (λ (y : SeenKey). In y.key ks) x xs all) in
    elim (same x.key (key_bytes HeadKey)) as (λ b. All (GuardIn ks) (if b then guards_of xs else record { key = x.key; mod_revision = mod_of x.found } ∷ guards_of xs)) [
      | true ↦ rest
      | false ↦ All-cons (GuardIn ks) (record { key = x.key; mod_revision = mod_of x.found }) (guards_of xs) (All-head (λ (y : SeenKey). In y.key ks) x xs all) rest
    ]

pub narrowed-commits : (p : Plan) (v : View) (ks : List Bytes) (m : Keys) → p.guards ≡ guards_of (picked v ks) → MayCommit p v m → MayCommit p (narrowed v ks) m
narrowed-commits p v ks m guards may =
    let inside : All (GuardIn ks) p.guards = subst (λ (gs : List Guard). All (GuardIn ks) gs) (sym guards) (guards_in ks (picked v ks) (picked-each (λ (x : SeenKey). In x.key ks) v ks (λ k o h e. h))) in
    record {
      holds = may.holds;
      same = λ i d lt kv there. picked-told v ks _ (Some kv) (inside i d lt) (may.same i d lt kv there);
      put = picked-put v ks may.put;
    }

pub narrowed-plan : (r : Request) (who : Who) (now : ℕ) (v : View) (ks : List Bytes) (p : Plan) (finish : ℤ → Reply) → p.guards ≡ guards_of (picked v ks) → IsPlan r who now (narrowed v ks) p finish → IsPlan r who now v p finish
narrowed-plan r who now v ks p finish guards plan = record {
  carries = λ m s z sound stands may later high. plan.carries m s z sound stands (narrowed-commits p v ks m guards may) later high;
  answers = λ m s z sound stands may later high. plan.answers m s z sound stands (narrowed-commits p v ks m guards may) later high;
}

-- a plan that guards keys that were looked up may be asked, where the session's life is among them and is as it was attached
pub narrowed-asked : (who : Who) (v : View) (ks : List Bytes) (p : Plan) (cs : List KeyChange) (kv : Kv) → p.guards ≡ guards_of (picked v ks) → p.again ≡ again_of (picked v ks) → p.success ≡ update_acts cs p.triggers
    → In (key_bytes (LeaseKey (nat_abs who.session))) ks → seen v (key_bytes (LeaseKey (nat_abs who.session))) ≡ Some (Some kv) → kv.mod_revision ≡ who.mine → IsAskedPlan who v p
narrowed-asked who v ks p cs kv guards again acts inside saw mine =
    let k : Bytes = key_bytes (LeaseKey (nat_abs who.session)) in
    let guarded = seen-guarded k kv (picked v ks) (life-apart (nat_abs who.session)) (picked-told v ks k (Some kv) inside saw) in
    record {
      keys = picked v ks;
      among = picked-among v ks;
      guards = guards;
      again = again;
      lease = subst (λ (gs : List Guard). Contains gs (lease_guard who)) (sym guards) (subst (λ (n : ℤ). Contains (guards_of (picked v ks)) (record { key = k; mod_revision = n })) mine guarded);
      shows = (acts_of (cs ++ head_put p.triggers ∷ []), acts);
    }

-- ---- a law

pub narrowed-shows : (v : View) (ks : List Bytes) (k : Bytes) → Contains ks k → seen (narrowed v ks) k ≡ seen v k
narrowed-shows v ks k has = narrowed-seen v ks k (contains_in k ks has)
