-- Where a plan may commit, each key that it guards has what its view saw; so what it leaves of the view agrees with the keys that it
-- leaves.
use Rattle.std.proofs.Common.{◌≡◌, ℤ, true, false, List, [], ◌∷◌, Option, Some, refl, sym, ◌∙◌, subst}
use Rattle.std.specs.Prelude.{All, if◌then◌else◌}
use Rattle.std.specs.FinMap.{get}
use Rattle.std.proofs.lemmas.List.Elements.{All-nil, All-cons, All-head, All-tail, All-weaker}
use Rattle.ev_types.specs.declared.answer.Kv.{Kv}
use Rattle.ev_types.specs.declared.ask.Guard.{Guard}
use Rattle.ev_types.specs.Ranges.{Keys}
use Rattle.ev_types.specs.Store.{acts_applied, mod_of}
use Rattle.zk_service.specs.States.{State, IsSound}
use Rattle.zx_base.specs.Maps.{Bytes, same}
use Rattle.zx_base.proofs.MapLaws.{apart-from_same}
use Rattle.zn_layout.specs.Keys.{HeadKey, key_bytes}
use Rattle.zn_layout.specs.StandsFor.{StandsFor}
use Rattle.zn_view.specs.declared.plan.Plan.{Plan}
use Rattle.zn_view.specs.declared.snapshot.SeenKey.{SeenKey}
use Rattle.zn_view.specs.Asks.{guards_of, narrowed, picked}
use Rattle.zn_view.specs.Seen.{View, seen}
use Rattle.zn_view.specs.Views.{Agrees, MayCommit}
use Rattle.zn_view.proofs.AsSeen.{commits-as_seen}
use Rattle.zn_view.proofs.Members.{In}
use Rattle.zn_view.proofs.Narrowing.{narrowed-commits, narrowed-seen, picked-each}
use Rattle.zn_view.specs.Keeping.{AreGuardedAsSeen, PutsNewKeys, after_view}
use Rattle.zn_view.proofs.After.{after-agrees}

-- a guard on one of these keys, and not on the head
abbrev IsOn : List Bytes → Guard → Type 0
IsOn ks g = (g.key ≡ key_bytes HeadKey → ⊥) × In g.key ks

abbrev IsKeyIn : List Bytes → SeenKey → Type 0
IsKeyIn ks x = In x.key ks

guards-on : (ks : List Bytes) (xs : List SeenKey) → All (IsKeyIn ks) xs → All (IsOn ks) (guards_of xs)
guards-on ks [] all = All-nil (IsOn ks)
guards-on ks (x ∷ xs) all =
    let rest = guards-on ks xs (All-tail (IsKeyIn ks) x xs all) in
    elim (same x.key (key_bytes HeadKey)) as (λ b. same x.key (key_bytes HeadKey) ≡ b → All (IsOn ks) (if b then guards_of xs else record { key = x.key; mod_revision = mod_of x.found } ∷ guards_of xs)) [
      | true ↦ λ e. rest
      | false ↦ λ e. All-cons (IsOn ks) (record { key = x.key; mod_revision = mod_of x.found }) (guards_of xs) (apart-from_same x.key (key_bytes HeadKey) e, All-head (IsKeyIn ks) x xs all) rest
    ] refl

pub commits-guarded : (v : View) (p : Plan) (ks : List Bytes) (m : Keys) → p.guards ≡ guards_of (picked v ks) → MayCommit p v m → AreGuardedAsSeen v p.guards m
commits-guarded v p ks m e may =
    let near = commits-as_seen p (narrowed v ks) m e (narrowed-commits p v ks m e may) in
    subst (λ (gs : List Guard). AreGuardedAsSeen v gs m) (sym e)
    (All-weaker (IsOn ks) (λ (g : Guard). (o : Option Kv) → seen v g.key ≡ Some o → get m g.key ≡ o)
    (λ g on o saw. near g.key o on.0 (narrowed-seen v ks g.key on.1 ∙ saw))
    (guards_of (picked v ks)) (guards-on ks (picked v ks) (picked-each (IsKeyIn ks) v ks (λ k o inside saw. inside))))

-- Carried out where it may commit, a plan leaves of its view what agrees with the keys that it leaves.
pub plan-leaves : (v : View) (p : Plan) (ks : List Bytes) (m : Keys) (s : State) (z : ℤ) (head : Kv) → p.guards ≡ guards_of (picked v ks) → PutsNewKeys v p → IsSound s → StandsFor m s → MayCommit p v m
    → get (acts_applied z m p.success) (key_bytes HeadKey) ≡ Some head → Agrees (after_view v p.guards p.success z head) (acts_applied z m p.success)
plan-leaves v p ks m s z head guards new sound stands may is =
    after-agrees v p.guards p.success z head m (commits-guarded v p ks m guards may) (new m s sound stands may) is
