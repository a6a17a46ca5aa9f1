-- A plan is small enough for an etcd where its keys are short, and these, its changes and what watches see leave room.
use Rattle.std.proofs.Common.{◌≡◌, ◌+◌, ◌*◌, ◌≤◌, pos, length, List, [], ◌∷◌, Some, None, sym, subst, arith}
use Rattle.std.specs.Prelude.{All}
use Rattle.std.specs.List.{sum_by}
use Rattle.std.proofs.lemmas.List.Elements.{All-contains}
use Rattle.ev_types.specs.declared.ask.Act.{Act}
use Rattle.ev_types.specs.declared.ask.Guard.{Guard}
use Rattle.ev_types.specs.Sizes.{act_size, guard_size, IsSendable}
use Rattle.zx_base.specs.Maps.{Bytes}
use Rattle.zn_layout.specs.Changes.{KeyChange, change_size, update_acts}
use Rattle.zn_layout.specs.Records.{IsHeadRec}
use Rattle.zn_layout.specs.Updates.{update_txn}
use Rattle.zn_layout.proofs.Denials.{update-sendable}
use Rattle.zn_view.specs.declared.plan.Plan.{Plan}
use Rattle.zn_view.specs.declared.snapshot.SeenKey.{SeenKey}
use Rattle.zn_view.specs.declared.want.Want.{Want}
use Rattle.zn_view.specs.Asks.{again_of, guards_of, picked, plan_txn, ranges_of, with_found}
use Rattle.zn_view.specs.Seen.{View, seen}
use Rattle.zn_view.specs.Views.{IsSmallPlan}
use Rattle.zn_view.proofs.Members.{in_contains}
use Rattle.zn_view.proofs.Narrowing.{picked-each}
use Rattle.zn_view.proofs.Sizes.{again-length, again-short, guards-length, guards-short, head-size, head_put-size, sum_by-most}

-- the transaction of a plan is that of an update
pub plan_is : (p : Plan) (guards : List Guard) (cs : List KeyChange) (again : List Want) → p.guards ≡ guards → p.success ≡ update_acts cs p.triggers → p.again ≡ again → update_txn guards cs p.triggers (ranges_of (pos 0) again) ≡ plan_txn p
plan_is p guards cs again g a r = λ i. record { guards = sym g i; success = sym a i; failure = ranges_of (pos 0) (sym r i) }

-- no more are seen than were picked
pub picked-length : (v : View) (ks : List Bytes) → length (picked v ks) ≤ length ks
picked-length v [] = omega arith
picked-length v (k ∷ ks) = elim (seen v k) as (λ s. length (with_found k s (picked v ks)) ≤ length (k ∷ ks)) [
  | None ↦ let h = picked-length v ks in omega (arith, h)
  | Some o ↦ let h = picked-length v ks in omega (arith, h)
]

abbrev IsShort : Bytes → Type 0
IsShort k = length k ≤ 1033

-- each key is guarded and read again
pub plan-small : (v : View) (ks : List Bytes) (p : Plan) (cs : List KeyChange) → length ks ≤ 127 → All IsShort ks → length cs ≤ 126 → 2066 * length ks + sum_by change_size cs + 1029 * length p.triggers ≤ 1498900 → IsHeadRec p.triggers
    → p.guards ≡ guards_of (picked v ks) → p.again ≡ again_of (picked v ks) → p.success ≡ update_acts cs p.triggers → IsSmallPlan p
plan-small v ks p cs few short few_changes small bounds guards again acts =
    let xs : List SeenKey = picked v ks in
    let reads : List Act = ranges_of (pos 0) (again_of xs) in
    let few_seen = picked-length v ks in
    let short_seen : All (λ (x : SeenKey). length x.key ≤ 1033) xs = picked-each (λ (x : SeenKey). length x.key ≤ 1033) v ks (λ k o h e. All-contains IsShort ks k short (in_contains k ks h)) in
    let few_guards = guards-length xs in
    let few_again = again-length xs in
    subst IsSendable (plan_is p (guards_of xs) cs (again_of xs) guards acts again)
    (update-sendable (guards_of xs) cs p.triggers reads (omega (arith, few_guards, few_seen, few)) (omega (arith, few_changes)) (omega (arith, few_again, few_guards, few_seen, few))
    (omega (
      arith,
      sum_by-most guard_size 1033 (guards_of xs) (guards-short xs short_seen),
      sum_by-most act_size 1033 reads (again-short xs short_seen),
      few_guards,
      few_again,
      few_seen,
      head_put-size p.triggers bounds,
      head-size,
      small,
    )))
