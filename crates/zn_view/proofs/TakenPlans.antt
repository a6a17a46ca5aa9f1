-- A small plan that writes each key once, and none with a lease, is taken by an etcd that has room.
use Rattle.std.proofs.Common.{◌≡◌, pos, not, true, false, List, [], ◌∷◌, Option, Some, None, refl, ap, subst, length, arith}
use Rattle.std.specs.Prelude.{All, IfSome, ◌≤◌}
use Rattle.std.proofs.lemmas.Bool.{and_from}
use Rattle.std.proofs.lemmas.List.Elements.{All-head, All-tail}
use Rattle.ev_types.specs.declared.ask.Ask.TheVariants as ask
use Rattle.ev_types.specs.declared.ask.TxnReq.{TxnReq}
use Rattle.ev_types.specs.Denials.{is_denied, lacks_lease, max_operations}
use Rattle.ev_types.specs.Store.{Store}
use Rattle.zn_layout.specs.Changes.{KeyChange, Put, has_its_lease, have_leases, update_acts}
use Rattle.zn_layout.proofs.Denials.{update-not_denied, update_acts-length}
use Rattle.zn_view.specs.declared.plan.Plan.{Plan}
use Rattle.zn_view.specs.Asks.{IsLeaseless, WritesOnce, ranges_of}
use Rattle.zn_view.specs.Deciding.{IsTaken}
use Rattle.zn_view.specs.Views.{IsSmallPlan}
use Rattle.zn_view.proofs.PlanSizes.{plan_is}

put-has : (s : Store) (o : Option Put) → IfSome o (λ (w : Put). w.lease ≡ pos 0) → has_its_lease s o ≡ true
put-has s None h = refl
put-has s (Some w) h = ap (λ l. not (lacks_lease s l)) h

pub leaseless-have : (s : Store) (cs : List KeyChange) → All IsLeaseless cs → have_leases s cs ≡ true
leaseless-have s [] h = refl
leaseless-have s (c ∷ cs) h = and_from (has_its_lease s c.put) (have_leases s cs) (put-has s c.put (All-head IsLeaseless c cs h)) (leaseless-have s cs (All-tail IsLeaseless c cs h))

pub small-taken : (p : Plan) → WritesOnce p → IsSmallPlan p → IsTaken p
small-taken p w small =
    let cs : List KeyChange = w.own.changes in
    let few : length (update_acts cs p.triggers) ≤ max_operations = subst (λ acts. length acts ≤ max_operations) w.own.acts small.success in
    record {
      small = small;
      allowed = λ t room. subst (λ (x : TxnReq). is_denied t (ask.Txn x) ≡ false) (plan_is p p.guards cs p.again refl w.own.acts refl)
          (update-not_denied t p.guards cs p.triggers (ranges_of (pos 0) p.again) small.guards (omega (arith, few, update_acts-length cs p.triggers)) small.failure w.once (leaseless-have t cs w.own.leases) w.own.reads room);
    }
