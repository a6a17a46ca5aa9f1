use Rattle.std.proofs.Common.{◌≡◌, sym, ap, ◌∙◌, arith, rules, w64, to_z, of_z}
use Rattle.std.specs.Prelude.{Some, pos, ◌≤ℤ◌, not}
use Rattle.std.proofs.lemmas.Int.{ints, to_z-of_z}
use Rattle.ev_types.specs.Denials.{has_lease}
use Rattle.ev_types.specs.Lapses.{lapse, leased_keys, removals}
use Rattle.ev_store.specs.FirstDenial.{lapse_denial}
use Rattle.zt_text.specs.declared.script.Why.TheVariants as why
use Rattle.zp_script.specs.Faults.{full_fault, if_fails}
use Rattle.zp_script.specs.Worlds.{World}
use Rattle.zp_world.proofs.Happening.{lapses-to}
use Rattle.zp_world.proofs.Lapsing.{lapse-least, lapse-possible}
use Rattle.zp_world.proofs.Refusing.{lapse-line, refuses-same}
use Rattle.zp_world.proofs.world.World.lapse_line.Goals as goal

pub push-requires-clause-formed : goal.push-requires-clause-formed
push-requires-clause-formed c =
    let id : to_z w64 (of_z w64 c.args.id) ≡ c.args.id = to_z-of_z w64 c.args.id c.ranges.id in
    let lapsed : lapse c.self.inside.store c.args.id ≡ Some c.lapse.new.self = search rules in
    let least : pos 1 ≤ℤ c.args.id = lapse-least c.self.inside.store c.lapse.new.self c.args.id lapsed in
    (grind (arith, ints), (grind (arith, ints, id, least), grind (arith, ints)))

pub returns-in_ok-push-in-Ok : goal.returns-in_ok-push-in-Ok
returns-in_ok-push-in-Ok c =
    let lapsed : lapse c.self.inside.store c.args.id ≡ Some c.lapse.new.self = search rules in
    record {
      possible = lapse-line c.args.self.now c.args.id
          ∙ ap (λ (w : World). if_fails (not (has_lease w.store c.args.id)) why.NoSuchLease (full_fault w.store (removals (leased_keys w.store c.args.id)))) (sym c.self.view_is)
          ∙ lapse-possible c.self.inside.store c.lapse.new.self c.args.id lapsed;
      effect = lapses-to _ _ _ c.lapse.new.self c.args.id c.self.view_is lapsed (search rules);
    }

pub returns-in-Err-Denied : goal.returns-in-Err-Denied
returns-in-Err-Denied c =
    let denied : lapse_denial c.self.inside.store c.args.id ≡ Some c.in-Err-Denied.denied = search rules in
    let why_is : if_fails (not (has_lease c.self.inside.store c.args.id)) why.NoSuchLease (full_fault c.self.inside.store (removals (leased_keys c.self.inside.store c.args.id))) ≡ Some c.lapse_why.result =
    c.lapse_why.ensures c.self.inside.store c.args.id denied in
    refuses-same _ _ _ c.lapse_why.result c.refused.result
    (lapse-line c.args.self.now c.args.id
    ∙ ap (λ (w : World). if_fails (not (has_lease w.store c.args.id)) why.NoSuchLease (full_fault w.store (removals (leased_keys w.store c.args.id)))) (sym c.self.view_is)
    ∙ why_is) c.refused.ensures (search rules)
