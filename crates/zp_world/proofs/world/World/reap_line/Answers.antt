use Rattle.std.proofs.Common.{◌≡◌, ℤ, sym, ◌∙◌, subst, w64, to_z, of_z}
use Rattle.std.specs.Prelude.{None}
use Rattle.std.proofs.lemmas.Int.{to_z-of_z}
use Rattle.zp_script.specs.Effects.{new_reap, new_reaper}
use Rattle.zp_script.specs.Handing.{Reaps}
use Rattle.zp_world.proofs.Possible.{new-free}
use Rattle.zp_world.proofs.Refusing.{refuses, reap-line}
use Rattle.zp_world.proofs.world.World.reap_line.Goals as goal

pub returns-in-Some : goal.returns-in-Some
returns-in-Some c = refuses _ _ c.in-Some.why c.refused.result (reap-line c.args.self.now c.args.connection c.args.proxy c.args.id ∙ sym c.new_why.ensures ∙ c.in-Some.is) c.refused.ensures

pub reap-requires-clause-fresh : goal.reap-requires-clause-fresh
reap-requires-clause-fresh c = new-free c.args.connection c.args.self.now (sym c.new_why.ensures ∙ c.in-None.is)

pub returns-in_ok-reap-in-None : goal.returns-in_ok-reap-in-None
returns-in_ok-reap-in-None c =
    let same : to_z w64 (of_z w64 c.args.id) ≡ c.args.id = to_z-of_z w64 c.args.id c.ranges.id in
    record {
      possible = reap-line c.args.self.now c.args.connection c.args.proxy c.args.id ∙ sym c.new_why.ensures ∙ c.in-None.is;
      effect = subst (λ (z : ℤ). Reaps c.args.connection c.args.self.now None c.reap.new.self (new_reaper c.args.proxy z) (new_reap z)) same c.in_ok-reap-in-None.ensures;
    }
