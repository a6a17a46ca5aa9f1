use Rattle.std.proofs.Common.{ℕ, List, subst}
use Rattle.rand_pcg.specs.Lcg.{Lcg}
use Rattle.zp_clients.specs.Draws.{seeded}
use Rattle.zp_stress.specs.Schedules.{Walks}
use Rattle.zp_stress.proofs.run.scheduled.Goals as goal

pub returns : goal.returns
returns c = record {
  first = c.in_ok-world.world;
  is_first = c.in_ok-world.ensures.first;
  opened = c.open_all.new.world;
  opens = c.in_ok-open_all.ensures;
  walked = c.walk.new.world;
  walks =
      let words = subst (λ (g : Lcg). Walks c.args.connections c.args.steps g c.in_ok-lasts.lasts.items c.open_all.new.world c.walk.new.world) c.seeded-words.ensures c.in_ok-walk.ensures in
      subst (λ (lasts : List ℕ). Walks c.args.connections c.args.steps (seeded c.args.number) lasts c.open_all.new.world c.walk.new.world) (c.in_ok-lasts.ensures.items_if_clones_equal (λ y is. is)) words;
  settles = c.in_ok-settle_all.ensures;
}
