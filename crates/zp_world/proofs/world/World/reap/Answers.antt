use Rattle.std.proofs.Common.{◌≡◌, ap, rules, ◌∙◌, w64, to_z, of_z}
use Rattle.std.proofs.lemmas.Int.{to_z-of_z}
use Rattle.zp_script.specs.Effects.{new_reap}
use Rattle.zp_world.proofs.Delivered.{reap-begins}
use Rattle.zp_world.proofs.world.World.reap.Goals as goal

pub returns : goal.returns
returns c =
    let same : to_z w64 (of_z w64 c.args.id) ≡ c.args.id = to_z-of_z w64 c.args.id c.ranges.id in
    let held : c.in_ok-reaper.reaper.value ≡ c.new.result = search rules in
    reap-begins c.args.number c.args.proxy c.args.id c.args.self.now c.reap_on.new.self c.new-seat.result c.in_ok-reaper.reaper.value c.reap_on.result
    c.new-seat.ensures (held ∙ c.new.ensures ∙ ap new_reap same) c.reap_on.ensures
