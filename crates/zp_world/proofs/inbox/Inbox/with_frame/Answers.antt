use Rattle.std.proofs.Common.{◌≡◌, ◌+◌, ◌∷◌, [], min, length, rules}
use Rattle.zk_wire.specs.Cutting.{Stream}
use Rattle.zp_step.specs.Stages.{max_count}
use Rattle.zp_world.proofs.Framing.{cuts-frame}
use Rattle.zp_world.proofs.inbox.Inbox.with_frame.Goals as goal

pub returns-clause-cuts : goal.returns-clause-cuts
returns-clause-cuts c =
    let new : Stream = record { place = c.saturating_add.result; rest = c.new.result.items } in
    let place : new.place ≡ min (c.args.self.now.place + (4 + length c.args.bytes)) max_count = search rules in
    let frames : c.push.new.self.items ≡ c.args.bytes ∷ [] = search rules in
    rw frames (cuts-frame c.args.self.now new c.args.bytes c.requires.size c.requires.none (search rules) place)
