use Rattle.std.proofs.Common.{◌≡◌, drop, arith, rules, length, ◌≤◌}
use Rattle.std.specs.Prelude.{sum_by}
use Rattle.std.proofs.lemmas.List.{at_drop_all}
use Rattle.zp_world.specs.Framing.{framed_size}
use Rattle.zp_world.proofs.inbox.size_of_all.Goals as goal

pub returns : goal.returns
returns c =
    let all : length c.args.frames.now ≤ c.loop-frame.frame-index = search (arith, rules) in
    let left : sum_by framed_size (drop c.loop-frame.frame-index c.args.frames.now) ≡ 0 = at_drop_all (sum_by framed_size) c.args.frames.now c.loop-frame.frame-index all in
    let total = c.loop-frame.invariant.1 in
    omega (arith, c.loop-frame.invariant.0, total)
