use Rattle.std.proofs.Common.{arith, ◌≤◌, length}
use Rattle.std.proofs.lemmas.Grind.{common_steps}
use Rattle.zk_model.specs.Paths.{depth}
use Rattle.zk_model.proofs.PathScans.{slashes-drop, slashes-end}
use Rattle.zk_model.proofs.ValidPaths.{valid-from}
use Rattle.zk_model.proofs.path.Path.depth.Goals as goal

pub overflow_add-slashes : goal.overflow_add-slashes
overflow_add-slashes c =
    let short : length c.self.inside.text.items ≤ 1024 = (valid-from _ c.self.invariant).short in
    omega (arith, c.as_slice-byte-items.ensures.len)

pub loop-byte-preserved : goal.loop-byte-preserved
loop-byte-preserved c =
    let step = slashes-drop c.loop-byte.byte-index c.as_slice-byte-items.result.now c.loop-byte-test.true in
    grind (arith, common_steps)

pub returns : goal.returns
unfolding depth
returns c =
    let done = slashes-end c.loop-byte.byte-index c.as_slice-byte-items.result.now c.loop-byte-test.false in
    grind (arith, common_steps)
