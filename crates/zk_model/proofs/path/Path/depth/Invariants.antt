use Rattle.std.proofs.Common.{◌≡◌, ◌≤◌, ◌+◌, drop}
use Rattle.zk_model.specs.Paths.{slashes}
use Rattle.zk_model.proofs.path.Path.depth.Given as goal

abbrev pub invariant-loop-byte : goal.invariant-loop-byte
invariant-loop-byte l = record {
  counted : l.slashes + slashes (drop l.byte-index l.byte-items) ≡ slashes l.byte-items;
  few : l.slashes ≤ l.byte-index;
}
