use Rattle.std.proofs.Common.{◌++◌, ap, ◌∙◌, map, ℕ, Vec, Global}
use Rattle.zk_machine.proofs.StoredEntries.{keys-in}
use Rattle.zk_machine.proofs.paths.PathMap.paths.Goals as goal

pub loop-path-init : goal.loop-path-init
loop-path-init g c =
    ap (λ ps. ps ++ map (λ e. e.0) c.into_iter-path-iterator.result) c.new-paths.ensures.items
    ∙ keys-in {K = Vec ℕ Global} (λ k. k.items) c.self.inside.entries.entries c.args.self.now c.into_iter-path-iterator.result c.self.invariant c.self.view_is
    (c.into_iter-path-iterator.ensures.into_iter_gives ∙ c.values-path-items.ensures.rest)
