use Rattle.std.proofs.Common.{◌++◌, ap, ◌∙◌, map, ℕ, Vec, Global}
use Rattle.zk_model.specs.Paths.{last_name}
use Rattle.zk_machine.proofs.StoredEntries.{keys-in}
use Rattle.zk_machine.proofs.paths.PathMap.names.Goals as goal

pub loop-path-init : goal.loop-path-init
loop-path-init g c =
    ap (λ ns. ns ++ map last_name (map (λ e. e.0) c.into_iter-path-iterator.result)) c.new-names.ensures.items
    ∙ ap (map last_name)
    (keys-in {K = Vec ℕ Global} (λ k. k.items) c.self.inside.entries.entries c.args.self.now c.into_iter-path-iterator.result c.self.invariant c.self.view_is
    (c.into_iter-path-iterator.ensures.into_iter_gives ∙ c.values-path-items.ensures.rest))
