use Rattle.std.proofs.Common.{◌∙◌, sym, ℕ, Vec, Global}
use Rattle.zk_model.proofs.SetLaws.{insert-there, inserted-keys}
use Rattle.zk_model.proofs.path_set.PathSet.insert.Goals as goal

pub returns-then-contains-clause-ok : goal.returns-then-contains-clause-ok
returns-then-contains-clause-ok c = insert-there c.args.self.now c.args.path.now (sym c.contains.ensures ∙ c.if-contains.true)

pub returns-clause-ok : goal.returns-clause-ok
returns-clause-ok c =
    inserted-keys {K = Vec ℕ Global} (λ k. k.items) c.args.path.now c.in_ok-from_slice.field-0 c.self.inside.paths.keys c.insert.new.self.keys c.args.self.now c.self.view_is
    c.in_ok-from_slice.ensures.items c.in_ok-insert.ensures.keys
