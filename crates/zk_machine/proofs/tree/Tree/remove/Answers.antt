use Rattle.std.proofs.Common.{◌≡◌, sym, ◌∙◌, w64, to_z, of_z}
use Rattle.std.proofs.lemmas.Int.{to_z-of_z}
use Rattle.zk_machine.proofs.EditLaws.{on_ok, removed-alone, removed-below}
use Rattle.zk_machine.proofs.tree.Tree.remove.Goals as goal

pub returns-in_default-up : goal.returns-in_default-up
returns-in_default-up c =
    removed-alone c.args.self.now c.take-2.new.self c.take-3.new.self c.args.path.now c.in-Some.parent c.args.zxid
    (sym c.in_ok-parent.ensures.parent ∙ c.in-Some.is) c.in_ok-up.ensures.tree (sym c.in_default-up.is ∙ c.in_ok-up.ensures.node) c.in_ok-take-2.ensures.tree

pub returns : goal.returns
returns c =
    let zxid : to_z w64 (of_z w64 c.args.zxid) ≡ c.args.zxid = to_z-of_z w64 c.args.zxid c.ranges.zxid in
    on_ok c.put.result (removed-below c.args.self.now c.take-2.new.self c.take-3.new.self c.put.new.self c.args.path.now c.in-Some.parent c.args.zxid c.in-Some-up.up
    (sym c.in_ok-parent.ensures.parent ∙ c.in-Some.is) c.in_ok-up.ensures.tree (sym c.in-Some-up.is ∙ c.in_ok-up.ensures.node) c.in_ok-take-2.ensures.tree) (rw zxid at c.put.ensures)
