use Rattle.std.proofs.Common.{ap, ◌∙◌}
use Rattle.std.specs.FinMap.{get}
use Rattle.zk_model.specs.Znodes.{Tree}
use Rattle.zk_machine.specs.Tallies.{found_after}
use Rattle.zk_machine.proofs.DraftLaws.{get-written}
use Rattle.zk_machine.proofs.draft.Draft.get.Goals as goal

pub returns : goal.returns
returns c =
    c.found_after.ensures ∙ ap (λ o. found_after c.args.path.now o c.self.inside.writes.now) c.get.ensures
    ∙ get-written c.self.inside.tree.now c.self.inside.writes.now c.args.path.now ∙ ap (λ (t : Tree). get t c.args.path.now) c.self.view_is
