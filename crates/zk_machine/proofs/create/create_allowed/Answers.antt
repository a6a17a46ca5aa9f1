use Rattle.std.proofs.Common.{◌≡◌, ap, ◌∙◌, ◌∷◌, [], ℤ, pos, if◌then◌else◌, arith, w32, w64, to_z, of_z}
use Rattle.std.proofs.lemmas.Int.{to_z-of_z}
use Rattle.std.specs.FinMap.{insert}
use Rattle.zk_model.specs.declared.node.Node.{Node}
use Rattle.zk_model.specs.declared.node.Trigger.TheVariants as trigger
use Rattle.zk_model.specs.declared.reply.PartResult.TheVariants as results
use Rattle.zk_model.specs.Single.{Done, with_child, is_ephemeral}
use Rattle.zk_model.specs.Znodes.{new_node}
use Rattle.zk_machine.specs.Edits.{counted_create}
use Rattle.zk_machine.proofs.create.create_allowed.Goals as goal

pub returns-clause-ok : goal.returns-clause-ok
returns-clause-ok c =
    let owner : c.owner_of.result ≡ if is_ephemeral c.args.wish.now.flags then c.args.turn.now.session else pos 0 = grind (arith, to_z-of_z) in
    let node : c.in_ok-node.node ≡ new_node c.args.wish.now.content.now c.owner_of.result c.args.turn.now.zxid c.args.turn.now.time = grind (arith, to_z-of_z) in
    let zxid : to_z w64 (of_z w64 c.args.turn.now.zxid) ≡ c.args.turn.now.zxid = grind (arith, to_z-of_z) in
    let creates : to_z w32 (of_z w32 c.in_ok-creates.creates) ≡ c.in_ok-creates.creates = grind (arith, to_z-of_z) in
    let up : record c.args.up.now { pzxid = c.args.turn.now.zxid; creates = c.in_ok-creates.creates } ≡ with_child c.args.up.now c.args.turn.now.zxid = grind (arith, to_z-of_z) in
    (rw creates at (rw zxid at (c.in_ok-made.ensures c.args.tree.now)))
    ∙ ap (λ o. Done (results.Created c.args.path) (insert (counted_create c.args.tree.now c.args.parent c.in_ok-creates.creates c.args.turn.now.zxid o) c.args.path c.in_ok-node.node)
    (trigger.Created c.args.path ∷ trigger.Children c.args.parent ∷ [])) c.requires
    ∙ ap (λ (up : Node). Done (results.Created c.args.path) (insert (insert c.args.tree.now c.args.parent up) c.args.path c.in_ok-node.node) (trigger.Created c.args.path ∷ trigger.Children c.args.parent ∷ []))
    up
    ∙ ap (λ (node : Node). Done (results.Created c.args.path) (insert (insert c.args.tree.now c.args.parent (with_child c.args.up.now c.args.turn.now.zxid)) c.args.path node) (trigger.Created c.args.path ∷ trigger.Children c.args.parent ∷ []))
    (node ∙ ap (λ (id : ℤ). new_node c.args.wish.now.content.now id c.args.turn.now.zxid c.args.turn.now.time) owner)
