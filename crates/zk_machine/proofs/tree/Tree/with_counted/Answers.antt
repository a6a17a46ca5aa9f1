use Rattle.std.proofs.Common.{◌≡◌, ◌∙◌, sym, ap, subst, w32, w64, to_z, of_z}
use Rattle.std.specs.FinMap.{get, insert, remove}
use Rattle.std.specs.Prelude.{option_map}
use Rattle.std.proofs.lemmas.Int.{to_z-of_z}
use Rattle.zx_base.proofs.MapLaws.{remove-absent}
use Rattle.zk_model.specs.declared.node.Node.{Node}
use Rattle.zk_model.specs.Znodes.{Tree}
use Rattle.zk_machine.specs.Edits.{counted_create}
use Rattle.zk_machine.specs.Groups.{HasFamilies, HasOwners}
use Rattle.zk_machine.proofs.EditLaws.{counted-absent, counted-there, insert-remove}
use Rattle.zk_machine.proofs.GroupLaws.{groups-put_there}
use Rattle.zk_machine.proofs.tree.Tree.with_counted.Goals as goal
use Rattle.zk_machine.proofs.tree.Tree.with_counted.Goals.{in-Some+in_ok-put, in_default}

pub invariant_of-result : goal.invariant_of-result
invariant_of-result c =
    let removes : c.take.new.self ≡ remove c.self.inside.nodes c.args.path = c.take.ensures.map ∙ ap (remove c.self.inside.nodes) c.bytes.ensures in
    let found : c.take.result ≡ get c.self.inside.nodes c.args.path = c.take.ensures.value ∙ ap (get c.self.inside.nodes) c.bytes.ensures in
    elim c.match-take.branch [
      | in-Some+in_ok-put w ↦
          let up : Node = record w.in-Some.up { pzxid = to_z w64 (of_z w64 c.args.zxid); creates = to_z w32 (of_z w32 c.args.creates) } in
          groups-put_there c.self.inside.nodes c.match-take.nodes c.self.inside.families c.self.inside.owners c.args.path up
          (w.nodes-is ∙ w.in_ok-put.ensures ∙ ap (λ (t : Tree). insert t c.args.path up) removes ∙ insert-remove c.self.inside.nodes c.args.path up)
          (ap (option_map (λ (n : Node). n.owner)) (sym found ∙ w.in-Some.is)) c.self.invariant
      | in_default w ↦
          let same : c.self.inside.nodes ≡ c.match-take.nodes = sym (w.nodes-is ∙ removes ∙ remove-absent c.self.inside.nodes c.args.path (sym found ∙ w.in_default.is)) in
          (subst (λ (t : Tree). HasFamilies t c.self.inside.families) same c.self.invariant.0, subst (λ (t : Tree). HasOwners t c.self.inside.owners) same c.self.invariant.1)
    ]

pub returns : goal.returns
returns c =
    let removes : c.take.new.self ≡ remove c.self.inside.nodes c.args.path = c.take.ensures.map ∙ ap (remove c.self.inside.nodes) c.bytes.ensures in
    let found : c.take.result ≡ get c.self.inside.nodes c.args.path = c.take.ensures.value ∙ ap (get c.self.inside.nodes) c.bytes.ensures in
    let zxid : to_z w64 (of_z w64 c.args.zxid) ≡ c.args.zxid = to_z-of_z w64 c.args.zxid c.ranges.zxid in
    let creates : to_z w32 (of_z w32 c.args.creates) ≡ c.args.creates = to_z-of_z w32 c.args.creates c.ranges.creates in
    subst (λ (t : Tree). c.match-take.nodes ≡ counted_create t c.args.path c.args.creates c.args.zxid (get t c.args.path)) c.self.view_is (elim c.match-take.branch [
      | in-Some+in_ok-put w ↦
          w.nodes-is
          ∙ counted-there c.self.inside.nodes c.take.new.self w.put.new.self c.args.path c.args.creates c.args.zxid w.in-Some.up removes (sym w.in-Some.is ∙ found)
          (w.in_ok-put.ensures ∙ (λ i. insert c.take.new.self c.args.path (record w.in-Some.up { pzxid = zxid i; creates = creates i })))
      | in_default w ↦ w.nodes-is ∙ counted-absent c.self.inside.nodes c.take.new.self c.args.path c.args.creates c.args.zxid removes (sym w.in_default.is ∙ found)
    ])
