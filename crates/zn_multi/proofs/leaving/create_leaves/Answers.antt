-- What a create leaves, by what was found.
use Rattle.std.proofs.Common.{◌≡◌, ◌∙◌, ℕ, ℤ, List, ap, sym, subst, rules, w64}
use Rattle.std.specs.Prelude.{Option}
use Rattle.std.proofs.lemmas.Int.{to_z-of_z}
use Rattle.std.proofs.lemmas.Result.{IfOk-weaker}
use mir.Val.{SFits}
use Rattle.zx_base.specs.Maps.{Bytes}
use Rattle.zn_view.specs.declared.leaving.NodeNow.{NodeNow}
use Rattle.zn_view.specs.declared.leaving.TreeChange.{TreeChange}
use Rattle.zn_view.specs.Leaving.{create_change, owner_of, with_change, IsNodeNow, IsRoomFor, NodeLeaves}
use Rattle.zn_multi.specs.Reading.{Left}
use Rattle.zn_multi.proofs.leaving.create_leaves.Goals as goal

pub returns : goal.returns
returns c =
    let p : Bytes = c.in-Some.node in
    let m : List TreeChange = c.args.changes in
    let up : Option (Option NodeNow) = c.in_ok-up.up in
    let there : Option (Option NodeNow) = c.in_ok-there.there in
    let room : Option ℕ = c.in_ok-room.room in
    let up_is : IsNodeNow c.args.view.now m c.args.parent.now up = subst (λ (l : List TreeChange). IsNodeNow c.args.view.now l c.args.parent.now up) c.as_slice.ensures c.in_ok-up.ensures in
    let there_is : IsNodeNow c.args.view.now m p there = subst (λ (l : List TreeChange). IsNodeNow c.args.view.now l p there) c.as_slice-2.ensures c.in_ok-there.ensures in
    let room_is : IsRoomFor c.args.view.now m c.args.by.now.ephemeral c.args.by.now.session room =
    subst (λ (l : List TreeChange). IsRoomFor c.args.view.now l c.args.by.now.ephemeral c.args.by.now.session room) c.as_slice-3.ensures c.in_ok-room.ensures in
    let owner : c.creator_id-owner.result ≡ owner_of c.args.by.now.ephemeral c.args.by.now.session = c.creator_id-owner.ensures in
    let fits : SFits w64 c.creator_id-owner.result = search rules in
    let made : c.create_change.result ≡ create_change p (owner_of c.args.by.now.ephemeral c.args.by.now.session) up c.args.counts there room = c.create_change.ensures ∙ ap (λ (x : ℤ). create_change p x up c.args.counts there room) (to_z-of_z w64 _ fits ∙ owner) in
    IfOk-weaker c.with_change.result _ _ (λ (next : Left) is.
    (up, up_is, subst (λ (o : Option Bytes). NodeLeaves c.args.view.now m c.args.by.now.ephemeral c.args.by.now.session up c.args.counts o next) (sym c.in-Some.is) (there, room, there_is, room_is, is ∙ ap (with_change m) made))) c.with_change.ensures
