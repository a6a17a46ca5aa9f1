use Rattle.std.proofs.Common.{◌≡◌, ap, ◌∙◌, length, w64, to_z, of_z}
use Rattle.std.proofs.lemmas.Int.{to_z-of_z}
use Rattle.zk_model.specs.Znodes.{Tree, owned}
use Rattle.zk_machine.specs.Tallies.{tallied_all, was_owned, is_owned_now}
use Rattle.zk_machine.proofs.DraftLaws.{owned-written}
use Rattle.zk_machine.proofs.draft.Draft.num_owned.Goals as goal

pub returns : goal.returns
returns c =
    let id : to_z w64 (of_z w64 c.args.session) ≡ c.args.session = to_z-of_z w64 c.args.session c.ranges.session in
    (rw id at c.owned_after.ensures) ∙ ap (λ n. tallied_all (was_owned c.args.session) (is_owned_now c.args.session) n c.self.inside.writes.now) (rw id at c.num_owned.ensures.count)
    ∙ owned-written c.self.inside.tree.now c.self.inside.writes.now c.args.session c.self.invariant ∙ ap (λ (t : Tree). length (owned t c.args.session)) c.self.view_is
