use Rattle.std.proofs.Common.{ap, sym, ◌∙◌, subst, w64, to_z, of_z}
use Rattle.std.proofs.lemmas.Int.{to_z-of_z}
use Rattle.std.specs.FinMap.{insert}
use Rattle.zk_service.specs.States.{Sessions}
use Rattle.zk_history.specs.Attachments.{AreAttached}
use Rattle.zk_history.proofs.SessionLaws.{get-numbered, numbered, numbered-insert}
use Rattle.zk_history.proofs.sessions.Sessions.with.Goals as goal

pub invariant_of-result : goal.invariant_of-result
invariant_of-result c =
    let id = to_z w64 (of_z w64 c.args.id) in
    let before : Sessions = numbered c.self.inside.open.entries in
    let rest = c.detached-rest.ensures before (sym (c.get.ensures.value ∙ sym (get-numbered c.self.inside.open.entries id))) c.self.invariant in
    let more = c.in_ok-attachments.ensures before c.args.session (sym c.connection.ensures) rest in
    subst (λ (m : Sessions). AreAttached m c.in_ok-attachments.attachments)
    (sym (numbered-insert c.self.inside.open.entries c.insert.new.self.entries id c.args.session c.in_ok-insert.ensures.updates.0))
    more

pub returns : goal.returns
returns c =
    let id = to_z w64 (of_z w64 c.args.id) in
    numbered-insert c.self.inside.open.entries c.insert.new.self.entries id c.args.session c.in_ok-insert.ensures.updates.0
    ∙ ap (λ m. insert m id c.args.session) c.self.view_is
    ∙ ap (λ k. insert c.args.self k c.args.session) (to_z-of_z w64 c.args.id c.ranges.id)
