use Rattle.std.proofs.Common.{ap, sym, ◌∙◌, subst, w64, to_z, of_z}
use Rattle.std.proofs.lemmas.Int.{to_z-of_z}
use Rattle.std.specs.FinMap.{remove}
use Rattle.zk_service.specs.States.{Sessions}
use Rattle.zk_history.specs.Attachments.{AreAttached}
use Rattle.zk_history.proofs.SessionLaws.{get-numbered, numbered, numbered-remove}
use Rattle.zk_history.proofs.sessions.Sessions.without.Goals as goal

pub invariant_of-result : goal.invariant_of-result
invariant_of-result c =
    let id = to_z w64 (of_z w64 c.args.id) in
    let before : Sessions = numbered c.self.inside.open.entries in
    let fewer = c.detached.ensures before (sym (c.as_ref.ensures.value ∙ c.remove-session.ensures.value ∙ sym (get-numbered c.self.inside.open.entries id))) c.self.invariant in
    subst (λ (m : Sessions). AreAttached m c.detached.result)
    (sym (numbered-remove c.self.inside.open.entries c.remove-session.new.self.entries id c.remove-session.ensures.updates.0))
    fewer

pub returns : goal.returns
returns c =
    let id = to_z w64 (of_z w64 c.args.id) in
    numbered-remove c.self.inside.open.entries c.remove-session.new.self.entries id c.remove-session.ensures.updates.0
    ∙ ap (λ m. remove m id) c.self.view_is
    ∙ ap (remove c.args.self) (to_z-of_z w64 c.args.id c.ranges.id)
