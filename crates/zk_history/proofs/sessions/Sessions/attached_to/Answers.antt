use Rattle.std.proofs.Common.{◌≡◌, ap, sym, ◌∙◌, subst, w64, to_z, of_z, ℤ, rules}
use Rattle.std.proofs.lemmas.Int.{to_z-of_z}
use Rattle.std.specs.Prelude.{Option, Some, Bool, option_map}
use Rattle.std.specs.FinMap.{get}
use Rattle.zk_service.specs.States.{Sessions}
use Rattle.zk_history.specs.Attachments.{AreAttached}
use Rattle.zk_history.proofs.AttachmentLaws.{attached-first, attached-none}
use Rattle.zk_history.proofs.sessions.Sessions.attached_to.Goals as goal

pub returns-in_err-id : goal.returns-in_err-id
returns-in_err-id c =
    let stand : AreAttached c.args.self.now c.self.inside.attachments = subst (λ (m : Sessions). AreAttached m c.self.inside.attachments) c.self.view_is c.self.invariant in
    ap (option_map _) c.from_residual.ensures ∙ sym (attached-none c.args.self.now c.self.inside.attachments c.args.connection stand c.in_err-id.ensures)

pub returns : goal.returns
returns c =
    let stand : AreAttached c.args.self.now c.self.inside.attachments = subst (λ (m : Sessions). AreAttached m c.self.inside.attachments) c.self.view_is c.self.invariant in
    let back : to_z w64 (of_z w64 c.in_ok-id.id) ≡ c.in_ok-id.id = to_z-of_z w64 c.in_ok-id.id (search rules) in
    let first : Some (to_z w64 (of_z w64 c.in_ok-id.id), c.in_ok-session.session.now) ≡ Some (c.in_ok-id.id, c.in_ok-session.session.now) = λ i. Some (back i, c.in_ok-session.session.now) in
    first ∙ sym (attached-first c.args.self.now c.self.inside.attachments c.args.connection c.in_ok-id.id c.in_ok-session.session.now stand c.in_ok-id.ensures (ap (get c.args.self.now) (sym back) ∙ sym c.in_ok-session.ensures))
