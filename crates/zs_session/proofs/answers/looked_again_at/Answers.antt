use Rattle.std.proofs.Common.{rules, ◌∙◌, ap, w64}
use Rattle.std.proofs.lemmas.Int.{to_z-of_z}
use Rattle.zs_session.specs.Answering.{viewed}
use Rattle.zs_session.specs.Sessions.{attach_wants}
use Rattle.zs_session.proofs.Looked.{looked-again}
use Rattle.zs_session.proofs.answers.looked_again_at.Goals as goal

pub returns-clause-ok : goal.returns-clause-ok
returns-clause-ok c =
    looked-again c.args.connect.now c.args.revision c.args.parts.now c.as_slice.result.now c.in_ok-view.view c.in_ok-attached_by_view.field-0.phase c.in_ok-attached_by_view.field-0.step c.in_ok-view.ensures.records
    (c.in_ok-view.ensures.ok ∙ ap (λ n. viewed n c.as_slice.result.now c.args.parts.now) (to_z-of_z w64 c.args.revision c.ranges.revision))
    (c.as_slice.ensures ∙ c.in_ok-wants.ensures ∙ ap attach_wants (to_z-of_z w64 c.args.connect.now.request.session (search rules))) c.in_ok-attached_by_view.ensures
