use Rattle.std.proofs.Common.{false, rules, sym, ap, ◌∙◌}
use Rattle.std.specs.Int.{w32}
use Rattle.std.proofs.lemmas.Int.{to_z-of_z}
use Rattle.zk_model.specs.declared.request.Part.TheVariants as part
use Rattle.zk_model.specs.Single.{form_refusal}
use Rattle.zk_model.specs.Watches.{Watches, no_watches}
use Rattle.zk_service.specs.Answers.{has_valid_form, plain_request, told_of_watcher, told_refusal}
use Rattle.zn_ops.proofs.Unwatched.{check-plain, remove-plain}
use Rattle.zn_ops.proofs.form.plain_reply.Goals as goal

pub returns-in_ok-create_refusal-in-Create : goal.returns-in_ok-create_refusal-in-Create
unfolding plain_request
returns-in_ok-create_refusal-in-Create c =
    c.refusal-in-Create.ensures
    ∙ ap (told_refusal no_watches) (c.in_ok-create_refusal-in-Create.ensures c.in-Create.content ∙ (λ i. form_refusal (part.Create (c.as_slice.ensures i) c.in-Create.content (c.as_slice-in-Create.ensures i) (to_z-of_z w32 c.in-Create.flags (search rules) i))))
    ∙ sym (ap (plain_request no_watches) c.in-Create.is)

pub returns-in_ok-create_refusal-in-Create2 : goal.returns-in_ok-create_refusal-in-Create2
unfolding plain_request
returns-in_ok-create_refusal-in-Create2 c =
    c.refusal-in-Create2.ensures
    ∙ ap (told_refusal no_watches) (c.in_ok-create_refusal-in-Create2.ensures c.in-Create2.content ∙ (λ i. form_refusal (part.Create (c.as_slice-in-Create2.ensures i) c.in-Create2.content (c.as_slice-in-Create2-2.ensures i) (to_z-of_z w32 c.in-Create2.flags (search rules) i))))
    ∙ sym (ap (plain_request no_watches) c.in-Create2.is)

pub returns-in_ok-unwatched-in-CheckWatches : goal.returns-in_ok-unwatched-in-CheckWatches
returns-in_ok-unwatched-in-CheckWatches c =
    check-plain c.in-CheckWatches.path c.in-CheckWatches.kind c.in_ok-unwatched-in-CheckWatches.field-0
    (λ (rest : Watches). c.in_ok-unwatched-in-CheckWatches.ensures rest ∙ (λ i. told_of_watcher no_watches rest (has_valid_form (c.as_slice-in-CheckWatches.ensures i) (to_z-of_z w32 c.in-CheckWatches.kind (search rules) i)) false))
    ∙ sym (ap (plain_request no_watches) c.in-CheckWatches.is)

pub returns-in_ok-unwatched-in-RemoveWatches : goal.returns-in_ok-unwatched-in-RemoveWatches
returns-in_ok-unwatched-in-RemoveWatches c =
    remove-plain c.in-RemoveWatches.path c.in-RemoveWatches.kind c.in_ok-unwatched-in-RemoveWatches.field-0
    (λ (rest : Watches). c.in_ok-unwatched-in-RemoveWatches.ensures rest ∙ (λ i. told_of_watcher no_watches rest (has_valid_form (c.as_slice-in-RemoveWatches.ensures i) (to_z-of_z w32 c.in-RemoveWatches.kind (search rules) i)) false))
    ∙ sym (ap (plain_request no_watches) c.in-RemoveWatches.is)
