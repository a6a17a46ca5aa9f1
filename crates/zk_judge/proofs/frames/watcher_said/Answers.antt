use Rattle.std.proofs.Common.{ℤ, Some, w32, ap, ◌∙◌}
use Rattle.std.proofs.lemmas.Int.{to_z-of_z}
use Rattle.zk_model.specs.Watches.{is_watched}
use Rattle.zk_service.specs.Answers.{Told, has_valid_form, only, told_of_watches}
use Rattle.zk_judge.proofs.PlainAnswers.{watcher-only}
use Rattle.zk_judge.proofs.frames.watcher_said.Goals as goal

pub returns : goal.returns
returns c =
    let w = c.args.watches in
    let p = c.args.text.now in
    let kind = to_z-of_z w32 c.args.kind c.ranges.kind in
    ap (λ (t : Told). Some (only t.watches t.reply)) (c.in_ok-told.ensures ∙ ap (λ (k : ℤ). told_of_watches w p k c.args.removes) kind)
    ∙ ap Some (watcher-only w _ (has_valid_form p c.args.kind) (is_watched w p c.args.kind))
