use Rattle.std.proofs.Common.{◌≡◌, ◌∙◌, ap₂, w64}
use Rattle.std.proofs.lemmas.Int.{to_z-of_z}
use Rattle.std.specs.Prelude.{ℤ}
use Rattle.serde_json.specs.Written.{compact_text}
use Rattle.ev_json.specs.Messages.{canceled_data}
use Rattle.ev_json.proofs.Returns.{canceled_inside, canceled_returns}
use Rattle.ev_json.proofs.writing.write_canceled.Goals as goal

pub returns-clause-one_line : goal.returns-clause-one_line
returns-clause-one_line c =
    let text : c.in_ok-text.text.items ≡ compact_text (canceled_data c.args.compacted c.args.revision) =
    c.in_ok-text.ensures.text ∙ ap₂ (λ (a b : ℤ). compact_text (canceled_data a b)) (to_z-of_z w64 c.args.compacted c.ranges.compacted) (to_z-of_z w64 c.args.revision c.ranges.revision) in
    canceled_inside c.args.compacted c.args.revision _ text

pub returns-clause-reads_back : goal.returns-clause-reads_back
returns-clause-reads_back c =
    let text : c.in_ok-text.text.items ≡ compact_text (canceled_data c.args.compacted c.args.revision) =
    c.in_ok-text.ensures.text ∙ ap₂ (λ (a b : ℤ). compact_text (canceled_data a b)) (to_z-of_z w64 c.args.compacted c.ranges.compacted) (to_z-of_z w64 c.args.revision c.ranges.revision) in
    canceled_returns c.args.compacted c.args.revision _ c.in_ok-text.ensures.utf8 text
