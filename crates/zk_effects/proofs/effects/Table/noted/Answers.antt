use Rattle.std.proofs.Common.{List, Some, ap, ◌∙◌}
use Rattle.std.specs.Prelude.{option_map}
use Rattle.zk_model.specs.declared.node.Trigger.{Trigger}
use Rattle.zk_effects.specs.Effects.{kept_of}
use Rattle.zk_effects.proofs.KeptEffects.{other-place}
use Rattle.zk_effects.proofs.effects.Table.noted.Goals as goal

pub returns-then-not-is_update-clause-own : goal.returns-then-not-is_update-clause-own
returns-then-not-is_update-clause-own c = λ u is. (let yes = c.is_update.ensures u is in let no = c.if-not-is_update.true in absurd (cc))

pub returns-clause-own : goal.returns-clause-own
returns-clause-own c = λ u is. ap (option_map kept_of) c.in_ok-insert.ensures.updates.1 ∙ ap (λ (ts : List Trigger). Some (ts, c.args.response)) c.in_ok-copies.ensures

pub returns-clause-others : goal.returns-clause-others
returns-clause-others c = λ k other. c.in_ok-insert.ensures.updates.2 k (other-place c.args.place k other)
