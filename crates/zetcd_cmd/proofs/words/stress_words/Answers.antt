use Rattle.std.proofs.Common.{rules, arith, ap, sym, ◌∙◌}
use Rattle.zetcd_cmd.specs.Stressing.{count_in, max_connections, max_steps, number_in}
use Rattle.zetcd_cmd.proofs.Stressings.{of_four}
use Rattle.zetcd_cmd.proofs.words.stress_words.Goals as goal

pub returns-clause-some : goal.returns-clause-some
returns-clause-some c =
    of_four c.args.words.now _ c.in_ok-number.number c.in_ok-connections.connections c.in_ok-steps.steps (omega (arith, c.in-len4.len_at_least, c.in-len4.len_below))
    (ap number_in (sym c.as_bytes-2.ensures.value) ∙ sym c.number_of.ensures ∙ c.in_ok-number.was)
    (ap (count_in max_connections) (sym c.as_bytes-3.ensures.value) ∙ sym c.count_of.ensures.is ∙ c.in_ok-connections.was)
    (ap (count_in max_steps) (sym c.as_bytes-4.ensures.value) ∙ sym c.count_of-2.ensures.is ∙ c.in_ok-steps.was)
    (search rules)
