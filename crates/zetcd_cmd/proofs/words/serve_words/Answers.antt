use Rattle.std.proofs.Common.{rules, arith}
use Rattle.zetcd_cmd.proofs.Proxyings.{of_four}
use Rattle.zetcd_cmd.proofs.words.serve_words.Goals as goal

pub returns-in-Some-clause-some : goal.returns-in-Some-clause-some
returns-in-Some-clause-some c =
    of_four c.args.words.now _ c.in-Some.limit (omega (arith, c.in-len4.len_at_least, c.in-len4.len_below)) (search rules) (search rules) (search rules) (search rules)
