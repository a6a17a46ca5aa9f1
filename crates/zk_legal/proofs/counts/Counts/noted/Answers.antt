use Rattle.std.proofs.Common.{◌≡◌, ◌+◌, sym, ◌∙◌, arith}
use Rattle.zk_legal.specs.Counted.{count_in}
use Rattle.zk_legal.proofs.Counting.{if_ok, counts-few, counts-more, counts-same}
use Rattle.zk_legal.proofs.counts.Counts.noted.Goals as goal

pub returns-in_default : goal.returns-in_default
returns-in_default c = λ before few counts. counts-same before c.args.line.now c.args.self (sym c.sender.ensures ∙ c.in_default.is) counts

pub returns : goal.returns
returns c = if_ok c.counted.result (λ m notes before few counts.
    let count : c.saturating_add-count.result ≡ count_in c.args.self c.in-Some.connection + 1 =
    omega (arith, c.saturating_add-count.ensures, c.frames.ensures, counts-few before c.args.self c.in-Some.connection counts, few) in
    counts-more before c.args.line.now c.args.self m c.in-Some.connection c.saturating_add-count.result (sym c.sender.ensures ∙ c.in-Some.is) counts count notes) c.counted.ensures
