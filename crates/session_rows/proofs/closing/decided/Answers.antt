-- Nothing is lacking.
use Rattle.std.proofs.Common.{rules, arith, ◌≡◌, length}
use Rattle.zs_reap.proofs.Deciding.{nothing-whole}
use Rattle.session_rows.proofs.closing.decided.Goals as goal

pub plan_close-requires-clause-whole : goal.plan_close-requires-clause-whole
plan_close-requires-clause-whole c =
    let none : length c.in_ok-lacking.lacking ≡ 0 = search (arith, rules) in
    nothing-whole _ c.args.view.now c.in_ok-lacking.lacking c.in_ok-lacking.ensures none
