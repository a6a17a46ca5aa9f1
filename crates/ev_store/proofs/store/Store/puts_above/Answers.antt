use Rattle.std.proofs.Common.{◌≡◌, ◌≤◌, length, take, [], IfOk, subst, ap, sym, ◌∙◌, arith}
use Rattle.std.proofs.lemmas.List.{take_all}
use Rattle.std.proofs.lemmas.Grind.{common_steps}
use Rattle.ev_store.proofs.Putting.{puts_above-none, puts_above-read}
use Rattle.ev_store.proofs.store.Store.puts_above.Goals as goal

pub returns-then-rev-revisions : goal.returns-then-rev-revisions
returns-then-rev-revisions c =
    let past : length c.args.self.now.revisions ≤ c.args.rev = grind (arith, common_steps) in
    c.new.ensures ∙ sym (take_all c.args.n [] (omega arith)) ∙ ap (take c.args.n) (sym (puts_above-none c.args.self.now c.args.rev past))

pub returns : goal.returns
returns c =
    subst (λ kvs. IfOk c.puts.result (λ xs. xs ≡ take c.args.n kvs)) (puts_above-read c.args.self.now c.args.rev c.history-history.result.now c.history-history.ensures.all) c.puts.ensures
