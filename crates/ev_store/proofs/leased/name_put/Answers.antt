use Rattle.std.proofs.Common.{◌≡◌, true, rules, subst, ℤ, w64, to_z, of_z}
use Rattle.std.proofs.lemmas.Result.{on_ok_weaker}
use Rattle.ev_store.specs.Leased.{named_with, names}
use Rattle.ev_store.proofs.Leasing.{names-put}
use Rattle.ev_store.proofs.leased.name_put.Goals as goal

pub returns-clause-named : goal.returns-clause-named
returns-clause-named c =
    let lease = c.args.content.now.lease in
    let same_lease : to_z w64 (of_z w64 lease) ≡ lease = search rules in
    on_ok_weaker c.name_key.result
    (λ named. names-put c.name_key.new.leased c.args.key.now c.args.content.now.value lease (subst (λ (id : ℤ). names (named_with c.name_key.new.leased id) c.args.key.now ≡ true) same_lease named))
    c.name_key.ensures.named
