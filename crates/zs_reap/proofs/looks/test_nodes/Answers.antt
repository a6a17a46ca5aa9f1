-- Any list that was seen is the one that was tested.
use Rattle.std.proofs.Common.{rules, arith, ◌≡◌, ◌≤◌, length, Some}
use Rattle.std.specs.Prelude.{nat_abs}
use Rattle.ev_types.specs.declared.answer.Kv.{Kv}
use Rattle.zk_model.specs.Limits.{max_owned}
use Rattle.zn_layout.specs.Keys.{SessionKey}
use Rattle.zn_view.specs.Lookups.{sees, IsNodesIn}
use Rattle.zs_reap.proofs.Deciding.{few-seen}
use Rattle.zs_reap.proofs.looks.test_nodes.Goals as goal

pub returns-clause-ok : goal.returns-clause-ok
returns-clause-ok c =
    let h : (kv : Kv) × (sees c.args.view.now (SessionKey (nat_abs c.args.session)) ≡ Some (Some kv)) × IsNodesIn kv c.in-Some.nodes = search rules in
    let few : length c.in-Some.nodes.paths ≤ max_owned c.in-Some.nodes.layout = search (arith, rules) in
    few-seen c.args.session c.args.view.now h.0 c.in-Some.nodes h.1 h.2 few
