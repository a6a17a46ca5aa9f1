use Rattle.std.proofs.Common.{sym, subst, Some, IfOk, IsTrue, ◌↔◌}
use Rattle.zn_view.specs.declared.kind.Kind.{Kind}
use Rattle.zn_view.specs.Seen.{IsOfKind}
use Rattle.zn_view.proofs.kind.is_of_kind.Goals as goal

pub returns-in-Head : goal.returns-in-Head
returns-in-Head c = subst (λ (k : Kind). IfOk c.is_head_record.result (λ b. IsTrue b ↔ IsOfKind (Some k) c.args.value.now)) (sym c.in-Head.is) c.is_head_record.ensures

pub returns-in-Nodes : goal.returns-in-Nodes
returns-in-Nodes c = subst (λ (k : Kind). IfOk c.is_nodes_record.result (λ b. IsTrue b ↔ IsOfKind (Some k) c.args.value.now)) (sym c.in-Nodes.is) c.is_nodes_record.ensures
