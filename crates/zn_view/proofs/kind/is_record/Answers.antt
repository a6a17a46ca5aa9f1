use Rattle.std.proofs.Common.{◌≡◌, ap, ◌∙◌, subst, Option, Some, IfOk, IsTrue, ◌↔◌}
use Rattle.zx_base.specs.Maps.{Bytes}
use Rattle.zn_view.specs.declared.kind.Kind.{Kind}
use Rattle.zn_view.specs.Seen.{kind_of_bytes, IsOfKind}
use Rattle.zn_view.proofs.kind.is_record.Goals as goal

pub returns-in-Some : goal.returns-in-Some
returns-in-Some c =
    let is : Some c.in-Some.kind ≡ kind_of_bytes c.args.kv.now.key = c.in-Some.ensures ∙ ap kind_of_bytes c.as_slice.ensures in
    let told = subst (λ (v : Bytes). IfOk c.is_of_kind.result (λ b. IsTrue b ↔ IsOfKind (Some c.in-Some.kind) v)) c.as_slice-in-Some.ensures c.is_of_kind.ensures in
    subst (λ (k : Option Kind). IfOk c.is_of_kind.result (λ b. IsTrue b ↔ IsOfKind k c.args.kv.now.value)) is told
