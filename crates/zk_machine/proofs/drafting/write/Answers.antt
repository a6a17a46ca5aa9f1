use Rattle.std.proofs.Common.{ap, sym, ◌∙◌, subst, List}
use Rattle.zx_base.specs.Maps.{Bytes}
use Rattle.zk_model.specs.Znodes.{Tree}
use Rattle.zk_machine.specs.declared.write.Write.{Write}
use Rattle.zk_machine.specs.Writes.{AreTold, owner_at, written_all}
use Rattle.zk_machine.proofs.DraftLaws.{told-push, written-push}
use Rattle.zk_machine.proofs.drafting.write.Goals as goal

pub returns-clause-told : goal.returns-clause-told
returns-clause-told c =
    subst (λ (ws : List Write). AreTold c.args.tree.now ws) (sym c.in_ok-push.ensures.items)
    (told-push c.args.tree.now c.args.writes.items (record { path = c.args.path; node = c.args.node; before = c.owner_at-before.result }) c.requires
    (c.owner_at-before.ensures ∙ ap (λ (t : Tree). owner_at t c.bytes.result.now) (c.after.ensures ∙ ap (written_all c.args.tree.now) c.deref.ensures.value)
    ∙ ap (λ (p : Bytes). owner_at (written_all c.args.tree.now c.args.writes.items) p) c.bytes.ensures))

pub returns-clause-made : goal.returns-clause-made
returns-clause-made c =
    ap (written_all c.args.tree.now) c.in_ok-push.ensures.items
    ∙ written-push c.args.tree.now c.args.writes.items (record { path = c.args.path; node = c.args.node; before = c.owner_at-before.result })
