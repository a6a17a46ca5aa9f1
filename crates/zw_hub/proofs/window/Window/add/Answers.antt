use Rattle.std.proofs.Common.{rules, ◌≡◌, true, sym, ◌∙◌, ap, w64, to_z-of_z}
use mir.Val.{SFits}
use Rattle.zn_layout.specs.declared.entry.Entry.{Entry}
use Rattle.zw_hub.specs.declared.published.Published.{Published}
use Rattle.zw_hub.specs.Lists.{is_next}
use Rattle.zw_hub.specs.Windows.{published}
use Rattle.zw_hub.proofs.Keeping.{pushed, next-number}
use Rattle.zw_hub.proofs.window.Window.add.Goals as goal

pub invariant_of-self : goal.invariant_of-self
invariant_of-self c =
    let entry : Entry = c.deref-3.result.now in
    let is : is_next (published c.self.inside) entry ≡ true = ap (λ (list : Published). is_next list entry) c.self.view_is ∙ ap (is_next c.args.self.now) (c.deref-3.ensures ∙ sym c.deref.ensures) ∙ sym c.if-not-is_next.ensures in
    let f : SFits w64 c.deref-2.result.now.number = search rules in
    pushed c.self.inside c.self.invariant c.push_back.new.self _ c.and-self-inside.result entry c.of.result
    (next-number (published c.self.inside) entry is)
    (to_z-of_z f ∙ ap (λ (e : Entry). e.number) (c.deref-2.ensures ∙ sym c.deref-3.ensures))
    (c.of.ensures ∙ sym c.deref-3.ensures)
    c.push_back.ensures.items
    c.and-self-inside.ensures
