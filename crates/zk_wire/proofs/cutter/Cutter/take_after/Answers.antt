use Rattle.std.proofs.Common.{rules, eqb, false, ◌≡◌, [], ◌++◌, length, refl, sym, ap, ◌∙◌, None}
use Rattle.std.proofs.lemmas.List.{nil_from_length}
use Rattle.zk_jute.specs.Frames.{bad_length}
use Rattle.zk_wire.proofs.Pieces.{hands_none, hands_some, not_empty}
use Rattle.zk_wire.proofs.cutter.Cutter.take_after.Goals as goal

pub returns-then-is_empty-clause-takes : goal.returns-then-is_empty-clause-takes
returns-then-is_empty-clause-takes c =
    let whole : c.extend_from_slice.new.self.items ≡ c.self.inside.rest.items ++ c.args.piece.now = search rules in
    let framed = rw c.deref-2.ensures.value at c.in-Ok.ensures in
    let none : c.in-Ok.frames.items ≡ [] = nil_from_length _ (search rules) in
    let bad : bad_length c.extend_from_slice.new.self.items ≡ None = ap bad_length (sym c.deref-then-is_empty.ensures.value) ∙ sym c.bad_length-then-is_empty.ensures ∙ c.in_default-bad_length.is in
    rw (← c.self.view_is) (hands_none _ c.args.piece.now _ c.in-Ok.frames.items c.in-Ok.rest.now (search rules) whole framed none bad)

pub returns-clause-takes : goal.returns-clause-takes
returns-clause-takes c =
    let whole : c.extend_from_slice.new.self.items ≡ c.self.inside.rest.items ++ c.args.piece.now = search rules in
    let framed = rw c.deref-2.ensures.value at c.in-Ok.ensures in
    let counted : eqb (length c.in-Ok.frames.items) 0 ≡ false = search rules in
    let filled : c.in-Ok.frames.items ≡ [] → ⊥ = not_empty _ c.in-Ok.frames.items refl counted in
    rw (← c.self.view_is, c.in-Ok-from_slice.ensures.items) (hands_some _ c.args.piece.now _ c.in-Ok.frames.items c.in-Ok.rest.now _ whole framed filled (search rules))
