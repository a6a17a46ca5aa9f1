use Rattle.std.proofs.Common.{rules, eqb, false, ◌≡◌, [], ◌++◌, length, List, ℕ, refl, sym, ap, ◌∙◌}
use Rattle.zk_wire.proofs.Pieces.{hands_some, not_empty}
use Rattle.zk_wire.proofs.cutter.Cutter.take_front.Goals as goal

pub returns-then-not-is_empty : goal.returns-then-not-is_empty
returns-then-not-is_empty c =
    let held : c.self.inside.rest.items ≡ [] = search rules in
    let kept : c.extend_from_slice.new.self.items ≡ c.self.inside.rest.items ++ c.in-Ok.rest.now = search rules in
    let left : c.extend_from_slice.new.self.items ≡ c.in-Ok.rest.now = kept ∙ ap (λ (z : List ℕ). z ++ c.in-Ok.rest.now) held in
    let whole : c.args.piece.now ≡ c.self.inside.rest.items ++ c.args.piece.now = sym (ap (λ (z : List ℕ). z ++ c.args.piece.now) held) in
    let counted : eqb (length c.in-Ok.frames.items) 0 ≡ false = search rules in
    let filled : c.in-Ok.frames.items ≡ [] → ⊥ = not_empty _ c.in-Ok.frames.items refl counted in
    rw (← c.self.view_is, left) (hands_some _ c.args.piece.now c.args.piece.now c.in-Ok.frames.items c.in-Ok.rest.now _ whole c.in-Ok.ensures filled (search rules))
