use Rattle.std.proofs.Common.{rules, ◌≡◌, ℤ, pos, ◌+ℤ◌, ◌-ℤ◌, ◌≤ℤ◌, Some, slice_get, sym, ◌∙◌, ap, subst, to_z, of_z, w64}
use Rattle.std.specs.Option.{option_copied}
use lib.IntN.{nat_abs}
use mir.Val.{SFits}
use Rattle.zn_layout.specs.declared.entry.Entry.{Entry}
use Rattle.zw_hub.specs.declared.published.Published.{Published}
use Rattle.zw_hub.specs.Lists.{oldest, IsAt}
use Rattle.zw_hub.specs.Windows.{published}
use Rattle.zw_hub.proofs.Keeping.{kept_at, kept_fed, placed}
use Rattle.zw_hub.proofs.window.Window.kept.Goals as goal

pub returns : goal.returns
returns c =
    let cursor = c.args.cursor in
    let entry : Entry = c.unwrap.result.now in
    let place = nat_abs (to_z w64 (of_z w64 (to_z w64 (of_z w64 cursor) -ℤ to_z w64 (of_z w64 c.oldest.result)))) in
    let at : slice_get c.self.inside.ring.items place ≡ Some entry = sym c.get.ensures ∙ ap option_copied c.unwrap.ensures in
    let f : SFits w64 cursor = c.ranges.cursor in
    let g : SFits w64 c.oldest.result = search rules in
    let least : oldest (published c.self.inside) ≡ c.oldest.result = ap oldest c.self.view_is ∙ sym c.oldest.ensures in
    let above : c.oldest.result ≤ℤ cursor = subst (λ (z : ℤ). z ≤ℤ cursor) (sym c.oldest.ensures) c.requires.kept in
    let d : SFits w64 (cursor -ℤ c.oldest.result) = search rules in
    let is : oldest (published c.self.inside) +ℤ pos place ≡ cursor = placed (oldest (published c.self.inside)) c.oldest.result cursor f g d least above in
    kept_fed c.args.self.now cursor entry c.answer.result c.requires.least
    (subst (λ (list : Published). IsAt list (cursor +ℤ pos 1) entry) c.self.view_is (kept_at c.self.inside c.self.invariant cursor place entry is at))
    c.answer.ensures
