use Rattle.std.proofs.Common.{◌≡◌, ◌∙◌, sym, subst, List, length, ap, slice_set, arith}
use Rattle.std.specs.Prelude.{All}
use Rattle.zn_view.specs.declared.snapshot.SeenKey.{SeenKey}
use Rattle.zn_view.specs.Laying.{placed}
use Rattle.zn_view.specs.Seen.{IsSeen}
use Rattle.zn_view.proofs.Laying.{set-parts, placed-all}
use Rattle.zn_view.proofs.view.lay_in.Goals as goal

pub returns-then-place-len-clause-ok : goal.returns-then-place-len-clause-ok
returns-then-place-len-clause-ok c =
    let same = ap (λ (l : List SeenKey). length l) c.deref.ensures.value in
    let lt = c.if-place-len.true in
    subst (λ (l : List SeenKey). slice_set l c.place_of-place.result c.args.seen ≡ placed c.args.seen l) c.deref.ensures.value
    (sym (c.place_of-place.ensures.is c.args.seen (sym c.as_slice.ensures) ∙ set-parts c.deref.result.now c.place_of-place.result c.args.seen (omega (arith, lt, c.len.ensures, same))))

pub returns-then-place-len-clause-kept : goal.returns-then-place-len-clause-kept
returns-then-place-len-clause-kept c = λ here all.
    let same = ap (λ (l : List SeenKey). length l) c.deref.ensures.value in
    let lt = c.if-place-len.true in
    subst (λ (l : List SeenKey). All IsSeen (slice_set l c.place_of-place.result c.args.seen)) c.deref.ensures.value
    (subst (All IsSeen) (c.place_of-place.ensures.is c.args.seen (sym c.as_slice.ensures) ∙ set-parts c.deref.result.now c.place_of-place.result c.args.seen (omega (arith, lt, c.len.ensures, same)))
    (placed-all IsSeen c.args.seen c.deref.result.now here (subst (All IsSeen) (sym c.deref.ensures.value) all)))
