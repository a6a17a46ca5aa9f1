-- One change more adds one to each count at most.
use Rattle.std.proofs.Common.{◌≡◌, ◌∙◌, ℕ, ◌+◌, sym, ap, subst, take, arith}
use Rattle.std.specs.Prelude.{Option, fold}
use Rattle.std.proofs.lemmas.List.Sums.{fold_more}
use Rattle.zn_layout.specs.declared.record.CountRec.{CountRec}
use Rattle.zn_view.specs.declared.leaving.TreeChange.{TreeChange}
use Rattle.zn_view.specs.Leaving.{counts_with}
use Rattle.zn_multi.proofs.Bounds.{counts_within, AreCountsWithin}
use Rattle.zn_multi.proofs.leaving.counts_after.Goals as goal

pub loop-change-preserved : goal.loop-change-preserved
loop-change-preserved c =
    let i : ℕ = c.loop-change.change-index in
    let f : Option (Option CountRec) → TreeChange → Option (Option CountRec) = counts_with c.args.path.now in
    let e : TreeChange = c.change-item.result in
    let here : c.counts_with-counts.result ≡ f c.loop-change.counts e = c.counts_with-counts.ensures in
    let next : (1073741823 + i) + 1 ≡ 1073741823 + (i + 1) = omega arith in
    let within : AreCountsWithin ((1073741823 + i) + 1) (f c.loop-change.counts e) = counts_within c.args.path.now c.loop-change.counts e (1073741823 + i) c.loop-change.invariant.1 in (
      here
          ∙ ap (λ (o : Option (Option CountRec)). f o e) c.loop-change.invariant.0
          ∙ ap (f (fold f c.args.counts (take i c.args.changes.now))) c.change-item.is
          ∙ sym (fold_more f c.args.counts c.args.changes.now i e c.loop-change-test.true),
      subst (λ (t : ℕ × Option (Option CountRec)). AreCountsWithin t.0 t.1) (λ j. (next j, sym here j)) within,
    )
