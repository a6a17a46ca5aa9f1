use Rattle.std.proofs.Common.{◌≡◌, ◌+◌, ◌<◌, ◌+ℤ◌, ◌++◌, ◌∷◌, Option, None, List, get_or, length, pos, take, drop, ap, ◌∙◌, w64, to_z, of_z, rules, arith}
use Rattle.zx_base.specs.Maps.{Bytes}
use Rattle.ev_types.specs.declared.answer.Kv.{Kv}
use Rattle.ev_types.specs.Store.{Change}
use Rattle.ev_store.specs.Folds.{key_after_changes, key_after_revisions, puts_after_changes}
use Rattle.ev_store.proofs.Index.{one_revision_more, nth_changes-at}
use Rattle.ev_store.proofs.Places.{front_of}
use Rattle.ev_store.proofs.Putting.{puts_step_of_all, taken_few}
use Rattle.ev_store.proofs.events.push_puts_of_all.Goals as goal

pub loop-index-preserved : goal.loop-index-preserved
loop-index-preserved c =
    let i = c.loop-index.index in
    let css = c.args.history.now in
    let all : c.revisions-revisions.result.now ≡ css = c.revisions-revisions.ensures.all in
    let changes = c.index-revisions-index.result in
    let within : i < length css = let e = ap (λ (xs : List (List Change)). length xs) all in omega (arith, e, c.len.ensures, c.loop-index-test.true) in
    let here = c.index-revisions-index.is ∙ ap (λ (xs : List (List Change)). get_or xs i changes) all in
    let number : to_z w64 (of_z w64 (to_z w64 i +ℤ pos 1)) ≡ pos (i + 1) = search rules in
    let found : Bytes → Option Kv = λ q. key_after_revisions 1 q None (take i css) in
    let next : Bytes → Option Kv = λ q. key_after_revisions 1 q None (take (i + 1) css) in
    let front : drop i css ≡ changes ∷ drop (i + 1) css = front_of css i changes within here in
    let writes : (q : Bytes) → next q ≡ key_after_changes (pos (i + 1)) q (found q) changes =
    λ q. one_revision_more q i css within ∙ ap (key_after_changes (pos (i + 1)) q (found q)) (nth_changes-at css i changes within here) in
    let is : c.push_puts.new.puts ≡ take c.args.most (c.loop-index.puts ++ puts_after_changes (pos (i + 1)) found changes) =
    c.in_ok-push_puts.ensures.puts ∙ (λ j. take c.args.most (c.loop-index.puts ++ puts_after_changes (number j) found (c.as_slice.ensures j))) in
    record {
      few = taken_few c.args.most _ c.push_puts.new.puts is;
      puts = puts_step_of_all (i + 1) (i + 1 + 1) c.args.most found next c.loop-index.puts c.push_puts.new.puts _ changes (drop i css) (drop (i + 1) css) (let e : i + 1 + 1 ≡ i + 1 + 1 = omega arith in e) front is writes c.loop-index.invariant.puts;
    }
