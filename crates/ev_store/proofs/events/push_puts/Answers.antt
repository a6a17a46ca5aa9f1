use Rattle.std.proofs.Common.{◌≡◌, ◌+◌, ◌++◌, ◌∷◌, [], Option, None, take, drop, sym, ap, ◌∙◌, w64, to_z, of_z}
use Rattle.std.specs.Option.{option_to_list}
use Rattle.std.proofs.lemmas.List.{take_more}
use Rattle.zx_base.specs.Maps.{Bytes}
use Rattle.ev_types.specs.declared.answer.Kv.{Kv}
use Rattle.ev_store.specs.Changes.{key_of}
use Rattle.ev_store.specs.Folds.{key_after_change, key_after_changes, key_after_revisions, put_after}
use Rattle.ev_store.proofs.Index.{key_after_changes-add}
use Rattle.ev_store.proofs.Places.{front_of}
use Rattle.ev_store.proofs.Putting.{puts_step, taken_few}
use Rattle.ev_store.proofs.events.push_puts.Goals as goal

pub loop-index-preserved : goal.loop-index-preserved
loop-index-preserved c =
    let r = to_z w64 (of_z w64 c.args.revision) in
    let i = c.loop-index.index in
    let cs = c.args.changes.now in
    let change = c.index-changes-index.result in
    let before : Bytes → Option Kv = λ q. key_after_revisions 1 q None (take c.args.before c.args.history.now) in
    let found : Bytes → Option Kv = λ q. key_after_changes r q (before q) (take i cs) in
    let next : Bytes → Option Kv = λ q. key_after_changes r q (before q) (take (i + 1) cs) in
    let front : drop i cs ≡ change ∷ drop (i + 1) cs = front_of cs i change c.loop-index-test.true c.index-changes-index.is in
    let writes : (q : Bytes) → next q ≡ key_after_change r q (found q) change =
    λ q. ap (key_after_changes r q (before q)) (take_more cs i change c.loop-index-test.true ∙ ap (λ x. take i cs ++ x ∷ []) (sym c.index-changes-index.is))
    ∙ key_after_changes-add r q (before q) (take i cs) change in
    let is : c.push_first.new.puts ≡ take c.args.most (c.loop-index.puts ++ option_to_list (put_after r (found (key_of change)) change)) =
    c.in_ok-push_first.ensures
    ∙ ap (λ o. take c.args.most (c.loop-index.puts ++ option_to_list o)) c.put_by-found.ensures in
    record {
      few = taken_few c.args.most _ c.push_first.new.puts is;
      puts = puts_step r c.args.most found next c.loop-index.puts c.push_first.new.puts _ change (drop i cs) (drop (i + 1) cs) front is writes c.loop-index.invariant.puts;
    }
