use Rattle.std.proofs.Common.{◌≡◌, ap, sym, ◌∙◌, ◌+◌, drop, get_or, arith, pos, ℤ, List}
use Rattle.std.proofs.lemmas.Int.{to_z-of_z}
use Rattle.std.proofs.lemmas.List.{at_drop_more}
use Rattle.std.specs.Prelude.{fold}
use Rattle.std.specs.Ordering.{int_cmp}
use Rattle.std.specs.BTreeSet.{insert_key}
use Rattle.zk_model.proofs.load.distinct.Goals as goal

pub loop-session-preserved : goal.loop-session-preserved
loop-session-preserved c =
    let step = at_drop_more (fold (insert_key int_cmp) c.loop-session.once.keys) c.args.sessions.now c.loop-session.session-index (pos 0) c.loop-session-test.true in
    let added : c.insert.new.self.keys ≡ insert_key int_cmp c.loop-session.once.keys (get_or c.args.sessions.now c.loop-session.session-index (pos 0)) = grind (arith, to_z-of_z) in
    ap (λ (keys : List ℤ). fold (insert_key int_cmp) keys (drop (c.loop-session.session-index + 1) c.args.sessions.now)) added ∙ sym step ∙ c.loop-session.invariant
