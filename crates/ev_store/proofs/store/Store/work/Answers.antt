use Rattle.std.proofs.Common.{◌≡◌, ◌+◌, ◌+ℤ◌, ◌∷◌, [], pos, drop, ap, ◌∙◌, ◌++◌}
use Rattle.std.proofs.Math.ListN.{drop_of_length-le}
use Rattle.ev_types.specs.Store.{Done, revision, present, after_changes}
use Rattle.ev_store.specs.Changes.{put_keys, are_distinct}
use Rattle.ev_store.proofs.Places.{front_of}
use Rattle.ev_store.proofs.Working.{act_keys, done_with, done_step, done_all, keys_step, distinct-front, distinct-acts}
use Rattle.ev_store.proofs.store.Store.work.Goals as goal

pub loop-act-init : goal.loop-act-init
loop-act-init c = record {
  done = ap (λ cs. done_with c.args.self.now (revision c.args.self.now +ℤ pos 1) (present c.args.self.now) cs c.new-parts.result c.args.acts.now) c.new-changes.ensures
      ∙ ap (λ ps. done_with c.args.self.now (revision c.args.self.now +ℤ pos 1) (present c.args.self.now) [] ps c.args.acts.now) c.new-parts.ensures;
  distinct = ap (λ cs. are_distinct (put_keys cs ++ act_keys c.args.acts.now)) c.new-changes.ensures ∙ distinct-acts c.args.acts.now c.requires;
}

pub act-requires : goal.act-requires
act-requires c = distinct-front (put_keys c.loop-act.changes) (act_keys (drop c.loop-act.act-index c.args.acts.now)) c.loop-act.invariant.distinct

pub loop-act-preserved : goal.loop-act-preserved
loop-act-preserved c =
    let s = c.args.self.now in
    let r = revision s +ℤ pos 1 in
    let all = drop c.loop-act.act-index c.args.acts.now in
    let rest = drop (c.loop-act.act-index + 1) c.args.acts.now in
    let front : all ≡ c.act-item.result ∷ rest = front_of c.args.acts.now c.loop-act.act-index c.act-item.result c.loop-act-test.true c.act-item.is in
    record {
      done = done_step s r (present s) _ c.loop-act.changes c.act.new.changes c.loop-act.parts c.push.new.self c.act-item.result c.in_ok-part.part all rest
          front c.in_ok-part.ensures.changes c.in_ok-part.ensures.part c.in_ok-push.ensures.ok c.loop-act.invariant.done;
      distinct = keys_step s (after_changes r (present s) c.loop-act.changes) c.loop-act.changes c.act.new.changes c.act-item.result all rest front c.in_ok-part.ensures.changes c.loop-act.invariant.distinct;
    }

pub returns-clause-changes : goal.returns-clause-changes
returns-clause-changes c =
    let none : drop c.loop-act.act-index c.args.acts.now ≡ [] = drop_of_length-le c.args.acts.now c.loop-act-test.false in
    ap (λ (d : Done). d.changes) (done_all c.args.self.now c.loop-act.changes c.loop-act.parts _ none c.args.acts.now c.loop-act.invariant.done)

pub returns-clause-parts : goal.returns-clause-parts
returns-clause-parts c =
    let none : drop c.loop-act.act-index c.args.acts.now ≡ [] = drop_of_length-le c.args.acts.now c.loop-act-test.false in
    ap (λ (d : Done). d.parts) (done_all c.args.self.now c.loop-act.changes c.loop-act.parts _ none c.args.acts.now c.loop-act.invariant.done)
