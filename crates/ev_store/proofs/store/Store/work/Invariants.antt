use Rattle.std.proofs.Common.{◌≡◌, ◌+ℤ◌, ◌++◌, pos, drop, true}
use Rattle.ev_types.specs.Store.{acts_from, present, revision}
use Rattle.ev_store.specs.Changes.{put_keys, are_distinct}
use Rattle.ev_store.proofs.Working.{act_keys, done_with}
use Rattle.ev_store.proofs.store.Store.work.Given as goal

abbrev pub invariant-loop-act : goal.invariant-loop-act
invariant-loop-act l =
    let s = l.self in
    let r = revision s +ℤ pos 1 in
    record {
      done : done_with s r (present s) l.changes l.parts (drop l.act-index l.acts) ≡ acts_from s r (present s) l.acts;
      distinct : are_distinct (put_keys l.changes ++ act_keys (drop l.act-index l.acts)) ≡ true;
    }
