use Rattle.std.proofs.Common.{arith, subst, ◌≡◌, ◌+◌, ◌-◌, length, drop, None}
use Rattle.zk_model.specs.Paths.{at_last_slash}
use Rattle.zk_model.proofs.PathScans.{at_last_slash-drop, at_last_slash-cut, at_last_slash-end, at_last_slash-first, begins-length}
use Rattle.zk_model.proofs.path.last_slash.Goals as goal

pub loop-place-init : goal.loop-place-init
loop-place-init c = record { first = begins-length _ c.requires; none = at_last_slash-end (length c.args.path.now) c.args.path.now (omega arith) }

pub returns-then-path-place-eq47-clause-split : goal.returns-then-path-place-eq47-clause-split
returns-then-path-place-eq47-clause-split c =
    let back : c.loop-place.place ≡ c.loop-place.place - 1 + 1 = omega arith in
    at_last_slash-cut (c.loop-place.place - 1) _ (omega arith) c.if-path-place-eq47.true (rw (← back) c.loop-place.invariant.none)

pub loop-place-preserved : goal.loop-place-preserved
loop-place-preserved c =
    let back : c.loop-place.place ≡ c.loop-place.place - 1 + 1 = omega arith in
    record {
      first = omega arith;
      none = at_last_slash-drop (c.loop-place.place - 1) _ (omega arith) c.if-path-place-eq47.false (rw (← back) c.loop-place.invariant.none);
    }

pub returns-clause-split : goal.returns-clause-split
returns-clause-split c =
    let here : c.loop-place.place ≡ 1 = omega arith in
    at_last_slash-first _ c.requires (subst (λ n. at_last_slash (drop n c.args.path.now) ≡ None) here c.loop-place.invariant.none)
