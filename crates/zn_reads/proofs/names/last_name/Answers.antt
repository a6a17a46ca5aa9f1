use Rattle.std.proofs.Common.{arith, subst, ◌≡◌, ◌+◌, ◌-◌, length, drop, None}
use Rattle.zk_model.specs.Paths.{at_last_slash}
use Rattle.zk_model.proofs.PathScans.{at_last_slash-drop, at_last_slash-end}
use Rattle.zn_reads.proofs.LastNames.{last_name-cut, last_name-none}
use Rattle.zn_reads.proofs.names.last_name.Goals as goal

pub loop-place-init : goal.loop-place-init
loop-place-init c = at_last_slash-end (length c.args.path.now) c.args.path.now (omega arith)

pub returns-then-path-place-eq47 : goal.returns-then-path-place-eq47
returns-then-path-place-eq47 c =
    let back : c.loop-place.place ≡ c.loop-place.place - 1 + 1 = omega arith in
    last_name-cut (c.loop-place.place - 1) _ (omega arith) c.if-path-place-eq47.true (rw (← back) c.loop-place.invariant)

pub loop-place-preserved : goal.loop-place-preserved
loop-place-preserved c =
    let back : c.loop-place.place ≡ c.loop-place.place - 1 + 1 = omega arith in
    at_last_slash-drop (c.loop-place.place - 1) _ (omega arith) c.if-path-place-eq47.false (rw (← back) c.loop-place.invariant)

pub returns : goal.returns
returns c =
    let here : c.loop-place.place ≡ 0 = omega arith in
    last_name-none c.args.path.now (subst (λ n. at_last_slash (drop n c.args.path.now) ≡ None) here c.loop-place.invariant)
