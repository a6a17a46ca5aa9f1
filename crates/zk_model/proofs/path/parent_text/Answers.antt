use Rattle.std.proofs.Common.{arith, ◌≡◌, ◌<◌, ◌+◌, Some, drop, take, length, subst, sym, ap, ◌∙◌, length-take}
use Rattle.zk_model.specs.Paths.{at_last_slash}
use Rattle.zk_model.proofs.ValidPaths.{valid-from, parent-first, parent-root, parent-inside, before-valid, root-valid}
use Rattle.zk_model.proofs.path.parent_text.Goals as goal

pub last_slash-requires : goal.last_slash-requires
last_slash-requires c = (valid-from _ c.requires).begins

pub returns-in-0-clause-parent : goal.returns-in-0-clause-parent
returns-in-0-clause-parent c =
    let split = subst (λ n. at_last_slash c.args.path.now ≡ Some (take n c.args.path.now, drop (n + 1) c.args.path.now)) c.in-0.is c.last_slash.ensures.split in
    sym (parent-root c.args.path.now c.if-path-eq1.true split)

pub returns-in-0-2-clause-parent : goal.returns-in-0-2-clause-parent
returns-in-0-2-clause-parent c =
    let split = subst (λ n. at_last_slash c.args.path.now ≡ Some (take n c.args.path.now, drop (n + 1) c.args.path.now)) c.in-0.is c.last_slash.ensures.split in
    ap Some c.as_slice.ensures ∙ sym (parent-first c.args.path.now (omega (arith, c.if-path-eq1.false, c.last_slash.ensures.within)) split)

pub returns-in-0-2-clause-valid : goal.returns-in-0-2-clause-valid
returns-in-0-2-clause-valid c = rw c.as_slice.ensures root-valid

pub returns-in_default-clause-parent : goal.returns-in_default-clause-parent
returns-in_default-clause-parent c =
    let inner : 0 < length (take c.last_slash.result c.args.path.now) = omega (arith, length-take c.last_slash.result c.args.path.now, c.in_default, c.last_slash.ensures.within) in
    sym (parent-inside c.args.path.now _ _ c.requires c.last_slash.ensures.split inner)

pub returns-in_default-clause-valid : goal.returns-in_default-clause-valid
returns-in_default-clause-valid c =
    let inner : 0 < length (take c.last_slash.result c.args.path.now) = omega (arith, length-take c.last_slash.result c.args.path.now, c.in_default, c.last_slash.ensures.within) in
    before-valid c.args.path.now _ _ c.requires c.last_slash.ensures.split inner
