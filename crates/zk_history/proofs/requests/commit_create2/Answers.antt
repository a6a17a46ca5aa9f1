-- The data of a create2 that fit a frame have a length that fits an `int`.
use Rattle.std.proofs.Common.{◌≡◌, ◌≤◌, List, ℕ, ℤ, length, arith}
use Rattle.std.proofs.lemmas.Result.{err_from_is_err_and}
use Rattle.zk_model.specs.declared.request.Acl.{Acl}
use Rattle.zk_model.specs.declared.request.Part.TheVariants as parts
use Rattle.zk_model.specs.Znodes.{Tree}
use Rattle.zk_machine.specs.declared.fault.Fault.{Fault}
use Rattle.zk_machine.specs.Faults.{BeyondUnless}
use Rattle.zk_machine.proofs.FaultLaws.{beyond-weaker}
use Rattle.zk_history.specs.Fits.{PartFits}
use Rattle.zk_history.proofs.requests.commit_create2.Goals as goal

stat_beyond : (t : Tree) (path given content : List ℕ) (acl : List Acl) (flags : ℤ) (e : Fault) → given ≡ content → BeyondUnless (length given ≤ 2147483647) e
    → BeyondUnless (PartFits t (parts.Create path content acl flags)) e
stat_beyond t path given content acl flags e same beyond =
    beyond-weaker (length given ≤ 2147483647) (PartFits t (parts.Create path content acl flags)) e (λ fits. rw same (omega (arith, fits.1))) beyond

pub returns-in_err-stat-clause-beyond : goal.returns-in_err-stat-clause-beyond
returns-in_err-stat-clause-beyond c =
    let p = err_from_is_err_and c.from_residual.result c.from_residual.ensures.1 in
    rw (p.1, p.2)
    (stat_beyond c.args.tree.now c.args.path c.as_slice.result.now c.args.content c.args.acl c.args.flags c.in_err-stat.field-0.0 c.as_slice.ensures c.in_err-stat.ensures.beyond)
