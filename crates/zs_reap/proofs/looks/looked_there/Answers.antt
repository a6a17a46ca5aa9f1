-- The view saw the record of the session's life or lacks nothing, or it lacks some of what the end reads.
use Rattle.std.proofs.Common.{rules, arith, ◌≡◌, length, pos}
use Rattle.std.specs.Prelude.{◌⊎◌}
use Rattle.zs_session.specs.Answering.{viewed}
use Rattle.zs_reap.specs.Steps.{ReaperDecides, IsReaperCounted, IsReaperTested}
use Rattle.zs_reap.proofs.Deciding.{lacks-some, looked-there, nothing-whole}
use Rattle.zs_reap.proofs.looks.looked_there.Goals as goal

pub decided-requires-clause-ready : goal.decided-requires-clause-ready
decided-requires-clause-ready c =
    let none : length c.in_ok-lacking.lacking ≡ 0 = search (arith, rules) in
    λ gone. nothing-whole _ c.in_ok-view.view c.in_ok-lacking.lacking (c.in_ok-lacking.ensures.needs gone (pos 0)) none

pub count-requires-clause-lacks : goal.count-requires-clause-lacks
count-requires-clause-lacks c =
    let some : length c.in_ok-lacking.lacking ≡ 0 → ⊥ = search (arith, rules) in
    lacks-some _ c.in_ok-view.view c.in_ok-lacking.lacking c.in_ok-lacking.ensures.kept (λ gone. c.in_ok-lacking.ensures.needs gone (pos 0)) some

pub returns-then-is_empty-clause-ok : goal.returns-then-is_empty-clause-ok
returns-then-is_empty-clause-ok c =
    let id = c.args.session in
    let r = c.args.revision in
    let ws = c.args.wants.now in
    let parts = c.args.parts.now in
    let phase = c.in_ok-decided.field-0.phase in
    let step = c.in_ok-decided.field-0.step in
    let h : IsReaperTested id ws r parts × (ReaperDecides id (viewed r ws parts) phase step ⊎ IsReaperCounted id (viewed r ws parts) phase step) = search rules in
    looked-there id r ws parts phase step c.requires.real h

pub returns-clause-ok : goal.returns-clause-ok
returns-clause-ok c =
    let id = c.args.session in
    let r = c.args.revision in
    let ws = c.args.wants.now in
    let parts = c.args.parts.now in
    let phase = c.in_ok-count.field-0.phase in
    let step = c.in_ok-count.field-0.step in
    let h : IsReaperTested id ws r parts × (ReaperDecides id (viewed r ws parts) phase step ⊎ IsReaperCounted id (viewed r ws parts) phase step) = search rules in
    looked-there id r ws parts phase step c.requires.real h
