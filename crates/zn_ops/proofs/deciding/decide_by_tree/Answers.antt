-- What is no update is a read.
use Rattle.std.proofs.Common.{◌∙◌, sym}
use Rattle.zn_ops.proofs.SingleRequests.{read-otherwise}
use Rattle.zn_ops.proofs.SessionTests.{read-by_tree, read-decided, read-planned, update-created, update-decided, update-keepable, update-once, update-planned}
use Rattle.zn_view.specs.Asks.{WritesOnce}
use Rattle.zn_view.specs.Deciding.{IsGood}
use Rattle.zn_view.specs.Keeping.{IsKeepable}
use Rattle.zn_updates.specs.Deciding.{IsTakenIfCreate}
use Rattle.zn_updates.specs.Writing.{WritesAs}
use Rattle.zn_ops.proofs.deciding.decide_by_tree.Goals as goal

pub returns-then-is_update-clause-decision : goal.returns-then-is_update-clause-decision
returns-then-is_update-clause-decision c = update-decided c.args.request.now c.args.who c.args.view.now _ c.requires.real c.requires.formed c.requires.attached c.in_ok-decide_update.ensures.sound

pub decide_read-requires : goal.decide_read-requires
decide_read-requires c = read-otherwise c.args.request.now c.requires.single c.requires.formed (sym c.is_update.ensures ∙ c.if-is_update.false)

pub returns-clause-decision : goal.returns-clause-decision
returns-clause-decision c = read-decided c.args.request.now c.args.who c.args.view.now _ c.requires.real c.requires.formed c.requires.attached c.requires.whole c.in_ok-decide_read.ensures

pub returns-then-is_update-clause-plan : goal.returns-then-is_update-clause-plan
returns-then-is_update-clause-plan c = update-planned c.args.request.now c.args.who c.args.now c.args.view.now _ c.requires.attached c.in_ok-decide_update.ensures.plan

pub returns-clause-plan : goal.returns-clause-plan
returns-clause-plan c = read-planned (IsGood c.args.request.now c.args.who c.args.now c.args.view.now) _ c.in_ok-decide_read.ensures.answered

pub returns-then-is_update-clause-once : goal.returns-then-is_update-clause-once
returns-then-is_update-clause-once c = update-once c.args.request.now c.args.who c.args.now c.args.view.now _ c.in_ok-decide_update.ensures.plan

pub returns-clause-once : goal.returns-clause-once
returns-clause-once c = read-planned WritesOnce _ c.in_ok-decide_read.ensures.answered

pub returns-then-is_update-clause-created : goal.returns-then-is_update-clause-created
returns-then-is_update-clause-created c = update-created c.args.request.now c.args.who c.args.now c.args.view.now _ c.in_ok-decide_update.ensures.plan

pub returns-clause-created : goal.returns-clause-created
returns-clause-created c = read-planned (IsTakenIfCreate c.args.request.now) _ c.in_ok-decide_read.ensures.answered

pub returns-then-is_update-clause-keepable : goal.returns-then-is_update-clause-keepable
returns-then-is_update-clause-keepable c = update-keepable c.args.request.now c.args.who c.args.now c.args.view.now _ c.in_ok-decide_update.ensures.plan

pub returns-clause-keepable : goal.returns-clause-keepable
returns-clause-keepable c = read-planned (IsKeepable c.args.request.now c.args.view.now) _ c.in_ok-decide_read.ensures.answered

pub returns-clause-tree : goal.returns-clause-tree
returns-clause-tree c = read-by_tree _ c.in_ok-decide_read.ensures.answered

pub returns-clause-writes : goal.returns-clause-writes
returns-clause-writes c = read-planned (WritesAs c.args.request.now c.args.who c.args.view.now) _ c.in_ok-decide_read.ensures.answered
