use Rattle.zp_conn.proofs.Coming.{next_read, next_second}
use Rattle.zp_conn.proofs.inbox.Inbox.next.Goals as goal

pub returns-in-Some-pop-clause-comes : goal.returns-in-Some-pop-clause-comes
returns-in-Some-pop-clause-comes g c = next_second c.args.self.now c.pop.new.self c.cut.new.self c.pop-2.new.self c.in-Some-pop.frame (g.S.Source.given c.args.source.now) (g.S.Source.left c.args.source.now) c.in_default.ensures c.in-Ok.ensures c.in-Some-pop.ensures

pub returns-clause-comes : goal.returns-clause-comes
returns-clause-comes g c = next_read c.args.self.now c.pop.new.self c.cut.new.self c.pop-2.new.self c.read.new.self c.read.result _ _ _ _ c.in_default.ensures c.in-Ok.ensures c.in_default-pop.ensures c.read.ensures.comes
