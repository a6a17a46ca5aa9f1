use Rattle.std.proofs.Common.{subst, sym}
use Rattle.zp_conn.specs.Inboxes.{InboxState, ReadsFrom}
use Rattle.zp_conn.specs.declared.inbox.Came.TheVariants.{End}
use Rattle.zp_conn.proofs.Coming.{read_end}
use Rattle.zp_conn.proofs.inbox.Inbox.read.Goals as goal

pub returns-in-End-clause-comes : goal.returns-in-End-clause-comes
returns-in-End-clause-comes g c =
    subst (λ (s : InboxState). ReadsFrom (End s.count) c.args.self.now c.args.self.now (g.S.Source.given c.args.source.now) (g.S.Source.given c.read.new.self) (g.S.Source.left c.args.source.now) (g.S.Source.left c.read.new.self)) (sym c.self.view_is)
    (read_end c.args.self.now _ _ _ _ (c.in-End.ensures.bytes.1))
