use Rattle.zk_jute.proofs.ReplyLaws.{content_then_stat, names_then_stat, acl_then_stat, path_then_stat}
use Rattle.zk_wire.proofs.replies.body.Goals as goal

pub returns-in_ok-stat-in-GetData : goal.returns-in_ok-stat-in-GetData
returns-in_ok-stat-in-GetData c =
    rw c.in-GetData.is (content_then_stat c.args.reader.now c.in_ok-content-in-GetData.content c.buffer.new.self c.in_ok-stat-in-GetData.field-0 c.stat-in-GetData.new.reader c.in_ok-content-in-GetData.ensures c.in_ok-stat-in-GetData.ensures)

pub returns-in_ok-stat-in-GetAcl : goal.returns-in_ok-stat-in-GetAcl
returns-in_ok-stat-in-GetAcl c =
    rw c.in-GetAcl.is (acl_then_stat c.args.reader.now c.open_acl.new.self c.in_ok-stat-in-GetAcl.field-0 c.stat-in-GetAcl.new.reader c.in_ok-open_acl-in-GetAcl.ensures c.in_ok-stat-in-GetAcl.ensures)

pub returns-in_ok-stat-in-GetChildren2 : goal.returns-in_ok-stat-in-GetChildren2
returns-in_ok-stat-in-GetChildren2 c =
    rw c.in-GetChildren2.is (names_then_stat c.args.reader.now c.in_ok-names-in-GetChildren2.names c.vector-in-GetChildren2.new.self c.in_ok-stat-in-GetChildren2.field-0 c.stat-in-GetChildren2.new.reader c.in_ok-names-in-GetChildren2.ensures c.in_ok-stat-in-GetChildren2.ensures)

pub returns-in_ok-stat-in-Create2 : goal.returns-in_ok-stat-in-Create2
returns-in_ok-stat-in-Create2 c =
    rw c.in-Create2.is (path_then_stat c.args.reader.now c.in_ok-path-in-Create2.path c.ustring-in-Create2.new.self c.in_ok-stat-in-Create2.field-0 c.stat-in-Create2.new.reader c.in_ok-path-in-Create2.ensures c.in_ok-stat-in-Create2.ensures)
