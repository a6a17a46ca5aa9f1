use Rattle.std.proofs.Common.{[], rules, sym}
use Rattle.ev_json.proofs.Spellings.{txn_spelled}
use Rattle.ev_json.proofs.straight.txn_answer.Goals as goal

pub returns : goal.returns
returns c =
    let h = txn_spelled c.args.txn.now c.args.body.now c.in_ok-_cluster.rest.now c.in_ok-_member.rest.now c.in_ok-revision.rest.now c.in_ok-_term.rest.now c.in_ok-rest.rest.now c.flag_if-succeeded.result.1.now c.in_ok-parts.rest.now []
    c.in_ok-_cluster._cluster.now c.in_ok-_member._member.now c.in_ok-revision.revision.now c.in_ok-_term._term.now c.flag_if-succeeded.result.0 c.in-Ok.succeeded c.from_vec.result c.in_ok-revision-2.revision
    c.in_ok-_cluster.ensures c.in_ok-_member.ensures c.in_ok-revision.ensures c.in_ok-_term.ensures c.in_ok-rest.ensures c.flag_if-succeeded.ensures (rw (c.from_vec.ensures, sym c.acts_of.ensures) c.in_ok-parts.ensures) (search rules)
    (search rules) (search rules) in
    search (rules, h)
