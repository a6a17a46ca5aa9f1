use Rattle.std.proofs.Common.{◌≡◌, rules}
use Rattle.std.specs.Prelude.{option_to_list}
use Rattle.zk_transcript.specs.Walks.{after_update}
use Rattle.zk_least.specs.LeastWalk.{zxid_in}
use Rattle.zk_judge.specs.Seen.{walker_of}
use Rattle.zk_judge.proofs.Tries.{open-moments}
use Rattle.zk_judge.proofs.walks.open_moments.Goals as goal

pub returns-clause-tries : goal.returns-clause-tries
returns-clause-tries c =
    let update : c.after_update-update.result ≡ after_update (zxid_in c.args.reply.now) c.args.index.now.lines.now = search rules in
    open-moments c.args.index.now.lines.now c.args.party.session (walker_of c.args.walker.now) c.args.place c.args.reply.now c.later_of.result c.after_update-update.result c.later_of-first.result (option_to_list c.second_moment.result)
    update c.later_of.ensures c.later_of-first.ensures c.second_moment.ensures.tries
