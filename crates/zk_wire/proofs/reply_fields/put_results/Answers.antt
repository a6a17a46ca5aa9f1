use Rattle.zk_jute.specs.Results.{result_values, last_result}
use Rattle.zk_jute.proofs.Lists.{item_can}
use Rattle.zk_wire.proofs.reply_fields.put_results.Goals as goal

pub put_result-requires : goal.put_result-requires
put_result-requires g c = rw c.outcome-item.is (item_can g.S.FieldSink.can_put result_values c.args.results.now last_result c.requires c.loop-outcome.outcome-index _ c.loop-outcome-test.true)
