use Rattle.std.proofs.Common.{◌≡◌, take}
use Rattle.std.specs.List.{flat_map}
use Rattle.zk_jute.specs.Results.{result_values}
use Rattle.zk_wire.specs.Putting.{put_all}
use Rattle.zk_wire.proofs.reply_fields.put_results.Given as goal

abbrev pub invariant-loop-outcome : goal.invariant-loop-outcome
invariant-loop-outcome g l = l.sink ≡ put_all g.S.FieldSink.put l.fn.sink (flat_map result_values (take l.outcome-index l.results))
