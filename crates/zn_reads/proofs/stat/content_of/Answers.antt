use Rattle.std.proofs.Common.{subst}
use Rattle.zx_base.specs.Maps.{Bytes}
use Rattle.zn_layout.specs.Reading.{IsValueOf}
use Rattle.zn_layout.specs.Records.{node_value, IsNodeRec}
use Rattle.zn_reads.proofs.Stats.{content-read}
use Rattle.zn_reads.proofs.stat.content_of.Goals as goal

pub returns-in-Ok : goal.returns-in-Ok
returns-in-Ok c = λ n of_data. content-read c.args.own.now n c.in-Ok.record of_data (subst (λ (v : Bytes). IsValueOf node_value IsNodeRec v c.in-Ok.record) c.as_slice-2.ensures (c.in-Ok.ensures))
