use Rattle.zk_jute.specs.Records.{stat_values}
use Rattle.zk_wire.proofs.Puts.{put_all_written}
use Rattle.zk_wire.proofs.writer.WriterFieldSink.stat.Goals as goal

pub returns : goal.returns
returns c = rw (put_all_written c.args.self.now (stat_values c.args.stat.now), ← c.stat_bytes.ensures) c.bytes.ensures
