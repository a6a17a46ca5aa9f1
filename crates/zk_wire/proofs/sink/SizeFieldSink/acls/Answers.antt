use Rattle.std.proofs.Common.{arith, ◌≡◌, take}
use Rattle.std.proofs.lemmas.Grind.{common_steps}
use Rattle.zk_jute.specs.JuteWriting.{acl_bytes}
use Rattle.zk_jute.proofs.Lengths.{length-vector_bytes}
use Rattle.zk_wire.proofs.sink.SizeFieldSink.acls.Goals as goal

pub returns : goal.returns
returns c =
    let all : take c.loop-entry.entry-index c.args.entries.now ≡ c.args.entries.now = grind (arith, common_steps) in
    rw (length-vector_bytes acl_bytes c.args.entries.now) (rw all at c.loop-entry.invariant)
