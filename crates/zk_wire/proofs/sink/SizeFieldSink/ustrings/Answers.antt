use Rattle.std.proofs.Common.{arith, ◌≡◌, take}
use Rattle.std.proofs.lemmas.Grind.{common_steps}
use Rattle.zk_jute.specs.JuteWriting.{string_bytes}
use Rattle.zk_jute.proofs.Lengths.{length-vector_bytes}
use Rattle.zk_wire.proofs.sink.SizeFieldSink.ustrings.Goals as goal

pub returns : goal.returns
returns c =
    let all : take c.loop-text.text-index c.args.texts.now ≡ c.args.texts.now = grind (arith, common_steps) in
    rw (length-vector_bytes string_bytes c.args.texts.now) (rw all at c.loop-text.invariant)
