use Rattle.std.proofs.Common.{◌≡◌, take}
use Rattle.std.specs.List.{flat_map}
use Rattle.zk_jute.specs.Sending.{whole_part}
use Rattle.zk_wire.specs.Putting.{put_all}
use Rattle.zk_wire.proofs.request_fields.put_parts.Given as goal

abbrev pub invariant-loop-part : goal.invariant-loop-part
invariant-loop-part g l = l.sink ≡ put_all g.S.FieldSink.put l.fn.sink (flat_map whole_part (take l.part-index l.parts))
