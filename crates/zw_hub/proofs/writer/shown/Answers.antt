use Rattle.std.proofs.Common.{drop}
use Rattle.zw_hub.proofs.Growing.{shows}
use Rattle.zw_hub.proofs.writer.shown.Goals as goal

pub publish_as-writer-requires : goal.publish_as-writer-requires
publish_as-writer-requires g c next is =
    let writer = c.args.writer in
    shows writer.desk.place.id writer.desk.place.me.0.client writer.desk.shown.value next (drop writer.behind writer.log.items) is
