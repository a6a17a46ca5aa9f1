use Rattle.zw_hub.proofs.Growing.{admits}
use Rattle.zw_hub.proofs.opening.readers_of.Goals as goal

pub reader-requires : goal.reader-requires
reader-requires c = admits
