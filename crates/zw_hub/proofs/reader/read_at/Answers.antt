use Rattle.zw_hub.proofs.Growing.{extends-same, sees}
use Rattle.zw_hub.proofs.reader.read_at.Goals as goal

pub enter_as-requires : goal.enter_as-requires
enter_as-requires c x = sees _ _ x x (extends-same x)
