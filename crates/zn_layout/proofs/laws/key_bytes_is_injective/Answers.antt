use Rattle.zn_layout.proofs.Keys.{key_bytes-injective}
use Rattle.zn_layout.proofs.laws.key_bytes_is_injective.Goals as goal

pub returns : goal.returns
returns c = key_bytes-injective
