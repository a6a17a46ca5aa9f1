use Rattle.zk_least.proofs.AllowedMoments.{allowed-moment-law}
use Rattle.zk_least.proofs.laws.allowed_moments_are_bounded.Goals as goal

pub returns : goal.returns
returns c = allowed-moment-law
