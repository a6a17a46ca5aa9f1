-- What the worker does for as long as it runs.
use Rattle.std.specs.Prelude.{◌≡◌, ℕ}
use Rattle.ev_link.specs.Reaching.{undialled_times}
use Rattle.zx_net.specs.Nets.{NetCounts}

-- It only dials: so many dials failed, and its net has counted nothing else. It listens nowhere, and accepts nobody.
pub record OnlyDials (old new : NetCounts) : Type 0 where
  pub failed : ℕ
  pub counted : new ≡ undialled_times failed old
