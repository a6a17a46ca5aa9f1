use Rattle.zp_world.proofs.Grantable.{begin-grantable}
use Rattle.zp_world.proofs.world.first_store.Goals as goal

pub carry_out-requires : goal.carry_out-requires
carry_out-requires c = begin-grantable c.in_ok-ask.ask c.in_ok-ask.ensures
