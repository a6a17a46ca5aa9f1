use Rattle.zp_served.proofs.Begun.{grantable}
use Rattle.zp_served.proofs.link.BegunLink.new.Goals as goal

pub call-requires : goal.call-requires
call-requires c = grantable c.in_ok-begin_ask.field-0 c.in_ok-begin_ask.ensures
