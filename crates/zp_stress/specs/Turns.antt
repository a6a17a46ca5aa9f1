-- What is left of a step after it was tried to carry out its connection's ask.
use Rattle.std.specs.Prelude.{Option, Some}
use Rattle.zt_text.specs.declared.script.Why.{Why}
use Rattle.zt_text.specs.declared.script.Why.TheVariants as why
use Rattle.zp_stress.specs.declared.schedule.Turn.{Turn}
use Rattle.zp_stress.specs.declared.schedule.Turn.TheVariants.{Over, Deliver, GoOn}

-- by the first test that fails: it was carried out before, or there is none; otherwise it was carried out, or the connection is closed
abbrev pub turn_of : Option Why → Turn
turn_of (Some why.AlreadyCarriedOut) = Deliver
turn_of (Some why.NoRequestOut) = GoOn
turn_of _ = Over
