-- What an ask does to a world's store, and what is shown of it.
use Rattle.std.specs.Prelude.{◌≡◌, ℤ, Option, Some, None, MatchBool}
use Rattle.std.specs.Ordering.{int_eq}
use Rattle.ev_types.specs.Denials.{carry}
use Rattle.ev_types.specs.Store.{Store}
use Rattle.ev_types.specs.declared.answer.Answer.{Answer}
use Rattle.ev_types.specs.declared.ask.Ask.{Ask}
use Rattle.zk_service.specs.declared.update.UpdateKind.{UpdateKind}
use Rattle.zp_script.specs.Carrying.{ShowsUpdate}
use Rattle.zp_script.specs.Worlds.{World, zxid_at}
use Rattle.zp_script.specs.declared.flight.Asking.{Asking}
use Rattle.zp_script.specs.declared.flight.Flight.{Flight}
use Rattle.zp_script.specs.declared.flight.Flight.TheVariants.{Out}

-- what is still to be carried out
abbrev pub asked_out : Option Flight → Option Asking
asked_out (Some (Out x)) = Some x
asked_out _ = None

-- the store carries an ask out, or denies it and stays
abbrev pub Asks : World → Ask → Option Answer → World → Type 0
Asks w q None w' = (carry w.store q ≡ None) × (w' ≡ w)
Asks w q (Some a) w' = (s : Store) × (carry w.store q ≡ Some (s, a)) × (w' ≡ record w { store = s })

-- the head's zxid was this before; where it is another now, there was an update, which is shown
abbrev pub Shows : World → ℤ → Option UpdateKind → World → Type 0
Shows w before kind w' = MatchBool (int_eq before (zxid_at w.store)) (w' ≡ w) (ShowsUpdate w w.store kind w')
