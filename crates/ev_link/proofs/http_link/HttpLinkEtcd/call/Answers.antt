use Rattle.ev_link.proofs.Reading.{call_fits, fits_if_ok}
use Rattle.ev_link.proofs.http_link.HttpLinkEtcd.call.Goals as goal

pub returns-clause-numbers : goal.returns-clause-numbers
returns-clause-numbers g c = call_fits _ _ _ _ _ _ _ _ _ c.what_is_read_fits.ensures.answers c.ask-result.ensures.calls

pub returns-clause-fits : goal.returns-clause-fits
returns-clause-fits g c = fits_if_ok _ _ (call_fits _ _ _ _ _ _ _ _ _ c.what_is_read_fits.ensures.answers c.ask-result.ensures.calls)
