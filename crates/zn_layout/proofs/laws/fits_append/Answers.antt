use Rattle.zn_layout.proofs.Fits.{fits_append}
use Rattle.zn_layout.proofs.laws.fits_append.Goals as goal

pub returns : goal.returns
returns c = fits_append
