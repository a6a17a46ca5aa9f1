use Rattle.zn_layout.proofs.Fits.{fits_same}
use Rattle.zn_layout.proofs.laws.fits_same.Goals as goal

pub returns : goal.returns
returns c = fits_same
