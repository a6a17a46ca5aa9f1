use Rattle.std.proofs.Common.{◌∙◌}
use Rattle.zk_service.proofs.ReplySizes.{fits-names}
use Rattle.zk_service.proofs.fits.names_fit.Goals as goal

pub returns : goal.returns
returns c = c.fit.ensures ∙ fits-names c.args.names.now
