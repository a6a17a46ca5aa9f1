use Rattle.std.proofs.Common.{◌∙◌}
use Rattle.zk_service.proofs.ReplySizes.{fits-names_stat}
use Rattle.zk_service.proofs.fits.names_and_stat_fit.Goals as goal

pub returns : goal.returns
returns c = c.fit.ensures ∙ fits-names_stat c.args.names.now c.args.stat.now
