use Rattle.zp_laws.proofs.Growing.{look-push, stands-push}
use Rattle.zp_laws.proofs.laws.standing_lasts.Goals as goal

pub returns-clause-standing : goal.returns-clause-standing
returns-clause-standing c = stands-push

pub returns-clause-fresh : goal.returns-clause-fresh
returns-clause-fresh c = λ store lines more conn answered d w looked s fresh. look-push store lines more conn answered d w looked s fresh
