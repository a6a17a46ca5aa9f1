-- What a request carries fits a frame.
use Rattle.std.proofs.Common.{sym, subst}
use Rattle.zn_multi.specs.Carrying.{AreShort}
use Rattle.zp_core.proofs.Contents.{content_fits, parts_fit}
use Rattle.zp_core.proofs.decisions.decide.Goals as goal

pub decide_multi-requires-clause-short : goal.decide_multi-requires-clause-short
decide_multi-requires-clause-short c = subst AreShort (sym c.as_slice.ensures) (parts_fit c.args.request.now c.in-Multi.parts c.in-Multi.is c.requires.request)

pub decide-requires-clause-short : goal.decide-requires-clause-short
decide-requires-clause-short c = content_fits c.args.request.now c.requires.request
