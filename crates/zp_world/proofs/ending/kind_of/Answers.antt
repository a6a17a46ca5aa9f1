use Rattle.std.proofs.Common.{sym, ◌∙◌}
use Rattle.zp_world.proofs.Numbered.{numbered}
use Rattle.zp_world.proofs.ending.kind_of.Goals as goal

pub kind_is_formed-requires : goal.kind_is_formed-requires
kind_is_formed-requires c = numbered c.args.connection c.args.core.now c.in-Some.update c.update_asked-kind.ensures.held (sym c.update_asked-kind.ensures.asked ∙ c.in-Some.is)
