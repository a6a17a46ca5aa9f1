use Rattle.std.proofs.Common.{refl, ◌∙◌}
use Rattle.zp_server.proofs.Texts.{closed_is}
use Rattle.zp_server.proofs.lines.closed.Goals as goal

pub returns : goal.returns
returns c = closed_is _ _ _ _ _ _ _ c.in_ok-text.ensures.items c.in_ok-push_number.ensures.ok (c.as_slice.ensures.value ∙ c.in_ok-line.ensures) refl c.in_ok-extend_from_slice.ensures.items
