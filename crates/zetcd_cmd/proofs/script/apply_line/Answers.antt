use Rattle.std.proofs.Common.{◌≡◌, ◌∙◌, Some, sym}
use Rattle.zt_text.specs.Scripts.{happening_read}
use Rattle.zetcd_cmd.proofs.Appending.{happens-appends}
use Rattle.zetcd_cmd.proofs.Offers.{read-offers}
use Rattle.zetcd_cmd.proofs.Reaching.{reached-on}
use Rattle.zetcd_cmd.proofs.script.apply_line.Goals as goal

pub apply-requires : goal.apply-requires
apply-requires c =
    let is : happening_read c.args.line.now ≡ Some c.in-Ok-Some.happening = sym c.in-Ok-Some.ensures ∙ c.in-Ok-Some.field-0-is in
    (read-offers c.args.line.now c.in-Ok-Some.happening is).1

pub returns-in-Ok-clause-ok : goal.returns-in-Ok-clause-ok
returns-in-Ok-clause-ok c = (
  happens-appends c.args.world.now c.apply.new.self c.in-Ok-Some.happening c.in-Ok.ensures.applies,
  λ happenings r. (let is : happening_read c.args.line.now ≡ Some c.in-Ok-Some.happening = sym c.in-Ok-Some.ensures ∙ c.in-Ok-Some.field-0-is in (
    c.in-Ok-Some.happening,
    is,
    reached-on happenings c.args.world.now c.apply.new.self c.in-Ok-Some.happening (read-offers c.args.line.now c.in-Ok-Some.happening is).0 c.in-Ok.ensures.applies (record { frames = c.in-Ok.ensures.within }) r,
  )),
)
