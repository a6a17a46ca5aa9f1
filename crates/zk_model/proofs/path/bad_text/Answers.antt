use Rattle.std.proofs.Common.{ap, ◌∙◌}
use Rattle.std.specs.Str.{chars}
use Rattle.zk_model.specs.PathFaults.{bad_char}
use Rattle.zk_model.proofs.PathDefects.{bad_text-utf8}
use Rattle.zk_model.proofs.path.bad_text.Goals as goal

pub returns-in-Ok : goal.returns-in-Ok
returns-in-Ok c = c.bad_char.ensures ∙ ap (λ x. bad_char 0 (chars x)) c.in-Ok.ensures.cases.0 ∙ bad_text-utf8 c.args.path.now c.in-Ok.ensures.cases.1
