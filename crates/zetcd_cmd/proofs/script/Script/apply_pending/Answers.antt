use Rattle.std.proofs.Common.{List, ℕ, subst}
use Rattle.zetcd_cmd.specs.Scripting.{Plays}
use Rattle.zetcd_cmd.proofs.script.Script.apply_pending.Goals as goal

pub returns-clause-ok : goal.returns-clause-ok
returns-clause-ok c = subst (λ (line : List ℕ). Plays line c.args.self.now.world c.apply_line.new.world) c.as_slice.ensures.value c.in_ok-apply_line.ensures.ok
