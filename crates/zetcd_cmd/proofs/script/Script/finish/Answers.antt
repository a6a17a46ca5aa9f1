use Rattle.std.proofs.Common.{arith, ◌≡◌, ◌<◌, [], length, List, ℕ, refl, subst}
use Rattle.std.proofs.lemmas.Grind.{common_steps}
use Rattle.std.proofs.lemmas.Result.{on_ok_weaker, IfErr-weaker}
use Rattle.zetcd_cmd.specs.declared.script.Stop.{Stop}
use Rattle.zetcd_cmd.specs.Scripting.{Plays, ScriptHalts}
use Rattle.zetcd_cmd.proofs.Appending.{Appends-same, Halts-appends}
use Rattle.zetcd_cmd.proofs.Progress.{IsApplied-whole, IsApplied-line, Ends-last}
use Rattle.zetcd_cmd.proofs.script.Script.finish.Goals as goal

pub returns-then-is_empty-clause-ok : goal.returns-then-is_empty-clause-ok
returns-then-is_empty-clause-ok c =
    let none : c.args.self.now.pending.items ≡ [] = grind (arith, common_steps) in
    λ seen st. IsApplied-whole seen _ none st

pub returns-clause-ok : goal.returns-clause-ok
returns-clause-ok c =
    let some : 0 < length c.args.self.now.pending.items = grind (arith, common_steps) in
    let is = c.as_slice.ensures.value in
    on_ok_weaker c.apply_line.result
    (λ (plays : Plays c.as_slice.result.now c.args.self.now.world c.apply_line.new.world) seen st.
    IsApplied-line seen c.args.self.now _ some (subst (λ (line : List ℕ). Plays line c.args.self.now.world c.apply_line.new.world) is plays) st)
    c.apply_line.ensures.ok

pub returns-clause-err : goal.returns-clause-err
returns-clause-err c =
    let some : 0 < length c.args.self.now.pending.items = grind (arith, common_steps) in
    let is = c.as_slice.ensures.value in
    IfErr-weaker c.apply_line.result (λ (why : Stop). ScriptHalts c.as_slice.result.now c.args.self.now.world why c.apply_line.new.world) _
    (λ why halts seen st.
    Ends-last seen c.args.self.now _ why some (subst (λ (line : List ℕ). ScriptHalts line c.args.self.now.world why c.apply_line.new.world) is halts) refl st)
    c.apply_line.ensures.err

pub returns-then-is_empty-clause-grown : goal.returns-then-is_empty-clause-grown
returns-then-is_empty-clause-grown c = Appends-same c.args.self.now.world c.args.self.now.world refl

pub returns-clause-grown : goal.returns-clause-grown
returns-clause-grown c =
    on_ok_weaker c.apply_line.result (λ (plays : Plays c.as_slice.result.now c.args.self.now.world c.apply_line.new.world). plays.0) c.apply_line.ensures.ok

pub returns-clause-kept : goal.returns-clause-kept
returns-clause-kept c =
    IfErr-weaker c.apply_line.result (λ (why : Stop). ScriptHalts c.as_slice.result.now c.args.self.now.world why c.apply_line.new.world) _
    (λ why halts known. Halts-appends c.as_slice.result.now c.args.self.now.world why c.apply_line.new.world halts known)
    c.apply_line.ensures.err
