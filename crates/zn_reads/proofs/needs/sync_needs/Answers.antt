use Rattle.std.proofs.Common.{◌≡◌, [], subst, rules}
use Rattle.std.specs.Prelude.{Option}
use Rattle.std.proofs.lemmas.Result.{IfOk-weaker}
use Rattle.zx_base.specs.Maps.{Bytes}
use Rattle.zn_layout.specs.ReadingSteps.{IsPathOf}
use Rattle.zn_reads.proofs.Needed.{keys-needed, no_path-key_needed}
use Rattle.zn_reads.proofs.needs.sync_needs.Goals as goal

pub returns-in-Some : goal.returns-in-Some
returns-in-Some c =
    let text = c.args.text.now in
    let v = c.args.view.now in
    let path = subst (λ (o : Option Bytes). IsPathOf text o) c.in-Some.is (c.in_ok-_path.ensures) in
    IfOk-weaker c.first_wants.result _ _ (λ ws is. keys-needed text c.in-Some._path [] c.args.who v ws.items path is) c.first_wants.ensures

pub returns-in-None : goal.returns-in-None
returns-in-None c =
    let text = c.args.text.now in
    let none : c.new.result.items ≡ [] = search rules in
    no_path-key_needed text [] c.args.who c.args.view.now c.new.result.items (subst (λ (o : Option Bytes). IsPathOf text o) c.in-None.is (c.in_ok-_path.ensures)) none
