use Rattle.std.proofs.Common.{◌≡◌, ◌∙◌, [], ◌∷◌, ◌++◌, ap, subst, rules}
use Rattle.std.specs.Prelude.{Option, map}
use Rattle.std.proofs.lemmas.Result.{IfOk-weaker}
use Rattle.zx_base.specs.Maps.{Bytes}
use Rattle.zn_layout.specs.Keys.{DataKey, key_bytes}
use Rattle.zn_layout.specs.ReadingSteps.{IsPathOf}
use Rattle.zn_view.specs.Lacking.{lacking}
use Rattle.zn_reads.specs.Wanting.{first_keys}
use Rattle.zn_reads.proofs.Needed.{keys-needed, no_path-key_needed}
use Rattle.zn_reads.proofs.needs.check_needs.Goals as goal

pub returns-in-Some : goal.returns-in-Some
returns-in-Some c =
    let text = c.args.text.now in
    let v = c.args.view.now in
    let path = subst (λ (o : Option Bytes). IsPathOf text o) c.in-Some.is (c.in_ok-path.ensures) in
    IfOk-weaker c.data_wants.result _ _ (λ ws is. keys-needed text c.in-Some.path (DataKey text ∷ []) c.args.who v ws.items path (is ∙ ap (λ (p : Bytes). lacking v (map key_bytes (first_keys c.args.who ++ DataKey p ∷ []))) path.0)) c.data_wants.ensures

pub returns-in-None : goal.returns-in-None
returns-in-None c =
    let text = c.args.text.now in
    let none : c.new.result.items ≡ [] = search rules in
    no_path-key_needed text (DataKey text ∷ []) c.args.who c.args.view.now c.new.result.items (subst (λ (o : Option Bytes). IsPathOf text o) c.in-None.is (c.in_ok-path.ensures)) none
