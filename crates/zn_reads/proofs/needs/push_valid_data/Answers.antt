use Rattle.std.proofs.Common.{◌≡◌, ◌∙◌, ◌++◌, List, ap, subst, sym}
use Rattle.std.specs.Prelude.{Option, map, OnOk}
use Rattle.std.proofs.lemmas.List.{append-nil}
use Rattle.zx_base.specs.Maps.{Bytes}
use Rattle.zn_layout.specs.Keys.{DataKey, key_bytes}
use Rattle.zn_layout.specs.ReadingSteps.{IsPathOf}
use Rattle.zn_reads.proofs.WatchKeys.{path-valid, no_path-valid}
use Rattle.zn_reads.proofs.needs.push_valid_data.Goals as goal

pub returns-in-Some : goal.returns-in-Some
returns-in-Some c =
    let path = subst (λ (o : Option Bytes). IsPathOf c.args.text.now o) c.in-Some.is (c.in_ok-path.ensures) in
    subst (λ (l : List Bytes). OnOk c.push_data.result (c.push_data.new.keys.items ≡ c.args.keys.now.items ++ map key_bytes (map DataKey l))) (sym (path-valid c.args.text.now c.in-Some.path path)) c.push_data.ensures

pub returns-in-None : goal.returns-in-None
returns-in-None c =
    let none = no_path-valid c.args.text.now (subst (λ (o : Option Bytes). IsPathOf c.args.text.now o) c.in-None.is (c.in_ok-path.ensures)) in
    sym (append-nil c.args.keys.now.items) ∙ ap (λ (l : List Bytes). c.args.keys.now.items ++ map key_bytes (map DataKey l)) (sym none)
