use Rattle.std.proofs.Common.{◌≡◌, ◌≤◌, ◌∙◌, ℤ, true, ◌++◌, length, map, ap, subst, w64, rules, arith}
use Rattle.std.specs.Prelude.{nat_lt}
use Rattle.std.proofs.lemmas.Bool.Decides.{nat_tests}
use Rattle.std.proofs.lemmas.Int.{to_z-of_z}
use Rattle.std.proofs.lemmas.Result.{IfOk-weaker}
use mir.Val.{SFits}
use Rattle.zk_model.specs.Limits.{max_parts}
use Rattle.zn_layout.specs.Keys.{key_bytes}
use Rattle.zn_view.specs.Lacking.{lacking}
use Rattle.zn_updates.specs.KeysRead.{start_keys}
use Rattle.zn_multi.specs.Reading.{AreRead}
use Rattle.zn_multi.proofs.Needs.{many_needs, multi_needs}
use Rattle.zn_multi.proofs.wanting.needs_multi.Goals as goal

pub returns-then-parts-gt-MAX_PARTS : goal.returns-then-parts-gt-MAX_PARTS
returns-then-parts-gt-MAX_PARTS c =
    let many : nat_lt max_parts (length c.args.parts.now) ≡ true = grind (arith, nat_tests) in
    many_needs c.args.parts.now c.args.who c.args.view.now c.new.result many c.new.ensures

pub returns : goal.returns
returns c =
    let few : length c.args.parts.now ≤ max_parts = omega arith in
    let fits : SFits w64 c.args.who.session = search rules in
    let session = to_z-of_z w64 _ fits in
    let h = c.in_ok-keys_read.ensures in
    let read : AreRead c.args.who.session c.args.view.now c.args.parts.now h.0 = subst (λ (i : ℤ). AreRead i c.args.view.now c.args.parts.now h.0) session h.1 in
    let keys = h.2 ∙ ap (λ (i : ℤ). map key_bytes (start_keys i ++ h.0)) session in
    IfOk-weaker c.lacking.result _ _ (λ ws is. multi_needs c.args.parts.now c.args.who c.args.view.now h.0 read ws few (is ∙ ap (lacking c.args.view.now) keys)) c.lacking.ensures
