-- The first number is the czxid.
use Rattle.std.proofs.Common.{◌≡◌, ◌∙◌, ◌-◌, ℕ, false, drop, take, length, sym, ap, rules, arith}
use Rattle.std.specs.Prelude.{nat_lt, Some, None, if◌then◌else◌}
use Rattle.std.proofs.lemmas.Bool.Decides.{nat_tests}
use Rattle.std.proofs.lemmas.Int.{to_z-of_z}
use Rattle.std.proofs.lemmas.List.{length-drop}
use Rattle.std.proofs.Math.Seq.{take-length}
use Rattle.zk_jute.specs.JuteReading.{front_long}
use Rattle.zn_layout.proofs.Numbers.{long_back}
use Rattle.zn_layout.proofs.test.node_czxid.Goals as goal

pub returns : goal.returns
returns c =
    let split = c.split_long-czxid.ensures in
    let value = c.args.value.now in
    let long : nat_lt (length value) 9 ≡ false = grind (arith, nat_tests) in
    let rest : take (length value - 1) (drop 1 value) ≡ drop 1 value = ap (λ (n : ℕ). take n (drop 1 value)) (sym (length-drop 1 value)) ∙ take-length (drop 1 value) in
    let read : front_long (drop 1 value) ≡ c.split_long-czxid.result.0 = ap front_long (sym rest ∙ split.parts) ∙ long_back c.split_long-czxid.result.0 c.split_long-czxid.result.1.now split.fits in
    ap Some (to_z-of_z _ _ split.fits ∙ sym read) ∙ sym (ap (λ b. if b then None else Some (front_long (drop 1 value))) long)
