use Rattle.std.proofs.Common.{◌∙◌, Some, sym, ap, subst, w32, rules, drop, ℤ}
use Rattle.std.proofs.lemmas.Int.{to_z-of_z}
use mir.Val.{SFits}
use Rattle.zx_base.specs.Maps.{Bytes}
use Rattle.zn_layout.specs.Reading.{IsValueOf, node_record}
use Rattle.zn_layout.specs.Records.{node_value, IsNodeRec}
use Rattle.zn_reads.proofs.Stats.{version-read}
use Rattle.zn_reads.proofs.stat.version_of.Goals as goal

pub returns : goal.returns
returns c = λ n of_data.
    let numbers = c.in_ok-node_numbers.field-0 in
    let version : SFits w32 c.in_ok-node_numbers.field-0.version = search rules in
    let content = drop 37 c.args.own.now.value in
    let data_read : IsValueOf node_value IsNodeRec c.args.own.now.value (node_record numbers content) =
    subst (λ (v : Bytes). IsValueOf node_value IsNodeRec v (node_record numbers (drop 37 v))) c.as_slice.ensures (c.in_ok-node_numbers.ensures) in
    ap (λ (x : ℤ). Some x) (version-read c.args.own.now n (node_record numbers content) of_data data_read ∙ sym (to_z-of_z w32 _ version))
