-- What was read of the two values is the node's.
use Rattle.std.proofs.Common.{◌≡◌, ◌∙◌, ◌≤◌, Some, sym, ap, subst, to_z, of_z, ℤ, option_copied, w64, rules, length, drop}
use Rattle.std.proofs.lemmas.Int.{to_z-of_z}
use mir.Val.{SFits}
use Rattle.zx_base.specs.Maps.{Bytes}
use Rattle.zk_model.specs.declared.node.Stat.{Stat}
use Rattle.zn_layout.specs.Reading.{IsValueOf, node_record}
use Rattle.zn_layout.specs.Records.{node_value, IsNodeRec}
use Rattle.zn_reads.specs.Found.{stat_by, AreCountsBy}
use Rattle.zn_reads.proofs.Stats.{counts-found, counts-within, stat_found-is, value-long}
use Rattle.zn_reads.proofs.stat.stat_of_records.Goals as goal

pub node_content-content-requires : goal.node_content-content-requires
node_content-content-requires c =
    let long = value-long c.as_slice.result.now c.in_ok-numbers.numbers (c.in_ok-numbers.ensures) in
    subst (λ (v : Bytes). 37 ≤ length v) (c.as_slice.ensures ∙ sym c.as_slice-2.ensures) long

pub returns-in_err-counted : goal.returns-in_err-counted
returns-in_err-counted c = λ n k b of_data means. absurd (counts-found (option_copied c.args.counts) n k b means (c.in_err-counted.ensures))

pub stat_by-requires-clause-counts : goal.stat_by-requires-clause-counts
stat_by-requires-clause-counts c = counts-within c.in_ok-numbers.numbers (to_z w64 (of_z w64 c.args.own.now.mod_revision)) c.in_ok-counted.changed (option_copied c.args.counts) c.in_ok-counted.counted (c.in_ok-counted.ensures)

pub returns : goal.returns
returns c = λ n k b of_data means.
    let own : SFits w64 c.args.own.now.mod_revision = search rules in
    let changed : SFits w64 c.in_ok-counted.changed = search rules in
    let content = drop 37 c.args.own.now.value in
    let numbers = c.in_ok-numbers.numbers in
    let counts = option_copied c.args.counts in
    let data_read : IsValueOf node_value IsNodeRec c.args.own.now.value (node_record numbers content) =
    subst (λ (v : Bytes). IsValueOf node_value IsNodeRec v (node_record numbers (drop 37 v))) c.as_slice.ensures (c.in_ok-numbers.ensures) in
    let by : AreCountsBy numbers c.args.own.now.mod_revision counts c.in_ok-counted.counted c.in_ok-counted.changed =
    subst (λ (revision : ℤ). AreCountsBy numbers revision counts c.in_ok-counted.counted c.in_ok-counted.changed) (to_z-of_z w64 _ own) (c.in_ok-counted.ensures) in
    let content_is : c.node_content-content.result.now ≡ content = c.node_content-content.ensures ∙ ap (λ (v : Bytes). drop 37 v) c.as_slice-2.ensures in
    let is : c.stat_by.result ≡ stat_by numbers (length content) c.args.own.now.mod_revision c.in_ok-counted.counted c.in_ok-counted.changed =
    c.stat_by.ensures ∙ (λ i. stat_by numbers (length (content_is i)) (to_z-of_z w64 _ own i) c.in_ok-counted.counted (to_z-of_z w64 _ changed i)) in
    ap (λ (x : Stat). Some x) (sym (is ∙ stat_found-is c.args.own.now counts numbers content c.in_ok-counted.counted c.in_ok-counted.changed n k b data_read by of_data means))
