use Rattle.std.proofs.Common.{sym, ap, ◌∙◌, arith, rules}
use Rattle.std.specs.Prelude.{nat_le}
use Rattle.std.proofs.lemmas.List.Sorted.{IsPartitionPoint-from_clause, IsPartitionedBy-leb}
use Rattle.ev_store.specs.declared.versions.Version.{Version}
use Rattle.ev_store.specs.Versions.{last_state, is_up_to}
use Rattle.ev_store.proofs.Index.{filter-split}
use Rattle.ev_store.proofs.versions.shown_at.Goals as goal

pub returns : goal.returns
returns c =
    let r = c.args.revision in
    let vs = c.args.versions.now in
    let n = c.partition_point-count.result in
    let parted = IsPartitionedBy-leb (λ (v : Version). v.revision) vs r c.requires in
    let point = IsPartitionPoint-from_clause (λ (v : Version). nat_le v.revision r) vs n c.partition_point-count.ensures.partitioned parted (λ a b q k. search rules) in
    c.last.ensures ∙ ap (last_state c.args.key.now) (sym (filter-split (is_up_to r) n vs (λ k d lt within. point.0 k d (omega arith) lt) (λ k d le within. point.1 k d le within)))
