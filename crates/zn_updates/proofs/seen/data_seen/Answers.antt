-- The numbers of the record that was found, within its bounds.
use Rattle.std.proofs.Common.{◌≤◌, ℤ, pos, length, rules, sym, subst, w32, w64}
use Rattle.std.specs.Prelude.{◌≤ℤ◌}
use Rattle.std.proofs.lemmas.Int.{to_z-of_z}
use mir.Val.{SFits}
use Rattle.zk_model.specs.Limits.{max_path, max_version}
use Rattle.zn_layout.proofs.Paths.{path_short}
use Rattle.zn_layout.specs.Records.{IsLongCount}
use Rattle.zx_base.specs.Maps.{Bytes}
use Rattle.zn_updates.proofs.seen.data_seen.Goals as goal

pub node_at-requires-clause-short : goal.node_at-requires-clause-short
node_at-requires-clause-short c = subst (λ (p : Bytes). length p ≤ max_path) (sym c.bytes.ensures) (path_short c.args.path.now c.requires.valid)

pub returns-clause-within : goal.returns-clause-within
returns-clause-within c =
    let found = rw c.in-Some.is at c.in_ok-node.ensures in
    let within = found.1.0 in
    let czxid : SFits w64 c.resolved.result = search rules in
    let stored : SFits w64 c.in-Some.node.czxid = search rules in
    let version : SFits w32 c.in-Some.node.version = search rules in
    let ctime : SFits w64 c.in-Some.node.ctime = search rules in
    let owner : SFits w64 c.in-Some.node.owner = search rules in
    record {
      czxid = subst IsLongCount (sym (to_z-of_z w64 _ czxid)) (c.resolved.ensures.within (subst IsLongCount (sym (to_z-of_z w64 _ stored)) within.czxid));
      version_least = subst (λ (v : ℤ). pos 0 ≤ℤ v) (sym (to_z-of_z w32 _ version)) within.version_least;
      version_most = subst (λ (v : ℤ). v ≤ℤ max_version) (sym (to_z-of_z w32 _ version)) within.version_most;
      ctime = subst IsLongCount (sym (to_z-of_z w64 _ ctime)) within.ctime;
      owner = subst IsLongCount (sym (to_z-of_z w64 _ owner)) within.owner;
    }
