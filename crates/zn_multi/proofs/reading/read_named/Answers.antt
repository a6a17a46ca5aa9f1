use Rattle.std.proofs.Common.{◌≡◌, ◌≤◌, ◌<◌, ◌∙◌, ℤ, ◌++◌, List, length, ap, subst, w64, rules, arith}
use Rattle.std.specs.Prelude.{IfSome, IsTrue, Option, Some, None, map}
use Rattle.std.proofs.lemmas.Int.{to_z-of_z}
use mir.Val.{SFits}
use Rattle.zk_model.specs.Limits.{max_path}
use Rattle.zk_model.specs.Paths.{is_path, parent}
use Rattle.zx_base.specs.Maps.{Bytes}
use Rattle.zn_layout.specs.declared.record.CountRec.{CountRec}
use Rattle.zn_layout.specs.Keys.{key_bytes}
use Rattle.zn_layout.proofs.Paths.{path_short}
use Rattle.zn_view.specs.Leaving.{node_path}
use Rattle.zn_view.specs.Views.{about_parent}
use Rattle.zn_updates.specs.KeysRead.{plain_data, session_nodes}
use Rattle.zn_multi.specs.Reading.{create_reads, sequence_data, AreCountsAbove, IsCreateLeft}
use Rattle.zn_multi.proofs.ReadKeys.{keys_after}
use Rattle.zn_multi.proofs.reading.read_named.Goals as goal

shorter : (o : Option Bytes) (p : Bytes) → IfSome o (λ q. length q < length p) → length p ≤ max_path → IfSome o (λ q. length q ≤ max_path)
shorter None p h short = tt
shorter (Some q) p h short = omega (arith, h, short)

pub push_parent-requires : goal.push_parent-requires
push_parent-requires c =
    let valid : IsTrue (is_path c.args.named) = search rules in
    shorter _ c.args.named c.in_ok-parent.ensures.shorter (path_short c.args.named valid)

pub push_data-requires : goal.push_data-requires
push_data-requires c =
    let valid : IsTrue (is_path c.args.named) = search rules in
    λ f. subst (λ (p : Bytes). length p ≤ max_path) (c.requires.named f) (path_short c.args.named valid)

pub returns : goal.returns
returns c =
    let fits : SFits w64 c.args.by.now.session = search rules in
    let session = to_z-of_z w64 _ fits in
    let path : Bytes = c.args.path.now in
    let above : Option Bytes = c.in_ok-parent.parent in
    let up : above ≡ parent c.args.named = c.in_ok-parent.ensures.parent in
    let node : Option Bytes = c.in_ok-node.node in
    let first : c.push_parent.new.keys ≡ map key_bytes (about_parent above) = c.in_ok-push_parent.ensures ∙ ap (λ (l : List Bytes). l ++ map key_bytes (about_parent above)) c.new-keys.ensures in
    let second = keys_after _ (about_parent above) (plain_data c.args.sequential path) _ first c.in_ok-push_data.ensures in
    let own : c.push_session.new.keys ≡ c.push_data.new.keys ++ map key_bytes (session_nodes c.args.by.now.ephemeral c.args.by.now.session) =
    subst (λ (o : ℤ). c.push_session.new.keys ≡ c.push_data.new.keys ++ map key_bytes (session_nodes c.args.by.now.ephemeral o)) session c.in_ok-push_session.ensures in
    let third = keys_after _ (about_parent above ++ plain_data c.args.sequential path) (session_nodes c.args.by.now.ephemeral c.args.by.now.session) _ second own in
    let last = keys_after _ ((about_parent above ++ plain_data c.args.sequential path) ++ session_nodes c.args.by.now.ephemeral c.args.by.now.session) (sequence_data c.args.sequential node) _ third c.in_ok-push_sequence.ensures in
    let counts : Option (Option CountRec) = c.in_ok-counts.counts in
    let named_is : node ≡ node_path c.args.sequential path counts = c.in_ok-node.ensures in (
      create_reads c.args.by.now.session path c.args.sequential c.args.by.now.ephemeral above node,
      last,
      record {
        counts = counts;
        counts_are = subst (λ (o : Option Bytes). AreCountsAbove c.args.view.now c.args.left o counts) up c.in_ok-counts.ensures;
        keys = λ i. create_reads c.args.by.now.session path c.args.sequential c.args.by.now.ephemeral (up i) (named_is i);
        next_is = subst (λ (x : Option Bytes × Option Bytes). IsCreateLeft c.args.view.now c.args.left c.args.by.now.ephemeral c.args.by.now.session x.0 counts x.1 c.in_ok-left.left) (λ i. (up i, named_is i)) c.in_ok-left.ensures;
      },
    )
