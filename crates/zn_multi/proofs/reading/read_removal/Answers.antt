use Rattle.std.proofs.Common.{◌≡◌, ◌∙◌, ℤ, ◌++◌, List, refl, ap, subst, w32, w64, rules}
use Rattle.std.specs.Prelude.{map}
use Rattle.std.proofs.lemmas.Int.{to_z-of_z}
use mir.Val.{SFits}
use Rattle.zk_model.specs.Paths.{parent}
use Rattle.zx_base.specs.Maps.{Bytes}
use Rattle.zn_layout.specs.Keys.{key_bytes}
use Rattle.zn_view.specs.Views.{about_path, counts_of_parent}
use Rattle.zn_updates.specs.KeysRead.{owner_nodes}
use Rattle.zn_view.specs.Leaving.{DeleteLeaves}
use Rattle.zn_multi.specs.Reading.{delete_reads, IfLeft}
use Rattle.zn_multi.proofs.ReadKeys.{keys_after}
use Rattle.zn_multi.proofs.reading.read_removal.Goals as goal

pub returns : goal.returns
returns c =
    let p : Bytes = c.args.path in
    let owner : ℤ = c.in_ok-owner_seen.field-0 in
    let fits : SFits w64 owner = search rules in
    let version_fits : SFits w32 c.args.version = search rules in
    let node : c.push_node.new.keys ≡ map key_bytes (about_path p) = c.in_ok-push_node.ensures ∙ ap (λ (l : List Bytes). l ++ map key_bytes (about_path p)) c.new-keys.ensures in
    let above = keys_after _ (about_path p) (counts_of_parent (parent p)) _ node c.in_ok-push_counts_above.ensures in
    let more : c.push_owner.new.keys ≡ c.push_counts_above.new.keys ++ map key_bytes (owner_nodes owner) =
    subst (λ (o : ℤ). c.push_owner.new.keys ≡ c.push_counts_above.new.keys ++ map key_bytes (owner_nodes o)) (to_z-of_z w64 _ fits) c.in_ok-push_owner.ensures in
    (delete_reads p owner, keys_after _ (about_path p ++ counts_of_parent (parent p)) (owner_nodes owner) _ above more, record { owner = owner; owner_is = c.in_ok-owner_seen.ensures.is; keys = refl; next_is = subst (λ (x : ℤ). IfLeft c.args.left (λ changes n. DeleteLeaves c.args.view.now changes p x n) c.in_ok-left.left) (to_z-of_z w32 _ version_fits) c.in_ok-left.ensures })
