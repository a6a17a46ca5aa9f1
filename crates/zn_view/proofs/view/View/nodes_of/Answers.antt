use Rattle.std.proofs.Common.{◌∙◌, ap, ℤ, w64, option_copied, nat_abs}
use Rattle.std.proofs.lemmas.Int.{to_z-of_z}
use Rattle.zn_layout.specs.Keys.{SessionKey, key_bytes}
use Rattle.zn_view.proofs.KeyKinds.{layout-found}
use Rattle.zn_view.proofs.view.View.nodes_of.Goals as goal

pub nodes_in-requires : goal.nodes_in-requires
nodes_in-requires c =
    let key = c.as_slice.ensures ∙ c.in_ok-key.ensures ∙ ap (λ (id : ℤ). key_bytes (SessionKey (nat_abs id))) (to_z-of_z w64 _ c.ranges.session) in
    layout-found (SessionKey (nat_abs c.args.session)) _ (option_copied c.found_there.result) key c.found_there.ensures.kept
