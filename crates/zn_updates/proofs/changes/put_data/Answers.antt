-- The content comes after the other fields.
use Rattle.std.proofs.Common.{◌≡◌, ◌≤◌, pos, ◌++◌, length, sym, ap, ◌∙◌, subst}
use Rattle.ev_types.specs.declared.ask.Act.TheVariants.{Put}
use Rattle.zk_model.specs.Limits.{max_path}
use Rattle.zn_layout.proofs.Paths.{path_short}
use Rattle.zn_layout.specs.Keys.{DataKey, key_bytes}
use Rattle.zn_layout.specs.Records.{node_value}
use Rattle.zx_base.specs.Maps.{Bytes}
use Rattle.zn_updates.specs.Choices.{with_content}
use Rattle.zn_updates.proofs.Values.{node_value-content}
use Rattle.zn_updates.proofs.changes.put_data.Goals as goal

pub data_key-requires : goal.data_key-requires
data_key-requires c = subst (λ (p : Bytes). length p ≤ max_path) (sym c.bytes.ensures) (path_short c.args.path.now c.requires.valid)

pub returns : goal.returns
returns c =
    let key : c.in_ok-data_key.field-0 ≡ key_bytes (DataKey c.args.path.now) = c.in_ok-data_key.ensures ∙ ap (λ (p : Bytes). key_bytes (DataKey p)) c.bytes.ensures in
    let value : c.extend_from_slice.new.self.items ≡ node_value (with_content c.args.node.now c.args.content.now) =
    c.in_ok-extend_from_slice.ensures.items ∙ ap (λ (l : Bytes). l ++ c.args.content.now) c.in_ok-value.ensures ∙ node_value-content c.args.node.now c.args.content.now c.requires.empty in
    c.put.ensures ∙ (λ i. Put (key i) (value i) (pos 0))
