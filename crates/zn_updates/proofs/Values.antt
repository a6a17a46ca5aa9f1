-- A node's value ends in its content.
use Rattle.std.proofs.Common.{◌≡◌, [], ◌∷◌, ◌++◌, length, append-nil, ap, arith}
use Rattle.zx_base.specs.Maps.{Bytes}
use Rattle.zk_jute.specs.JuteWriting.{int_bytes, long_bytes}
use Rattle.zn_layout.specs.declared.record.NodeRec.{NodeRec}
use Rattle.zn_layout.specs.Records.{node_value}
use Rattle.zn_updates.specs.Choices.{with_content}

append_none : (xs ys zs : Bytes) → length ys ≡ 0 → (xs ++ ys) ++ zs ≡ xs ++ zs
append_none xs [] zs h = ap (λ (l : Bytes). l ++ zs) (append-nil xs)
append_none xs (y ∷ ys) zs h = absurd (omega arith)

pub node_value-content : (r : NodeRec) (content : Bytes) → length r.content ≡ 0 → node_value r ++ content ≡ node_value (with_content r content)
unfolding node_value
node_value-content r content h = ap (λ (l : Bytes). 1 ∷ l) (append_none (long_bytes r.czxid ++ int_bytes r.version ++ long_bytes r.ctime ++ long_bytes r.mtime ++ long_bytes r.owner) r.content content h)
