-- A tree with single nodes put and taken out, one after another.
use Rattle.std.specs.Prelude.{◌≡◌, ⊤, ℤ, List, [], ◌∷◌, Option, Some, None, option_map}
use Rattle.std.specs.FinMap.{get, insert, remove}
use Rattle.zx_base.specs.Maps.{Bytes}
use Rattle.zk_model.specs.declared.node.Node.{Node}
use Rattle.zk_model.specs.Znodes.{Tree}
use Rattle.zk_machine.specs.declared.write.Write.{Write}

abbrev pub put_or_taken : Tree → Bytes → Option Node → Tree
put_or_taken t p None = remove t p
put_or_taken t p (Some n) = insert t p n

abbrev pub written : Tree → Write → Tree
written t w = put_or_taken t w.path w.node

abbrev pub written_all : Tree → List Write → Tree
written_all t [] = t
written_all t (w ∷ ws) = written_all (written t w) ws

abbrev pub owner_at : Tree → Bytes → Option ℤ
owner_at t p = option_map (λ n. n.owner) (get t p)

-- each write says who owned the node that it found, if it found one
abbrev pub AreTold : Tree → List Write → Type 0
AreTold t [] = ⊤
AreTold t (w ∷ ws) = (w.before ≡ owner_at t w.path) × AreTold (written t w) ws
