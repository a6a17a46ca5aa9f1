-- What a planned change makes of a tree.
use Rattle.std.specs.Prelude.{ℤ, Option, Some, None}
use Rattle.std.specs.FinMap.{get, insert}
use Rattle.zx_base.specs.Maps.{Bytes}
use Rattle.zk_model.specs.declared.node.Node.{Node}
use Rattle.zk_model.specs.Znodes.{Tree}
use Rattle.zk_model.specs.Single.{removed}
use Rattle.zk_machine.specs.declared.edit.Edit.{Edit}
use Rattle.zk_machine.specs.declared.edit.Edit.TheVariants.{Made, Written, Removed}

-- the tree with this count of creates and this pzxid at the parent q; unchanged, where the parent is not there
abbrev pub counted_create : Tree → Bytes → ℤ → ℤ → Option Node → Tree
counted_create t q creates zxid None = t
counted_create t q creates zxid (Some up) = insert t q (record up { pzxid = zxid; creates = creates })

abbrev pub edited : Tree → Edit → Tree
edited t (Made q creates zxid p n) = insert (counted_create t q creates zxid (get t q)) p n
edited t (Written p n) = insert t p n
edited t (Removed p zxid) = removed t p zxid

abbrev pub edited_if : Tree → Option Edit → Tree
edited_if t None = t
edited_if t (Some e) = edited t e
