-- Creates, by whose turn it is and what is asked for.
use Rattle.std.specs.Prelude.{pos, Option, if◌then◌else◌}
use Rattle.zx_base.specs.Maps.{Bytes}
use Rattle.zk_model.specs.declared.node.Node.{Node}
use Rattle.zk_model.specs.Single.{Outcome, create_node, create_under, is_ephemeral}
use Rattle.zk_model.specs.Znodes.{Tree, new_node}
use Rattle.zk_machine.specs.declared.create.Wish.{Wish}
use Rattle.zk_machine.specs.declared.turn.Turn.{Turn}

-- the node that is made
abbrev pub wished_node : Turn → Wish → Node
wished_node turn wish = new_node wish.content.now (if is_ephemeral wish.flags then turn.session else pos 0) turn.zxid turn.time

-- what comes of a create below this parent, where this is at its path
abbrev pub create_node_by : Tree → Turn → Wish → Bytes → Node → Bytes → Option Node → Outcome
create_node_by t turn wish q up p there = create_node t turn.limit turn.session wish.flags wish.content.now turn.zxid turn.time q up p there

-- what comes of a create where this is at the path of the parent
abbrev pub create_under_by : Tree → Turn → Wish → Bytes → Option Node → Outcome
create_under_by t turn wish q above = create_under t turn.limit turn.session wish.flags wish.content.now turn.zxid turn.time wish.text.now q above
