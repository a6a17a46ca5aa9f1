-- The answers to the requests that read one node, by the tree and the watches that are armed.
use Rattle.std.specs.Prelude.{Bool, Option}
use Rattle.std.specs.FinMap.{get}
use Rattle.zk_model.specs.declared.reply.Body.TheVariants as body
use Rattle.zk_model.specs.Watches.{Watches}
use Rattle.zk_model.specs.Znodes.{Tree, child_names, stat_of}
use Rattle.zk_service.specs.Answers.{Told, about, armed_children, armed_data, listing}
use Rattle.zx_base.specs.Maps.{Bytes}

-- to an exists, which arms its data watch also where there is no node
abbrev pub told_of_exists : Tree → Watches → Bytes → Bool → Option Told
told_of_exists t w p watch = about (armed_data watch p w) (armed_data watch p w) (get t p) (λ n. body.Stat (stat_of t p n))

-- to a getData, which arms its data watch where there is a node
abbrev pub told_of_data : Tree → Watches → Bytes → Bool → Option Told
told_of_data t w p watch = about (armed_data watch p w) w (get t p) (λ n. body.Content n.content (stat_of t p n))

-- to a getChildren, which arms its child watch where there is a node
abbrev pub told_of_children : Tree → Watches → Bytes → Bool → Option Told
told_of_children t w p watch = listing (armed_children watch p w) w (get t p) (λ n. body.Names (child_names t p))

-- to a getChildren2: that to a getChildren, with the node's Stat
abbrev pub told_of_children2 : Tree → Watches → Bytes → Bool → Option Told
told_of_children2 t w p watch = listing (armed_children watch p w) w (get t p) (λ n. body.NamesStat (child_names t p) (stat_of t p n))
