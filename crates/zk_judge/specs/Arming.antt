-- What an answer of the tree leaves armed, apart from what it says.
use Rattle.std.specs.Prelude.{Bool, true, false, ◌&&◌}
use Rattle.zk_model.specs.declared.reply.Reply.{Reply}
use Rattle.zk_model.specs.declared.reply.Reply.TheVariants as reply
use Rattle.zk_model.specs.declared.request.Request.{Request}
use Rattle.zk_model.specs.declared.request.Request.TheVariants as req
use Rattle.zk_model.specs.Watches.{Watches}
use Rattle.zk_service.specs.Answers.{Told, armed_children, armed_data}

-- the reply is no refusal
abbrev pub is_good : Reply → Bool
is_good (reply.Refused code) = false
is_good (reply.Good b) = true

abbrev pub is_set_watches : Request → Bool
is_set_watches (req.SetWatches since exists datas children) = true
is_set_watches _ = false

-- what is armed after a read that asks for a watch: an exists arms its path also where there is no node, and any other read only
-- where its reply is good. No other request arms anything but a setWatches
abbrev pub armed_by : Request → Bool → Watches → Watches
armed_by (req.Exists p watch) good w = armed_data watch p w
armed_by (req.GetData p watch) good w = armed_data (good && watch) p w
armed_by (req.GetChildren p watch) good w = armed_children (good && watch) p w
armed_by (req.GetChildren2 p watch) good w = armed_children (good && watch) p w
armed_by _ good w = w

-- what the tree tells where nothing is armed, with these watches armed before
abbrev pub with_armed : Request → Watches → Told → Told
with_armed r w t = record { reply = t.reply; notices = t.notices; watches = armed_by r (is_good t.reply) w }
