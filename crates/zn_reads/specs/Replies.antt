-- Replies to reads, by what was found.
use Rattle.std.specs.Prelude.{ℤ, Bool, true, false, Option, Some, None, List, if◌then◌else◌}
use Rattle.zk_model.specs.declared.node.Stat.{Stat}
use Rattle.zk_model.specs.declared.reply.Body.{Body}
use Rattle.zk_model.specs.declared.reply.Body.TheVariants as body
use Rattle.zk_model.specs.declared.reply.Reply.{Reply}
use Rattle.zk_model.specs.declared.reply.Reply.TheVariants as reply
use Rattle.zk_model.specs.Codes.{no_node, bad_version, system_error}
use Rattle.zk_model.specs.Single.{matches}
use Rattle.zk_service.specs.Answers.{fits_reply}
use Rattle.zx_base.specs.Maps.{Bytes}
use Rattle.zn_view.specs.declared.plan.Arm.{Arm}

abbrev pub exists_reply : Option Stat → Reply
exists_reply None = reply.Refused no_node
exists_reply (Some st) = reply.Good (body.Stat st)

abbrev pub data_reply : Bytes → Option Stat → Reply
data_reply content None = reply.Refused no_node
data_reply content (Some st) = reply.Good (body.Content content st)

abbrev pub acl_reply : Option Stat → Reply
acl_reply None = reply.Refused no_node
acl_reply (Some st) = reply.Good (body.OpenAcl st)

-- a reply whose frame would be longer than an int counts is refused
abbrev pub fitting : Body → Reply
fitting b = if fits_reply b then reply.Good b else reply.Refused system_error

abbrev pub names_reply : List Bytes → Bool → Reply
names_reply names is_there = if is_there then fitting (body.Names names) else reply.Refused no_node

abbrev pub names_stat_reply : List Bytes → Option Stat → Reply
names_stat_reply names None = reply.Refused no_node
names_stat_reply names (Some st) = fitting (body.NamesStat names st)

-- the reply to a check, by the version of the node's data
abbrev pub check_reply : ℤ → Option ℤ → Reply
check_reply asked None = reply.Refused no_node
check_reply asked (Some version) = if matches asked version then reply.Good body.Empty else reply.Refused bad_version

-- ---- what is armed

abbrev pub is_good : Reply → Bool
is_good (reply.Refused code) = false
is_good (reply.Good b) = true

-- a watch, where one is asked for
abbrev pub watch_if : Bool → Bool → Bytes → Option Arm
watch_if is_asked child p = if is_asked then Some (record { path = p; child = child }) else None
