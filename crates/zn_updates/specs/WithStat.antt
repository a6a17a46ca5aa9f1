-- The decision on a create2: that on the create with the same fields, but that the reply of its plan has the new node's Stat too.
use Rattle.zk_model.specs.declared.node.Stat.{Stat}
use Rattle.zk_model.specs.declared.reply.Reply.{Reply}
use Rattle.zk_model.specs.declared.reply.Reply.TheVariants as reply
use Rattle.zk_service.specs.States.{body_with_stat}
use Rattle.zn_view.specs.declared.plan.Decision.{Decision}
use Rattle.zn_view.specs.declared.plan.Decision.TheVariants.{Answered, Planned, Expired, Moved}
use Rattle.zn_view.specs.declared.plan.Plan.{Plan}

abbrev pub reply_with_stat : Stat → Reply → Reply
reply_with_stat stat (reply.Good b) = reply.Good (body_with_stat stat b)
reply_with_stat stat (reply.Refused code) = reply.Refused code

abbrev pub plan_with_stat : Stat → Plan → Plan
plan_with_stat stat p = record p { draft = reply_with_stat stat p.draft }

abbrev pub with_stat : Stat → Decision → Decision
with_stat stat (Planned p) = Planned (plan_with_stat stat p)
with_stat stat (Answered answer arm) = Answered answer arm
with_stat stat Expired = Expired
with_stat stat (Moved found) = Moved found
