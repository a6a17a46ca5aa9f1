-- How a connection ends, and how a reply is sent: once the entries up to its number have been told, or at once where nothing is
-- armed (ZooKeeper Programmer's Guide, "What ZooKeeper Guarantees about Watches": a client sees the event of a watch before
-- it sees newer data).
use Rattle.std.specs.Prelude.{◌≡◌, ◌+◌, Bool, true, List, [], ◌∷◌, ◌++◌, map, Option, Some, None, if◌then◌else◌}
use Rattle.std.specs.Ordering.{int_eq}
use Rattle.zk_jute.specs.Packets.{reply_packet, notice_packet}
use Rattle.zk_model.specs.Watches.{is_unarmed}
use Rattle.zk_model.specs.declared.reply.Notice.{Notice}
use Rattle.zk_service.specs.declared.cause.Cause.{Cause}
use Rattle.zp_step.specs.declared.action.Action.{Action}
use Rattle.zp_step.specs.declared.action.Action.TheVariants as action
use Rattle.zp_step.specs.Stages.{Core, Pending, Stage, Ready, Waiting, Shut, seen_by, counted_up}

-- the next core and its actions are these
abbrev pub Is : Core × List Action → Core → List Action → Type 0
Is x c out = (c ≡ x.0) × (out ≡ x.1)

-- closed for a cause, and nothing is sent
abbrev pub closed_by : Core → Cause → Core × List Action
closed_by c why = (record c { stage = Shut }, action.Close why ∷ [])

abbrev pub send_notices : List Notice → List Action
send_notices ns = map (λ (n : Notice). action.Send (notice_packet n)) ns

-- the entries up to its number were taken, or nothing is armed that they could fire
abbrev pub is_due : Core → Pending → Bool
is_due c p = if is_unarmed c.watches then true else int_eq c.cursor p.number

abbrev pub stage_after : Option Cause → Stage
stage_after None = Ready
stage_after (Some why) = Shut

abbrev pub close_after : Option Cause → List Action
close_after None = []
close_after (Some why) = action.Close why ∷ []

-- the notices of a setWatches, and then the reply
abbrev pub replied : Core → Pending → Core × List Action
replied c p =
    let s = seen_by p.change c.watches in (
      record c { stage = stage_after p.ends; zxid = p.zxid; cursor = p.number; watches = s.watches; next = counted_up (c.next + 1) },
      send_notices s.notices ++ (action.Send (reply_packet p.xid p.zxid p.answer) ∷ close_after p.ends),
    )

-- a reply is sent if it is due; otherwise it waits
abbrev pub waits : Core → Pending → Core × List Action
waits c p = if is_due c p then replied c p else (record c { stage = Waiting p }, [])
