-- How an update is told to a client (ZooKeeper Programmer's Guide, "ZooKeeper Watches"): it fires what is armed, and then a reply
-- that waited for it is sent. An entry comes only where it is awaited (see `IsNextEntry`).
use Rattle.std.specs.Prelude.{List, ◌++◌}
use Rattle.zk_model.specs.Watches.{fire_all}
use Rattle.zn_layout.specs.declared.entry.Entry.{Entry}
use Rattle.zp_step.specs.declared.action.Action.{Action}
use Rattle.zp_step.specs.Replies.{send_notices, waits}
use Rattle.zp_step.specs.Stages.{Core, Stage, Waiting}

abbrev pub entered : Core → Entry → Core × List Action
entered c e =
    let f = fire_all c.watches e.triggers in
    (record c { zxid = e.zxid; cursor = e.number; watches = f.0 }, send_notices f.1)

-- the same core, with these actions first
abbrev pub with_first : List Action → Core × List Action → Core × List Action
with_first first x = (x.0, first ++ x.1)

-- a reply that waits in this stage is sent if it is due now
abbrev pub then_reply : Core × List Action → Stage → Core × List Action
then_reply x (Waiting p) = with_first x.1 (waits x.0 p)
then_reply x _ = x

abbrev pub told_entry : Core → Entry → Core × List Action
told_entry c e = then_reply (entered c e) c.stage
