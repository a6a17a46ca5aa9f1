-- Single requests, and what is answered by their form.
use Rattle.std.specs.Prelude.{Bool, true, false, Option, Some, None}
use Rattle.zk_model.specs.declared.reply.Reply.{Reply}
use Rattle.zk_model.specs.declared.request.Request.{Request}
use Rattle.zk_model.specs.declared.request.Request.TheVariants as req
use Rattle.zk_model.specs.Watches.{no_watches}
use Rattle.zk_service.specs.Answers.{Told, told}

-- every request but a multi and a closeSession
abbrev pub is_single : Request → Bool
is_single (req.Multi parts) = false
is_single req.Close = false
is_single _ = true

-- a reply with no notice, which arms nothing
abbrev pub told_by : Option Reply → Option Told
told_by None = None
told_by (Some r) = told no_watches r
