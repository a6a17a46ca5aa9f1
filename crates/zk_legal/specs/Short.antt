-- What an update shows is short: each path has at most 1,024 bytes, and the reply to a multi at most `max_parts` results.
use Rattle.std.specs.Prelude.{◌≤◌, ⊤, List, length}
use Rattle.std.specs.List.{AllByRecursion}
use Rattle.zk_model.specs.Limits.{max_parts, max_path}
use Rattle.zk_model.specs.Watches.{trigger_path}
use Rattle.zk_model.specs.declared.node.Trigger.{Trigger}
use Rattle.zk_model.specs.declared.reply.Body.{Body}
use Rattle.zk_model.specs.declared.reply.Body.TheVariants as body
use Rattle.zk_model.specs.declared.reply.PartResult.{PartResult}
use Rattle.zk_model.specs.declared.reply.PartResult.TheVariants as result

abbrev pub AreShort : List Trigger → Type 0
AreShort gs = AllByRecursion (λ g. length (trigger_path g) ≤ max_path) gs

abbrev pub IsShortResult : PartResult → Type 0
IsShortResult (result.Created p) = length p ≤ max_path
IsShortResult _ = ⊤

-- the body of the reply to a create, create2, delete, setData or multi that was carried out is short
abbrev pub IsShortBody : Body → Type 0
IsShortBody (body.Path p) = length p ≤ max_path
IsShortBody (body.PathStat p stat) = length p ≤ max_path
IsShortBody (body.Parts results) = AllByRecursion IsShortResult results × (length results ≤ max_parts)
IsShortBody (body.Stat stat) = ⊤
IsShortBody body.Empty = ⊤
IsShortBody _ = ⊥
