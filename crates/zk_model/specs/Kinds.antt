-- Kinds of requests.
use Rattle.std.specs.Prelude.{Bool, true, false}
use Rattle.zk_model.specs.declared.request.Request.{Request}
use Rattle.zk_model.specs.declared.request.Request.TheVariants as req

-- whether a request is a create, with or without Stat, a delete or a setData
abbrev pub is_update : Request → Bool
is_update (req.Create p d a f) = true
is_update (req.Create2 p d a f) = true
is_update (req.Delete p v) = true
is_update (req.SetData p d v) = true
is_update _ = false
