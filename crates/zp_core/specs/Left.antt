-- Requests that name all that they look up: no answer adds to it.
use Rattle.std.specs.Prelude.{Bool, true, false}
use Rattle.zk_model.specs.declared.request.Request.{Request}
use Rattle.zk_model.specs.declared.request.Request.TheVariants as req

abbrev pub is_set_watches : Request → Bool
is_set_watches (req.SetWatches since exists datas children) = true
is_set_watches _ = false
