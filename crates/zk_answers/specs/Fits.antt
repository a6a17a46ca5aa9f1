-- When the numbers that the answer to a request is made of are within their fields.
use Rattle.std.specs.Prelude.{◌≤◌, ℕ, ℤ, length}
use Rattle.zk_model.specs.declared.request.Request.{Request}
use Rattle.zk_model.specs.declared.request.Request.TheVariants as req
use Rattle.zk_model.specs.Znodes.{Tree}
use Rattle.zk_machine.specs.Faults.{IsWithin, StaysWithin}
use Rattle.zk_model.specs.Limits.{max_frame}

-- the numbers of the tree are within their fields, and so are those of each tree on which a part of a multi is done; the data of a
-- setData, and of each part, fit a frame
abbrev pub FitsRequest : Tree → ℕ → ℤ → Request → ℤ → ℕ → Type 0
FitsRequest t limit session (req.SetData path content version) zxid now = IsWithin t × (length content ≤ max_frame)
FitsRequest t limit session (req.Multi parts) zxid now = IsWithin t × StaysWithin t limit session parts zxid now
FitsRequest t limit session _ zxid now = IsWithin t
