-- The views that a connection keeps of the paths that it used. An update is planned on one at once, and need not read first.
use Rattle.std.specs.Prelude.{◌≡◌, List, ◌∷◌, take, Option, Some, None, ℤ}
use Rattle.std.specs.Map.{lookup, remove_entry}
use Rattle.ev_types.specs.declared.answer.ActAns.{ActAns}
use Rattle.ev_types.specs.declared.answer.Kv.{Kv}
use Rattle.zk_model.specs.declared.request.Request.{Request}
use Rattle.zk_model.specs.declared.request.Request.TheVariants as req
use Rattle.zx_base.specs.Maps.{Bytes, same}
use Rattle.zn_view.specs.Keeping.{IsAfter, trimmed, update_path}
use Rattle.zn_layout.specs.Keys.{HeadKey, key_bytes}
use Rattle.zn_view.specs.Asks.{kept_under, last_part}
use Rattle.zn_view.specs.Seen.{View}
use Rattle.zn_view.specs.declared.plan.Plan.{Plan}
use Rattle.zp_step.specs.Stages.{Core, KeptViews}

-- ---- which requests

-- the path under which a request's view is kept; a sync, a sequential create, and a request without a path of its own keep none
abbrev pub view_path : Request → Option Bytes
view_path (req.Exists p w) = Some p
view_path (req.GetData p w) = Some p
view_path (req.GetAcl p) = Some p
view_path (req.GetChildren p w) = Some p
view_path (req.GetChildren2 p w) = Some p
view_path (req.Check p v) = Some p
view_path r = update_path r

-- ---- the list of kept views

-- the view that is kept of a path
abbrev pub kept_of : Option Bytes → KeptViews → Option View
kept_of None xs = None
kept_of (Some p) xs = lookup (same p) xs

-- of 16 views before it the last goes
abbrev pub others_kept : Bytes → KeptViews → KeptViews
others_kept p xs = take 15 (remove_entry (same p) xs)

-- the view that was kept of the path goes; a new one comes first
abbrev pub put_first : Bytes → Option View → KeptViews → KeptViews
put_first p None xs = remove_entry (same p) xs
put_first p (Some v) xs = (p, v) ∷ others_kept p xs

abbrev pub kept_with : Option Bytes → View → KeptViews → KeptViews
kept_with None v xs = xs
kept_with (Some p) v xs = put_first p (trimmed v) xs

-- the pair comes first that is kept of a path
abbrev pub used_first : Bytes → View → KeptViews → KeptViews
used_first p v xs = (p, v) ∷ remove_entry (same p) xs

-- ---- what a connection keeps

-- a view that lacked nothing is kept under its request's path
abbrev pub keeps : Core → Request → View → Core
keeps c r v = record c { views = kept_with (view_path r) v c.views }

-- the head that a plan's last operation reads
abbrev pub head_shown : List ActAns → Option Kv
head_shown parts = kept_under (key_bytes HeadKey) (last_part parts)

abbrev pub left_core : Core → Bytes → Option View → Core
left_core c q None = c
left_core c q (Some x) = record c { views = put_first q (trimmed x) c.views }

-- what an update leaves of its view is kept
abbrev pub LeavesBy : Core → Bytes → View → Plan → ℤ → Option Kv → Core → Type 0
LeavesBy c q v p z None d = d ≡ c
LeavesBy c q v p z (Some head) d = (x : Option View) × IsAfter v p.guards p.success z head x × (d ≡ left_core c q x)

abbrev pub LeavesAt : Core → Option Bytes → View → Plan → ℤ → List ActAns → Core → Type 0
LeavesAt c None v p z parts d = d ≡ c
LeavesAt c (Some q) v p z parts d = LeavesBy c q v p z (head_shown parts) d

-- after an update: the plan was made on this view, and carried out at this revision
abbrev pub Leaves : Core → Request → View → Plan → ℤ → List ActAns → Core → Type 0
Leaves c r v p z parts d = LeavesAt c (update_path r) v p z parts d
