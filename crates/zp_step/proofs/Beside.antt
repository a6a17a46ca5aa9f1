-- What keeps views changes nothing else of a core.
use Rattle.std.proofs.Common.{◌≡◌, ℕ, ℤ, List, inl, inr}
use Rattle.std.specs.Prelude.{Option, Some, None, ◌⊎◌}
use Rattle.std.specs.Map.{lookup}
use Rattle.ev_types.specs.declared.answer.ActAns.{ActAns}
use Rattle.ev_types.specs.declared.answer.Kv.{Kv}
use Rattle.zk_model.specs.declared.request.Request.{Request}
use Rattle.zx_base.specs.Maps.{Bytes, same}
use Rattle.zn_view.specs.Keeping.{trimmed}
use Rattle.zn_view.specs.Seen.{View, empty_view}
use Rattle.zn_view.specs.declared.plan.Decision.TheVariants.{Planned}
use Rattle.zn_view.specs.declared.plan.Plan.{Plan}
use Rattle.zp_step.specs.Kept.{LeavesAt, LeavesBy, head_shown, left_core, put_first, used_first}
use Rattle.zp_step.specs.Looking.{Looks, decided}
use Rattle.zp_step.specs.Replies.{Is}
use Rattle.zp_step.specs.Stages.{Core, KeptViews}
use Rattle.zp_step.specs.Taking.{LooksFirst, LooksOn}
use Rattle.zp_step.specs.declared.action.Action.{Action}

-- ---- nothing else changes

-- the core is what it was but for its kept views
abbrev pub IsBeside : Core → Core → Type 0
IsBeside c d = (xs : KeptViews) × (d ≡ record c { views = xs })

left-beside : (c d : Core) (q : Bytes) (x : Option View) → d ≡ left_core c q x → IsBeside c d
left-beside c d q None h = (c.views, h)
left-beside c d q (Some x) h = (put_first q (trimmed x) c.views, h)

by-beside : (c d : Core) (q : Bytes) (v : View) (p : Plan) (z : ℤ) (o : Option Kv) → LeavesBy c q v p z o d → IsBeside c d
by-beside c d q v p z None h = (c.views, h)
by-beside c d q v p z (Some head) h = left-beside c d q h.0 h.2

pub leaves-beside : (c d : Core) (o : Option Bytes) (v : View) (p : Plan) (z : ℤ) (parts : List ActAns) → LeavesAt c o v p z parts d → IsBeside c d
leaves-beside c d None v p z parts h = (c.views, h)
leaves-beside c d (Some q) v p z parts h = by-beside c d q v p z (head_shown parts) h

-- a plan is asked that was made on a kept view
pub record PlansBeside (c : Core) (xid : ℤ) (r : Request) (now : ℕ) (c' : Core) (out : List Action) : Type 0 where
  pub views : KeptViews
  pub view : View
  pub plan : Plan
  pub is : Is (decided (record c { views = views }) xid r view now (Planned plan)) c' out

pub first-or-anew : (c c' : Core) (xid : ℤ) (r : Request) (now : ℕ) (out : List Action) (o : Option Bytes) → LooksFirst c xid r now c' out o → PlansBeside c xid r now c' out ⊎ Looks c xid r empty_view now c' out
first-or-anew c c' xid r now out None h = inr h
first-or-anew c c' xid r now out (Some q) h = go (lookup (same q) c.views) h
  where
    go : (o : Option View) → LooksOn c xid r now c' out q o → PlansBeside c xid r now c' out ⊎ Looks c xid r empty_view now c' out
    go None f = inr f
    go (Some v) (inl f) = inl (record { views = used_first q v c.views; view = v; plan = f.plan; is = f.is })
    go (Some v) (inr f) = inr f.1
