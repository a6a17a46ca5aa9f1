-- How a frame is taken up: what needs no tree is answered at once, and anything else is looked up.
use Rattle.std.specs.Prelude.{ℕ, ℤ, ◌+◌, ◌⊎◌, Bool, true, false, List, [], ◌∷◌, Option, Some, None}
use Rattle.std.specs.Map.{lookup}
use Rattle.zk_jute.specs.Packets.{reply_packet}
use Rattle.zk_jute.specs.Requests.{Frame, Asks, read_request}
use Rattle.zk_service.specs.Answers.{Told, plain_reply, xid_of, is_auth_refusal}
use Rattle.zk_service.specs.declared.cause.Cause.{Cause}
use Rattle.zk_service.specs.declared.cause.Cause.TheVariants as cause
use Rattle.zk_model.specs.declared.request.Request.{Request}
use Rattle.zx_base.specs.Maps.{Bytes, same}
use Rattle.zn_view.specs.Deciding.{IsTested}
use Rattle.zn_view.specs.Needs.{AreNeeds}
use Rattle.zn_view.specs.Seen.{View, empty_view}
use Rattle.zn_view.specs.Views.{IsDecision}
use Rattle.zn_view.specs.declared.plan.Decision.TheVariants.{Planned}
use Rattle.zn_view.specs.declared.plan.Plan.{Plan}
use Rattle.zp_step.specs.Kept.{used_first}
use Rattle.zn_view.specs.Keeping.{update_path}
use Rattle.zp_step.specs.declared.action.Action.{Action}
use Rattle.zp_step.specs.declared.action.Action.TheVariants as action
use Rattle.zp_step.specs.Looking.{IsBacked, Looks, PassesOver, decided}
use Rattle.zp_step.specs.Replies.{Is, close_after, stage_after}
use Rattle.zp_step.specs.Stages.{Core, counted_up}

-- the connection is closed after it has refused an `auth`
abbrev pub end_of_plain : Bool → Option Cause
end_of_plain true = Some cause.AuthRefused
end_of_plain false = None

-- A reply that needs no tree repeats the zxid up to which the client has been told. A removeWatches takes watches away; no other
-- such request changes what is armed.
abbrev pub plainly : Core → ℤ → Told → Core × List Action
plainly c xid t =
    let ends = end_of_plain (is_auth_refusal t.reply) in
    (record c { stage = stage_after ends; watches = t.watches; next = counted_up (c.next + 1) }, action.Send (reply_packet xid c.zxid t.reply) ∷ close_after ends)

-- ---- an update that is planned on a kept view

-- nothing is lacking in the view that is kept of the update's path, and the decision on it is a plan: the view was used last, and
-- the plan is asked
pub record PlansAtOnce (c : Core) (xid : ℤ) (r : Request) (now : ℕ) (c' : Core) (out : List Action) (q : Bytes) (v : View) : Type 0 where
  pub plan : Plan
  pub whole : AreNeeds r c.who v []
  pub tested : IsTested r c.who v (Planned plan)
  pub right : IsDecision r c.who v (Planned plan)
  pub backed : IsBacked r c.who now v (Planned plan)
  pub is : Is (decided (record c { views = used_first q v c.views }) xid r v now (Planned plan)) c' out

abbrev pub LooksAnew : Core → ℤ → Request → ℕ → Core → List Action → Type 0
LooksAnew c xid r now c' out = Looks c xid r empty_view now c' out

abbrev pub LooksOn : Core → ℤ → Request → ℕ → Core → List Action → Bytes → Option View → Type 0
LooksOn c xid r now c' out q None = LooksAnew c xid r now c' out
LooksOn c xid r now c' out q (Some v) = PlansAtOnce c xid r now c' out q v ⊎ (PassesOver r c.who v × LooksAnew c xid r now c' out)

-- an update looks at the view that is kept of its path first; any other request looks everything up
abbrev pub LooksFirst : Core → ℤ → Request → ℕ → Core → List Action → Option Bytes → Type 0
LooksFirst c xid r now c' out None = LooksAnew c xid r now c' out
LooksFirst c xid r now c' out (Some q) = LooksOn c xid r now c' out q (lookup (same q) c.views)

-- ---- any frame

-- a frame without a header never waits (see `Comes`), so the last case does not arise
abbrev pub TakesReadable : Core → ℕ → Core → List Action → Frame → Option Told → Type 0
TakesReadable c now c' out x (Some t) = Is (plainly c (xid_of x) t) c' out
TakesReadable c now c' out (Asks xid r) None = LooksFirst c xid r now c' out (update_path r)
TakesReadable c now c' out _ None = ⊥

abbrev pub TakesFrame : Core → List ℕ → ℕ → Core → List Action → Type 0
TakesFrame c bytes now c' out = let x = read_request bytes in TakesReadable c now c' out x (plain_reply c.watches x)
