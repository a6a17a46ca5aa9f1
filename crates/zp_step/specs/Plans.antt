-- What follows the answer to a round of a request, and to the transaction of a plan.
use Rattle.std.specs.Prelude.{ℕ, ℤ, Bool, true, false, List, Option, Some, None}
use Rattle.ev_types.specs.declared.answer.ActAns.{ActAns}
use Rattle.ev_types.specs.declared.answer.Answer.{Answer}
use Rattle.zk_model.specs.declared.request.Request.{Request}
use Rattle.zk_model.specs.declared.request.Request.TheVariants as req
use Rattle.zk_service.specs.declared.cause.Cause.{Cause}
use Rattle.zk_service.specs.declared.cause.Cause.TheVariants as cause
use Rattle.zn_view.specs.Adding.{at_revision}
use Rattle.zn_view.specs.Asks.{with_parts}
use Rattle.zn_view.specs.Needs.{finished}
use Rattle.zn_view.specs.Seen.{View}
use Rattle.zn_view.specs.declared.plan.Plan.{Plan}
use Rattle.zn_view.specs.declared.want.Want.{Want}
use Rattle.zs_session.specs.Answering.{OfTxn, viewed}
use Rattle.zs_session.specs.Connecting.{number_shown}
use Rattle.zp_step.specs.declared.action.Action.{Action}
use Rattle.zp_step.specs.Kept.{Leaves}
use Rattle.zp_step.specs.Looking.{IfRecords, Looks}
use Rattle.zp_step.specs.Replies.{Is, waits}
use Rattle.zp_step.specs.Stages.{Core, Pending, AddsWatch}

-- ---- a round: what was found is added to the view, and looked at

abbrev pub ReadOn : Core → ℤ → Request → View → List Want → ℕ → Core → List Action → Answer → Type 0
ReadOn c xid r v ws now c' out a = OfTxn a (λ revision succeeded parts.
    IfRecords c ws parts c' out (Looks c xid r (with_parts (at_revision v revision) ws parts) now c' out))

-- ---- a plan

-- after a closeSession the connection is closed
abbrev pub end_after : Request → Option Cause
end_after req.Close = Some cause.Closed
end_after _ = None

-- the update was made at this revision, which is its zxid; the last part shows its number
abbrev pub finishes : ℤ → Request → Plan → ℤ → List ActAns → Pending
finishes xid r p revision parts = record {
  number = number_shown parts;
  zxid = revision;
  xid = xid;
  answer = finished revision p.draft;
  change = AddsWatch None;
  ends = end_after r;
}

-- the update was made: what it leaves of the view is kept, and the reply is sent or waits
pub record WasMade (c : Core) (xid : ℤ) (r : Request) (v : View) (p : Plan) (c' : Core) (out : List Action) (revision : ℤ) (parts : List ActAns) : Type 0 where
  pub kept : Core
  pub leaves : Leaves c r v p revision parts kept
  pub is : Is (waits kept (finishes xid r p revision parts)) c' out

-- The guards held, and the update was made. Or one failed: what was read again is a new view, on which the request is looked up or
-- decided anew.
abbrev pub Committed : Core → ℤ → Request → View → Plan → ℕ → Core → List Action → ℤ → Bool → List ActAns → Type 0
Committed c xid r v p now c' out revision true parts = WasMade c xid r v p c' out revision parts
Committed c xid r v p now c' out revision false parts =
    IfRecords c p.again parts c' out (Looks c xid r (viewed revision p.again parts) now c' out)

abbrev pub CommitAnswered : Core → ℤ → Request → View → Plan → ℕ → Core → List Action → Answer → Type 0
CommitAnswered c xid r v p now c' out a = OfTxn a (λ revision succeeded parts. Committed c xid r v p now c' out revision succeeded parts)
