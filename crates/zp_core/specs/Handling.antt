-- What follows an input, once the code knows which case of the definition it is in.
use Rattle.std.specs.Prelude.{ℕ, ℤ, Bool, [], List, MatchBool}
use Rattle.std.specs.Ordering.{int_eq}
use Rattle.ev_types.specs.declared.answer.ActAns.{ActAns}
use Rattle.ev_types.specs.declared.answer.Answer.{Answer}
use Rattle.zk_jute.specs.Requests.{read_request}
use Rattle.zk_model.specs.declared.request.Request.{Request}
use Rattle.zk_service.specs.Answers.{has_header, xid_of}
use Rattle.zk_service.specs.declared.cause.Cause.TheVariants as cause
use Rattle.zn_view.specs.Seen.{View}
use Rattle.zn_view.specs.declared.plan.Decision.TheVariants.{Planned}
use Rattle.zn_view.specs.declared.plan.Plan.{Plan}
use Rattle.zs_session.specs.Answering.{viewed}
use Rattle.zs_session.specs.Sessions.{attach_wants}
use Rattle.zx_base.specs.Maps.{Bytes}
use Rattle.zp_step.specs.declared.action.Action.{Action}
use Rattle.zp_step.specs.Keepalives.{Looked}
use Rattle.zp_step.specs.Kept.{used_first}
use Rattle.zp_step.specs.Looking.{IfRecords, decided, moved}
use Rattle.zp_step.specs.Plans.{CommitAnswered, Committed, WasMade}
use Rattle.zp_step.specs.Replies.{Is, closed_by, waits}
use Rattle.zp_step.specs.Stages.{Core}
use Rattle.zp_step.specs.Steps.{queued}
use Rattle.zp_step.specs.Taking.{TakesFrame}
use Rattle.zp_core.specs.declared.client.Client.{Client}
use Rattle.zp_core.specs.declared.moves.Move.{Move}
use Rattle.zp_core.specs.declared.stage.Commit.{Commit}
use Rattle.zp_core.specs.declared.stage.Stage.{Stage}
use Rattle.zp_core.specs.Meanings.{Leads, core_of, stage_of}

-- ---- frames

-- a frame after the first one waits, unless it has no header: then the connection is closed
abbrev pub ComesLater : Client → Stage → List ℕ → Client → Move → Type 0
ComesLater old s frame = Leads (λ c out. MatchBool (has_header (read_request frame)) (Is (queued (core_of old (stage_of s)) frame, []) c out)
    (Is (closed_by (core_of old (stage_of s)) (cause.NoHeader old.taken)) c out))

-- a frame is taken up where this connection's attachment put the record of the session's life, and is refused where another did
abbrev pub ByPut : Core → List ℕ → View → ℕ → Core → List Action → ℤ → Type 0
ByPut c bytes v now c' out found = MatchBool (int_eq found c.who.mine) (TakesFrame c bytes now c' out)
    (Is (waits c (moved c.who v found (xid_of (read_request bytes)))) c' out)

-- a look at the session shows these parts: by them the frame is taken up or refused, or a value among them is no record
abbrev pub ByLook : Core → List ℕ → ℕ → ℤ → List ActAns → Core → List Action → Type 0
ByLook c bytes now revision parts c' out =
    IfRecords c (attach_wants c.who.session) parts c' out (Looked c bytes now c' out (viewed revision (attach_wants c.who.session) parts))

-- ---- plans

-- the plan that was made on the view which is kept under this path is asked at once, and that view was used last
abbrev pub planned_at_once : Core → Bytes → ℤ → Request → View → ℕ → Plan → Core × List Action
planned_at_once c path xid r v now p = decided (record c { views = used_first path v c.views }) xid r v now (Planned p)

-- the update of a commit was made at this revision
abbrev pub CommitIsMade : Core → Commit → Core → List Action → ℤ → List ActAns → Type 0
CommitIsMade c m c' out revision parts = WasMade c m.task.value.xid m.task.value.request m.task.value.view m.plan c' out revision parts

-- the update of a commit was made, or a guard failed and its request goes on
abbrev pub CommitIsTried : Core → Commit → ℕ → Core → List Action → ℤ → Bool → List ActAns → Type 0
CommitIsTried c m now c' out revision succeeded parts =
    Committed c m.task.value.xid m.task.value.request m.task.value.view m.plan now c' out revision succeeded parts

-- the transaction of a commit has this answer
abbrev pub CommitIsAnswered : Core → Commit → ℕ → Core → List Action → Answer → Type 0
CommitIsAnswered c m now c' out a = CommitAnswered c m.task.value.xid m.task.value.request m.task.value.view m.plan now c' out a
