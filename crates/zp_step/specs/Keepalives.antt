-- A session's lease is kept alive by its requests (ZooKeeper Programmer's Guide, "ZooKeeper Sessions"): if a third of the timeout
-- has passed since the lease was last asked for, a frame that is taken up asks for a keepalive first. If the lease then has no
-- seconds left, the session may be gone or moved, and the record of its life is looked at.
use Rattle.std.specs.Prelude.{ℕ, pos, List, [], ◌∷◌, Option, Some, None, MatchBool}
use Rattle.std.specs.Ordering.{int_eq}
use Rattle.ev_types.specs.declared.answer.Answer.{Answer}
use Rattle.ev_types.specs.declared.answer.Kv.{Kv}
use Rattle.ev_types.specs.declared.ask.Ask.TheVariants as ask
use Rattle.zk_jute.specs.Requests.{read_request}
use Rattle.zk_service.specs.Answers.{xid_of}
use Rattle.zn_view.specs.Lookups.{found_at}
use Rattle.zn_view.specs.Asks.{reading}
use Rattle.zn_view.specs.Seen.{View}
use Rattle.zs_session.specs.Alive.{is_alive_due}
use Rattle.zs_session.specs.Answering.{OfTxn, OfAlive, viewed}
use Rattle.zs_session.specs.Sessions.{attach_wants, life_key}
use Rattle.zp_step.specs.declared.action.Action.{Action}
use Rattle.zp_step.specs.declared.action.Action.TheVariants as action
use Rattle.zp_step.specs.Looking.{IfRecords, expired, moved}
use Rattle.zp_step.specs.Replies.{Is, waits}
use Rattle.zp_step.specs.Stages.{Core, KeepingAlive, Checking}
use Rattle.zp_step.specs.Taking.{TakesFrame}

abbrev pub keeps_alive : Core → List ℕ → ℕ → Core × List Action
keeps_alive c bytes now = (record c { stage = KeepingAlive bytes; kept = now }, action.Ask (ask.Alive c.who.session) ∷ [])

-- a frame is taken up, or a keepalive goes before it
abbrev pub TakesUp : Core → List ℕ → ℕ → Core → List Action → Type 0
TakesUp c bytes now c' out = MatchBool (is_alive_due c.kept now c.timeout) (Is (keeps_alive c bytes now) c' out) (TakesFrame c bytes now c' out)

-- ---- the answer to the keepalive

abbrev pub checks : Core → List ℕ → Core × List Action
checks c bytes = (record c { stage = Checking bytes }, action.Ask (reading (pos 0) (attach_wants c.who.session)) ∷ [])

abbrev pub KeptAlive : Core → List ℕ → ℕ → Core → List Action → Answer → Type 0
KeptAlive c bytes now c' out a = OfAlive a (λ seconds. MatchBool (int_eq seconds (pos 0)) (Is (checks c bytes) c' out) (TakesFrame c bytes now c' out))

-- ---- the look at the session

-- by the record of its life, which was looked up, since an answer that may be handed in has a part for it (see `IsFit`): it is gone,
-- still as this connection's attachment put it, or put by another attachment
abbrev pub StillMine : Core → List ℕ → View → ℕ → Core → List Action → Option Kv → Type 0
StillMine c bytes v now c' out None = Is (waits c (expired v (xid_of (read_request bytes)))) c' out
StillMine c bytes v now c' out (Some kv) =
    MatchBool (int_eq kv.mod_revision c.who.mine) (TakesFrame c bytes now c' out) (Is (waits c (moved c.who v kv.mod_revision (xid_of (read_request bytes)))) c' out)

abbrev pub Looked : Core → List ℕ → ℕ → Core → List Action → View → Type 0
Looked c bytes now c' out v = StillMine c bytes v now c' out (found_at v (life_key c.who.session))

abbrev pub Checked : Core → List ℕ → ℕ → Core → List Action → Answer → Type 0
Checked c bytes now c' out a = OfTxn a (λ revision succeeded parts.
    IfRecords c (attach_wants c.who.session) parts c' out (Looked c bytes now c' out (viewed revision (attach_wants c.who.session) parts)))
