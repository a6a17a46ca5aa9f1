-- What the end of a session that has lapsed is decided by, and what its plan is worth.
use Rattle.std.specs.Prelude.{◌≡◌, ℤ, pos, nat_abs, ◌≤ℤ◌, ◌<ℤ◌, Bool, true, false, length, nat_le, Option, Some, None, is_some, Contains, MatchBool}
use Rattle.ev_types.specs.declared.answer.Kv.{Kv}
use Rattle.ev_types.specs.Ranges.{Keys}
use Rattle.ev_types.specs.Store.{acts_applied, last_revision}
use Rattle.zk_model.specs.declared.request.Request.TheVariants as req
use Rattle.zk_model.specs.Limits.{max_owned}
use Rattle.zk_service.specs.States.{State, Session, IsSound, session_at, session_ended}
use Rattle.zn_layout.specs.declared.record.SessionRec.{SessionRec}
use Rattle.zn_layout.specs.Keys.{SessionKey, LeaseKey, key_bytes}
use Rattle.zn_layout.specs.StandsFor.{StandsFor}
use Rattle.zn_view.specs.declared.plan.Plan.{Plan}
use Rattle.zn_view.specs.declared.plan.Who.{Who}
use Rattle.zn_view.specs.Asks.{ShowsHead, WritesOwnKeys}
use Rattle.zn_view.specs.Lookups.{sees, found_at, IsNodesIn}
use Rattle.zn_view.specs.Needs.{GuardsReads, IsWhole}
use Rattle.zn_view.specs.Seen.{View}
use Rattle.zn_view.specs.Views.{IsOf, MayCommit}
use Rattle.zs_close.specs.declared.reap.Reaping.{Reaping}
use Rattle.zs_close.specs.declared.reap.Reaping.TheVariants.{Planned, Kept, Gone, TooMany}
use Rattle.zs_close.specs.Closing.{IsEndPlan}

-- a session of which no attachment is known
abbrev pub whose : ℤ → Who
whose id = record { session = id; mine = pos 0 }

-- ---- what the decision needs

-- whether the view saw the record of the session's life: then the session lives, and nothing else is looked up
abbrev pub lives : ℤ → View → Bool
lives id v = is_some (found_at v (LeaseKey (nat_abs id)))

-- the view shows what decides: the record of the session's life, or else all that the end of the session reads
abbrev pub IsReadyToReap : ℤ → View → Type 0
IsReadyToReap id v = lives id v ≡ false → IsWhole req.Close (whose id) v

-- ---- the decision

-- by the session's nodes
abbrev pub IsReapedWith : ℤ → View → SessionRec → Reaping → Type 0
IsReapedWith id v nodes r = MatchBool (nat_le (length nodes.paths) (max_owned nodes.layout)) ((p : Plan) × (r ≡ Planned p) × IsEndPlan false id v nodes p) (r ≡ TooMany)

-- by what was seen of the list of the session's nodes
abbrev pub IsReapedBy : ℤ → View → Option (Option Kv) → Reaping → Type 0
IsReapedBy id v None r = ⊥
IsReapedBy id v (Some None) r = r ≡ Gone
IsReapedBy id v (Some (Some kv)) r = (nodes : SessionRec) × IsNodesIn kv nodes × IsReapedWith id v nodes r

-- by what was seen of the record of the session's life
abbrev pub IsReapBy : ℤ → View → Option (Option Kv) → Reaping → Type 0
IsReapBy id v None r = ⊥
IsReapBy id v (Some (Some kv)) r = r ≡ Kept
IsReapBy id v (Some None) r = IsReapedBy id v (sees v (SessionKey (nat_abs id))) r

abbrev pub IsReap : ℤ → View → Reaping → Type 0
IsReap id v r = IsReapBy id v (sees v (LeaseKey (nat_abs id))) r

-- ---- what it is worth

-- a session that is open and has lapsed is to end; one that lives is kept, and one that isn't open is gone
abbrev pub IsReapingOf : Option Session → Reaping → Type 0
IsReapingOf None r = r ≡ Gone
IsReapingOf (Some x) r = MatchBool x.lapsed ((p : Plan) × (r ≡ Planned p)) (r ≡ Kept)

-- the decision is right in each sound state that the view is of
abbrev pub IsReapDecision : ℤ → View → Reaping → Type 0
IsReapDecision id v r = (s : State) → IsSound s → IsOf v s → IsReapingOf (session_at id s) r

-- this holds of the plan, if the session is to end
abbrev pub IfReaped : (Plan → Type 0) → Reaping → Type 0
IfReaped P (Planned p) = P p
IfReaped P Kept = Unit {0}
IfReaped P Gone = Unit {0}
IfReaped P TooMany = Unit {0}

-- the session has lapsed, and its end is carried out
pub record IsSessionEnd (id : ℤ) (p : Plan) (m : Keys) (s : State) (z : ℤ) : Type 0 where
  pub session : Session
  pub is_open : session_at id s ≡ Some session
  pub lapsed : session.lapsed ≡ true
  pub keys : StandsFor (acts_applied z m p.success) (session_ended s z id)
  pub triggers : p.triggers ≡ (session_ended s z id).triggers

-- In each sound state whose keys meet the guards, the plan ends the session, all of whose nodes go. It guards what the end of the
-- session reads, but for the head, as the view saw it, and so the absence of the record of its life. It writes keys of the service
-- alone, and reads the head last.
pub record IsReapPlan (id : ℤ) (v : View) (p : Plan) : Type 0 where
  pub ends : (m : Keys) (s : State) (z : ℤ) → IsSound s → StandsFor m s → MayCommit p v m → s.zxid <ℤ z → z ≤ℤ last_revision → IsSessionEnd id p m s z
  pub reads : GuardsReads req.Close (whose id) v p
  pub absent : Contains p.guards (record { key = key_bytes (LeaseKey (nat_abs id)); mod_revision = pos 0 })
  pub shows : ShowsHead p.success
  pub writes : WritesOwnKeys p
