-- What a close is decided by, and the plan of the end of a session.
use Rattle.std.specs.Prelude.{◌≡◌, ℤ, nat_abs, Bool, true, List, ◌∷◌, ◌++◌, length, nat_le, Option, Some, None, All, MatchBool}
use Rattle.std.specs.Ordering.{int_eq}
use Rattle.ev_types.specs.declared.answer.Kv.{Kv}
use Rattle.ev_types.specs.declared.ask.Act.{Act}
use Rattle.zk_model.specs.declared.reply.Body.TheVariants as body
use Rattle.zk_model.specs.declared.reply.Reply.TheVariants as reply
use Rattle.zk_model.specs.Codes.{system_error}
use Rattle.zk_model.specs.Limits.{max_owned}
use Rattle.zx_base.specs.Maps.{Bytes}
use Rattle.zn_layout.specs.declared.record.CountRec.{CountRec}
use Rattle.zn_layout.specs.declared.record.SessionRec.{SessionRec}
use Rattle.zn_layout.specs.Changes.{KeyChange, acts_of, update_acts}
use Rattle.zn_layout.specs.Keys.{CountsKey, SessionKey, LeaseKey}
use Rattle.zn_view.specs.declared.plan.Decision.{Decision}
use Rattle.zn_view.specs.declared.plan.Decision.TheVariants.{Answered, Planned, Expired, Moved}
use Rattle.zn_view.specs.declared.plan.Plan.{Plan}
use Rattle.zn_view.specs.declared.plan.Who.{Who}
use Rattle.zn_view.specs.Asks.{guards_of, again_of, picked, IsLeaseless, ShowsHead, WritesOwnKeys}
use Rattle.zn_view.specs.Lookups.{sees, IsCountsIn, IsNodesIn}
use Rattle.zn_view.specs.Seen.{View}
use Rattle.zs_close.specs.Ending.{end_changes, end_triggers, parents, put_parents}
use Rattle.zs_close.specs.Wanting.{read_keys}

-- ---- the counts that a view saw

-- these are the counts in the record that was found; there are none where none was found
abbrev pub IsTold : Option Kv → Option CountRec → Type 0
IsTold None None = Unit {0}
IsTold None (Some c) = ⊥
IsTold (Some kv) None = ⊥
IsTold (Some kv) (Some c) = IsCountsIn kv c

-- a function tells the counts of a node as the view saw them
abbrev pub TellsCountsOf : View → (Bytes → Option CountRec) → Bytes → Type 0
TellsCountsOf v counts q = (o : Option Kv) → sees v (CountsKey q) ≡ Some o → IsTold o (counts q)

-- a function tells the counts of each of these nodes as the view saw them
abbrev pub TellsCounts : View → (Bytes → Option CountRec) → List Bytes → Type 0
TellsCounts v counts qs = All (TellsCountsOf v counts) qs

-- The new operations put, after the old ones, the counts of a parent of these paths without them, as the view saw the counts.
abbrev pub PutsParent : View → List Bytes → Bytes → List Act → List Act → Type 0
PutsParent v paths parent old new = (counts : Bytes → Option CountRec) → TellsCountsOf v counts parent → (rest : List Bytes)
    → new ++ acts_of (put_parents counts paths rest) ≡ old ++ acts_of (put_parents counts paths (parent ∷ rest))

-- ---- the plan of an end

-- the new operations are the old ones, and after them some that write keys without a lease
abbrev pub AreWritesAfter : List Act → List Act → Type 0
AreWritesAfter old new = (cs : List KeyChange) × All IsLeaseless cs × (new ≡ old ++ acts_of cs)

-- A plan with the operations of the end of a session with these nodes, the last of which reads the head. It guards what the end
-- reads, but for the head, as the view saw it, and reads that and the head again where a guard fails. It writes keys of the service
-- alone, its reply is empty, and watches see the end.
pub record IsEndPlan (alive : Bool) (id : ℤ) (v : View) (r : SessionRec) (p : Plan) : Type 0 where
  pub guards : p.guards ≡ guards_of (picked v (read_keys id r.paths))
  pub again : p.again ≡ again_of (picked v (read_keys id r.paths))
  pub success : (counts : Bytes → Option CountRec) → TellsCounts v counts (parents r.paths) → p.success ≡ update_acts (end_changes alive id counts r) p.triggers
  pub shows : ShowsHead p.success
  pub writes : WritesOwnKeys p
  pub draft : p.draft ≡ reply.Good body.Empty
  pub triggers : p.triggers ≡ end_triggers r.paths

-- ---- what a close is decided by

-- the answer where a session that lives has no list of its nodes, or more nodes than it may own, as in no sound state
abbrev pub unsound : Decision
unsound = Answered (reply.Refused system_error) None

-- by the session's nodes
abbrev pub IsClosedWith : ℤ → View → SessionRec → Decision → Type 0
IsClosedWith id v r d = MatchBool (nat_le (length r.paths) (max_owned r.layout)) ((p : Plan) × (d ≡ Planned p) × IsEndPlan true id v r p) (d ≡ unsound)

-- by what was seen of the list of the session's nodes
abbrev pub IsClosedBy : ℤ → View → Option (Option Kv) → Decision → Type 0
IsClosedBy id v None d = ⊥
IsClosedBy id v (Some None) d = d ≡ unsound
IsClosedBy id v (Some (Some kv)) d = (r : SessionRec) × IsNodesIn kv r × IsClosedWith id v r d

-- by what was seen of the record of the session's life
abbrev pub IsCloseBy : Who → View → Option (Option Kv) → Decision → Type 0
IsCloseBy who v None d = ⊥
IsCloseBy who v (Some None) d = d ≡ Expired
IsCloseBy who v (Some (Some kv)) d = MatchBool (int_eq kv.mod_revision who.mine) (IsClosedBy who.session v (sees v (SessionKey (nat_abs who.session))) d) (d ≡ Moved kv.mod_revision)

abbrev pub IsClose : Who → View → Decision → Type 0
IsClose who v d = IsCloseBy who v (sees v (LeaseKey (nat_abs who.session))) d
