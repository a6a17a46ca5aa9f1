-- How a multi is decided, by what its parts come to.
use Rattle.std.specs.Prelude.{◌≡◌, ℕ, ℤ, pos, ◌+◌, ◌≤ℤ◌, List, [], ◌∷◌, ◌++◌, length, map, nat_lt, sum_by, Option, Some, None, MatchBool}
use Rattle.std.specs.Ordering.{int_eq}
use Rattle.ev_types.specs.declared.answer.Kv.{Kv}
use Rattle.ev_types.specs.Reads.{read_key}
use Rattle.zk_model.specs.declared.reply.Body.TheVariants as body
use Rattle.zk_model.specs.declared.reply.Reply.TheVariants as reply
use Rattle.zk_model.specs.declared.request.Part.{Part}
use Rattle.zk_model.specs.Codes.{bad_arguments}
use Rattle.zk_model.specs.Limits.{max_load}
use Rattle.zk_model.specs.Multi.{data_len, distinct, row_of}
use Rattle.zn_layout.specs.Changes.{act_of, head_put}
use Rattle.zn_layout.specs.Keys.{Key, HeadKey, key_bytes}
use Rattle.zn_layout.specs.declared.record.SessionRec.{SessionRec}
use Rattle.zn_view.specs.declared.plan.Decision.{Decision}
use Rattle.zn_view.specs.declared.plan.Decision.TheVariants.{Answered, Planned, Expired, Moved}
use Rattle.zn_view.specs.declared.plan.Plan.{Plan}
use Rattle.zn_view.specs.declared.plan.Who.{Who}
use Rattle.zn_view.specs.Asks.{again_of, guards_of, picked}
use Rattle.zn_view.specs.Seen.{View}
use Rattle.zx_base.specs.Maps.{Bytes}
use Rattle.zn_updates.specs.KeysRead.{start_keys}
use Rattle.zn_updates.specs.Parts.{IfNodes}
use Rattle.zn_multi.specs.Carrying.{no_progress, Runs}
use Rattle.zn_multi.specs.Laying.{written_acts}
use Rattle.zn_multi.specs.Reading.{AreRead, each_new}
use Rattle.zn_multi.specs.declared.carrying.Carried.{Carried}
use Rattle.zn_multi.specs.declared.carrying.Carried.TheVariants.{Stopped, Passed}
use Rattle.zn_multi.specs.declared.carrying.Progress.{Progress}

-- ---- the load

abbrev pub path_bytes : Option SessionRec → ℕ
path_bytes None = 0
path_bytes (Some r) = sum_by length r.paths

-- The bytes of the paths of the nodes that a session owned before, by the list that the view saw. They are open where the list was
-- not looked up, and for a number below 1, which no session has.
abbrev pub IsOwnedLoad : View → ℤ → ℕ → Type 0
IsOwnedLoad v id n = (nodes : Option SessionRec) × (pos 1 ≤ℤ id → IfNodes v id nodes) × (n ≡ path_bytes nodes)

-- the bytes of the paths of several sessions' nodes, added
abbrev pub AreOwnedLoads : View → List ℤ → ℕ → Type 0
AreOwnedLoads v [] n = n ≡ 0
AreOwnedLoads v (id ∷ ids) n = (a b : ℕ) × IsOwnedLoad v id a × AreOwnedLoads v ids b × (n ≡ a + b)

-- ---- the decision

abbrev pub refused : ℤ → Decision
refused code = Answered (reply.Refused code) None

-- the keys that every request reads, and those that the parts read, each once
abbrev pub read_keys : ℤ → List Key → List Bytes
read_keys id ks = each_new (map key_bytes (start_keys id ++ ks))

-- What was laid is written, and the head is put last and then read. These keys, but for the head, are guarded as the view saw them,
-- and are read again where a guard fails.
pub record IsPlanOn (v : View) (keys : List Bytes) (p : Progress) (plan : Plan) : Type 0 where
  pub guards : plan.guards ≡ guards_of (picked v keys)
  pub again : plan.again ≡ again_of (picked v keys)
  pub acts : plan.success ≡ (written_acts v p.over.keys ++ act_of (head_put p.triggers) ∷ []) ++ read_key (key_bytes HeadKey) ∷ []
  pub draft : plan.draft ≡ reply.Good (body.Parts p.results)
  pub triggers : plan.triggers ≡ p.triggers

-- a plan that guards the keys that the parts read
abbrev pub IsPlannedAs : ℤ → View → List Part → Progress → Decision → Type 0
IsPlannedAs id v parts p d = (plan : Plan) × (d ≡ Planned plan) × (ks : List Key) × AreRead id v parts ks × IsPlanOn v (read_keys id ks) p plan

-- the row of codes where a part is refused; otherwise a refusal where the load is too great; otherwise a plan
abbrev pub IsByParts : ℤ → View → List Part → Carried → Decision → Type 0
IsByParts id v parts (Stopped place code) d = d ≡ Answered (reply.Good (body.Parts (row_of (length parts) place code))) None
IsByParts id v parts (Passed p) d = (n : ℕ) × AreOwnedLoads v (distinct p.touched) n × MatchBool (nat_lt max_load (sum_by data_len parts + n)) (d ≡ refused bad_arguments) (IsPlannedAs id v parts p d)

-- the decision by what the parts come to, carried out in turn
abbrev pub IsInTurn : Who → ℕ → View → List Part → Decision → Type 0
IsInTurn who now v parts d = (c : Carried) × Runs who now v no_progress 0 parts c × IsByParts who.session v parts c d

-- the decision by the record of the session's life, and where it was put by this connection's attachment, by the parts
abbrev pub IsByLife : Who → ℕ → View → List Part → Decision → Option (Option Kv) → Type 0
IsByLife who now v parts d None = ⊥
IsByLife who now v parts d (Some None) = d ≡ Expired
IsByLife who now v parts d (Some (Some kv)) = MatchBool (int_eq kv.mod_revision who.mine) (IsInTurn who now v parts d) (d ≡ Moved kv.mod_revision)
