-- What is done with a frame, at a look and at an answer reads all of a core but its stage: it is the same where the core has
-- another stage.
use Rattle.std.proofs.Common.{◌≡◌, ap, ℕ, ℤ, pos, Bool, true, false, List, inl, inr}
use Rattle.std.specs.Prelude.{Option, Some, None, MatchBool}
use Rattle.std.specs.Map.{lookup}
use Rattle.std.specs.Ordering.{int_eq}
use Rattle.ev_types.specs.declared.answer.ActAns.{ActAns}
use Rattle.ev_types.specs.declared.answer.Answer.{Answer}
use Rattle.ev_types.specs.declared.answer.Answer.TheVariants as answer
use Rattle.ev_types.specs.declared.answer.Kv.{Kv}
use Rattle.zk_jute.specs.Requests.{Frame, NoHeader, Unreadable, Unknown, Asks, read_request}
use Rattle.zk_model.specs.declared.connect.ConnectRequest.{ConnectRequest}
use Rattle.zk_model.specs.declared.request.Request.{Request}
use Rattle.zk_service.specs.Answers.{Told, plain_reply, xid_of}
use Rattle.zn_view.specs.Adding.{at_revision}
use Rattle.zn_view.specs.Asks.{with_parts}
use Rattle.zn_view.specs.Lookups.{found_at}
use Rattle.zn_view.specs.Seen.{View, empty_view}
use Rattle.zn_view.specs.declared.plan.Plan.{Plan}
use Rattle.zn_view.specs.declared.want.Want.{Want}
use Rattle.zs_session.specs.Answering.{viewed}
use Rattle.zs_session.specs.Sessions.{attach_wants, life_key}
use Rattle.zs_session.specs.declared.connect.Connect.{Connect}
use Rattle.zs_session.specs.declared.connect.ConnectStep.{ConnectStep}
use Rattle.zs_session.specs.declared.connect.ConnectStep.TheVariants as steps
use Rattle.zk_service.specs.declared.fresh.Fresh.{Fresh}
use Rattle.zp_step.specs.declared.action.Action.{Action}
use Rattle.zp_step.specs.Connects.{Connects, Opens, begun, connected}
use Rattle.zp_step.specs.Keepalives.{Checked, KeptAlive, Looked, StillMine, checks}
use Rattle.zp_step.specs.Looking.{EndsDamaged, IfRecords, Looks, moved}
use Rattle.zp_step.specs.Plans.{CommitAnswered, ReadOn}
use Rattle.zp_step.specs.Replies.{Is, waits}
use Rattle.zp_step.specs.Stages.{Core, Stage}
use Rattle.zn_view.specs.Keeping.{update_path}
use Rattle.zp_step.specs.Kept.{LeavesAt, LeavesBy, head_shown, left_core}
use Rattle.zx_base.specs.Maps.{Bytes, same}
use Rattle.zp_step.specs.Taking.{LooksFirst, LooksOn, TakesFrame, TakesReadable}

module _ (c : Core) (s : Stage) (c' : Core) (out : List Action) where
  pub damaged-at : (ws : List Want) (parts : List ActAns) → EndsDamaged (record c { stage = s }) ws parts c' out → EndsDamaged c ws parts c' out
  damaged-at ws parts d = record { key = d.key; value = d.value; found = d.found; is = d.is }

  pub looks-at : (xid : ℤ) (r : Request) (v : View) (now : ℕ) → Looks (record c { stage = s }) xid r v now c' out → Looks c xid r v now c' out
  looks-at xid r v now (inl a) = inl (record { lacking = a.lacking; needs = a.needs; some = a.some; unguessed = a.unguessed; is = a.is })
  looks-at xid r v now (inr (inl g)) =
      inr (inl (record { key = g.key; needs = g.needs; may = g.may; plan = g.plan; whole = g.whole; tested = g.tested; right = g.right; backed = g.backed; taken = g.taken; is = g.is }))
  looks-at xid r v now (inr (inr d)) = inr (inr (record { decision = d.decision; whole = d.whole; tested = d.tested; right = d.right; backed = d.backed; is = d.is }))

  first-at : (xid : ℤ) (r : Request) (now : ℕ) (o : Option Bytes) → LooksFirst (record c { stage = s }) xid r now c' out o → LooksFirst c xid r now c' out o
  first-at xid r now None h = looks-at xid r empty_view now h
  first-at xid r now (Some q) h = go (lookup (same q) c.views) h
    where
      go : (o : Option View) → LooksOn (record c { stage = s }) xid r now c' out q o → LooksOn c xid r now c' out q o
      go None f = looks-at xid r empty_view now f
      go (Some v) (inl f) = inl (record { plan = f.plan; whole = f.whole; tested = f.tested; right = f.right; backed = f.backed; is = f.is })
      go (Some v) (inr f) = inr (f.0, looks-at xid r empty_view now f.1)

  -- what is kept after an update
  leaves-at : (o : Option Bytes) (v : View) (p : Plan) (z : ℤ) (parts : List ActAns) (d : Core) → LeavesAt (record c { stage = s }) o v p z parts d → LeavesAt c o v p z parts (record d { stage = c.stage })
  leaves-at None v p z parts d h = ap (λ (x : Core). record x { stage = c.stage }) h
  leaves-at (Some q) v p z parts d h = go (head_shown parts) h
    where
      left : (x : Option View) → d ≡ left_core (record c { stage = s }) q x → record d { stage = c.stage } ≡ left_core c q x
      left None e = ap (λ (y : Core). record y { stage = c.stage }) e
      left (Some x) e = ap (λ (y : Core). record y { stage = c.stage }) e

      go : (o : Option Kv) → LeavesBy (record c { stage = s }) q v p z o d → LeavesBy c q v p z o (record d { stage = c.stage })
      go None e = ap (λ (x : Core). record x { stage = c.stage }) e
      go (Some head) e = (e.0, e.1, left e.0 e.2)

  readable-at : (now : ℕ) (x : Frame) (o : Option Told) → TakesReadable (record c { stage = s }) now c' out x o → TakesReadable c now c' out x o
  readable-at now x (Some t) h = h
  readable-at now (Asks xid r) None h = first-at xid r now (update_path r) h
  readable-at now NoHeader None h = h
  readable-at now (Unreadable xid place) None h = h
  readable-at now (Unknown xid kind) None h = h

  pub takes-at : (bytes : List ℕ) (now : ℕ) → TakesFrame (record c { stage = s }) bytes now c' out → TakesFrame c bytes now c' out
  takes-at bytes now h = readable-at now (read_request bytes) (plain_reply c.watches (read_request bytes)) h

  -- ---- by the answer to what was asked

  on_true : (b : Bool) (P P' Q : Type 0) → (P → P') → MatchBool b P Q → MatchBool b P' Q
  on_true true P P' Q f h = f h
  on_true false P P' Q f h = h

  on_false : (b : Bool) (P Q Q' : Type 0) → (Q → Q') → MatchBool b P Q → MatchBool b P Q'
  on_false true P Q Q' f h = h
  on_false false P Q Q' f h = f h

  if_records-at : (ws : List Want) (parts : List ActAns) (P Q : Type 0) → (P → Q) → IfRecords (record c { stage = s }) ws parts c' out P → IfRecords c ws parts c' out Q
  if_records-at ws parts P Q f (inl d) = inl (damaged-at ws parts d)
  if_records-at ws parts P Q f (inr n) = inr (n.0, f n.1)

  pub kept_alive-at : (bytes : List ℕ) (now : ℕ) (a : Answer) → KeptAlive (record c { stage = s }) bytes now c' out a → KeptAlive c bytes now c' out a
  kept_alive-at bytes now (answer.Alive z id ttl) h =
      on_false (int_eq ttl (pos 0)) (Is (checks c bytes) c' out) (TakesFrame (record c { stage = s }) bytes now c' out) (TakesFrame c bytes now c' out) (takes-at bytes now) h
  kept_alive-at bytes now (answer.Txn z b parts) h = h
  kept_alive-at bytes now (answer.Range z found) h = h
  kept_alive-at bytes now (answer.Granted z id ttl) h = h

  still_mine-at : (bytes : List ℕ) (now : ℕ) (v : View) (found : Option Kv) → StillMine (record c { stage = s }) bytes v now c' out found → StillMine c bytes v now c' out found
  still_mine-at bytes now v None h = h
  still_mine-at bytes now v (Some kv) h =
      on_true (int_eq kv.mod_revision c.who.mine) (TakesFrame (record c { stage = s }) bytes now c' out) (TakesFrame c bytes now c' out)
      (Is (waits c (moved c.who v kv.mod_revision (xid_of (read_request bytes)))) c' out) (takes-at bytes now) h

  pub checked-at : (bytes : List ℕ) (now : ℕ) (a : Answer) → Checked (record c { stage = s }) bytes now c' out a → Checked c bytes now c' out a
  checked-at bytes now (answer.Txn z b parts) h =
      let v = viewed z (attach_wants c.who.session) parts in
      if_records-at (attach_wants c.who.session) parts (Looked (record c { stage = s }) bytes now c' out v) (Looked c bytes now c' out v)
      (still_mine-at bytes now v (found_at v (life_key c.who.session))) h
  checked-at bytes now (answer.Range z found) h = h
  checked-at bytes now (answer.Granted z id ttl) h = h
  checked-at bytes now (answer.Alive z id ttl) h = h

  pub read_on-at : (xid : ℤ) (r : Request) (v : View) (ws : List Want) (now : ℕ) (a : Answer) → ReadOn (record c { stage = s }) xid r v ws now c' out a → ReadOn c xid r v ws now c' out a
  read_on-at xid r v ws now (answer.Txn z b parts) h =
      let w = with_parts (at_revision v z) ws parts in
      if_records-at ws parts (Looks (record c { stage = s }) xid r w now c' out) (Looks c xid r w now c' out) (looks-at xid r w now) h
  read_on-at xid r v ws now (answer.Range z found) h = h
  read_on-at xid r v ws now (answer.Granted z id ttl) h = h
  read_on-at xid r v ws now (answer.Alive z id ttl) h = h

  pub commit-at : (xid : ℤ) (r : Request) (v : View) (p : Plan) (now : ℕ) (a : Answer) → CommitAnswered (record c { stage = s }) xid r v p now c' out a → CommitAnswered c xid r v p now c' out a
  commit-at xid r v p now (answer.Txn z true parts) h = record { kept = record h.kept { stage = c.stage }; leaves = leaves-at (update_path r) v p z parts h.kept h.leaves; is = h.is }
  commit-at xid r v p now (answer.Txn z false parts) h =
      let w = viewed z p.again parts in
      if_records-at p.again parts (Looks (record c { stage = s }) xid r w now c' out) (Looks c xid r w now c' out) (looks-at xid r w now) h
  commit-at xid r v p now (answer.Range z found) h = h
  commit-at xid r v p now (answer.Granted z id ttl) h = h
  commit-at xid r v p now (answer.Alive z id ttl) h = h

  connected-at : (now : ℕ) (new : Connect) (step : ConnectStep) → Is (connected (record c { stage = s }) now new step) c' out → Is (connected c now new step) c' out
  connected-at now new (steps.Ask q) h = h
  connected-at now new (steps.Attached response who timeout number zxid) h = h
  connected-at now new (steps.Ahead client head) h = h
  connected-at now new steps.Unknown h = h
  connected-at now new (steps.Taken revision) h = h

  pub connects-at : (connect : Connect) (a : Option Answer) (now : ℕ) → Connects (record c { stage = s }) connect a now c' out → Connects c connect a now c' out
  connects-at connect a now (inl e) = inl (record { key = e.key; value = e.value; found = e.found; is = e.is })
  connects-at connect a now (inr m) = inr (record { step = m.step; new = m.new; steps = m.steps; is = connected-at now m.new m.step m.is })

  pub opens-at : (place : ℕ) (fresh : Fresh) (now : ℕ) (r : Option ConnectRequest) → Opens (record c { stage = s }) place fresh now c' out r → Opens c place fresh now c' out r
  opens-at place fresh now None h = h
  opens-at place fresh now (Some r) h = connects-at (begun r fresh) None now h
