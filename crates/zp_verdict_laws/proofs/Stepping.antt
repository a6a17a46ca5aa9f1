-- A step of a connection keeps no number below 0, and closes it by none.
use Rattle.std.proofs.Common.{◌≡◌, ℕ, List, [], ◌∷◌, ◌++◌, take, refl, sym, subst, ap, Bool, true, false, ℤ, pos, inl, inr}
use Rattle.std.specs.Arc.{arc_value}
use Rattle.std.specs.Ordering.{int_eq}
use Rattle.std.specs.Prelude.{MatchBool, None, Option, Some, if◌then◌else◌, nat_abs, ◌⊎◌}
use Rattle.ev_types.specs.declared.answer.ActAns.{ActAns}
use Rattle.ev_types.specs.declared.answer.Answer.TheVariants as answer
use Rattle.ev_types.specs.declared.answer.Answer.{Answer}
use Rattle.ev_types.specs.declared.answer.Kv.{Kv}
use Rattle.zk_jute.specs.Connects.{read_connect}
use Rattle.zk_jute.specs.Requests.{Asks, Frame, NoHeader, Unknown, Unreadable, read_request}
use Rattle.zk_model.specs.Watches.{fire_all, no_watches}
use Rattle.zk_model.specs.declared.connect.ConnectRequest.{ConnectRequest}
use Rattle.zk_model.specs.declared.reply.Notice.{Notice}
use Rattle.zk_model.specs.declared.request.Request.TheVariants as req
use Rattle.zk_model.specs.declared.request.Request.{Request}
use Rattle.zk_service.proofs.PlainReplies.{plain-none}
use Rattle.zk_service.specs.Answers.{Told, plain_reply, xid_of, has_header, is_auth_refusal}
use Rattle.zk_service.specs.declared.cause.Cause.TheVariants as cause
use Rattle.zk_service.specs.declared.cause.Cause.{Cause}
use Rattle.zn_layout.specs.Keys.{LeaseKey}
use Rattle.zn_layout.specs.declared.entry.Entry.{Entry}
use Rattle.zn_view.specs.Adding.{at_revision}
use Rattle.zn_view.specs.Asks.{with_parts}
use Rattle.zn_view.specs.Deciding.{IsTestedBy, is_by_tree}
use Rattle.zn_view.specs.Keeping.{update_path}
use Rattle.zn_view.specs.Lookups.{found_at, sees}
use Rattle.zn_view.specs.Seen.{View, empty_view, found_of}
use Rattle.zn_view.specs.declared.plan.Decision.TheVariants.{Answered, Expired, Moved, Planned}
use Rattle.zn_view.specs.declared.plan.Decision.{Decision}
use Rattle.zn_view.specs.declared.plan.Plan.{Plan}
use Rattle.zn_view.specs.declared.want.Want.{Want}
use Rattle.zs_session.specs.Alive.{is_alive_due}
use Rattle.zs_session.specs.Answering.{viewed}
use Rattle.zs_session.specs.Sessions.{attach_wants, life_key}
use Rattle.zs_session.specs.declared.connect.Connect.{Connect}
use Rattle.zs_session.specs.declared.connect.ConnectStep.TheVariants as steps
use Rattle.zs_session.specs.declared.connect.ConnectStep.{ConnectStep}
use Rattle.zk_service.specs.declared.fresh.Fresh.{Fresh}
use Rattle.zx_base.proofs.Options.{none_some, some_is}
use Rattle.zp_step.proofs.Cases.{of_alive}
use Rattle.zp_step.proofs.Beside.{PlansBeside, first-or-anew, leaves-beside}
use Rattle.zp_step.specs.Looking.{IsForTree, IfRecords, Looks, asks_for, change_by, decided, expired, guessed, max_ranges, moved, pending}
use Rattle.zp_step.proofs.Shutting.{shut-for-good, steps-open}
use Rattle.zp_step.specs.Connects.{Connects, Opens, begun, connected}
use Rattle.zp_step.specs.Entries.{entered, then_reply}
use Rattle.zp_step.specs.Keepalives.{StillMine, TakesUp, checks, keeps_alive}
use Rattle.zp_step.specs.Kept.{keeps}
use Rattle.zp_step.specs.Plans.{Committed, end_after, finishes}
use Rattle.zp_step.specs.Replies.{Is, close_after, closed_by, is_due, replied, send_notices, stage_after, waits}
use Rattle.zp_step.specs.Stages.{Checking, Committing, Connecting, Core, KeepingAlive, Pending, Reading, Ready, Shut, Stage, Unconnected, Waiting, is_shut, seen_by}
use Rattle.zp_step.specs.Steps.{Answers, Comes, Goes, Handles, Steps, with_frame_counted, queued, rests, takes}
use Rattle.zp_step.specs.Taking.{TakesFrame, TakesReadable, end_of_plain, plainly}
use Rattle.zp_step.specs.declared.action.Action.TheVariants as action
use Rattle.zp_step.specs.declared.action.Action.{Action}
use Rattle.zp_step.specs.declared.input.Input.TheVariants as input
use Rattle.zp_step.specs.declared.input.Input.{Input}
use Rattle.zp_verdict_laws.proofs.Connecting.{IsNaturalStep, connects-natural}
use Rattle.zp_verdict_laws.proofs.Shown.{IsNaturalView, at-natural, empty-natural, found-natural, number-natural, parts-natural, view-number, viewed-natural}
use Rattle.zp_verdict_laws.proofs.Stored.{AreNaturalParts, IsNatural, IsNaturalAnswer, IsNaturalCause, IsNaturalKv}
use Rattle.zx_base.proofs.Booleans.{either}

-- ---- what a connection keeps, is handed, and does

abbrev pub EndsNatural : Option Cause → Type 0
EndsNatural None = Unit {0}
EndsNatural (Some why) = IsNaturalCause why

pub record IsNaturalPending (p : Pending) : Type 0 where
  pub number : IsNatural p.number
  pub ends : EndsNatural p.ends

-- a request for the tree, with the view that is not whole yet, or a reply that waits
abbrev pub IsNaturalIn : Stage → Type 0
IsNaturalIn (Unconnected fresh) = Unit {0}
IsNaturalIn (Connecting x) = Unit {0}
IsNaturalIn Ready = Unit {0}
IsNaturalIn (KeepingAlive f) = Unit {0}
IsNaturalIn (Checking f) = Unit {0}
IsNaturalIn (Reading xid r v ws) = IsForTree r × IsNaturalView v
IsNaturalIn (Committing xid r v p time) = IsForTree r
IsNaturalIn (Waiting p) = IsNaturalPending p
IsNaturalIn Shut = Unit {0}

pub record IsNaturalCore (c : Core) : Type 0 where
  pub stage : IsNaturalIn c.stage
  pub cursor : IsNatural c.cursor
  pub mine : IsNatural c.who.mine

abbrev pub IsNaturalInput : Input → Type 0
IsNaturalInput (input.Answer a) = IsNaturalAnswer a
IsNaturalInput (input.Entry e) = IsNatural (arc_value e).number
IsNaturalInput (input.Lagged cursor floor) = IsNatural cursor × IsNatural floor
IsNaturalInput _ = Unit {0}

abbrev pub AreNatural : List Action → Type 0
AreNatural [] = Unit {0}
AreNatural (action.Send bytes ∷ out) = AreNatural out
AreNatural (action.Ask a ∷ out) = AreNatural out
AreNatural (action.Close why ∷ out) = IsNaturalCause why × AreNatural out

pub record Naturally (c' : Core) (out : List Action) : Type 0 where
  pub core : IsNaturalCore c'
  pub acts : AreNatural out

-- ---- what is done

natural-append : (first later : List Action) → AreNatural first → AreNatural later → AreNatural (first ++ later)
natural-append [] later f g = g
natural-append (action.Send bytes ∷ first) later f g = natural-append first later f g
natural-append (action.Ask a ∷ first) later f g = natural-append first later f g
natural-append (action.Close why ∷ first) later f g = (f.0, natural-append first later f.1 g)

natural-notices : (ns : List Notice) → AreNatural (send_notices ns)
natural-notices [] = tt
natural-notices (n ∷ ns) = natural-notices ns

natural-close : (o : Option Cause) → EndsNatural o → AreNatural (close_after o)
natural-close None f = tt
natural-close (Some why) f = (f, tt)

natural-after : (o : Option Cause) → IsNaturalIn (stage_after o)
natural-after None = tt
natural-after (Some why) = tt

-- the stage changes, and nothing else that counts
staged : (c : Core) (st : Stage) → IsNaturalCore c → IsNaturalIn st → IsNaturalCore (record c { stage = st })
staged c st k in' = record { stage = in'; cursor = k.cursor; mine = k.mine }

natural-replied : (c : Core) (p : Pending) → IsNaturalCore c → IsNaturalPending p → Naturally (replied c p).0 (replied c p).1
natural-replied c p k n = record {
  core = record { stage = natural-after p.ends; cursor = n.number; mine = k.mine };
  acts = natural-append (send_notices (seen_by p.change c.watches).notices) _ (natural-notices (seen_by p.change c.watches).notices) (natural-close p.ends n.ends);
}

natural-waits : (c : Core) (p : Pending) → IsNaturalCore c → IsNaturalPending p → Naturally (waits c p).0 (waits c p).1
natural-waits c p k n = go (is_due c p)
  where
    go : (b : Bool) → Naturally (if b then replied c p else (record c { stage = Waiting p }, [])).0 (if b then replied c p else (record c { stage = Waiting p }, [])).1
    go true = natural-replied c p k n
    go false = record { core = staged c (Waiting p) k n; acts = tt }

-- ---- a decision

abbrev IsNaturalDecision : Decision → Type 0
IsNaturalDecision (Answered answer arm) = Unit {0}
IsNaturalDecision (Planned p) = Unit {0}
IsNaturalDecision Expired = Unit {0}
IsNaturalDecision (Moved found) = IsNatural found

natural-expired : (v : View) (xid : ℤ) → IsNaturalView v → IsNaturalPending (expired v xid)
natural-expired v xid h = record { number = view-number v h; ends = h.revision }

natural-decided : (c : Core) (xid : ℤ) (r : Request) (v : View) (now : ℕ) (d : Decision) → IsForTree r → IsNaturalCore c → IsNaturalView v → IsNaturalDecision d → Naturally (decided c xid r v now d).0 (decided c xid r v now d).1
natural-decided c xid r v now (Answered answer arm) tree k h d = natural-waits c (pending v xid answer (change_by r v arm) None) k (record { number = view-number v h; ends = tt })
natural-decided c xid r v now (Planned p) tree k h d = record { core = staged c (Committing xid r v p now) k tree; acts = tt }
natural-decided c xid r v now Expired tree k h d = natural-waits c (expired v xid) k (natural-expired v xid h)
natural-decided c xid r v now (Moved found) tree k h d = natural-waits c (moved c.who v found xid) k (record { number = view-number v h; ends = (k.mine, d) })

natural-end : (r : Request) → EndsNatural (end_after r)
natural-end (req.Create p d a f) = tt
natural-end (req.Delete p n) = tt
natural-end (req.SetData p d n) = tt
natural-end (req.Exists p x) = tt
natural-end (req.GetData p x) = tt
natural-end (req.GetAcl p) = tt
natural-end (req.GetChildren p x) = tt
natural-end (req.GetChildren2 p x) = tt
natural-end (req.Check p n) = tt
natural-end (req.SetWatches since exists datas children) = tt
natural-end req.Close = tt
natural-end (req.Sync p) = tt
natural-end req.Ping = tt
natural-end (req.Auth kind scheme auth) = tt
natural-end (req.Multi parts) = tt
natural-end (req.Create2 p d a f) = tt
natural-end (req.CheckWatches p k) = tt
natural-end (req.RemoveWatches p k) = tt

natural-plain : (b : Bool) → EndsNatural (end_of_plain b)
natural-plain true = tt
natural-plain false = tt

natural-connected : (c : Core) (now : ℕ) (new : Connect) (step : ConnectStep) → IsNaturalCore c → IsNaturalStep step → Naturally (connected c now new step).0 (connected c now new step).1
natural-connected c now new (steps.Ask q) k n = record { core = record { stage = tt; cursor = k.cursor; mine = k.mine }; acts = tt }
natural-connected c now new (steps.Attached response who timeout number zxid) k n = record { core = record { stage = tt; cursor = n.1; mine = n.0 }; acts = tt }
natural-connected c now new (steps.Ahead client head) k n = record { core = staged c Shut k tt; acts = (n, tt) }
natural-connected c now new steps.Unknown k n = record { core = staged c Shut k tt; acts = (tt, tt) }
natural-connected c now new (steps.Taken revision) k n = record { core = staged c Shut k tt; acts = (n, tt) }

module _ (now : ℕ) (c' : Core) (out : List Action) where
  natural-is : (x : Core × List Action) → Naturally x.0 x.1 → Is x c' out → Naturally c' out
  natural-is x f i = subst (λ (d : Core). Naturally d out) (sym i.0) (subst (λ o. Naturally x.0 o) (sym i.1) f)

  natural-closed : (c : Core) (why : Cause) → IsNaturalCore c → IsNaturalCause why → Is (closed_by c why) c' out → Naturally c' out
  natural-closed c why k f i = natural-is (closed_by c why) (record { core = staged c Shut k tt; acts = (f, tt) }) i

  -- ---- on a view

  -- where the session has moved, the view shows the update that moved it
  natural-tested : (c : Core) (v : View) (d : Decision) → IsNaturalView v → (o : Option (Option Kv)) → sees v (LeaseKey (nat_abs c.who.session)) ≡ o → IsTestedBy c.who d o → IsNaturalDecision d
  natural-tested c v d h None e t = absurd t
  natural-tested c v d h (Some None) e t = subst IsNaturalDecision (sym t) tt
  natural-tested c v d h (Some (Some kv)) e t =
      let shown : IsNaturalKv kv = found-natural v (LeaseKey (nat_abs c.who.session)) kv h (ap found_of e) in
      go (int_eq kv.mod_revision c.who.mine) d t shown
    where
      go : (b : Bool) (x : Decision) → MatchBool b (is_by_tree x ≡ true) (x ≡ Moved kv.mod_revision) → IsNaturalKv kv → IsNaturalDecision x
      go true (Answered answer arm) f n = tt
      go true (Planned p) f n = tt
      go true Expired f n = tt
      go true (Moved found) f n = absurd (cc)
      go false x f n = subst IsNaturalDecision (sym f) n.revision

  natural-looks : (c : Core) (xid : ℤ) (r : Request) (v : View) → IsForTree r → IsNaturalCore c → IsNaturalView v → Looks c xid r v now c' out → Naturally c' out
  natural-looks c xid r v tree k h (inl y) = natural-is (asks_for c xid r v (take max_ranges y.lacking)) (record { core = staged c (Reading xid r v (take max_ranges y.lacking)) k (tree, h); acts = tt }) y.is
  natural-looks c xid r v tree k h (inr (inl y)) = natural-is (decided c xid r (guessed v y.key) now (Planned y.plan)) (record { core = staged c (Committing xid r (guessed v y.key) y.plan now) k tree; acts = tt }) y.is
  natural-looks c xid r v tree k h (inr (inr y)) =
      natural-is (decided (keeps c r v) xid r v now y.decision)
      (natural-decided (keeps c r v) xid r v now y.decision tree (record { stage = k.stage; cursor = k.cursor; mine = k.mine }) h
      (natural-tested c v y.decision h (sees v (LeaseKey (nat_abs c.who.session))) refl (y.tested tree))) y.is

  natural-records : (c : Core) (ws : List Want) (parts : List ActAns) (Next : Type 0) → IsNaturalCore c → (Next → Naturally c' out) → IfRecords c ws parts c' out Next → Naturally c' out
  natural-records c ws parts Next k f (inl e) = natural-closed c (cause.Damaged e.key e.value) k tt e.is
  natural-records c ws parts Next k f (inr h) = f h.1

  -- ---- a frame is taken up

  natural-readable : (c : Core) (x : Frame) (o : Option Told) → plain_reply c.watches x ≡ o → IsNaturalCore c → TakesReadable c now c' out x o → Naturally c' out
  natural-readable c x (Some t) e k h =
      let ends = end_of_plain (is_auth_refusal t.reply) in
      natural-is (plainly c (xid_of x) t) (record { core = record { stage = natural-after ends; cursor = k.cursor; mine = k.mine }; acts = natural-close ends (natural-plain (is_auth_refusal t.reply)) }) h
  natural-readable c NoHeader None e k h = absurd h
  natural-readable c (Unreadable xid place) None e k h = absurd h
  natural-readable c (Unknown xid kind) None e k h = absurd h
  natural-readable c (Asks xid r) None e k h = go (first-or-anew c c' xid r now out (update_path r) h)
    where
      tree : IsForTree r
      tree = plain-none c.watches no_watches (Asks xid r) e

      go : PlansBeside c xid r now c' out ⊎ Looks c xid r empty_view now c' out → Naturally c' out
      go (inl y) = natural-is (decided (record c { views = y.views }) xid r y.view now (Planned y.plan)) (record { core = record { stage = tree; cursor = k.cursor; mine = k.mine }; acts = tt }) y.is
      go (inr y) = natural-looks c xid r empty_view tree k empty-natural y

  natural-takes : (c : Core) (bytes : List ℕ) → IsNaturalCore c → TakesFrame c bytes now c' out → Naturally c' out
  natural-takes c bytes k h = natural-readable c (read_request bytes) (plain_reply c.watches (read_request bytes)) refl k h

  natural-takes_up : (c : Core) (bytes : List ℕ) → IsNaturalCore c → TakesUp c bytes now c' out → Naturally c' out
  natural-takes_up c bytes k h =
      either (is_alive_due c.kept now c.timeout) (Is (keeps_alive c bytes now) c' out) (TakesFrame c bytes now c' out) (Naturally c' out) h
      (natural-is (keeps_alive c bytes now) (record { core = record { stage = tt; cursor = k.cursor; mine = k.mine }; acts = tt }))
      (natural-takes c bytes k)

  -- ---- an answer

  natural-still : (c : Core) (bytes : List ℕ) (v : View) (o : Option Kv) → found_at v (life_key c.who.session) ≡ o → IsNaturalCore c → IsNaturalView v → StillMine c bytes v now c' out o → Naturally c' out
  natural-still c bytes v None e k n h = natural-is (waits c (expired v (xid_of (read_request bytes)))) (natural-waits c (expired v (xid_of (read_request bytes))) k (natural-expired v (xid_of (read_request bytes)) n)) h
  natural-still c bytes v (Some kv) e k n h =
      let p = moved c.who v kv.mod_revision (xid_of (read_request bytes)) in
      let shown : IsNaturalKv kv = found-natural v (life_key c.who.session) kv n e in
      either (int_eq kv.mod_revision c.who.mine) (TakesFrame c bytes now c' out) (Is (waits c p) c' out) (Naturally c' out) h
      (natural-takes c bytes k)
      (natural-is (waits c p) (natural-waits c p k (record { number = view-number v n; ends = (k.mine, shown.revision) })))

  natural-committed : (c : Core) (xid : ℤ) (r : Request) (u : View) (p : Plan) (z : ℤ) (b : Bool) (parts : List ActAns) → IsForTree r → IsNaturalCore c → IsNatural z → AreNaturalParts parts → Committed c xid r u p now c' out z b parts → Naturally c' out
  natural-committed c xid r u p z true parts tree k n all h =
      let same = leaves-beside c h.kept (update_path r) u p z parts h.leaves in
      let kept : IsNaturalCore h.kept = subst IsNaturalCore (sym same.1) (record { stage = k.stage; cursor = k.cursor; mine = k.mine }) in
      natural-is (waits h.kept (finishes xid r p z parts)) (natural-waits h.kept (finishes xid r p z parts) kept (record { number = number-natural parts all; ends = natural-end r })) h.is
  natural-committed c xid r u p z false parts tree k n all h =
      let y = viewed z p.again parts in
      natural-records c p.again parts (Looks c xid r y now c' out) k (natural-looks c xid r y tree k (viewed-natural z p.again parts n all)) h

  natural-connects : (c : Core) (x : Connect) (a : Option Answer) → ((b : Answer) → a ≡ Some b → IsNaturalAnswer b) → IsNaturalCore c → Connects c x a now c' out → Naturally c' out
  natural-connects c x a n k (inl e) = natural-closed c (cause.Damaged e.key e.value) k tt e.is
  natural-connects c x a n k (inr s) = natural-is (connected c now s.new s.step) (natural-connected c now s.new s.step k (connects-natural x s.new a s.step n s.steps)) s.is

  natural-answers : (c : Core) (a : Answer) (st : Stage) → IsNaturalAnswer a → IsNaturalCore c → IsNaturalIn st → Answers c a now c' out st → Naturally c' out
  natural-answers c a (Connecting x) n k i h = natural-connects c x (Some a) (λ b e. subst IsNaturalAnswer (some_is e) n) k h
  natural-answers c a (KeepingAlive f) n k i h = of_alive a _ (Naturally c' out) h (λ ttl g.
      either (int_eq ttl (pos 0)) (Is (checks c f) c' out) (TakesFrame c f now c' out) (Naturally c' out) g (natural-is (checks c f) (record { core = staged c (Checking f) k tt; acts = tt })) (natural-takes c f k))
  natural-answers c (answer.Txn z b parts) (Checking f) n k i h =
      let v = viewed z (attach_wants c.who.session) parts in
      natural-records c (attach_wants c.who.session) parts _ k (natural-still c f v (found_at v (life_key c.who.session)) refl k (viewed-natural z (attach_wants c.who.session) parts n.0 n.1)) h
  natural-answers c (answer.Txn z b parts) (Reading xid r v ws) n k i h =
      let y = with_parts (at_revision v z) ws parts in
      natural-records c ws parts (Looks c xid r y now c' out) k (natural-looks c xid r y i.0 k (parts-natural (at_revision v z) ws parts (at-natural v z i.1 n.0) n.1)) h
  natural-answers c (answer.Txn z b parts) (Committing xid r v p m) n k i h = natural-committed c xid r v p z b parts i k n.0 n.1 h
  natural-answers c (answer.Range z found) (Checking f) n k i h = absurd h
  natural-answers c (answer.Range z found) (Reading xid r v ws) n k i h = absurd h
  natural-answers c (answer.Range z found) (Committing xid r v p m) n k i h = absurd h
  natural-answers c (answer.Granted z id ttl) (Checking f) n k i h = absurd h
  natural-answers c (answer.Granted z id ttl) (Reading xid r v ws) n k i h = absurd h
  natural-answers c (answer.Granted z id ttl) (Committing xid r v p m) n k i h = absurd h
  natural-answers c (answer.Alive z id ttl) (Checking f) n k i h = absurd h
  natural-answers c (answer.Alive z id ttl) (Reading xid r v ws) n k i h = absurd h
  natural-answers c (answer.Alive z id ttl) (Committing xid r v p m) n k i h = absurd h
  natural-answers c a (Unconnected fresh) n k i h = absurd h
  natural-answers c a Ready n k i h = absurd h
  natural-answers c a (Waiting p) n k i h = absurd h
  natural-answers c a Shut n k i h = absurd h

  -- ---- a frame comes, and an entry

  natural-queued : (c : Core) (f : List ℕ) → IsNaturalCore c → MatchBool (has_header (read_request f)) (Is (queued c f, []) c' out) (Is (closed_by c (cause.NoHeader c.taken)) c' out) → Naturally c' out
  natural-queued c f k h =
      either (has_header (read_request f)) (Is (queued c f, []) c' out) (Is (closed_by c (cause.NoHeader c.taken)) c' out) (Naturally c' out) h
      (natural-is (queued c f, []) (record { core = record { stage = k.stage; cursor = k.cursor; mine = k.mine }; acts = tt }))
      (natural-closed c (cause.NoHeader c.taken) k tt)

  natural-opens : (c : Core) (f : List ℕ) (fresh : Fresh) (o : Option ConnectRequest) → IsNaturalCore c → Opens (with_frame_counted c f) c.taken fresh now c' out o → Naturally c' out
  natural-opens c f fresh None k h = natural-closed (with_frame_counted c f) (cause.NoHeader c.taken) (record { stage = k.stage; cursor = k.cursor; mine = k.mine }) tt h
  natural-opens c f fresh (Some r) k h = natural-connects (with_frame_counted c f) (begun r fresh) None (λ b e. absurd (none_some e)) (record { stage = k.stage; cursor = k.cursor; mine = k.mine }) h

  natural-comes : (c : Core) (f : List ℕ) (st : Stage) → IsNaturalCore c → Comes c f now c' out st → Naturally c' out
  natural-comes c f (Unconnected fresh) k h = natural-opens c f fresh (read_connect f) k h
  natural-comes c f (Connecting x) k h = natural-queued c f k h
  natural-comes c f Ready k h = natural-queued c f k h
  natural-comes c f (KeepingAlive g) k h = natural-queued c f k h
  natural-comes c f (Checking g) k h = natural-queued c f k h
  natural-comes c f (Reading xid r v ws) k h = natural-queued c f k h
  natural-comes c f (Committing xid r v p m) k h = natural-queued c f k h
  natural-comes c f (Waiting p) k h = natural-queued c f k h
  natural-comes c f Shut k h = natural-queued c f k h

  natural-told : (c : Core) (e : Entry) → IsNaturalCore (entered c e).0 → Is (entered c e) c' out → Naturally c' out
  natural-told c e k h = natural-is (entered c e) (record { core = k; acts = natural-notices (fire_all c.watches e.triggers).1 }) h

  natural-entry : (c : Core) (e : Entry) (st : Stage) → IsNaturalCore (entered c e).0 → IsNaturalIn st → Is (then_reply (entered c e) st) c' out → Naturally c' out
  natural-entry c e (Waiting p) k i h =
      let w = natural-waits (entered c e).0 p k i in
      natural-is (then_reply (entered c e) (Waiting p)) (record { core = w.core; acts = natural-append (entered c e).1 (waits (entered c e).0 p).1 (natural-notices (fire_all c.watches e.triggers).1) w.acts }) h
  natural-entry c e (Unconnected fresh) k i h = natural-told c e k h
  natural-entry c e (Connecting x) k i h = natural-told c e k h
  natural-entry c e Ready k i h = natural-told c e k h
  natural-entry c e (KeepingAlive f) k i h = natural-told c e k h
  natural-entry c e (Checking f) k i h = natural-told c e k h
  natural-entry c e (Reading xid r v ws) k i h = natural-told c e k h
  natural-entry c e (Committing xid r v p m) k i h = natural-told c e k h
  natural-entry c e Shut k i h = natural-told c e k h

  natural-handles : (c : Core) (i : Input) → IsNaturalInput i → IsNaturalCore c → Handles c i now c' out → Naturally c' out
  natural-handles c (input.Frame f) n k h = natural-comes c f c.stage k h
  natural-handles c (input.Answer a) n k h = natural-answers c a c.stage n k k.stage h
  natural-handles c (input.Entry e) n k h = natural-entry c (arc_value e) c.stage (record { stage = k.stage; cursor = n; mine = k.mine }) k.stage h
  natural-handles c input.Failed n k h = natural-closed c cause.LinkFault k tt h
  natural-handles c (input.BadLength place m) n k h = natural-closed c (cause.BadLength place m) k tt h
  natural-handles c (input.Lagged cursor floor) n k h = natural-closed c (cause.Lagged cursor floor) k n h
  natural-handles c input.FeedClosed n k h = natural-closed c cause.FeedClosed k tt h
  natural-handles c (input.ClientEnd place) n k h = natural-closed c (cause.ClientEnd place) k tt h

-- ---- a step

natural-goes : (now : ℕ) (c c' : Core) (out : List Action) → IsNaturalCore c → Goes now c c' out → Naturally c' out
natural-goes now c c' out k (rests why same none) = subst (λ (d : Core). Naturally d out) (sym same) (subst (λ o. Naturally c o) (sym none) (record { core = k; acts = tt }))
natural-goes now c c' out k (takes d frame more first later ready w t g o) =
    let one = natural-takes_up now d first (record c { waiting = more }) frame (record { stage = k.stage; cursor = k.cursor; mine = k.mine }) t in
    let rest = natural-goes now d c' later one.core g in
    record { core = rest.core; acts = subst AreNatural (sym o) (natural-append first later one.acts rest.acts) }

pub natural-steps : (c c' : Core) (i : Input) (now : ℕ) (out : List Action) → IsNaturalInput i → IsNaturalCore c → Steps c i now c' out → Naturally c' out
natural-steps c c' i now out n k h = go (is_shut c.stage) refl
  where
    go : (b : Bool) → is_shut c.stage ≡ b → Naturally c' out
    go true e =
        let s = shut-for-good c c' i now out e h in
        subst (λ (d : Core). Naturally d out) (sym s.0) (subst (λ o. Naturally c o) (sym s.1) (record { core = k; acts = tt }))
    go false e =
        let s = steps-open c c' i now out e h in
        let one = natural-handles now s.mid s.first c i n k s.handled in
        let rest = natural-goes now s.mid c' s.later one.core s.goes in
        record { core = rest.core; acts = subst AreNatural (sym s.joined) (natural-append s.first s.later one.acts rest.acts) }
