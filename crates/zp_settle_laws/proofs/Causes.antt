-- A step closes a connection for no cause that stands outside a replay.
use Rattle.std.proofs.Common.{◌≡◌, ℕ, List, [], ◌∷◌, ◌++◌, take, refl, sym, subst, Bool, true, false, ℤ, pos, inl, inr}
use Rattle.std.specs.Prelude.{Option, Some, None, ◌⊎◌, if◌then◌else◌, MatchBool}
use Rattle.std.specs.Arc.{arc_value}
use Rattle.std.specs.Ordering.{int_eq}
use Rattle.ev_types.specs.declared.answer.ActAns.{ActAns}
use Rattle.ev_types.specs.declared.answer.Answer.{Answer}
use Rattle.ev_types.specs.declared.answer.Answer.TheVariants as answer
use Rattle.ev_types.specs.declared.answer.Kv.{Kv}
use Rattle.zk_jute.specs.Connects.{read_connect}
use Rattle.zk_jute.specs.Requests.{Frame, NoHeader, Unreadable, Unknown, Asks, read_request}
use Rattle.zk_model.specs.Watches.{fire_all}
use Rattle.zk_model.specs.declared.connect.ConnectRequest.{ConnectRequest}
use Rattle.zk_model.specs.declared.reply.Notice.{Notice}
use Rattle.zk_model.specs.declared.request.Request.TheVariants as req
use Rattle.zk_model.specs.declared.request.Request.{Request}
use Rattle.zk_service.specs.Answers.{Told, plain_reply, xid_of, has_header, is_auth_refusal}
use Rattle.zk_service.specs.declared.cause.Cause.{Cause}
use Rattle.zk_service.specs.declared.cause.Cause.TheVariants as cause
use Rattle.zn_layout.specs.declared.entry.Entry.{Entry}
use Rattle.zn_view.specs.Adding.{IsFirstDamaged, at_revision}
use Rattle.zn_view.specs.Asks.{with_parts}
use Rattle.zn_view.specs.Keeping.{update_path}
use Rattle.zn_view.specs.Lookups.{found_at}
use Rattle.zn_view.specs.Seen.{View, empty_view}
use Rattle.zn_view.specs.declared.plan.Decision.{Decision}
use Rattle.zn_view.specs.declared.plan.Decision.TheVariants.{Answered, Planned, Expired, Moved}
use Rattle.zn_view.specs.declared.plan.Plan.{Plan}
use Rattle.zn_view.specs.declared.want.Want.{Want}
use Rattle.zs_session.specs.Alive.{is_alive_due}
use Rattle.zs_session.specs.Answering.{OfTxn, viewed}
use Rattle.zs_session.specs.Connecting.{IsConnectFault}
use Rattle.zs_session.specs.Sessions.{attach_wants, life_key}
use Rattle.zs_session.specs.declared.connect.Connect.{Connect}
use Rattle.zs_session.specs.declared.connect.ConnectStep.{ConnectStep}
use Rattle.zs_session.specs.declared.connect.ConnectStep.TheVariants as steps
use Rattle.zk_service.specs.declared.fresh.Fresh.{Fresh}
use Rattle.zs_session.specs.declared.fault.StepFault.TheVariants as faults
use Rattle.zx_base.specs.Maps.{Bytes}
use Rattle.zp_step.proofs.Cases.{of_alive}
use Rattle.zp_step.proofs.Beside.{PlansBeside, first-or-anew}
use Rattle.zp_step.proofs.Shutting.{shut-for-good, steps-open}
use Rattle.zp_step.specs.Connects.{Connects, Opens, begun, connected}
use Rattle.zp_step.specs.Entries.{entered, then_reply}
use Rattle.zp_step.specs.Keepalives.{Looked, StillMine, TakesUp, checks, keeps_alive}
use Rattle.zp_step.specs.Kept.{keeps}
use Rattle.zp_step.specs.Looking.{IfRecords, Looks, asks_for, change_by, decided, expired, guessed, max_ranges, moved, pending}
use Rattle.zp_step.specs.Plans.{Committed, end_after, finishes}
use Rattle.zp_step.specs.Replies.{Is, close_after, closed_by, is_due, replied, send_notices, stage_after, waits}
use Rattle.zp_step.specs.Stages.{Core, Pending, Stage, Unconnected, Connecting, Ready, KeepingAlive, Checking, Reading, Committing, Waiting, Shut, is_shut, seen_by}
use Rattle.zp_step.specs.Steps.{Answers, Comes, Goes, Handles, Steps, with_frame_counted, queued, rests, takes}
use Rattle.zp_step.specs.Taking.{TakesFrame, TakesReadable, end_of_plain, plainly}
use Rattle.zp_step.specs.declared.action.Action.{Action}
use Rattle.zp_step.specs.declared.action.Action.TheVariants as action
use Rattle.zp_step.specs.declared.input.Input.{Input}
use Rattle.zp_step.specs.declared.input.Input.TheVariants as input
use Rattle.zx_base.proofs.Booleans.{either}

-- ---- causes

-- these are outside a replay; and so is a damaged value, where that is to be shown too
abbrev pub never : Cause → Bool → Bool
never cause.ReadFault damage = true
never cause.WriteFault damage = true
never cause.FeedClosed damage = true
never cause.Memory damage = true
never (cause.Damaged key value) damage = damage
never _ damage = false

abbrev pub Fine : Bool → Cause → Type 0
Fine damage why = never why damage ≡ false

abbrev pub EndsFine : Bool → Option Cause → Type 0
EndsFine damage None = Unit {0}
EndsFine damage (Some why) = Fine damage why

-- what is done closes for such a cause alone
abbrev pub AreFine : Bool → List Action → Type 0
AreFine damage [] = Unit {0}
AreFine damage (action.Send bytes ∷ out) = AreFine damage out
AreFine damage (action.Ask a ∷ out) = AreFine damage out
AreFine damage (action.Close why ∷ out) = Fine damage why × AreFine damage out

-- so does a reply that waits
abbrev pub IsFineIn : Bool → Stage → Type 0
IsFineIn damage (Unconnected fresh) = Unit {0}
IsFineIn damage (Connecting x) = Unit {0}
IsFineIn damage Ready = Unit {0}
IsFineIn damage (KeepingAlive f) = Unit {0}
IsFineIn damage (Checking f) = Unit {0}
IsFineIn damage (Reading xid r v ws) = Unit {0}
IsFineIn damage (Committing xid r v p time) = Unit {0}
IsFineIn damage (Waiting p) = EndsFine damage p.ends
IsFineIn damage Shut = Unit {0}

pub record Finely (damage : Bool) (c' : Core) (out : List Action) : Type 0 where
  pub stage : IsFineIn damage c'.stage
  pub acts : AreFine damage out

-- ---- where a damaged value is found

abbrev pub CommitFinds : Plan → Bytes → Bytes → Bool → List ActAns → Type 0
CommitFinds p key value true parts = ⊥
CommitFinds p key value false parts = IsFirstDamaged p.again parts key value

abbrev pub FindsIn : Core → Answer → Bytes → Bytes → Stage → Type 0
FindsIn c a key value (Connecting x) = IsConnectFault x (Some a) (faults.Damaged key value)
FindsIn c a key value (Checking f) = OfTxn a (λ z b parts. IsFirstDamaged (attach_wants c.who.session) parts key value)
FindsIn c a key value (Reading xid r v ws) = OfTxn a (λ z b parts. IsFirstDamaged ws parts key value)
FindsIn c a key value (Committing xid r v p time) = OfTxn a (λ z b parts. CommitFinds p key value b parts)
FindsIn c a key value _ = ⊥

abbrev pub Finds : Core → Bytes → Bytes → Input → Type 0
Finds c key value (input.Answer a) = FindsIn c a key value c.stage
Finds c key value _ = ⊥

-- one is found only where that is not to be shown
abbrev pub Undamaged : Bool → Core → Input → Type 0
Undamaged damage c i = (key value : Bytes) → Finds c key value i → damage ≡ false

abbrev pub is_feed : Input → Bool
is_feed input.FeedClosed = true
is_feed _ = false

as_txn : (a : Answer) (P : ℤ → Bool → List ActAns → Type 0) (R : Type 0) → OfTxn a P → ((z : ℤ) (b : Bool) (parts : List ActAns) → a ≡ answer.Txn z b parts → P z b parts → R) → R
as_txn (answer.Txn z b parts) P R h f = f z b parts refl h
as_txn (answer.Range z found) P R h f = absurd h
as_txn (answer.Granted z id ttl) P R h f = absurd h
as_txn (answer.Alive z id ttl) P R h f = absurd h

module _ (damage : Bool) where
  -- ---- what is done

  pub fine-append : (first later : List Action) → AreFine damage first → AreFine damage later → AreFine damage (first ++ later)
  fine-append [] later f g = g
  fine-append (action.Send bytes ∷ first) later f g = fine-append first later f g
  fine-append (action.Ask a ∷ first) later f g = fine-append first later f g
  fine-append (action.Close why ∷ first) later f g = (f.0, fine-append first later f.1 g)

  fine-notices : (ns : List Notice) → AreFine damage (send_notices ns)
  fine-notices [] = tt
  fine-notices (n ∷ ns) = fine-notices ns

  fine-close : (o : Option Cause) → EndsFine damage o → AreFine damage (close_after o)
  fine-close None f = tt
  fine-close (Some why) f = (f, tt)

  fine-after : (o : Option Cause) → IsFineIn damage (stage_after o)
  fine-after None = tt
  fine-after (Some why) = tt

  fine-replied : (c : Core) (p : Pending) → EndsFine damage p.ends → Finely damage (replied c p).0 (replied c p).1
  fine-replied c p f =
      record { stage = fine-after p.ends; acts = fine-append (send_notices (seen_by p.change c.watches).notices) _ (fine-notices (seen_by p.change c.watches).notices) (fine-close p.ends f) }

  fine-waits : (c : Core) (p : Pending) → EndsFine damage p.ends → Finely damage (waits c p).0 (waits c p).1
  fine-waits c p f = go (is_due c p)
    where
      go : (b : Bool) → Finely damage (if b then replied c p else (record c { stage = Waiting p }, [])).0 (if b then replied c p else (record c { stage = Waiting p }, [])).1
      go true = fine-replied c p f
      go false = record { stage = f; acts = tt }

  fine-decided : (c : Core) (xid : ℤ) (r : Request) (v : View) (now : ℕ) (d : Decision) → Finely damage (decided c xid r v now d).0 (decided c xid r v now d).1
  fine-decided c xid r v now (Answered answer arm) = fine-waits c (pending v xid answer (change_by r v arm) None) tt
  fine-decided c xid r v now (Planned p) = record { stage = tt; acts = tt }
  fine-decided c xid r v now Expired = fine-waits c (expired v xid) refl
  fine-decided c xid r v now (Moved found) = fine-waits c (moved c.who v found xid) refl

  fine-end : (r : Request) → EndsFine damage (end_after r)
  fine-end (req.Create p d a f) = tt
  fine-end (req.Delete p n) = tt
  fine-end (req.SetData p d n) = tt
  fine-end (req.Exists p x) = tt
  fine-end (req.GetData p x) = tt
  fine-end (req.GetAcl p) = tt
  fine-end (req.GetChildren p x) = tt
  fine-end (req.GetChildren2 p x) = tt
  fine-end (req.Check p n) = tt
  fine-end (req.SetWatches since exists datas children) = tt
  fine-end req.Close = refl
  fine-end (req.Sync p) = tt
  fine-end req.Ping = tt
  fine-end (req.Auth kind scheme auth) = tt
  fine-end (req.Multi parts) = tt
  fine-end (req.Create2 p d a f) = tt
  fine-end (req.CheckWatches p k) = tt
  fine-end (req.RemoveWatches p k) = tt

  fine-plain : (b : Bool) → EndsFine damage (end_of_plain b)
  fine-plain true = refl
  fine-plain false = tt

  fine-connected : (c : Core) (now : ℕ) (new : Connect) (step : ConnectStep) → Finely damage (connected c now new step).0 (connected c now new step).1
  fine-connected c now new (steps.Ask q) = record { stage = tt; acts = tt }
  fine-connected c now new (steps.Attached response who timeout number zxid) = record { stage = tt; acts = tt }
  fine-connected c now new (steps.Ahead client head) = record { stage = tt; acts = (refl, tt) }
  fine-connected c now new steps.Unknown = record { stage = tt; acts = (refl, tt) }
  fine-connected c now new (steps.Taken revision) = record { stage = tt; acts = (refl, tt) }

module _ (damage : Bool) (now : ℕ) (c' : Core) (out : List Action) where
  fine-is : (x : Core × List Action) → Finely damage x.0 x.1 → Is x c' out → Finely damage c' out
  fine-is x f i = subst (λ (d : Core). Finely damage d out) (sym i.0) (subst (λ o. Finely damage x.0 o) (sym i.1) f)

  fine-closed : (c : Core) (why : Cause) → Fine damage why → Is (closed_by c why) c' out → Finely damage c' out
  fine-closed c why f i = fine-is (closed_by c why) (record { stage = tt; acts = (f, tt) }) i

  -- ---- on a view

  fine-looks : (c : Core) (xid : ℤ) (r : Request) (v : View) → Looks c xid r v now c' out → Finely damage c' out
  fine-looks c xid r v (inl y) = fine-is (asks_for c xid r v (take max_ranges y.lacking)) (record { stage = tt; acts = tt }) y.is
  fine-looks c xid r v (inr (inl y)) = fine-is (decided c xid r (guessed v y.key) now (Planned y.plan)) (record { stage = tt; acts = tt }) y.is
  fine-looks c xid r v (inr (inr y)) = fine-is (decided (keeps c r v) xid r v now y.decision) (fine-decided damage (keeps c r v) xid r v now y.decision) y.is

  fine-records : (c : Core) (ws : List Want) (parts : List ActAns) (Next : Type 0) → ((key value : Bytes) → IsFirstDamaged ws parts key value → damage ≡ false) → (Next → Finely damage c' out) → IfRecords c ws parts c' out Next → Finely damage c' out
  fine-records c ws parts Next u f (inl e) = fine-closed c (cause.Damaged e.key e.value) (u e.key e.value e.found) e.is
  fine-records c ws parts Next u f (inr h) = f h.1

  -- ---- a frame is taken up

  fine-readable : (c : Core) (x : Frame) (o : Option Told) → TakesReadable c now c' out x o → Finely damage c' out
  fine-readable c x (Some t) h =
      let ends = end_of_plain (is_auth_refusal t.reply) in
      fine-is (plainly c (xid_of x) t) (record { stage = fine-after damage ends; acts = fine-close damage ends (fine-plain damage (is_auth_refusal t.reply)) }) h
  fine-readable c NoHeader None h = absurd h
  fine-readable c (Unreadable xid place) None h = absurd h
  fine-readable c (Unknown xid kind) None h = absurd h
  fine-readable c (Asks xid r) None h = go (first-or-anew c c' xid r now out (update_path r) h)
    where
      go : PlansBeside c xid r now c' out ⊎ Looks c xid r empty_view now c' out → Finely damage c' out
      go (inl y) = fine-is (decided (record c { views = y.views }) xid r y.view now (Planned y.plan)) (record { stage = tt; acts = tt }) y.is
      go (inr y) = fine-looks c xid r empty_view y

  fine-takes : (c : Core) (bytes : List ℕ) → TakesFrame c bytes now c' out → Finely damage c' out
  fine-takes c bytes h = fine-readable c (read_request bytes) (plain_reply c.watches (read_request bytes)) h

  fine-takes_up : (c : Core) (bytes : List ℕ) → TakesUp c bytes now c' out → Finely damage c' out
  fine-takes_up c bytes h =
      either (is_alive_due c.kept now c.timeout) (Is (keeps_alive c bytes now) c' out) (TakesFrame c bytes now c' out) (Finely damage c' out) h
      (fine-is (keeps_alive c bytes now) (record { stage = tt; acts = tt }))
      (fine-takes c bytes)

  -- ---- an answer

  fine-still : (c : Core) (bytes : List ℕ) (v : View) (o : Option Kv) → StillMine c bytes v now c' out o → Finely damage c' out
  fine-still c bytes v None h = fine-is (waits c (expired v (xid_of (read_request bytes)))) (fine-waits damage c (expired v (xid_of (read_request bytes))) refl) h
  fine-still c bytes v (Some kv) h =
      let p = moved c.who v kv.mod_revision (xid_of (read_request bytes)) in
      either (int_eq kv.mod_revision c.who.mine) (TakesFrame c bytes now c' out) (Is (waits c p) c' out) (Finely damage c' out) h (fine-takes c bytes) (fine-is (waits c p) (fine-waits damage c p refl))

  fine-committed : (c : Core) (xid : ℤ) (r : Request) (u : View) (p : Plan) (z : ℤ) (b : Bool) (parts : List ActAns) → ((key value : Bytes) → CommitFinds p key value b parts → damage ≡ false) → Committed c xid r u p now c' out z b parts → Finely damage c' out
  fine-committed c xid r u p z true parts k h = fine-is (waits h.kept (finishes xid r p z parts)) (fine-waits damage h.kept (finishes xid r p z parts) (fine-end damage r)) h.is
  fine-committed c xid r u p z false parts k h = let y = viewed z p.again parts in fine-records c p.again parts (Looks c xid r y now c' out) k (fine-looks c xid r y) h

  fine-connects : (c : Core) (x : Connect) (a : Option Answer) → ((key value : Bytes) → IsConnectFault x a (faults.Damaged key value) → damage ≡ false) → Connects c x a now c' out → Finely damage c' out
  fine-connects c x a k (inl e) = fine-closed c (cause.Damaged e.key e.value) (k e.key e.value e.found) e.is
  fine-connects c x a k (inr s) = fine-is (connected c now s.new s.step) (fine-connected damage c now s.new s.step) s.is

  fine-answers : (c : Core) (a : Answer) (st : Stage) → ((key value : Bytes) → FindsIn c a key value st → damage ≡ false) → Answers c a now c' out st → Finely damage c' out
  fine-answers c a (Connecting x) k h = fine-connects c x (Some a) k h
  fine-answers c a (KeepingAlive f) k h = of_alive a _ (Finely damage c' out) h (λ ttl g.
      either (int_eq ttl (pos 0)) (Is (checks c f) c' out) (TakesFrame c f now c' out) (Finely damage c' out) g (fine-is (checks c f) (record { stage = tt; acts = tt })) (fine-takes c f))
  fine-answers c a (Checking f) k h = as_txn a _ (Finely damage c' out) h (λ z b parts e g.
      let v = viewed z (attach_wants c.who.session) parts in
      fine-records c (attach_wants c.who.session) parts (Looked c f now c' out v) (λ key value d. k key value (subst (λ y. FindsIn c y key value (Checking f)) (sym e) d)) (fine-still c f v (found_at v (life_key c.who.session))) g)
  fine-answers c a (Reading xid r v ws) k h = as_txn a _ (Finely damage c' out) h (λ z b parts e g.
      let y = with_parts (at_revision v z) ws parts in
      fine-records c ws parts (Looks c xid r y now c' out) (λ key value d. k key value (subst (λ t. FindsIn c t key value (Reading xid r v ws)) (sym e) d)) (fine-looks c xid r y) g)
  fine-answers c a (Committing xid r v p m) k h = as_txn a _ (Finely damage c' out) h (λ z b parts e g. fine-committed c xid r v p z b parts (λ key value d. k key value (subst (λ t. FindsIn c t key value (Committing xid r v p m)) (sym e) d)) g)
  fine-answers c a (Unconnected fresh) k h = absurd h
  fine-answers c a Ready k h = absurd h
  fine-answers c a (Waiting p) k h = absurd h
  fine-answers c a Shut k h = absurd h

  -- ---- a frame comes, and an entry

  fine-queued : (c : Core) (f : List ℕ) → IsFineIn damage c.stage → MatchBool (has_header (read_request f)) (Is (queued c f, []) c' out) (Is (closed_by c (cause.NoHeader c.taken)) c' out) → Finely damage c' out
  fine-queued c f fine h =
      either (has_header (read_request f)) (Is (queued c f, []) c' out) (Is (closed_by c (cause.NoHeader c.taken)) c' out) (Finely damage c' out) h (fine-is (queued c f, []) (record { stage = fine; acts = tt })) (fine-closed c (cause.NoHeader c.taken) refl)

  fine-opens : (c : Core) (f : List ℕ) (fresh : Fresh) (o : Option ConnectRequest) → Opens (with_frame_counted c f) c.taken fresh now c' out o → Finely damage c' out
  fine-opens c f fresh None h = fine-closed (with_frame_counted c f) (cause.NoHeader c.taken) refl h
  fine-opens c f fresh (Some r) h = fine-connects (with_frame_counted c f) (begun r fresh) None (λ key value d. absurd d) h

  fine-comes : (c : Core) (f : List ℕ) (st : Stage) → IsFineIn damage c.stage → Comes c f now c' out st → Finely damage c' out
  fine-comes c f (Unconnected fresh) fine h = fine-opens c f fresh (read_connect f) h
  fine-comes c f (Connecting x) fine h = fine-queued c f fine h
  fine-comes c f Ready fine h = fine-queued c f fine h
  fine-comes c f (KeepingAlive g) fine h = fine-queued c f fine h
  fine-comes c f (Checking g) fine h = fine-queued c f fine h
  fine-comes c f (Reading xid r v ws) fine h = fine-queued c f fine h
  fine-comes c f (Committing xid r v p m) fine h = fine-queued c f fine h
  fine-comes c f (Waiting p) fine h = fine-queued c f fine h
  fine-comes c f Shut fine h = fine-queued c f fine h

  fine-told : (c : Core) (e : Entry) → IsFineIn damage c.stage → Is (entered c e) c' out → Finely damage c' out
  fine-told c e fine h = fine-is (entered c e) (record { stage = fine; acts = fine-notices damage (fire_all c.watches e.triggers).1 }) h

  fine-entry : (c : Core) (e : Entry) (st : Stage) → IsFineIn damage c.stage → IsFineIn damage st → Is (then_reply (entered c e) st) c' out → Finely damage c' out
  fine-entry c e (Waiting p) fine ends h =
      let w = fine-waits damage (entered c e).0 p ends in
      fine-is (then_reply (entered c e) (Waiting p)) (record { stage = w.stage; acts = fine-append damage (entered c e).1 (waits (entered c e).0 p).1 (fine-notices damage (fire_all c.watches e.triggers).1) w.acts }) h
  fine-entry c e (Unconnected fresh) fine ends h = fine-told c e fine h
  fine-entry c e (Connecting x) fine ends h = fine-told c e fine h
  fine-entry c e Ready fine ends h = fine-told c e fine h
  fine-entry c e (KeepingAlive f) fine ends h = fine-told c e fine h
  fine-entry c e (Checking f) fine ends h = fine-told c e fine h
  fine-entry c e (Reading xid r v ws) fine ends h = fine-told c e fine h
  fine-entry c e (Committing xid r v p m) fine ends h = fine-told c e fine h
  fine-entry c e Shut fine ends h = fine-told c e fine h

  fine-handles : (c : Core) (i : Input) → is_feed i ≡ false → Undamaged damage c i → IsFineIn damage c.stage → Handles c i now c' out → Finely damage c' out
  fine-handles c (input.Frame f) q k fine h = fine-comes c f c.stage fine h
  fine-handles c (input.Answer a) q k fine h = fine-answers c a c.stage k h
  fine-handles c (input.Entry e) q k fine h = fine-entry c (arc_value e) c.stage fine fine h
  fine-handles c input.Failed q k fine h = fine-closed c cause.LinkFault refl h
  fine-handles c (input.BadLength place n) q k fine h = fine-closed c (cause.BadLength place n) refl h
  fine-handles c (input.Lagged cursor floor) q k fine h = fine-closed c (cause.Lagged cursor floor) refl h
  fine-handles c input.FeedClosed q k fine h = absurd (cc)
  fine-handles c (input.ClientEnd place) q k fine h = fine-closed c (cause.ClientEnd place) refl h

-- ---- a step

fine-goes : (damage : Bool) (now : ℕ) (c c' : Core) (out : List Action) → IsFineIn damage c.stage → Goes now c c' out → Finely damage c' out
fine-goes damage now c c' out fine (rests why same none) = subst (λ (d : Core). Finely damage d out) (sym same) (subst (λ o. Finely damage c o) (sym none) (record { stage = fine; acts = tt }))
fine-goes damage now c c' out fine (takes d frame more first later ready w t g o) =
    let one = fine-takes_up damage now d first (record c { waiting = more }) frame t in
    let rest = fine-goes damage now d c' later one.stage g in
    record { stage = rest.stage; acts = subst (λ l. AreFine damage l) (sym o) (fine-append damage first later one.acts rest.acts) }

pub fine-steps : (damage : Bool) (c c' : Core) (i : Input) (now : ℕ) (out : List Action) → is_feed i ≡ false → Undamaged damage c i → IsFineIn damage c.stage → Steps c i now c' out → Finely damage c' out
fine-steps damage c c' i now out q k fine h = go (is_shut c.stage) refl
  where
    go : (b : Bool) → is_shut c.stage ≡ b → Finely damage c' out
    go true e =
        let s = shut-for-good c c' i now out e h in
        subst (λ (d : Core). Finely damage d out) (sym s.0) (subst (λ o. Finely damage c o) (sym s.1) (record { stage = fine; acts = tt }))
    go false e =
        let s = steps-open c c' i now out e h in
        let one = fine-handles damage now s.mid s.first c i q k fine s.handled in
        let rest = fine-goes damage now s.mid c' s.later one.stage s.goes in
        record { stage = rest.stage; acts = subst (λ l. AreFine damage l) (sym s.joined) (fine-append damage s.first s.later one.acts rest.acts) }
