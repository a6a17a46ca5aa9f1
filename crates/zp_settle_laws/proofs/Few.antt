-- A round looks up few things at once: after each step, where it did so before.
use Rattle.std.proofs.Common.{◌≡◌, ℕ, ◌≤◌, List, [], length, take, min, refl, sym, subst, arith, Bool, true, false, ℤ, pos, inl, inr}
use Rattle.std.specs.Prelude.{Option, Some, None, ◌⊎◌, if◌then◌else◌, MatchBool}
use Rattle.std.specs.Arc.{arc_value}
use Rattle.std.specs.Ordering.{int_eq}
use Rattle.std.proofs.lemmas.Bool.Decides.{nat_tests}
use Rattle.std.proofs.lemmas.List.{length-take}
use Rattle.ev_types.specs.declared.answer.ActAns.{ActAns}
use Rattle.ev_types.specs.declared.answer.Answer.{Answer}
use Rattle.ev_types.specs.declared.answer.Kv.{Kv}
use Rattle.zk_jute.specs.Connects.{read_connect}
use Rattle.zk_jute.specs.Requests.{Frame, NoHeader, Unreadable, Unknown, Asks, read_request}
use Rattle.zk_model.specs.declared.connect.ConnectRequest.{ConnectRequest}
use Rattle.zk_model.specs.declared.request.Request.{Request}
use Rattle.zk_service.specs.Answers.{Told, plain_reply, xid_of, has_header, is_auth_refusal}
use Rattle.zk_service.specs.declared.cause.Cause.{Cause}
use Rattle.zk_service.specs.declared.cause.Cause.TheVariants as cause
use Rattle.zn_layout.specs.declared.entry.Entry.{Entry}
use Rattle.zn_view.specs.Adding.{at_revision}
use Rattle.zn_view.specs.Asks.{with_parts}
use Rattle.zn_view.specs.Lookups.{found_at}
use Rattle.zn_view.specs.Seen.{View, empty_view}
use Rattle.zn_view.specs.declared.plan.Decision.{Decision}
use Rattle.zn_view.specs.declared.plan.Decision.TheVariants.{Answered, Planned, Expired, Moved}
use Rattle.zn_view.specs.declared.plan.Plan.{Plan}
use Rattle.zn_view.specs.declared.want.Want.{Want}
use Rattle.zs_session.specs.Alive.{is_alive_due}
use Rattle.zs_session.specs.Answering.{viewed}
use Rattle.zs_session.specs.Sessions.{attach_wants, life_key}
use Rattle.zs_session.specs.declared.connect.Connect.{Connect}
use Rattle.zs_session.specs.declared.connect.ConnectStep.{ConnectStep}
use Rattle.zs_session.specs.declared.connect.ConnectStep.TheVariants as steps
use Rattle.zp_step.proofs.Cases.{of_alive, of_txn}
use Rattle.zp_step.specs.Kept.{keeps}
use Rattle.zn_view.specs.Keeping.{update_path}
use Rattle.zp_step.proofs.Beside.{PlansBeside, first-or-anew}
use Rattle.zp_step.proofs.Shutting.{shut-for-good, steps-open}
use Rattle.zp_step.specs.Connects.{Connects, Opens, begun, connected}
use Rattle.zp_step.specs.Entries.{entered, then_reply}
use Rattle.zp_step.specs.Keepalives.{Looked, StillMine, TakesUp, checks, keeps_alive}
use Rattle.zp_step.specs.Looking.{IfRecords, Looks, asks_for, change_by, decided, expired, guessed, max_ranges, moved, pending}
use Rattle.zp_step.specs.Plans.{Committed, finishes}
use Rattle.zp_step.specs.Replies.{Is, closed_by, is_due, replied, stage_after, waits}
use Rattle.zp_step.specs.Stages.{Core, Pending, Stage, Unconnected, Connecting, Ready, KeepingAlive, Checking, Reading, Committing, Waiting, Shut, is_shut}
use Rattle.zp_step.specs.Steps.{Answers, Comes, Goes, Handles, Steps, with_frame_counted, queued, rests, takes}
use Rattle.zp_step.specs.Taking.{TakesFrame, TakesReadable, end_of_plain, plainly}
use Rattle.zp_step.specs.declared.action.Action.{Action}
use Rattle.zp_step.specs.declared.input.Input.{Input}
use Rattle.zp_step.specs.declared.input.Input.TheVariants as input
use Rattle.zp_settle_laws.proofs.Room.{AsksFew}
use Rattle.zx_base.proofs.Booleans.{either}

at-most : (ws : List Want) → length (take max_ranges ws) ≤ max_ranges
at-most ws = let e : length (take max_ranges ws) ≡ min max_ranges (length ws) = length-take max_ranges ws in grind (arith, nat_tests, e)

few-after : (o : Option Cause) → AsksFew (stage_after o)
few-after None = tt
few-after (Some why) = tt

few-waits : (c : Core) (p : Pending) → AsksFew (waits c p).0.stage
few-waits c p = go (is_due c p)
  where
    go : (b : Bool) → AsksFew (if b then replied c p else (record c { stage = Waiting p }, [])).0.stage
    go true = few-after p.ends
    go false = tt

few-decided : (c : Core) (xid : ℤ) (r : Request) (v : View) (now : ℕ) (d : Decision) → AsksFew (decided c xid r v now d).0.stage
few-decided c xid r v now (Answered answer arm) = few-waits c (pending v xid answer (change_by r v arm) None)
few-decided c xid r v now (Planned p) = tt
few-decided c xid r v now Expired = few-waits c (expired v xid)
few-decided c xid r v now (Moved found) = few-waits c (moved c.who v found xid)

few-connected : (c : Core) (now : ℕ) (new : Connect) (step : ConnectStep) → AsksFew (connected c now new step).0.stage
few-connected c now new (steps.Ask q) = tt
few-connected c now new (steps.Attached response who timeout number zxid) = tt
few-connected c now new (steps.Ahead client head) = tt
few-connected c now new steps.Unknown = tt
few-connected c now new (steps.Taken revision) = tt

module _ (now : ℕ) (c' : Core) (out : List Action) where
  few-is : (x : Core × List Action) → AsksFew x.0.stage → Is x c' out → AsksFew c'.stage
  few-is x few i = subst (λ (d : Core). AsksFew d.stage) (sym i.0) few

  few-closed : (c : Core) (why : Cause) → Is (closed_by c why) c' out → AsksFew c'.stage
  few-closed c why i = few-is (closed_by c why) tt i

  -- ---- on a view

  few-looks : (c : Core) (xid : ℤ) (r : Request) (v : View) → Looks c xid r v now c' out → AsksFew c'.stage
  few-looks c xid r v (inl y) = few-is (asks_for c xid r v (take max_ranges y.lacking)) (at-most y.lacking) y.is
  few-looks c xid r v (inr (inl y)) = few-is (decided c xid r (guessed v y.key) now (Planned y.plan)) tt y.is
  few-looks c xid r v (inr (inr y)) = few-is (decided (keeps c r v) xid r v now y.decision) (few-decided (keeps c r v) xid r v now y.decision) y.is

  few-records : (c : Core) (ws : List Want) (parts : List ActAns) (Next : Type 0) → (Next → AsksFew c'.stage) → IfRecords c ws parts c' out Next → AsksFew c'.stage
  few-records c ws parts Next f (inl e) = few-closed c (cause.Damaged e.key e.value) e.is
  few-records c ws parts Next f (inr h) = f h.1

  -- ---- a frame is taken up

  few-readable : (c : Core) (x : Frame) (o : Option Told) → TakesReadable c now c' out x o → AsksFew c'.stage
  few-readable c x (Some t) h = few-is (plainly c (xid_of x) t) (few-after (end_of_plain (is_auth_refusal t.reply))) h
  few-readable c NoHeader None h = absurd h
  few-readable c (Unreadable xid place) None h = absurd h
  few-readable c (Unknown xid kind) None h = absurd h
  few-readable c (Asks xid r) None h = go (first-or-anew c c' xid r now out (update_path r) h)
    where
      go : PlansBeside c xid r now c' out ⊎ Looks c xid r empty_view now c' out → AsksFew c'.stage
      go (inl y) = few-is (decided (record c { views = y.views }) xid r y.view now (Planned y.plan)) tt y.is
      go (inr y) = few-looks c xid r empty_view y

  few-takes : (c : Core) (bytes : List ℕ) → TakesFrame c bytes now c' out → AsksFew c'.stage
  few-takes c bytes h = few-readable c (read_request bytes) (plain_reply c.watches (read_request bytes)) h

  few-takes_up : (c : Core) (bytes : List ℕ) → TakesUp c bytes now c' out → AsksFew c'.stage
  few-takes_up c bytes h =
      either (is_alive_due c.kept now c.timeout) (Is (keeps_alive c bytes now) c' out) (TakesFrame c bytes now c' out) (AsksFew c'.stage) h
      (few-is (keeps_alive c bytes now) tt)
      (few-takes c bytes)

  -- ---- an answer

  few-still : (c : Core) (bytes : List ℕ) (v : View) (o : Option Kv) → StillMine c bytes v now c' out o → AsksFew c'.stage
  few-still c bytes v None h = few-is (waits c (expired v (xid_of (read_request bytes)))) (few-waits c (expired v (xid_of (read_request bytes)))) h
  few-still c bytes v (Some kv) h =
      let p = moved c.who v kv.mod_revision (xid_of (read_request bytes)) in
      either (int_eq kv.mod_revision c.who.mine) (TakesFrame c bytes now c' out) (Is (waits c p) c' out) (AsksFew c'.stage) h (few-takes c bytes) (few-is (waits c p) (few-waits c p))

  few-committed : (c : Core) (xid : ℤ) (r : Request) (u : View) (p : Plan) (z : ℤ) (b : Bool) (parts : List ActAns) → Committed c xid r u p now c' out z b parts → AsksFew c'.stage
  few-committed c xid r u p z true parts h = few-is (waits h.kept (finishes xid r p z parts)) (few-waits h.kept (finishes xid r p z parts)) h.is
  few-committed c xid r u p z false parts h = let y = viewed z p.again parts in few-records c p.again parts (Looks c xid r y now c' out) (few-looks c xid r y) h

  few-connects : (c : Core) (x : Connect) (a : Option Answer) → Connects c x a now c' out → AsksFew c'.stage
  few-connects c x a (inl e) = few-closed c (cause.Damaged e.key e.value) e.is
  few-connects c x a (inr s) = few-is (connected c now s.new s.step) (few-connected c now s.new s.step) s.is

  few-answers : (c : Core) (a : Answer) (st : Stage) → Answers c a now c' out st → AsksFew c'.stage
  few-answers c a (Connecting x) h = few-connects c x (Some a) h
  few-answers c a (KeepingAlive f) h = of_alive a _ (AsksFew c'.stage) h (λ ttl g. either (int_eq ttl (pos 0)) (Is (checks c f) c' out) (TakesFrame c f now c' out) (AsksFew c'.stage) g (few-is (checks c f) tt) (few-takes c f))
  few-answers c a (Checking f) h = of_txn a _ (AsksFew c'.stage) h (λ z b parts g.
      let v = viewed z (attach_wants c.who.session) parts in
      few-records c (attach_wants c.who.session) parts (Looked c f now c' out v) (few-still c f v (found_at v (life_key c.who.session))) g)
  few-answers c a (Reading xid r v ws) h = of_txn a _ (AsksFew c'.stage) h (λ z b parts g. let y = with_parts (at_revision v z) ws parts in few-records c ws parts (Looks c xid r y now c' out) (few-looks c xid r y) g)
  few-answers c a (Committing xid r v p m) h = of_txn a _ (AsksFew c'.stage) h (λ z b parts g. few-committed c xid r v p z b parts g)
  few-answers c a (Unconnected fresh) h = absurd h
  few-answers c a Ready h = absurd h
  few-answers c a (Waiting p) h = absurd h
  few-answers c a Shut h = absurd h

  -- ---- a frame comes, and an entry

  few-queued : (c : Core) (f : List ℕ) → AsksFew c.stage → MatchBool (has_header (read_request f)) (Is (queued c f, []) c' out) (Is (closed_by c (cause.NoHeader c.taken)) c' out) → AsksFew c'.stage
  few-queued c f few h =
      either (has_header (read_request f)) (Is (queued c f, []) c' out) (Is (closed_by c (cause.NoHeader c.taken)) c' out) (AsksFew c'.stage) h (few-is (queued c f, []) few) (few-closed c (cause.NoHeader c.taken))

  few-opens : (c : Core) (f : List ℕ) (fresh : _) (o : Option ConnectRequest) → Opens (with_frame_counted c f) c.taken fresh now c' out o → AsksFew c'.stage
  few-opens c f fresh None h = few-closed (with_frame_counted c f) (cause.NoHeader c.taken) h
  few-opens c f fresh (Some r) h = few-connects (with_frame_counted c f) (begun r fresh) None h

  few-comes : (c : Core) (f : List ℕ) (st : Stage) → AsksFew c.stage → Comes c f now c' out st → AsksFew c'.stage
  few-comes c f (Unconnected fresh) few h = few-opens c f fresh (read_connect f) h
  few-comes c f (Connecting x) few h = few-queued c f few h
  few-comes c f Ready few h = few-queued c f few h
  few-comes c f (KeepingAlive g) few h = few-queued c f few h
  few-comes c f (Checking g) few h = few-queued c f few h
  few-comes c f (Reading xid r v ws) few h = few-queued c f few h
  few-comes c f (Committing xid r v p m) few h = few-queued c f few h
  few-comes c f (Waiting p) few h = few-queued c f few h
  few-comes c f Shut few h = few-queued c f few h

  few-entry : (c : Core) (e : Entry) (st : Stage) → AsksFew c.stage → Is (then_reply (entered c e) st) c' out → AsksFew c'.stage
  few-entry c e (Waiting p) few h = few-is (then_reply (entered c e) (Waiting p)) (few-waits (entered c e).0 p) h
  few-entry c e (Unconnected fresh) few h = few-is (entered c e) few h
  few-entry c e (Connecting x) few h = few-is (entered c e) few h
  few-entry c e Ready few h = few-is (entered c e) few h
  few-entry c e (KeepingAlive f) few h = few-is (entered c e) few h
  few-entry c e (Checking f) few h = few-is (entered c e) few h
  few-entry c e (Reading xid r v ws) few h = few-is (entered c e) few h
  few-entry c e (Committing xid r v p m) few h = few-is (entered c e) few h
  few-entry c e Shut few h = few-is (entered c e) few h

  few-handles : (c : Core) (i : Input) → AsksFew c.stage → Handles c i now c' out → AsksFew c'.stage
  few-handles c (input.Frame f) few h = few-comes c f c.stage few h
  few-handles c (input.Answer a) few h = few-answers c a c.stage h
  few-handles c (input.Entry e) few h = few-entry c (arc_value e) c.stage few h
  few-handles c input.Failed few h = few-closed c cause.LinkFault h
  few-handles c (input.BadLength place n) few h = few-closed c (cause.BadLength place n) h
  few-handles c (input.Lagged cursor floor) few h = few-closed c (cause.Lagged cursor floor) h
  few-handles c input.FeedClosed few h = few-closed c cause.FeedClosed h
  few-handles c (input.ClientEnd place) few h = few-closed c (cause.ClientEnd place) h

-- ---- a step

few-goes : (now : ℕ) (c c' : Core) (out : List Action) → AsksFew c.stage → Goes now c c' out → AsksFew c'.stage
few-goes now c c' out few (rests why same none) = subst (λ (d : Core). AsksFew d.stage) (sym same) few
few-goes now c c' out few (takes d frame more first later ready w t g o) = few-goes now d c' later (few-takes_up now d first (record c { waiting = more }) frame t) g

pub few-steps : (c c' : Core) (i : Input) (now : ℕ) (out : List Action) → AsksFew c.stage → Steps c i now c' out → AsksFew c'.stage
few-steps c c' i now out few h = go (is_shut c.stage) refl
  where
    go : (b : Bool) → is_shut c.stage ≡ b → AsksFew c'.stage
    go true e = subst (λ (d : Core). AsksFew d.stage) (sym (shut-for-good c c' i now out e h).0) few
    go false e = let s = steps-open c c' i now out e h in few-goes now s.mid c' s.later (few-handles now s.mid s.first c i few s.handled) s.goes
