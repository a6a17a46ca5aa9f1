-- A plan is made at the time of the step that asks its transaction.
use Rattle.zp_step.specs.Looking.{asks_for, IfRecords, Looks, change_by, decided, expired, guessed, max_ranges, moved, pending}
use Rattle.std.proofs.Common.{◌≡◌, ℕ, List, [], ◌++◌, take, refl, sym, ap, ◌∙◌, subst, Bool, true, false, ℤ, pos, inl, inr, append-nil}
use Rattle.std.specs.Prelude.{Option, Some, None, ◌⊎◌, if◌then◌else◌, MatchBool}
use Rattle.std.specs.Arc.{arc_value}
use Rattle.std.specs.Ordering.{int_eq}
use Rattle.ev_types.specs.declared.answer.ActAns.{ActAns}
use Rattle.ev_types.specs.declared.answer.Answer.{Answer}
use Rattle.ev_types.specs.declared.answer.Kv.{Kv}
use Rattle.zk_jute.specs.Connects.{read_connect}
use Rattle.zk_jute.specs.Requests.{Frame, NoHeader, Unreadable, Unknown, Asks, read_request}
use Rattle.zk_model.specs.Watches.{fire_all}
use Rattle.zk_model.specs.declared.connect.ConnectRequest.{ConnectRequest}
use Rattle.zk_model.specs.declared.request.Request.{Request}
use Rattle.zk_service.specs.Answers.{Told, plain_reply, xid_of, has_header, is_auth_refusal}
use Rattle.zk_service.specs.declared.cause.Cause.{Cause}
use Rattle.zk_service.specs.declared.cause.Cause.TheVariants as cause
use Rattle.zn_layout.specs.declared.entry.Entry.{Entry}
use Rattle.zn_view.specs.Adding.{at_revision}
use Rattle.zn_view.specs.Asks.{with_parts}
use Rattle.zn_view.specs.Lookups.{found_at}
use Rattle.zn_view.specs.Seen.{View, empty_view}
use Rattle.zn_view.specs.declared.plan.Decision.{Decision}
use Rattle.zn_view.specs.declared.plan.Decision.TheVariants.{Answered, Planned, Expired, Moved}
use Rattle.zn_view.specs.declared.plan.Plan.{Plan}
use Rattle.zn_view.specs.declared.want.Want.{Want}
use Rattle.zs_session.specs.Alive.{is_alive_due}
use Rattle.zs_session.specs.Answering.{viewed}
use Rattle.zs_session.specs.Sessions.{attach_wants, life_key}
use Rattle.zs_session.specs.declared.connect.Connect.{Connect}
use Rattle.zs_session.specs.declared.connect.ConnectStep.{ConnectStep}
use Rattle.zs_session.specs.declared.connect.ConnectStep.TheVariants as steps
use Rattle.zp_step.specs.Connects.{Connects, Opens, begun, connected}
use Rattle.zp_step.specs.Entries.{entered, then_reply}
use Rattle.zp_step.specs.Keepalives.{Looked, StillMine, TakesUp, checks, keeps_alive}
use Rattle.zp_step.specs.Kept.{keeps}
use Rattle.zn_view.specs.Keeping.{update_path}
use Rattle.zp_step.specs.Plans.{Committed, finishes}
use Rattle.zp_step.specs.Replies.{Is, closed_by, is_due, replied, stage_after, waits}
use Rattle.zp_step.specs.Stages.{Core, Pending, Stage, Unconnected, Connecting, Ready, KeepingAlive, Checking, Reading, Committing, Waiting, Shut, is_shut}
use Rattle.zp_step.specs.Steps.{Answers, Comes, Goes, Handles, Steps, StepsOpen, with_frame_counted, queued, rests, takes}
use Rattle.zp_step.specs.Taking.{TakesFrame, TakesReadable, end_of_plain, plainly}
use Rattle.zp_step.specs.declared.action.Action.{Action}
use Rattle.zp_step.specs.declared.input.Input.{Input}
use Rattle.zp_step.specs.declared.input.Input.TheVariants as input
use Rattle.zp_step.proofs.Shutting.{steps-open}
use Rattle.zp_step.specs.Ending.{asked_by}
use Rattle.zp_step.proofs.Cases.{of_alive, of_txn}
use Rattle.zp_step.proofs.Ending.{asks-nothing, notices-only}
use Rattle.zp_laws.specs.Planning.{IsPlannedAt}
use Rattle.zp_step.proofs.Beside.{PlansBeside, first-or-anew}
use Rattle.zx_base.proofs.Booleans.{either}

planned-is : (now : ℕ) (x : Core × List Action) (c' : Core) (out : List Action) → Is x c' out → IsPlannedAt now x.0.stage → IsPlannedAt now c'.stage
planned-is now x c' out i h = subst (λ (d : Core). IsPlannedAt now d.stage) (sym i.0) h

after-plans : (now : ℕ) (o : Option Cause) → IsPlannedAt now (stage_after o)
after-plans now None = tt
after-plans now (Some why) = tt

waits-plans : (c c' : Core) (p : Pending) (now : ℕ) (out : List Action) → Is (waits c p) c' out → IsPlannedAt now c'.stage
waits-plans c c' p now out i = go (is_due c p) i
  where
    go : (b : Bool) → Is (if b then replied c p else (record c { stage = Waiting p }, [])) c' out → IsPlannedAt now c'.stage
    go true j = planned-is now (replied c p) c' out j (after-plans now p.ends)
    go false j = planned-is now (record c { stage = Waiting p }, []) c' out j tt

closed-plans : (c c' : Core) (why : Cause) (now : ℕ) (out : List Action) → Is (closed_by c why) c' out → IsPlannedAt now c'.stage
closed-plans c c' why now out i = planned-is now (closed_by c why) c' out i tt

-- ---- on a view

decided-plans : (c c' : Core) (xid : ℤ) (r : Request) (v : View) (now : ℕ) (out : List Action) (d : Decision) → Is (decided c xid r v now d) c' out → IsPlannedAt now c'.stage
decided-plans c c' xid r v now out (Answered answer arm) i = waits-plans c c' (pending v xid answer (change_by r v arm) None) now out i
decided-plans c c' xid r v now out (Planned p) i = planned-is now (decided c xid r v now (Planned p)) c' out i refl
decided-plans c c' xid r v now out Expired i = waits-plans c c' (expired v xid) now out i
decided-plans c c' xid r v now out (Moved found) i = waits-plans c c' (moved c.who v found xid) now out i

looks-plans : (c c' : Core) (xid : ℤ) (r : Request) (v : View) (now : ℕ) (out : List Action) → Looks c xid r v now c' out → IsPlannedAt now c'.stage
looks-plans c c' xid r v now out (inl y) = planned-is now (asks_for c xid r v (take max_ranges y.lacking)) c' out y.is tt
looks-plans c c' xid r v now out (inr (inl y)) = decided-plans c c' xid r (guessed v y.key) now out (Planned y.plan) y.is
looks-plans c c' xid r v now out (inr (inr y)) = decided-plans (keeps c r v) c' xid r v now out y.decision y.is

records-plan : (c c' : Core) (ws : List Want) (parts : List ActAns) (now : ℕ) (out : List Action) (Next : Type 0) → (Next → IsPlannedAt now c'.stage) → IfRecords c ws parts c' out Next → IsPlannedAt now c'.stage
records-plan c c' ws parts now out Next f (inl e) = closed-plans c c' (cause.Damaged e.key e.value) now out e.is
records-plan c c' ws parts now out Next f (inr h) = f h.1

-- ---- a frame is taken up

readable-plans : (c c' : Core) (now : ℕ) (out : List Action) (x : Frame) (o : Option Told) → TakesReadable c now c' out x o → IsPlannedAt now c'.stage
readable-plans c c' now out x (Some t) h = planned-is now (plainly c (xid_of x) t) c' out h (after-plans now (end_of_plain (is_auth_refusal t.reply)))
readable-plans c c' now out NoHeader None h = absurd h
readable-plans c c' now out (Unreadable xid place) None h = absurd h
readable-plans c c' now out (Unknown xid kind) None h = absurd h
readable-plans c c' now out (Asks xid r) None h = go (first-or-anew c c' xid r now out (update_path r) h)
  where
    go : PlansBeside c xid r now c' out ⊎ Looks c xid r empty_view now c' out → IsPlannedAt now c'.stage
    go (inl y) = decided-plans (record c { views = y.views }) c' xid r y.view now out (Planned y.plan) y.is
    go (inr y) = looks-plans c c' xid r empty_view now out y

takes-plans : (c c' : Core) (bytes : List ℕ) (now : ℕ) (out : List Action) → TakesFrame c bytes now c' out → IsPlannedAt now c'.stage
takes-plans c c' bytes now out h = readable-plans c c' now out (read_request bytes) (plain_reply c.watches (read_request bytes)) h

takes_up-plans : (c c' : Core) (bytes : List ℕ) (now : ℕ) (out : List Action) → TakesUp c bytes now c' out → IsPlannedAt now c'.stage
takes_up-plans c c' bytes now out h =
    either (is_alive_due c.kept now c.timeout) (Is (keeps_alive c bytes now) c' out) (TakesFrame c bytes now c' out) (IsPlannedAt now c'.stage) h
    (λ i. planned-is now (keeps_alive c bytes now) c' out i tt)
    (takes-plans c c' bytes now out)

goes-plan : (now : ℕ) (c c' : Core) (out : List Action) → Goes now c c' out → ((c' ≡ c) × (out ≡ [])) ⊎ IsPlannedAt now c'.stage
goes-plan now c c' out (rests why same none) = inl (same, none)
goes-plan now c c' out (takes d frame more first later r w t g o) = inr (go (goes-plan now d c' later g))
  where
    go : ((c' ≡ d) × (later ≡ [])) ⊎ IsPlannedAt now c'.stage → IsPlannedAt now c'.stage
    go (inl s) = subst (λ (x : Core). IsPlannedAt now x.stage) (sym s.0) (takes_up-plans (record c { waiting = more }) d frame now first t)
    go (inr s) = s

-- ---- answers

still-plans : (c c' : Core) (bytes : List ℕ) (v : View) (now : ℕ) (out : List Action) (o : Option Kv) → StillMine c bytes v now c' out o → IsPlannedAt now c'.stage
still-plans c c' bytes v now out None h = waits-plans c c' (expired v (xid_of (read_request bytes))) now out h
still-plans c c' bytes v now out (Some kv) h =
    either (int_eq kv.mod_revision c.who.mine) (TakesFrame c bytes now c' out) (Is (waits c (moved c.who v kv.mod_revision (xid_of (read_request bytes)))) c' out) (IsPlannedAt now c'.stage) h
    (takes-plans c c' bytes now out)
    (waits-plans c c' (moved c.who v kv.mod_revision (xid_of (read_request bytes))) now out)

committed-plans : (c c' : Core) (xid : ℤ) (r : Request) (u : View) (p : Plan) (now : ℕ) (out : List Action) (z : ℤ) (b : Bool) (parts : List ActAns) → Committed c xid r u p now c' out z b parts → IsPlannedAt now c'.stage
committed-plans c c' xid r u p now out z true parts h = waits-plans h.kept c' (finishes xid r p z parts) now out h.is
committed-plans c c' xid r u p now out z false parts h =
    let y = viewed z p.again parts in
    records-plan c c' p.again parts now out (Looks c xid r y now c' out) (looks-plans c c' xid r y now out) h

connected-plans : (c c' : Core) (now : ℕ) (new : Connect) (out : List Action) (step : ConnectStep) → Is (connected c now new step) c' out → IsPlannedAt now c'.stage
connected-plans c c' now new out (steps.Ask q) i = planned-is now (connected c now new (steps.Ask q)) c' out i tt
connected-plans c c' now new out (steps.Attached response who timeout number zxid) i = planned-is now (connected c now new (steps.Attached response who timeout number zxid)) c' out i tt
connected-plans c c' now new out (steps.Ahead client head) i = closed-plans c c' (cause.ZxidAhead client head) now out i
connected-plans c c' now new out steps.Unknown i = planned-is now (connected c now new steps.Unknown) c' out i tt
connected-plans c c' now new out (steps.Taken revision) i = closed-plans c c' (cause.Taken revision) now out i

connects-plans : (c c' : Core) (connect : Connect) (a : Option Answer) (now : ℕ) (out : List Action) → Connects c connect a now c' out → IsPlannedAt now c'.stage
connects-plans c c' connect a now out (inl e) = closed-plans c c' (cause.Damaged e.key e.value) now out e.is
connects-plans c c' connect a now out (inr s) = connected-plans c c' now s.new out s.step s.is

answers-plan : (c c' : Core) (a : Answer) (now : ℕ) (out : List Action) (st : Stage) → Answers c a now c' out st → IsPlannedAt now c'.stage
answers-plan c c' a now out (Unconnected fresh) h = absurd h
answers-plan c c' a now out (Connecting connect) h = connects-plans c c' connect (Some a) now out h
answers-plan c c' a now out (KeepingAlive bytes) h = of_alive a _ (IsPlannedAt now c'.stage) h (λ ttl f.
    either (int_eq ttl (pos 0)) (Is (checks c bytes) c' out) (TakesFrame c bytes now c' out) (IsPlannedAt now c'.stage) f
    (λ i. planned-is now (checks c bytes) c' out i tt)
    (takes-plans c c' bytes now out))
answers-plan c c' a now out (Checking bytes) h = of_txn a _ (IsPlannedAt now c'.stage) h (λ z b parts f.
    let v = viewed z (attach_wants c.who.session) parts in
    records-plan c c' (attach_wants c.who.session) parts now out (Looked c bytes now c' out v) (still-plans c c' bytes v now out (found_at v (life_key c.who.session))) f)
answers-plan c c' a now out (Reading xid r v ws) h = of_txn a _ (IsPlannedAt now c'.stage) h (λ z b parts f.
    let y = with_parts (at_revision v z) ws parts in
    records-plan c c' ws parts now out (Looks c xid r y now c' out) (looks-plans c c' xid r y now out) f)
answers-plan c c' a now out (Committing xid r v p time) h = of_txn a _ (IsPlannedAt now c'.stage) h (λ z b parts f. committed-plans c c' xid r v p now out z b parts f)
answers-plan c c' a now out Ready h = absurd h
answers-plan c c' a now out (Waiting p) h = absurd h
answers-plan c c' a now out Shut h = absurd h

-- ---- a step

abbrev HandledPlan : ℕ → Core → Core → List Action → Type 0
HandledPlan now c c' out = IsPlannedAt now c'.stage ⊎ ((c'.stage ≡ c.stage) × (asked_by out ≡ None))

queued-plans : (c c' : Core) (bytes : List ℕ) (now : ℕ) (out : List Action) → MatchBool (has_header (read_request bytes)) (Is (queued c bytes, []) c' out) (Is (closed_by c (cause.NoHeader c.taken)) c' out) → HandledPlan now c c' out
queued-plans c c' bytes now out h =
    either (has_header (read_request bytes)) (Is (queued c bytes, []) c' out) (Is (closed_by c (cause.NoHeader c.taken)) c' out) (HandledPlan now c c' out) h
    (λ i. inr (ap (λ (d : Core). d.stage) i.0, ap asked_by i.1))
    (λ i. inl (closed-plans c c' (cause.NoHeader c.taken) now out i))

comes-plan : (c c' : Core) (bytes : List ℕ) (now : ℕ) (out : List Action) (st : Stage) → Comes c bytes now c' out st → HandledPlan now c c' out
comes-plan c c' bytes now out (Unconnected fresh) h = inl (opens (read_connect bytes) h)
  where
    opens : (o : Option ConnectRequest) → Opens (with_frame_counted c bytes) c.taken fresh now c' out o → IsPlannedAt now c'.stage
    opens None i = closed-plans (with_frame_counted c bytes) c' (cause.NoHeader c.taken) now out i
    opens (Some r) i = connects-plans (with_frame_counted c bytes) c' (begun r fresh) None now out i
comes-plan c c' bytes now out (Connecting connect) h = queued-plans c c' bytes now out h
comes-plan c c' bytes now out Ready h = queued-plans c c' bytes now out h
comes-plan c c' bytes now out (KeepingAlive f) h = queued-plans c c' bytes now out h
comes-plan c c' bytes now out (Checking f) h = queued-plans c c' bytes now out h
comes-plan c c' bytes now out (Reading xid r v ws) h = queued-plans c c' bytes now out h
comes-plan c c' bytes now out (Committing xid r v p m) h = queued-plans c c' bytes now out h
comes-plan c c' bytes now out (Waiting p) h = queued-plans c c' bytes now out h
comes-plan c c' bytes now out Shut h = queued-plans c c' bytes now out h

module _ (c c' : Core) (e : Entry) (now : ℕ) (out : List Action) where
  stays-so : Is (entered c e) c' out → HandledPlan now c c' out
  stays-so i = inr (ap (λ (d : Core). d.stage) i.0, ap asked_by i.1 ∙ asks-nothing (entered c e).1 (notices-only (fire_all c.watches e.triggers).1))

  entry-plans : (st : Stage) → Is (then_reply (entered c e) st) c' out → HandledPlan now c c' out
  entry-plans (Waiting p) i = inl (planned-is now (then_reply (entered c e) (Waiting p)) c' out i (waits-plans (entered c e).0 (waits (entered c e).0 p).0 p now (waits (entered c e).0 p).1 (refl, refl)))
  entry-plans (Unconnected fresh) i = stays-so i
  entry-plans (Connecting connect) i = stays-so i
  entry-plans Ready i = stays-so i
  entry-plans (KeepingAlive f) i = stays-so i
  entry-plans (Checking f) i = stays-so i
  entry-plans (Reading xid r v ws) i = stays-so i
  entry-plans (Committing xid r v p m) i = stays-so i
  entry-plans Shut i = stays-so i

handled-plan : (c c' : Core) (x : Input) (now : ℕ) (out : List Action) → Handles c x now c' out → HandledPlan now c c' out
handled-plan c c' (input.Frame bytes) now out h = comes-plan c c' bytes now out c.stage h
handled-plan c c' (input.Answer a) now out h = inl (answers-plan c c' a now out c.stage h)
handled-plan c c' (input.Entry e) now out h = entry-plans c c' (arc_value e) now out c.stage h
handled-plan c c' input.Failed now out h = inl (closed-plans c c' cause.LinkFault now out h)
handled-plan c c' (input.BadLength place length) now out h = inl (closed-plans c c' (cause.BadLength place length) now out h)
handled-plan c c' (input.Lagged cursor floor) now out h = inl (closed-plans c c' (cause.Lagged cursor floor) now out h)
handled-plan c c' input.FeedClosed now out h = inl (closed-plans c c' cause.FeedClosed now out h)
handled-plan c c' (input.ClientEnd place) now out h = inl (closed-plans c c' (cause.ClientEnd place) now out h)

pub plans_are_made_now : (c c' : Core) (x : Input) (now : ℕ) (out : List Action) → is_shut c.stage ≡ false → Steps c x now c' out → IsPlannedAt now c'.stage ⊎ ((c'.stage ≡ c.stage) × (asked_by out ≡ None))
plans_are_made_now c c' x now out open_now h = go (steps-open c c' x now out open_now h)
  where
    joined : (mid : Core) (first later : List Action) → HandledPlan now c mid first → ((c' ≡ mid) × (later ≡ [])) ⊎ IsPlannedAt now c'.stage → HandledPlan now c c' (first ++ later)
    joined mid first later k (inr p) = inl p
    joined mid first later (inl p) (inl s) = inl (subst (λ (d : Core). IsPlannedAt now d.stage) (sym s.0) p)
    joined mid first later (inr e) (inl s) = inr (ap (λ (d : Core). d.stage) s.0 ∙ e.0, ap asked_by (ap (λ l. first ++ l) s.1 ∙ append-nil first) ∙ e.1)

    go : StepsOpen c x now c' out → HandledPlan now c c' out
    go s = subst (HandledPlan now c c') (sym s.joined) (joined s.mid s.first s.later (handled-plan c s.mid x now s.first s.handled) (goes-plan now s.mid c' s.later s.goes))
