-- The bytes of the client's frames are counted, and nothing else.
use Rattle.std.proofs.Common.{◌≡◌, ℕ, ◌+◌, ℤ, pos, List, [], length, Bool, true, false, refl, sym, ap, ◌∙◌, subst, inl, inr}
use Rattle.std.specs.Prelude.{◌⊎◌, Option, Some, None, MatchBool, if◌then◌else◌}
use Rattle.std.specs.Arc.{arc_value}
use Rattle.std.specs.Ordering.{int_eq}
use Rattle.ev_types.specs.declared.answer.ActAns.{ActAns}
use Rattle.ev_types.specs.declared.answer.Answer.{Answer}
use Rattle.ev_types.specs.declared.answer.Kv.{Kv}
use Rattle.zk_jute.specs.Connects.{read_connect}
use Rattle.zk_jute.specs.Requests.{Frame, NoHeader, Unreadable, Unknown, Asks, read_request}
use Rattle.zk_model.specs.declared.connect.ConnectRequest.{ConnectRequest}
use Rattle.zk_model.specs.declared.request.Request.{Request}
use Rattle.zk_service.specs.Answers.{Told, plain_reply, xid_of, has_header}
use Rattle.zk_service.specs.declared.cause.Cause.TheVariants as cause
use Rattle.zn_layout.specs.declared.entry.Entry.{Entry}
use Rattle.zn_view.specs.Adding.{at_revision}
use Rattle.zn_view.specs.Asks.{with_parts}
use Rattle.zn_view.specs.Keeping.{update_path}
use Rattle.zn_view.specs.Lookups.{found_at}
use Rattle.zn_view.specs.Seen.{View, empty_view}
use Rattle.zn_view.specs.declared.plan.Decision.{Decision}
use Rattle.zn_view.specs.declared.plan.Decision.TheVariants.{Answered, Planned, Expired, Moved}
use Rattle.zn_view.specs.declared.plan.Plan.{Plan}
use Rattle.zn_view.specs.declared.want.Want.{Want}
use Rattle.zs_session.specs.Alive.{is_alive_due}
use Rattle.zs_session.specs.Answering.{viewed}
use Rattle.zs_session.specs.Sessions.{attach_wants, life_key}
use Rattle.zs_session.specs.declared.connect.Connect.{Connect}
use Rattle.zs_session.specs.declared.connect.ConnectStep.{ConnectStep}
use Rattle.zs_session.specs.declared.connect.ConnectStep.TheVariants as steps
use Rattle.zp_step.proofs.Cases.{of_alive, of_txn}
use Rattle.zp_step.proofs.Beside.{PlansBeside, first-or-anew, leaves-beside}
use Rattle.zp_step.proofs.Shutting.{steps-open}
use Rattle.zp_step.specs.Connects.{Connects, Opens, begun, connected}
use Rattle.zp_step.specs.Entries.{entered, then_reply}
use Rattle.zp_step.specs.Keepalives.{Looked, StillMine, TakesUp, checks, keeps_alive}
use Rattle.zp_step.specs.Kept.{keeps}
use Rattle.zp_step.specs.Looking.{IfRecords, Looks, change_by, decided, expired, guessed, moved, pending}
use Rattle.zp_step.specs.Plans.{Committed, finishes}
use Rattle.zp_step.specs.Replies.{Is, closed_by, is_due, replied, waits}
use Rattle.zp_step.specs.Stages.{Core, Pending, Stage, Unconnected, Connecting, Ready, KeepingAlive, Checking, Reading, Committing, Waiting, Shut, counted_up, is_shut}
use Rattle.zp_step.specs.Steps.{Answers, Comes, Goes, Handles, Steps, StepsOpen, with_frame_counted, queued, rests, takes}
use Rattle.zp_step.specs.Taking.{TakesFrame, TakesReadable}
use Rattle.zp_step.specs.declared.action.Action.{Action}
use Rattle.zp_step.specs.declared.input.Input.{Input}
use Rattle.zp_step.specs.declared.input.Input.TheVariants as input
use Rattle.zp_run.specs.Laws.{taken_after}
use Rattle.zx_base.proofs.Booleans.{either}

by : (x : Core × List Action) (c c' : Core) (out : List Action) → x.0.taken ≡ c.taken → Is x c' out → c'.taken ≡ c.taken
by x c c' out e i = ap (λ (d : Core). d.taken) i.0 ∙ e

waits-same : (c c' : Core) (p : Pending) (out : List Action) → Is (waits c p) c' out → c'.taken ≡ c.taken
waits-same c c' p out i = go (is_due c p) i
  where
    go : (b : Bool) → Is (if b then replied c p else (record c { stage = Waiting p }, [])) c' out → c'.taken ≡ c.taken
    go true j = ap (λ (d : Core). d.taken) j.0
    go false j = ap (λ (d : Core). d.taken) j.0

decided-same : (c c' : Core) (xid : ℤ) (r : Request) (v : View) (now : ℕ) (out : List Action) (d : Decision) → Is (decided c xid r v now d) c' out → c'.taken ≡ c.taken
decided-same c c' xid r v now out (Answered answer arm) i = waits-same c c' (pending v xid answer (change_by r v arm) None) out i
decided-same c c' xid r v now out (Planned p) i = ap (λ (d : Core). d.taken) i.0
decided-same c c' xid r v now out Expired i = waits-same c c' (expired v xid) out i
decided-same c c' xid r v now out (Moved found) i = waits-same c c' (moved c.who v found xid) out i

looks-same : (c c' : Core) (xid : ℤ) (r : Request) (v : View) (now : ℕ) (out : List Action) → Looks c xid r v now c' out → c'.taken ≡ c.taken
looks-same c c' xid r v now out (inl y) = ap (λ (d : Core). d.taken) (y.is).0
looks-same c c' xid r v now out (inr (inl y)) = decided-same c c' xid r (guessed v y.key) now out (Planned y.plan) y.is
looks-same c c' xid r v now out (inr (inr y)) = decided-same (keeps c r v) c' xid r v now out y.decision y.is

records-same : (c c' : Core) (ws : List Want) (parts : List ActAns) (out : List Action) (Next : Type 0) → (Next → c'.taken ≡ c.taken) → IfRecords c ws parts c' out Next → c'.taken ≡ c.taken
records-same c c' ws parts out Next f (inl e) = ap (λ (d : Core). d.taken) (e.is).0
records-same c c' ws parts out Next f (inr h) = f h.1

readable-same : (c c' : Core) (now : ℕ) (out : List Action) (x : Frame) (o : Option Told) → TakesReadable c now c' out x o → c'.taken ≡ c.taken
readable-same c c' now out x (Some t) h = ap (λ (d : Core). d.taken) h.0
readable-same c c' now out NoHeader None h = absurd h
readable-same c c' now out (Unreadable xid place) None h = absurd h
readable-same c c' now out (Unknown xid kind) None h = absurd h
readable-same c c' now out (Asks xid r) None h = go (first-or-anew c c' xid r now out (update_path r) h)
  where
    go : PlansBeside c xid r now c' out ⊎ Looks c xid r empty_view now c' out → c'.taken ≡ c.taken
    go (inl y) = ap (λ (d : Core). d.taken) (y.is).0
    go (inr y) = looks-same c c' xid r empty_view now out y

takes-same : (c c' : Core) (bytes : List ℕ) (now : ℕ) (out : List Action) → TakesFrame c bytes now c' out → c'.taken ≡ c.taken
takes-same c c' bytes now out h = readable-same c c' now out (read_request bytes) (plain_reply c.watches (read_request bytes)) h

takes-up-same : (c c' : Core) (bytes : List ℕ) (now : ℕ) (out : List Action) → TakesUp c bytes now c' out → c'.taken ≡ c.taken
takes-up-same c c' bytes now out h =
    either (is_alive_due c.kept now c.timeout) (Is (keeps_alive c bytes now) c' out) (TakesFrame c bytes now c' out) (c'.taken ≡ c.taken) h (λ i. ap (λ (d : Core). d.taken) i.0) (takes-same c c' bytes now out)

goes-same : (now : ℕ) (c c' : Core) (out : List Action) → Goes now c c' out → c'.taken ≡ c.taken
goes-same now c c' out (rests why same none) = ap (λ (d : Core). d.taken) same
goes-same now c c' out (takes d frame more first later r ws t g o) = goes-same now d c' later g ∙ takes-up-same (record c { waiting = more }) d frame now first t

still-same : (c c' : Core) (bytes : List ℕ) (v : View) (now : ℕ) (out : List Action) (o : Option Kv) → StillMine c bytes v now c' out o → c'.taken ≡ c.taken
still-same c c' bytes v now out None h = waits-same c c' (expired v (xid_of (read_request bytes))) out h
still-same c c' bytes v now out (Some kv) h =
    either (int_eq kv.mod_revision c.who.mine) (TakesFrame c bytes now c' out) (Is (waits c (moved c.who v kv.mod_revision (xid_of (read_request bytes)))) c' out) (c'.taken ≡ c.taken) h
    (takes-same c c' bytes now out)
    (waits-same c c' (moved c.who v kv.mod_revision (xid_of (read_request bytes))) out)

committed-same : (c c' : Core) (xid : ℤ) (r : Request) (v : View) (p : Plan) (now : ℕ) (out : List Action) (z : ℤ) (b : Bool) (parts : List ActAns) → Committed c xid r v p now c' out z b parts → c'.taken ≡ c.taken
committed-same c c' xid r v p now out z true parts h =
    waits-same h.kept c' (finishes xid r p z parts) out h.is ∙ ap (λ (d : Core). d.taken) (leaves-beside c h.kept (update_path r) v p z parts h.leaves).1
committed-same c c' xid r v p now out z false parts h = let y = viewed z p.again parts in records-same c c' p.again parts out (Looks c xid r y now c' out) (looks-same c c' xid r y now out) h

connected-same : (c c' : Core) (now : ℕ) (new : Connect) (out : List Action) (step : ConnectStep) → Is (connected c now new step) c' out → c'.taken ≡ c.taken
connected-same c c' now new out (steps.Ask q) i = ap (λ (d : Core). d.taken) i.0
connected-same c c' now new out (steps.Attached response who timeout number zxid) i = ap (λ (d : Core). d.taken) i.0
connected-same c c' now new out (steps.Ahead client head) i = ap (λ (d : Core). d.taken) i.0
connected-same c c' now new out steps.Unknown i = ap (λ (d : Core). d.taken) i.0
connected-same c c' now new out (steps.Taken revision) i = ap (λ (d : Core). d.taken) i.0

connects-same : (c c' : Core) (connect : Connect) (a : Option Answer) (now : ℕ) (out : List Action) → Connects c connect a now c' out → c'.taken ≡ c.taken
connects-same c c' connect a now out (inl e) = ap (λ (d : Core). d.taken) (e.is).0
connects-same c c' connect a now out (inr s) = connected-same c c' now s.new out s.step s.is

answers-same : (c c' : Core) (a : Answer) (now : ℕ) (out : List Action) (st : Stage) → Answers c a now c' out st → c'.taken ≡ c.taken
answers-same c c' a now out (Connecting connect) h = connects-same c c' connect (Some a) now out h
answers-same c c' a now out (KeepingAlive bytes) h = of_alive a _ (c'.taken ≡ c.taken) h (λ ttl f.
    either (int_eq ttl (pos 0)) (Is (checks c bytes) c' out) (TakesFrame c bytes now c' out) (c'.taken ≡ c.taken) f (λ i. ap (λ (d : Core). d.taken) i.0) (takes-same c c' bytes now out))
answers-same c c' a now out (Checking bytes) h = of_txn a _ (c'.taken ≡ c.taken) h (λ z b parts f.
    let v = viewed z (attach_wants c.who.session) parts in
    records-same c c' (attach_wants c.who.session) parts out (Looked c bytes now c' out v) (still-same c c' bytes v now out (found_at v (life_key c.who.session))) f)
answers-same c c' a now out (Reading xid r v ws) h = of_txn a _ (c'.taken ≡ c.taken) h (λ z b parts f.
    let y = with_parts (at_revision v z) ws parts in
    records-same c c' ws parts out (Looks c xid r y now c' out) (looks-same c c' xid r y now out) f)
answers-same c c' a now out (Committing xid r v p time) h = of_txn a _ (c'.taken ≡ c.taken) h (λ z b parts f. committed-same c c' xid r v p now out z b parts f)
answers-same c c' a now out (Unconnected fresh) h = absurd h
answers-same c c' a now out Ready h = absurd h
answers-same c c' a now out (Waiting p) h = absurd h
answers-same c c' a now out Shut h = absurd h

-- ---- a frame, and any input; one that shuts the connection at once is not counted

abbrev Counted : Core → Core → List ℕ → Type 0
Counted c c' bytes = (is_shut c'.stage ≡ true) ⊎ (c'.taken ≡ counted_up (c.taken + 4 + length bytes))

queued-counted : (c c' : Core) (bytes : List ℕ) (out : List Action) → MatchBool (has_header (read_request bytes)) (Is (queued c bytes, []) c' out) (Is (closed_by c (cause.NoHeader c.taken)) c' out) → Counted c c' bytes
queued-counted c c' bytes out h =
    either (has_header (read_request bytes)) (Is (queued c bytes, []) c' out) (Is (closed_by c (cause.NoHeader c.taken)) c' out) (Counted c c' bytes) h
    (λ i. inr (ap (λ (d : Core). d.taken) i.0))
    (λ i. inl (ap (λ (d : Core). is_shut d.stage) i.0))

comes-counted : (c c' : Core) (bytes : List ℕ) (now : ℕ) (out : List Action) (st : Stage) → Comes c bytes now c' out st → Counted c c' bytes
comes-counted c c' bytes now out (Unconnected fresh) h = inr (opens (read_connect bytes) h)
  where
    opens : (o : Option ConnectRequest) → Opens (with_frame_counted c bytes) c.taken fresh now c' out o → c'.taken ≡ counted_up (c.taken + 4 + length bytes)
    opens None i = ap (λ (d : Core). d.taken) i.0
    opens (Some r) i = connects-same (with_frame_counted c bytes) c' (begun r fresh) None now out i
comes-counted c c' bytes now out (Connecting connect) h = queued-counted c c' bytes out h
comes-counted c c' bytes now out Ready h = queued-counted c c' bytes out h
comes-counted c c' bytes now out (KeepingAlive g) h = queued-counted c c' bytes out h
comes-counted c c' bytes now out (Checking g) h = queued-counted c c' bytes out h
comes-counted c c' bytes now out (Reading xid r v ws) h = queued-counted c c' bytes out h
comes-counted c c' bytes now out (Committing xid r v p m) h = queued-counted c c' bytes out h
comes-counted c c' bytes now out (Waiting p) h = queued-counted c c' bytes out h
comes-counted c c' bytes now out Shut h = queued-counted c c' bytes out h

then-same : (c c' : Core) (e : Entry) (out : List Action) (st : Stage) → Is (then_reply (entered c e) st) c' out → c'.taken ≡ c.taken
then-same c c' e out (Waiting p) i = ap (λ (d : Core). d.taken) i.0 ∙ waits-same (entered c e).0 (waits (entered c e).0 p).0 p (waits (entered c e).0 p).1 (refl, refl)
then-same c c' e out (Unconnected fresh) i = ap (λ (d : Core). d.taken) i.0
then-same c c' e out (Connecting connect) i = ap (λ (d : Core). d.taken) i.0
then-same c c' e out Ready i = ap (λ (d : Core). d.taken) i.0
then-same c c' e out (KeepingAlive f) i = ap (λ (d : Core). d.taken) i.0
then-same c c' e out (Checking f) i = ap (λ (d : Core). d.taken) i.0
then-same c c' e out (Reading xid r v ws) i = ap (λ (d : Core). d.taken) i.0
then-same c c' e out (Committing xid r v p m) i = ap (λ (d : Core). d.taken) i.0
then-same c c' e out Shut i = ap (λ (d : Core). d.taken) i.0

handled-counted : (c c' : Core) (x : Input) (now : ℕ) (out : List Action) → Handles c x now c' out → (is_shut c'.stage ≡ true) ⊎ (c'.taken ≡ taken_after c x)
handled-counted c c' (input.Frame bytes) now out h = comes-counted c c' bytes now out c.stage h
handled-counted c c' (input.Answer a) now out h = inr (answers-same c c' a now out c.stage h)
handled-counted c c' (input.Entry e) now out h = inr (then-same c c' (arc_value e) out c.stage h)
handled-counted c c' input.Failed now out h = inr (ap (λ (d : Core). d.taken) h.0)
handled-counted c c' (input.BadLength place length) now out h = inr (ap (λ (d : Core). d.taken) h.0)
handled-counted c c' (input.Lagged cursor floor) now out h = inr (ap (λ (d : Core). d.taken) h.0)
handled-counted c c' input.FeedClosed now out h = inr (ap (λ (d : Core). d.taken) h.0)
handled-counted c c' (input.ClientEnd place) now out h = inr (ap (λ (d : Core). d.taken) h.0)

shut-still : (now : ℕ) (c c' : Core) (out : List Action) → is_shut c.stage ≡ true → Goes now c c' out → is_shut c'.stage ≡ true
shut-still now c c' out s (rests why same none) = subst (λ (d : Core). is_shut d.stage ≡ true) (sym same) s
shut-still now c c' out s (takes d f more a b ready w t g o) = (let n : false ≡ true = sym (ap is_shut ready) ∙ s in absurd (cc))

pub steps-count-bytes : (c c' : Core) (x : Input) (now : ℕ) (out : List Action) → is_shut c.stage ≡ false → Steps c x now c' out → (is_shut c'.stage ≡ true) ⊎ (c'.taken ≡ taken_after c x)
steps-count-bytes c c' x now out opened h = go (steps-open c c' x now out opened h)
  where
    go : StepsOpen c x now c' out → (is_shut c'.stage ≡ true) ⊎ (c'.taken ≡ taken_after c x)
    go s = elim (handled-counted c s.mid x now s.first s.handled) [
      | inl shut ↦ inl (shut-still now s.mid c' s.later shut s.goes)
      | inr e ↦ inr (goes-same now s.mid c' s.later s.goes ∙ e)
    ]
