-- A step sends packets, and then it asks once, or closes, or neither; what it leaves out is what its stage has out.
use Rattle.std.proofs.Common.{◌≡◌, ℕ, List, [], ◌∷◌, ◌++◌, take, refl, sym, ap, ◌∙◌, subst, Bool, true, false, ℤ, pos, inl, inr, append-nil}
use Rattle.std.specs.Prelude.{Option, Some, None, ◌⊎◌, if◌then◌else◌, MatchBool}
use Rattle.std.specs.Arc.{arc_value}
use Rattle.std.specs.Ordering.{int_eq}
use Rattle.ev_types.specs.declared.answer.ActAns.{ActAns}
use Rattle.ev_types.specs.declared.answer.Answer.{Answer}
use Rattle.ev_types.specs.declared.answer.Kv.{Kv}
use Rattle.ev_types.specs.declared.ask.Ask.{Ask}
use Rattle.zk_jute.specs.Connects.{read_connect}
use Rattle.zk_jute.specs.Packets.{reply_packet}
use Rattle.zk_jute.specs.Requests.{Frame, NoHeader, Unreadable, Unknown, Asks, read_request}
use Rattle.zk_model.specs.Watches.{fire_all}
use Rattle.zk_model.specs.declared.connect.ConnectRequest.{ConnectRequest}
use Rattle.zk_model.specs.declared.reply.Notice.{Notice}
use Rattle.zk_model.specs.declared.request.Request.{Request}
use Rattle.zk_service.specs.Answers.{Told, plain_reply, xid_of, has_header, is_auth_refusal}
use Rattle.zk_service.specs.declared.cause.Cause.{Cause}
use Rattle.zk_service.specs.declared.cause.Cause.TheVariants as cause
use Rattle.zn_layout.specs.declared.entry.Entry.{Entry}
use Rattle.zn_view.specs.Lookups.{found_at}
use Rattle.zn_view.specs.Adding.{at_revision}
use Rattle.zn_view.specs.Asks.{with_parts}
use Rattle.zn_view.specs.Seen.{View, empty_view}
use Rattle.zn_view.specs.declared.plan.Decision.{Decision}
use Rattle.zn_view.specs.declared.plan.Decision.TheVariants.{Answered, Planned, Expired, Moved}
use Rattle.zn_view.specs.declared.plan.Plan.{Plan}
use Rattle.zn_view.specs.declared.want.Want.{Want}
use Rattle.zs_session.specs.Alive.{is_alive_due}
use Rattle.zs_session.specs.Answering.{viewed}
use Rattle.zs_session.specs.Connecting.{asked_by_connect as connect_asked, asked_in_phase}
use Rattle.zs_session.specs.Sessions.{attach_wants, life_key}
use Rattle.zs_session.specs.declared.connect.Connect.{Connect}
use Rattle.zs_session.specs.declared.connect.ConnectStep.{ConnectStep}
use Rattle.zs_session.specs.declared.connect.ConnectStep.TheVariants as steps
use Rattle.zk_service.specs.declared.fresh.Fresh.{Fresh}
use Rattle.zp_step.specs.Connects.{Connects, Opens, begun, connected}
use Rattle.zp_step.specs.Entries.{entered, then_reply}
use Rattle.zp_step.specs.Keepalives.{Checked, KeptAlive, Looked, StillMine, TakesUp, checks, keeps_alive}
use Rattle.zp_step.specs.Kept.{keeps}
use Rattle.zn_view.specs.Keeping.{update_path}
use Rattle.zp_step.specs.Looking.{IfRecords, Looks, change_by, decided, expired, guessed, max_ranges, moved, pending}
use Rattle.zp_step.specs.Plans.{Committed, ReadOn, finishes}
use Rattle.zp_step.specs.Replies.{Is, close_after, closed_by, is_due, replied, send_notices, stage_after, waits}
use Rattle.zp_step.specs.Stages.{Core, Pending, Stage, Unconnected, Connecting, Ready, KeepingAlive, Checking, Reading, Committing, Waiting, Shut, asked_of, is_shut, seen_by}
use Rattle.zp_step.specs.Steps.{Answers, Comes, Goes, Handles, Steps, StepsOpen, with_frame_counted, queued, rests, takes}
use Rattle.zp_step.specs.Taking.{TakesFrame, TakesReadable, end_of_plain, plainly}
use Rattle.zp_step.specs.declared.action.Action.{Action}
use Rattle.zp_step.specs.declared.action.Action.TheVariants as action
use Rattle.zp_step.specs.declared.input.Input.{Input}
use Rattle.zp_step.specs.declared.input.Input.TheVariants as input
use Rattle.zp_step.proofs.Shutting.{steps-open}
use Rattle.zp_step.proofs.Beside.{PlansBeside, first-or-anew}
use Rattle.zp_step.specs.Ending.{EndsWell, StaysOut, asked_by, closes, ends_well, takes_out}
use Rattle.zp_step.proofs.Cases.{of_alive, of_txn}
use Rattle.zp_step.proofs.ConnectAsks.{connect-asks}
use Rattle.zx_base.proofs.Booleans.{either}

pub record Ends (c' : Core) (out : List Action) : Type 0 where
  pub well : ends_well out ≡ true
  pub closes : closes out ≡ is_shut c'.stage
  pub asks : (is_shut c'.stage ≡ true) ⊎ (asked_of c'.who c'.stage ≡ asked_by out)

pub ends-is : (c' : Core) (x : Core × List Action) (out : List Action) → Is x c' out → Ends x.0 x.1 → Ends c' out
ends-is c' x out i e = subst (λ d. Ends d out) (sym i.0) (subst (λ o. Ends x.0 o) (sym i.1) e)

-- ---- what only sends

abbrev pub only_sends : List Action → Bool
only_sends [] = true
only_sends (action.Send bytes ∷ more) = only_sends more
only_sends (action.Ask a ∷ more) = false
only_sends (action.Close why ∷ more) = false

pub record AfterSends (first later : List Action) : Type 0 where
  pub well : ends_well (first ++ later) ≡ ends_well later
  pub closes : closes (first ++ later) ≡ closes later
  pub asks : asked_by (first ++ later) ≡ asked_by later

pub after_sends : (first later : List Action) → only_sends first ≡ true → AfterSends first later
after_sends [] later h = record { well = refl; closes = refl; asks = refl }
after_sends (action.Send bytes ∷ more) later h = let b = after_sends more later h in record { well = b.well; closes = b.closes; asks = b.asks }
after_sends (action.Ask a ∷ more) later h = absurd (cc)
after_sends (action.Close why ∷ more) later h = absurd (cc)

sends-only : (out : List Action) → asked_by out ≡ None → closes out ≡ false → only_sends out ≡ true
sends-only [] a b = refl
sends-only (action.Send bytes ∷ more) a b = sends-only more a b
sends-only (action.Ask x ∷ more) a b = absurd (cc)
sends-only (action.Close why ∷ more) a b = absurd (cc)

pub asks-nothing : (out : List Action) → only_sends out ≡ true → asked_by out ≡ None
asks-nothing [] e = refl
asks-nothing (action.Send bytes ∷ more) e = asks-nothing more e
asks-nothing (action.Ask a ∷ more) e = absurd (cc)
asks-nothing (action.Close why ∷ more) e = absurd (cc)

pub notices-only : (ns : List Notice) → only_sends (send_notices ns) ≡ true
notices-only [] = refl
notices-only (n ∷ ns) = notices-only ns

ends-after : (c' : Core) (first later : List Action) → only_sends first ≡ true → Ends c' later → Ends c' (first ++ later)
ends-after c' first later h e =
    let b = after_sends first later h in
    record { well = b.well ∙ e.well; closes = b.closes ∙ e.closes; asks = elim e.asks [ inl s ↦ inl s | inr a ↦ inr (a ∙ sym b.asks) ] }

-- ---- ends, and replies

closed-ends : (c c' : Core) (why : Cause) (out : List Action) → Is (closed_by c why) c' out → Ends c' out
closed-ends c c' why out i = ends-is c' (closed_by c why) out i (record { well = refl; closes = refl; asks = inl refl })

asks-ends : (d c' : Core) (q : Ask) (out : List Action) → is_shut d.stage ≡ false → asked_of d.who d.stage ≡ Some q → Is (d, action.Ask q ∷ []) c' out → Ends c' out
asks-ends d c' q out open_now h i = ends-is c' (d, action.Ask q ∷ []) out i (record { well = refl; closes = sym open_now; asks = inr h })

reply-ends : (d : Core) (bytes : List ℕ) (o : Option Cause) → d.stage ≡ stage_after o → Ends d (action.Send bytes ∷ close_after o)
reply-ends d bytes None e = record { well = refl; closes = sym (ap is_shut e); asks = inr (ap (asked_of d.who) e) }
reply-ends d bytes (Some why) e = record { well = refl; closes = sym (ap is_shut e); asks = inl (ap is_shut e) }

replied-ends : (c c' : Core) (p : Pending) (out : List Action) → Is (replied c p) c' out → Ends c' out
replied-ends c c' p out i = ends-is c' (replied c p) out i
    (ends-after (replied c p).0 (send_notices (seen_by p.change c.watches).notices) (action.Send (reply_packet p.xid p.zxid p.answer) ∷ close_after p.ends) (notices-only (seen_by p.change c.watches).notices)
    (reply-ends (replied c p).0 (reply_packet p.xid p.zxid p.answer) p.ends refl))

waits-ends : (c c' : Core) (p : Pending) (out : List Action) → Is (waits c p) c' out → Ends c' out
waits-ends c c' p out i = go (is_due c p) i
  where
    go : (b : Bool) → Is (if b then replied c p else (record c { stage = Waiting p }, [])) c' out → Ends c' out
    go true j = replied-ends c c' p out j
    go false j = ends-is c' (record c { stage = Waiting p }, []) out j (record { well = refl; closes = refl; asks = inr refl })

-- ---- on a view

decided-ends : (c c' : Core) (xid : ℤ) (r : Request) (v : View) (now : ℕ) (out : List Action) (d : Decision) → Is (decided c xid r v now d) c' out → Ends c' out
decided-ends c c' xid r v now out (Answered answer arm) i = waits-ends c c' (pending v xid answer (change_by r v arm) None) out i
decided-ends c c' xid r v now out (Planned p) i = asks-ends (record c { stage = Committing xid r v p now }) c' _ out refl refl i
decided-ends c c' xid r v now out Expired i = waits-ends c c' (expired v xid) out i
decided-ends c c' xid r v now out (Moved found) i = waits-ends c c' (moved c.who v found xid) out i

looks-ends : (c c' : Core) (xid : ℤ) (r : Request) (v : View) (now : ℕ) (out : List Action) → Looks c xid r v now c' out → Ends c' out
looks-ends c c' xid r v now out (inl y) = asks-ends (record c { stage = Reading xid r v (take max_ranges y.lacking) }) c' _ out refl refl y.is
looks-ends c c' xid r v now out (inr (inl y)) = decided-ends c c' xid r (guessed v y.key) now out (Planned y.plan) y.is
looks-ends c c' xid r v now out (inr (inr y)) = decided-ends (keeps c r v) c' xid r v now out y.decision y.is

records-ends : (c c' : Core) (ws : List Want) (parts : List ActAns) (out : List Action) (Next : Type 0) → (Next → Ends c' out) → IfRecords c ws parts c' out Next → Ends c' out
records-ends c c' ws parts out Next f (inl e) = closed-ends c c' (cause.Damaged e.key e.value) out e.is
records-ends c c' ws parts out Next f (inr h) = f h.1

-- ---- a frame is taken up

plain-ends : (c c' : Core) (xid : ℤ) (t : Told) (out : List Action) → Is (plainly c xid t) c' out → Ends c' out
plain-ends c c' xid t out i = ends-is c' (plainly c xid t) out i (reply-ends (plainly c xid t).0 (reply_packet xid c.zxid t.reply) (end_of_plain (is_auth_refusal t.reply)) refl)

readable-ends : (c c' : Core) (now : ℕ) (out : List Action) (x : Frame) (o : Option Told) → TakesReadable c now c' out x o → Ends c' out
readable-ends c c' now out x (Some t) h = plain-ends c c' (xid_of x) t out h
readable-ends c c' now out NoHeader None h = absurd h
readable-ends c c' now out (Unreadable xid place) None h = absurd h
readable-ends c c' now out (Unknown xid kind) None h = absurd h
readable-ends c c' now out (Asks xid r) None h = go (first-or-anew c c' xid r now out (update_path r) h)
  where
    go : PlansBeside c xid r now c' out ⊎ Looks c xid r empty_view now c' out → Ends c' out
    go (inl y) = decided-ends (record c { views = y.views }) c' xid r y.view now out (Planned y.plan) y.is
    go (inr y) = looks-ends c c' xid r empty_view now out y

takes-ends : (c c' : Core) (bytes : List ℕ) (now : ℕ) (out : List Action) → TakesFrame c bytes now c' out → Ends c' out
takes-ends c c' bytes now out h = readable-ends c c' now out (read_request bytes) (plain_reply c.watches (read_request bytes)) h

takes_up-ends : (c c' : Core) (bytes : List ℕ) (now : ℕ) (out : List Action) → TakesUp c bytes now c' out → Ends c' out
takes_up-ends c c' bytes now out h =
    either (is_alive_due c.kept now c.timeout) (Is (keeps_alive c bytes now) c' out) (TakesFrame c bytes now c' out) (Ends c' out) h
    (asks-ends (record c { stage = KeepingAlive bytes; kept = now }) c' _ out refl refl)
    (takes-ends c c' bytes now out)

-- a core that is ready has only sent
ready-sends : (c : Core) (out : List Action) → c.stage ≡ Ready → Ends c out → only_sends out ≡ true
ready-sends c out r e = sends-only out (no_ask e.asks) (e.closes ∙ ap is_shut r)
  where
    no_ask : (is_shut c.stage ≡ true) ⊎ (asked_of c.who c.stage ≡ asked_by out) → asked_by out ≡ None
    no_ask (inl s) = let f : false ≡ true = sym (ap is_shut r) ∙ s in absurd (cc)
    no_ask (inr a) = sym a ∙ ap (asked_of c.who) r

pub goes-ends : (now : ℕ) (c c' : Core) (out : List Action) → Goes now c c' out → ((c' ≡ c) × (out ≡ [])) ⊎ ((c.stage ≡ Ready) × Ends c' out)
goes-ends now c c' out (rests why same none) = inl (same, none)
goes-ends now c c' out (takes d frame more first later r w t g o) = inr (r, subst (λ l. Ends c' l) (sym o) (go (goes-ends now d c' later g)))
  where
    e : Ends d first
    e = takes_up-ends (record c { waiting = more }) d frame now first t

    go : ((c' ≡ d) × (later ≡ [])) ⊎ ((d.stage ≡ Ready) × Ends c' later) → Ends c' (first ++ later)
    go (inl s) = subst (λ x. Ends x (first ++ later)) (sym s.0) (subst (λ l. Ends d l) (sym (ap (λ l. first ++ l) s.1 ∙ append-nil first)) e)
    go (inr s) = ends-after c' first later (ready-sends d first s.0 e) s.1

-- ---- answers

still-ends : (c c' : Core) (bytes : List ℕ) (v : View) (now : ℕ) (out : List Action) (o : Option Kv) → StillMine c bytes v now c' out o → Ends c' out
still-ends c c' bytes v now out None h = waits-ends c c' (expired v (xid_of (read_request bytes))) out h
still-ends c c' bytes v now out (Some kv) h =
    either (int_eq kv.mod_revision c.who.mine) (TakesFrame c bytes now c' out) (Is (waits c (moved c.who v kv.mod_revision (xid_of (read_request bytes)))) c' out) (Ends c' out) h
    (takes-ends c c' bytes now out)
    (waits-ends c c' (moved c.who v kv.mod_revision (xid_of (read_request bytes))) out)

checked-ends : (c c' : Core) (bytes : List ℕ) (now : ℕ) (out : List Action) (a : Answer) → Checked c bytes now c' out a → Ends c' out
checked-ends c c' bytes now out a h = of_txn a _ (Ends c' out) h (λ z b parts f.
    let v = viewed z (attach_wants c.who.session) parts in
    records-ends c c' (attach_wants c.who.session) parts out (Looked c bytes now c' out v) (still-ends c c' bytes v now out (found_at v (life_key c.who.session))) f)

alive-ends : (c c' : Core) (bytes : List ℕ) (now : ℕ) (out : List Action) (a : Answer) → KeptAlive c bytes now c' out a → Ends c' out
alive-ends c c' bytes now out a h = of_alive a _ (Ends c' out) h (λ ttl f.
    either (int_eq ttl (pos 0)) (Is (checks c bytes) c' out) (TakesFrame c bytes now c' out) (Ends c' out) f
    (asks-ends (record c { stage = Checking bytes }) c' _ out refl refl)
    (takes-ends c c' bytes now out))

read-ends : (c c' : Core) (xid : ℤ) (r : Request) (v : View) (ws : List Want) (now : ℕ) (out : List Action) (a : Answer) → ReadOn c xid r v ws now c' out a → Ends c' out
read-ends c c' xid r v ws now out a h = of_txn a _ (Ends c' out) h (λ z b parts f.
    let y = with_parts (at_revision v z) ws parts in
    records-ends c c' ws parts out (Looks c xid r y now c' out) (looks-ends c c' xid r y now out) f)

committed-ends : (c c' : Core) (xid : ℤ) (r : Request) (u : View) (p : Plan) (now : ℕ) (out : List Action) (z : ℤ) (b : Bool) (parts : List ActAns) → Committed c xid r u p now c' out z b parts → Ends c' out
committed-ends c c' xid r u p now out z true parts h = waits-ends h.kept c' (finishes xid r p z parts) out h.is
committed-ends c c' xid r u p now out z false parts h =
    let y = viewed z p.again parts in
    records-ends c c' p.again parts out (Looks c xid r y now c' out) (looks-ends c c' xid r y now out) h

-- ---- connecting

connected-ends : (c c' : Core) (now : ℕ) (new : Connect) (out : List Action) (step : ConnectStep) → ((q : Ask) → step ≡ steps.Ask q → asked_in_phase new new.phase ≡ Some q) → Is (connected c now new step) c' out → Ends c' out
connected-ends c c' now new out (steps.Ask q) h i = asks-ends (connected c now new (steps.Ask q)).0 c' q out refl (h q refl) i
connected-ends c c' now new out (steps.Attached response who timeout number zxid) h i = ends-is c' (connected c now new (steps.Attached response who timeout number zxid)) out i (record { well = refl; closes = refl; asks = inr refl })
connected-ends c c' now new out (steps.Ahead client head) h i = closed-ends c c' (cause.ZxidAhead client head) out i
connected-ends c c' now new out steps.Unknown h i = ends-is c' (connected c now new steps.Unknown) out i (record { well = refl; closes = refl; asks = inl refl })
connected-ends c c' now new out (steps.Taken revision) h i = closed-ends c c' (cause.Taken revision) out i

connects-ends : (c c' : Core) (connect : Connect) (a : Option Answer) (now : ℕ) (out : List Action) → Connects c connect a now c' out → Ends c' out
connects-ends c c' connect a now out (inl e) = closed-ends c c' (cause.Damaged e.key e.value) out e.is
connects-ends c c' connect a now out (inr s) =
    connected-ends c c' now s.new out s.step (λ q is. sym (connect-asks connect a s.step s.new s.steps) ∙ ap connect_asked is) s.is

opens-ends : (c c' : Core) (place : ℕ) (fresh : Fresh) (now : ℕ) (out : List Action) (o : Option ConnectRequest) → Opens c place fresh now c' out o → Ends c' out
opens-ends c c' place fresh now out None h = closed-ends c c' (cause.NoHeader place) out h
opens-ends c c' place fresh now out (Some r) h = connects-ends c c' (begun r fresh) None now out h

answers-ends : (c c' : Core) (a : Answer) (now : ℕ) (out : List Action) (st : Stage) → Answers c a now c' out st → Ends c' out
answers-ends c c' a now out (Unconnected fresh) h = absurd h
answers-ends c c' a now out (Connecting connect) h = connects-ends c c' connect (Some a) now out h
answers-ends c c' a now out (KeepingAlive bytes) h = alive-ends c c' bytes now out a h
answers-ends c c' a now out (Checking bytes) h = checked-ends c c' bytes now out a h
answers-ends c c' a now out (Reading xid r v ws) h = read-ends c c' xid r v ws now out a h
answers-ends c c' a now out (Committing xid r v p time) h = of_txn a _ (Ends c' out) h (λ z b parts f. committed-ends c c' xid r v p now out z b parts f)
answers-ends c c' a now out Ready h = absurd h
answers-ends c c' a now out (Waiting p) h = absurd h
answers-ends c c' a now out Shut h = absurd h

-- ---- a step

-- or it leaves what is out
abbrev HandledEnds : Core → Core → Input → List Action → Type 0
HandledEnds c c' x out = Ends c' out ⊎ (StaysOut c c' x out × (only_sends out ≡ true))

stays : (c : Core) (x : Input) (d c' : Core) (first out : List Action) → takes_out x ≡ false → d.stage ≡ c.stage → only_sends first ≡ true → Is (d, first) c' out → HandledEnds c c' x out
stays c x d c' first out t st only i = inr ((t, ap (λ (e : Core). e.stage) i.0 ∙ st, ap asked_by i.1 ∙ asks-nothing first only), ap only_sends i.1 ∙ only)

queued-ends : (c c' : Core) (bytes : List ℕ) (out : List Action) → MatchBool (has_header (read_request bytes)) (Is (queued c bytes, []) c' out) (Is (closed_by c (cause.NoHeader c.taken)) c' out) → HandledEnds c c' (input.Frame bytes) out
queued-ends c c' bytes out h =
    either (has_header (read_request bytes)) (Is (queued c bytes, []) c' out) (Is (closed_by c (cause.NoHeader c.taken)) c' out) (HandledEnds c c' (input.Frame bytes) out) h
    (stays c (input.Frame bytes) (queued c bytes) c' [] out refl refl refl)
    (λ i. inl (closed-ends c c' (cause.NoHeader c.taken) out i))

comes-ends : (c c' : Core) (bytes : List ℕ) (now : ℕ) (out : List Action) (st : Stage) → Comes c bytes now c' out st → HandledEnds c c' (input.Frame bytes) out
comes-ends c c' bytes now out (Unconnected fresh) h = inl (opens-ends (with_frame_counted c bytes) c' c.taken fresh now out (read_connect bytes) h)
comes-ends c c' bytes now out (Connecting connect) h = queued-ends c c' bytes out h
comes-ends c c' bytes now out Ready h = queued-ends c c' bytes out h
comes-ends c c' bytes now out (KeepingAlive f) h = queued-ends c c' bytes out h
comes-ends c c' bytes now out (Checking f) h = queued-ends c c' bytes out h
comes-ends c c' bytes now out (Reading xid r v ws) h = queued-ends c c' bytes out h
comes-ends c c' bytes now out (Committing xid r v p m) h = queued-ends c c' bytes out h
comes-ends c c' bytes now out (Waiting p) h = queued-ends c c' bytes out h
comes-ends c c' bytes now out Shut h = queued-ends c c' bytes out h

module _ (c c' : Core) (x : Input) (e : Entry) (out : List Action) (left : takes_out x ≡ false) where
  as-it-was : Is (entered c e) c' out → HandledEnds c c' x out
  as-it-was i = stays c x (entered c e).0 c' (entered c e).1 out left refl (notices-only (fire_all c.watches e.triggers).1) i

  entry-ends : (st : Stage) → Is (then_reply (entered c e) st) c' out → HandledEnds c c' x out
  entry-ends (Waiting p) i =
      let d = (entered c e).0 in
      inl (ends-is c' (then_reply (entered c e) (Waiting p)) out i (ends-after (waits d p).0 (entered c e).1 (waits d p).1 (notices-only (fire_all c.watches e.triggers).1) (waits-ends d (waits d p).0 p (waits d p).1 (refl, refl))))
  entry-ends (Unconnected fresh) i = as-it-was i
  entry-ends (Connecting connect) i = as-it-was i
  entry-ends Ready i = as-it-was i
  entry-ends (KeepingAlive f) i = as-it-was i
  entry-ends (Checking f) i = as-it-was i
  entry-ends (Reading xid r v ws) i = as-it-was i
  entry-ends (Committing xid r v p m) i = as-it-was i
  entry-ends Shut i = as-it-was i

handled-ends : (c c' : Core) (x : Input) (now : ℕ) (out : List Action) → Handles c x now c' out → HandledEnds c c' x out
handled-ends c c' (input.Frame bytes) now out h = comes-ends c c' bytes now out c.stage h
handled-ends c c' (input.Answer a) now out h = inl (answers-ends c c' a now out c.stage h)
handled-ends c c' (input.Entry e) now out h = entry-ends c c' (input.Entry e) (arc_value e) out refl c.stage h
handled-ends c c' input.Failed now out h = inl (closed-ends c c' cause.LinkFault out h)
handled-ends c c' (input.BadLength place length) now out h = inl (closed-ends c c' (cause.BadLength place length) out h)
handled-ends c c' (input.Lagged cursor floor) now out h = inl (closed-ends c c' (cause.Lagged cursor floor) out h)
handled-ends c c' input.FeedClosed now out h = inl (closed-ends c c' cause.FeedClosed out h)
handled-ends c c' (input.ClientEnd place) now out h = inl (closed-ends c c' (cause.ClientEnd place) out h)

ends-well : (c c' : Core) (x : Input) (out : List Action) → Ends c' out → EndsWell c c' x out
ends-well c c' x out e = record { well = e.well; closes = e.closes; asks = elim e.asks [ inl s ↦ inl s | inr a ↦ inr (inl a) ] }

only-well : (out : List Action) → only_sends out ≡ true → (ends_well out ≡ true) × (closes out ≡ false)
only-well out h = let b = after_sends out [] h in (ap ends_well (sym (append-nil out)) ∙ b.well, ap closes (sym (append-nil out)) ∙ b.closes)

pub steps_end_well : (c c' : Core) (x : Input) (now : ℕ) (out : List Action) → is_shut c.stage ≡ false → Steps c x now c' out → EndsWell c c' x out
steps_end_well c c' x now out open_now h = go (steps-open c c' x now out open_now h)
  where
    joined : (mid : Core) (first later : List Action) → HandledEnds c mid x first → ((c' ≡ mid) × (later ≡ [])) ⊎ ((mid.stage ≡ Ready) × Ends c' later) → EndsWell c c' x (first ++ later)
    joined mid first later (inl e) (inl s) = ends-well c c' x (first ++ later) (subst (λ d. Ends d (first ++ later)) (sym s.0) (subst (λ l. Ends mid l) (sym (ap (λ l. first ++ l) s.1 ∙ append-nil first)) e))
    joined mid first later (inl e) (inr s) = ends-well c c' x (first ++ later) (ends-after c' first later (ready-sends mid first s.0 e) s.1)
    joined mid first later (inr e) (inl s) =
        let same : first ++ later ≡ first = ap (λ l. first ++ l) s.1 ∙ append-nil first in
        let w = only-well first e.1 in
        let st : c'.stage ≡ c.stage = ap (λ (d : Core). d.stage) s.0 ∙ (e.0).1 in
        record {
          well = ap ends_well same ∙ w.0;
          closes = ap closes same ∙ w.1 ∙ sym (ap is_shut st ∙ open_now);
          asks = inr (inr ((e.0).0, st, ap asked_by same ∙ (e.0).2));
        }
    joined mid first later (inr e) (inr s) = ends-well c c' x (first ++ later) (ends-after c' first later e.1 s.1)

    go : StepsOpen c x now c' out → EndsWell c c' x out
    go s = subst (λ l. EndsWell c c' x l) (sym s.joined) (joined s.mid s.first s.later (handled-ends c s.mid x now s.first s.handled) (goes-ends now s.mid c' s.later s.goes))
