-- Each frame that came is taken up or waits after the others.
use Rattle.std.proofs.Common.{◌≡◌, ℕ, suc, take, ◌+◌, ◌≤◌, List, [], ◌∷◌, length, refl, sym, ap, ◌∙◌, subst, arith, Bool, true, false, ℤ, pos, inl, inr}
use Rattle.std.specs.Prelude.{Option, Some, None, ◌⊎◌, if◌then◌else◌, MatchBool}
use Rattle.std.specs.Arc.{arc_value}
use Rattle.std.specs.Ordering.{int_eq}
use Rattle.std.proofs.lemmas.List.{length-append}
use Rattle.ev_types.specs.declared.answer.ActAns.{ActAns}
use Rattle.ev_types.specs.declared.answer.Answer.{Answer}
use Rattle.ev_types.specs.declared.answer.Kv.{Kv}
use Rattle.zk_jute.specs.Connects.{read_connect}
use Rattle.zk_jute.specs.Requests.{Frame, NoHeader, Unreadable, Unknown, Asks, read_request}
use Rattle.zk_model.specs.declared.connect.ConnectRequest.{ConnectRequest}
use Rattle.zk_model.specs.declared.request.Request.{Request}
use Rattle.zk_service.specs.Answers.{Told, plain_reply, xid_of, has_header, is_auth_refusal}
use Rattle.zk_service.specs.declared.cause.Cause.{Cause}
use Rattle.zk_service.specs.declared.cause.Cause.TheVariants as cause
use Rattle.zn_layout.specs.declared.entry.Entry.{Entry}
use Rattle.zn_view.specs.Lookups.{found_at}
use Rattle.zn_view.specs.Adding.{at_revision}
use Rattle.zn_view.specs.Asks.{with_parts}
use Rattle.zn_view.specs.Seen.{View, empty_view}
use Rattle.zn_view.specs.declared.plan.Decision.{Decision}
use Rattle.zn_view.specs.declared.plan.Decision.TheVariants.{Answered, Planned, Expired, Moved}
use Rattle.zn_view.specs.declared.plan.Plan.{Plan}
use Rattle.zn_view.specs.declared.want.Want.{Want}
use Rattle.zs_session.specs.Alive.{is_alive_due}
use Rattle.zs_session.specs.Answering.{viewed}
use Rattle.zs_session.specs.Sessions.{attach_wants, life_key}
use Rattle.zs_session.specs.declared.connect.Connect.{Connect}
use Rattle.zs_session.specs.declared.connect.ConnectStep.{ConnectStep}
use Rattle.zs_session.specs.declared.connect.ConnectStep.TheVariants as steps
use Rattle.zk_service.specs.declared.fresh.Fresh.{Fresh}
use Rattle.zp_step.specs.Connects.{Connects, Opens, begun, connected}
use Rattle.zp_step.specs.Entries.{entered, then_reply}
use Rattle.zp_step.specs.Keepalives.{Checked, KeptAlive, Looked, StillMine, TakesUp, checks, keeps_alive}
use Rattle.zp_step.specs.Kept.{keeps}
use Rattle.zn_view.specs.Keeping.{update_path}
use Rattle.zp_step.specs.Looking.{IfRecords, Looks, asks_for, change_by, decided, expired, guessed, max_ranges, moved, pending}
use Rattle.zp_step.specs.Plans.{Committed, ReadOn, finishes}
use Rattle.zp_step.specs.Replies.{Is, closed_by, is_due, replied, stage_after, waits}
use Rattle.zp_step.specs.Stages.{Core, Pending, Stage, Unconnected, Connecting, Ready, KeepingAlive, Checking, Reading, Committing, Waiting, Shut, counted_up, is_shut, max_count, is_served, next_frame, waits_from}
use Rattle.zp_step.specs.Steps.{Answers, Comes, Goes, Handles, Steps, StepsOpen, with_frame_counted, queued, rests, takes}
use Rattle.zp_step.specs.Taking.{TakesFrame, TakesReadable, end_of_plain, plainly}
use Rattle.zp_step.specs.declared.action.Action.{Action}
use Rattle.zp_step.specs.declared.input.Input.{Input}
use Rattle.zp_step.specs.declared.input.Input.TheVariants as input
use Rattle.zp_step.proofs.Shutting.{steps-open}
use Rattle.zp_step.proofs.Beside.{PlansBeside, first-or-anew, leaves-beside}
use Rattle.zp_step.specs.Ending.{CountsOn, IsNumbered, comes_in}
use Rattle.zp_step.proofs.Cases.{of_alive, of_txn}
use Rattle.zx_base.proofs.Booleans.{either}

-- ---- a count of 64 bits

pub counted-small : (n : ℕ) → n ≤ max_count → counted_up n ≡ n
counted-small n h = omega (arith, h)

-- ---- an open core keeps the index of the next frame that comes

-- served cores stay served, and no core goes back to where it had no frame
abbrev pub Follows : Bool → Core → Type 0
Follows served c = (served ≡ true → is_served c.stage ≡ true) × IsNumbered c c.stage

abbrev pub Keeps : Bool → ℕ → Core → Type 0
Keeps served n c = (is_shut c.stage ≡ true) ⊎ ((next_frame c ≡ n) × Follows served c)

is-keeps : (b : Bool) (n : ℕ) (x : Core × List Action) (c' : Core) (out : List Action) → Keeps b n x.0 → Is x c' out → Keeps b n c'
is-keeps b n x c' out k i = subst (Keeps b n) (sym i.0) k

-- ---- where a frame is at work

abbrev work : Core → ℕ
work c = c.next + 1 + length c.waiting

module _ (n : ℕ) (small : n ≤ max_count) where
  -- one frame more is answered
  answered : (c d : Core) (o : Option Cause) → work c ≡ n → d.stage ≡ stage_after o → d.next ≡ counted_up (c.next + 1) → d.waiting ≡ c.waiting → Keeps true n d
  answered c d (Some why) w st next same = inl (ap is_shut st)
  answered c d None w st next same =
      let up : d.next ≡ c.next + 1 = next ∙ counted-small (c.next + 1) (omega (arith, w, small)) in
      inr (ap (λ s. waits_from s d.next + length d.waiting) st ∙ (omega (arith, up, ap (λ (l : List (List ℕ)). length l) same, w)), ((λ h. ap is_served st), subst (IsNumbered d) (sym st) tt))

  replied-keeps : (c : Core) (p : Pending) → work c ≡ n → Keeps true n (replied c p).0
  replied-keeps c p w = answered c (replied c p).0 p.ends w refl refl refl

  waits-keeps : (c : Core) (p : Pending) → work c ≡ n → Keeps true n (waits c p).0
  waits-keeps c p w = go (is_due c p)
    where
      go : (b : Bool) → Keeps true n (if b then replied c p else (record c { stage = Waiting p }, [])).0
      go true = replied-keeps c p w
      go false = inr (w, ((λ h. refl), tt))

  decided-keeps : (c : Core) (xid : ℤ) (r : Request) (v : View) (now : ℕ) (d : Decision) → work c ≡ n → Keeps true n (decided c xid r v now d).0
  decided-keeps c xid r v now (Answered answer arm) w = waits-keeps c (pending v xid answer (change_by r v arm) None) w
  decided-keeps c xid r v now (Planned p) w = inr (w, ((λ h. refl), tt))
  decided-keeps c xid r v now Expired w = waits-keeps c (expired v xid) w
  decided-keeps c xid r v now (Moved found) w = waits-keeps c (moved c.who v found xid) w

  module _ (c' : Core) (out : List Action) where
    looks-keeps : (c : Core) (xid : ℤ) (r : Request) (v : View) (now : ℕ) → work c ≡ n → Looks c xid r v now c' out → Keeps true n c'
    looks-keeps c xid r v now w (inl y) = is-keeps true n (asks_for c xid r v (take max_ranges y.lacking)) c' out (inr (w, ((λ h. refl), tt))) y.is
    looks-keeps c xid r v now w (inr (inl y)) = is-keeps true n (decided c xid r (guessed v y.key) now (Planned y.plan)) c' out (decided-keeps c xid r (guessed v y.key) now (Planned y.plan) w) y.is
    looks-keeps c xid r v now w (inr (inr y)) = is-keeps true n (decided (keeps c r v) xid r v now y.decision) c' out (decided-keeps (keeps c r v) xid r v now y.decision w) y.is

    records-keeps : (c : Core) (ws : List Want) (parts : List ActAns) (Next : Type 0) → (Next → Keeps true n c') → IfRecords c ws parts c' out Next → Keeps true n c'
    records-keeps c ws parts Next f (inl e) = is-keeps true n (closed_by c (cause.Damaged e.key e.value)) c' out (inl refl) e.is
    records-keeps c ws parts Next f (inr h) = f h.1

    readable-keeps : (c : Core) (now : ℕ) (x : Frame) (o : Option Told) → work c ≡ n → TakesReadable c now c' out x o → Keeps true n c'
    readable-keeps c now x (Some t) w h = is-keeps true n (plainly c (xid_of x) t) c' out (answered c (plainly c (xid_of x) t).0 (end_of_plain (is_auth_refusal t.reply)) w refl refl refl) h
    readable-keeps c now NoHeader None w h = absurd h
    readable-keeps c now (Unreadable xid place) None w h = absurd h
    readable-keeps c now (Unknown xid kind) None w h = absurd h
    readable-keeps c now (Asks xid r) None w h = go (first-or-anew c c' xid r now out (update_path r) h)
      where
        go : PlansBeside c xid r now c' out ⊎ Looks c xid r empty_view now c' out → Keeps true n c'
        go (inl y) = let d = record c { views = y.views } in is-keeps true n (decided d xid r y.view now (Planned y.plan)) c' out (decided-keeps d xid r y.view now (Planned y.plan) w) y.is
        go (inr y) = looks-keeps c xid r empty_view now w y

    takes-keeps : (c : Core) (bytes : List ℕ) (now : ℕ) → work c ≡ n → TakesFrame c bytes now c' out → Keeps true n c'
    takes-keeps c bytes now w h = readable-keeps c now (read_request bytes) (plain_reply c.watches (read_request bytes)) w h

    takes_up-keeps : (c : Core) (bytes : List ℕ) (now : ℕ) → work c ≡ n → TakesUp c bytes now c' out → Keeps true n c'
    takes_up-keeps c bytes now w h =
        either (is_alive_due c.kept now c.timeout) (Is (keeps_alive c bytes now) c' out) (TakesFrame c bytes now c' out) (Keeps true n c') h
        (is-keeps true n (keeps_alive c bytes now) c' out (inr (w, ((λ g. refl), tt))))
        (takes-keeps c bytes now w)

    -- ---- answers

    still-keeps : (c : Core) (bytes : List ℕ) (v : View) (now : ℕ) (o : Option Kv) → work c ≡ n → StillMine c bytes v now c' out o → Keeps true n c'
    still-keeps c bytes v now None w h = is-keeps true n (waits c (expired v (xid_of (read_request bytes)))) c' out (waits-keeps c (expired v (xid_of (read_request bytes))) w) h
    still-keeps c bytes v now (Some kv) w h =
        let m = moved c.who v kv.mod_revision (xid_of (read_request bytes)) in
        either (int_eq kv.mod_revision c.who.mine) (TakesFrame c bytes now c' out) (Is (waits c m) c' out) (Keeps true n c') h (takes-keeps c bytes now w) (is-keeps true n (waits c m) c' out (waits-keeps c m w))

    checked-keeps : (c : Core) (bytes : List ℕ) (now : ℕ) (a : Answer) → work c ≡ n → Checked c bytes now c' out a → Keeps true n c'
    checked-keeps c bytes now a w h = of_txn a _ (Keeps true n c') h (λ z b parts f.
        let v = viewed z (attach_wants c.who.session) parts in
        records-keeps c (attach_wants c.who.session) parts (Looked c bytes now c' out v) (still-keeps c bytes v now (found_at v (life_key c.who.session)) w) f)

    alive-keeps : (c : Core) (bytes : List ℕ) (now : ℕ) (a : Answer) → work c ≡ n → KeptAlive c bytes now c' out a → Keeps true n c'
    alive-keeps c bytes now a w h = of_alive a _ (Keeps true n c') h (λ ttl f.
        either (int_eq ttl (pos 0)) (Is (checks c bytes) c' out) (TakesFrame c bytes now c' out) (Keeps true n c') f
        (is-keeps true n (checks c bytes) c' out (inr (w, ((λ g. refl), tt))))
        (takes-keeps c bytes now w))

    read-keeps : (c : Core) (xid : ℤ) (r : Request) (v : View) (ws : List Want) (now : ℕ) (a : Answer) → work c ≡ n → ReadOn c xid r v ws now c' out a → Keeps true n c'
    read-keeps c xid r v ws now a w h = of_txn a _ (Keeps true n c') h (λ z b parts f.
        let y = with_parts (at_revision v z) ws parts in
        records-keeps c ws parts (Looks c xid r y now c' out) (looks-keeps c xid r y now w) f)

    committed-keeps : (c : Core) (xid : ℤ) (r : Request) (u : View) (p : Plan) (now : ℕ) (z : ℤ) (b : Bool) (parts : List ActAns) → work c ≡ n → Committed c xid r u p now c' out z b parts → Keeps true n c'
    committed-keeps c xid r u p now z true parts w h =
        let e = leaves-beside c h.kept (update_path r) u p z parts h.leaves in
        is-keeps true n (waits h.kept (finishes xid r p z parts)) c' out (waits-keeps h.kept (finishes xid r p z parts) (ap work e.1 ∙ w)) h.is
    committed-keeps c xid r u p now z false parts w h =
        let y = viewed z p.again parts in
        records-keeps c p.again parts (Looks c xid r y now c' out) (looks-keeps c xid r y now w) h

    -- ---- connecting

    connected-keeps : (c : Core) (now : ℕ) (new : Connect) (step : ConnectStep) → c.next + length c.waiting ≡ n → Is (connected c now new step) c' out → Keeps false n c'
    connected-keeps c now new (steps.Ask q) w i = is-keeps false n (connected c now new (steps.Ask q)) c' out (inr (w, ((λ h. absurd (cc)), tt))) i
    connected-keeps c now new (steps.Attached response who timeout number zxid) w i = is-keeps false n (connected c now new (steps.Attached response who timeout number zxid)) c' out (inr (w, ((λ h. refl), tt))) i
    connected-keeps c now new (steps.Ahead client head) w i = is-keeps false n (closed_by c (cause.ZxidAhead client head)) c' out (inl refl) i
    connected-keeps c now new steps.Unknown w i = is-keeps false n (connected c now new steps.Unknown) c' out (inl refl) i
    connected-keeps c now new (steps.Taken revision) w i = is-keeps false n (closed_by c (cause.Taken revision)) c' out (inl refl) i

    connects-keeps : (c : Core) (connect : Connect) (a : Option Answer) (now : ℕ) → c.next + length c.waiting ≡ n → Connects c connect a now c' out → Keeps false n c'
    connects-keeps c connect a now w (inl e) = is-keeps false n (closed_by c (cause.Damaged e.key e.value)) c' out (inl refl) e.is
    connects-keeps c connect a now w (inr s) = connected-keeps c now s.new s.step w s.is

    opens-keeps : (c : Core) (place : ℕ) (fresh : Fresh) (now : ℕ) (o : Option ConnectRequest) → c.next + length c.waiting ≡ n → Opens c place fresh now c' out o → Keeps false n c'
    opens-keeps c place fresh now None w h = is-keeps false n (closed_by c (cause.NoHeader place)) c' out (inl refl) h
    opens-keeps c place fresh now (Some r) w h = connects-keeps c (begun r fresh) None now w h

    -- ---- by the stage

    answers-keeps : (c : Core) (a : Answer) (now : ℕ) (st : Stage) → waits_from st c.next + length c.waiting ≡ n → Answers c a now c' out st → Keeps (is_served st) n c'
    answers-keeps c a now (Unconnected fresh) w h = absurd h
    answers-keeps c a now (Connecting connect) w h = connects-keeps c connect (Some a) now w h
    answers-keeps c a now (KeepingAlive bytes) w h = alive-keeps c bytes now a w h
    answers-keeps c a now (Checking bytes) w h = checked-keeps c bytes now a w h
    answers-keeps c a now (Reading xid r v ws) w h = read-keeps c xid r v ws now a w h
    answers-keeps c a now (Committing xid r v p time) w h = of_txn a _ (Keeps true n c') h (λ z b parts f. committed-keeps c xid r v p now z b parts w f)
    answers-keeps c a now Ready w h = absurd h
    answers-keeps c a now (Waiting p) w h = absurd h
    answers-keeps c a now Shut w h = absurd h

    queued-keeps : (c : Core) (bytes : List ℕ) → waits_from c.stage c.next + length c.waiting + 1 ≡ n → IsNumbered c c.stage
        → MatchBool (has_header (read_request bytes)) (Is (queued c bytes, []) c' out) (Is (closed_by c (cause.NoHeader c.taken)) c' out) → Keeps (is_served c.stage) n c'
    queued-keeps c bytes w k h =
        either (has_header (read_request bytes)) (Is (queued c bytes, []) c' out) (Is (closed_by c (cause.NoHeader c.taken)) c' out) (Keeps (is_served c.stage) n c') h
        (is-keeps (is_served c.stage) n (queued c bytes, []) c' out (inr (omega (arith, w, length-append c.waiting (bytes ∷ [])), ((λ g. g), numbered c.stage k))))
        (is-keeps (is_served c.stage) n (closed_by c (cause.NoHeader c.taken)) c' out (inl refl))
      where
        numbered : (st : Stage) → IsNumbered c st → IsNumbered (queued c bytes) st
        numbered (Unconnected fresh) e = e
        numbered (Connecting connect) e = tt
        numbered Ready e = tt
        numbered (KeepingAlive f) e = tt
        numbered (Checking f) e = tt
        numbered (Reading xid r v ws) e = tt
        numbered (Committing xid r v p m) e = tt
        numbered (Waiting p) e = tt
        numbered Shut e = tt

-- ---- frames are taken up

shut-goes : (now : ℕ) (c c' : Core) (out : List Action) → is_shut c.stage ≡ true → Goes now c c' out → is_shut c'.stage ≡ true
shut-goes now c c' out s (rests why same none) = ap (λ (d : Core). is_shut d.stage) same ∙ s
shut-goes now c c' out s (takes d frame more first later ready w t g o) = let f : false ≡ true = sym (ap is_shut ready) ∙ s in absurd (cc)

goes-keeps : (now n : ℕ) (b : Bool) (c c' : Core) (out : List Action) → n ≤ max_count → Keeps b n c → Goes now c c' out → Keeps b n c'
goes-keeps now n b c c' out small k (rests why same none) = subst (Keeps b n) (sym same) k
goes-keeps now n b c c' out small (inl s) (takes d frame more first later ready w t g o) = inl (shut-goes now c c' out s (takes d frame more first later ready w t g o))
goes-keeps now n b c c' out small (inr k) (takes d frame more first later ready w t g o) =
    goes-keeps now n b d c' later small (as_served (takes_up-keeps n small d first (record c { waiting = more }) frame now here t)) g
  where
    here : c.next + 1 + length more ≡ n
    here =
        let one : c.next + length c.waiting ≡ n = sym (ap (λ st. waits_from st c.next + length c.waiting) ready) ∙ k.0 in
        let two : length c.waiting ≡ suc (length more) = ap (λ (l : List (List ℕ)). length l) w in
        omega (arith, one, two)

    as_served : Keeps true n d → Keeps b n d
    as_served (inl s) = inl s
    as_served (inr q) = inr (q.0, ((λ h. (q.1).0 refl), (q.1).1))

-- it goes on until no frame waits, or one is at work
goes-rested : (now : ℕ) (c c' : Core) (out : List Action) → Goes now c c' out → c'.stage ≡ Ready → c'.waiting ≡ []
goes-rested now c c' out (rests (inl busy) same none) ready = absurd (busy (sym (ap (λ (d : Core). d.stage) same) ∙ ready))
goes-rested now c c' out (rests (inr empty) same none) ready = ap (λ (d : Core). d.waiting) same ∙ empty
goes-rested now c c' out (takes d frame more first later is w t g o) ready = goes-rested now d c' later g ready

-- ---- a step

at-stage : (c mid : Core) (bytes : List ℕ) (n : ℕ) (out : List Action) (st : Stage) → c.stage ≡ st → n ≤ max_count → waits_from st c.next + length c.waiting + 1 ≡ n → IsNumbered c st
    → MatchBool (has_header (read_request bytes)) (Is (queued c bytes, []) mid out) (Is (closed_by c (cause.NoHeader c.taken)) mid out) → Keeps (is_served st) n mid
at-stage c mid bytes n out st e small w k h =
    subst (λ s. Keeps (is_served s) n mid) e (queued-keeps n small mid out c bytes (ap (λ s. waits_from s c.next + length c.waiting + 1) e ∙ w) (subst (IsNumbered c) (sym e) k) h)

frame-keeps : (c mid : Core) (bytes : List ℕ) (now n : ℕ) (out : List Action) (st : Stage) → c.stage ≡ st → n ≤ max_count → waits_from st c.next + length c.waiting + 1 ≡ n → IsNumbered c st → Comes c bytes now mid out st → Keeps (is_served st) n mid
frame-keeps c mid bytes now n out (Unconnected fresh) e small w k h = opens-keeps n small mid out (with_frame_counted c bytes) c.taken fresh now (read_connect bytes) (omega (arith, w, k)) h
frame-keeps c mid bytes now n out (Connecting connect) e small w k h = at-stage c mid bytes n out (Connecting connect) e small w k h
frame-keeps c mid bytes now n out Ready e small w k h = at-stage c mid bytes n out Ready e small w k h
frame-keeps c mid bytes now n out (KeepingAlive f) e small w k h = at-stage c mid bytes n out (KeepingAlive f) e small w k h
frame-keeps c mid bytes now n out (Checking f) e small w k h = at-stage c mid bytes n out (Checking f) e small w k h
frame-keeps c mid bytes now n out (Reading xid r v ws) e small w k h = at-stage c mid bytes n out (Reading xid r v ws) e small w k h
frame-keeps c mid bytes now n out (Committing xid r v p m) e small w k h = at-stage c mid bytes n out (Committing xid r v p m) e small w k h
frame-keeps c mid bytes now n out (Waiting p) e small w k h = at-stage c mid bytes n out (Waiting p) e small w k h
frame-keeps c mid bytes now n out Shut e small w k h = at-stage c mid bytes n out Shut e small w k h

entered-numbered : (c : Core) (e : Entry) (st : Stage) → IsNumbered c st → IsNumbered (entered c e).0 st
entered-numbered c e (Unconnected fresh) k = k
entered-numbered c e (Connecting connect) k = tt
entered-numbered c e Ready k = tt
entered-numbered c e (KeepingAlive f) k = tt
entered-numbered c e (Checking f) k = tt
entered-numbered c e (Reading xid r v ws) k = tt
entered-numbered c e (Committing xid r v p m) k = tt
entered-numbered c e (Waiting p) k = tt
entered-numbered c e Shut k = tt

module _ (c : Core) (e : Entry) (n : ℕ) (small : n ≤ max_count) (w : next_frame c ≡ n) (k : IsNumbered c c.stage) where
  as-it-was : Keeps (is_served c.stage) n (entered c e).0
  as-it-was = inr (w, ((λ h. h), entered-numbered c e c.stage k))

  entry-keeps : (st : Stage) → c.stage ≡ st → Keeps (is_served c.stage) n (then_reply (entered c e) st).0
  entry-keeps (Waiting p) s = subst (λ b. Keeps b n (waits (entered c e).0 p).0) (sym (ap is_served s)) (waits-keeps n small (entered c e).0 p (sym (ap (λ st. waits_from st c.next + length c.waiting) s) ∙ w))
  entry-keeps (Unconnected fresh) s = as-it-was
  entry-keeps (Connecting connect) s = as-it-was
  entry-keeps Ready s = as-it-was
  entry-keeps (KeepingAlive f) s = as-it-was
  entry-keeps (Checking f) s = as-it-was
  entry-keeps (Reading xid r v ws) s = as-it-was
  entry-keeps (Committing xid r v p m) s = as-it-was
  entry-keeps Shut s = as-it-was

module _ (c mid : Core) (now n : ℕ) (out : List Action) (small : n ≤ max_count) (k : IsNumbered c c.stage) where
  closed-keeps : (why : Cause) → Is (closed_by c why) mid out → Keeps (is_served c.stage) n mid
  closed-keeps why i = is-keeps (is_served c.stage) n (closed_by c why) mid out (inl refl) i

  handled-keeps : (x : Input) → next_frame c + comes_in x ≡ n → Handles c x now mid out → Keeps (is_served c.stage) n mid
  handled-keeps (input.Frame bytes) w h = frame-keeps c mid bytes now n out c.stage refl small w k h
  handled-keeps (input.Answer a) w h = answers-keeps n small mid out c a now c.stage (omega (arith, w)) h
  handled-keeps (input.Entry e) w h = is-keeps (is_served c.stage) n (then_reply (entered c (arc_value e)) c.stage) mid out (entry-keeps c (arc_value e) n small (omega (arith, w)) k c.stage refl) h
  handled-keeps input.Failed w h = closed-keeps cause.LinkFault h
  handled-keeps (input.BadLength place length) w h = closed-keeps (cause.BadLength place length) h
  handled-keeps (input.Lagged cursor floor) w h = closed-keeps (cause.Lagged cursor floor) h
  handled-keeps input.FeedClosed w h = closed-keeps cause.FeedClosed h
  handled-keeps (input.ClientEnd place) w h = closed-keeps (cause.ClientEnd place) h

pub steps_count : (c c' : Core) (x : Input) (now : ℕ) (out : List Action) → is_shut c.stage ≡ false → IsNumbered c c.stage → next_frame c + comes_in x ≤ max_count → Steps c x now c' out → (is_shut c'.stage ≡ true) ⊎ CountsOn c c' x
steps_count c c' x now out open_now k small h = go (steps-open c c' x now out open_now h)
  where
    n : ℕ
    n = next_frame c + comes_in x

    counts : (c'.stage ≡ Ready → c'.waiting ≡ []) → Keeps (is_served c.stage) n c' → (is_shut c'.stage ≡ true) ⊎ CountsOn c c' x
    counts r (inl s) = inl s
    counts r (inr q) = inr (record { number = q.0; served = (q.1).0; numbered = (q.1).1; rested = r })

    go : StepsOpen c x now c' out → (is_shut c'.stage ≡ true) ⊎ CountsOn c c' x
    go s = counts (goes-rested now s.mid c' s.later s.goes) (goes-keeps now n (is_served c.stage) s.mid c' s.later small (handled-keeps c s.mid now n s.first small k x refl s.handled) s.goes)
