-- Each row of a step.
use Rattle.std.proofs.Common.{◌≡◌, ℕ, ◌+◌, ℤ, pos, List, [], ◌∷◌, ◌++◌, length, Bool, true, false, refl, sym, ap, ◌∙◌, subst, inl, inr, append-nil, arith}
use Rattle.std.specs.Prelude.{◌⊎◌, Option, Some, None, All, Contains, MatchBool, int_lt}
use Rattle.std.specs.Arc.{arc_value}
use Rattle.std.specs.Ordering.{int_eq}
use Rattle.std.proofs.lemmas.List.Elements.{All-append, All-cons, All-head, All-nil, All-tail, Contains-append_right}
use Rattle.ev_types.specs.Store.{chosen}
use Rattle.ev_types.specs.declared.answer.ActAns.{ActAns}
use Rattle.ev_types.specs.declared.answer.Answer.{Answer}
use Rattle.ev_types.specs.declared.answer.Answer.TheVariants as answer
use Rattle.ev_types.specs.declared.answer.Kv.{Kv}
use Rattle.ev_types.specs.declared.ask.Ask.{Ask}
use Rattle.ev_types.specs.declared.ask.Ask.TheVariants as ask
use Rattle.ev_types.specs.declared.ask.TxnReq.{TxnReq}
use Rattle.zk_jute.specs.Connects.{read_connect}
use Rattle.zk_jute.specs.Packets.{connect_packet, reply_packet}
use Rattle.zk_jute.specs.Requests.{Frame, NoHeader, Unreadable, Unknown, Asks, read_request}
use Rattle.zk_model.specs.Watches.{fire_all, no_watches}
use Rattle.zk_model.specs.declared.connect.ConnectRequest.{ConnectRequest}
use Rattle.zk_model.specs.declared.request.Request.{Request}
use Rattle.zk_model.specs.declared.request.Request.TheVariants as req
use Rattle.zk_service.proofs.PlainReplies.{plain-closes, plain-none}
use Rattle.zk_service.specs.Answers.{Told, only, plain_reply, xid_of, refusal, has_header, is_auth_refusal}
use Rattle.zk_service.specs.declared.cause.Cause.TheVariants as cause
use Rattle.zn_layout.specs.Keys.{HeadKey, key_bytes}
use Rattle.zn_layout.specs.declared.entry.Entry.{Entry}
use Rattle.zn_layout.specs.declared.record.LeaseRec.{LeaseRec}
use Rattle.zn_view.specs.Adding.{at_revision}
use Rattle.zn_view.specs.Asks.{plan_txn, ranges_of, reading, transaction, with_parts}
use Rattle.zn_view.specs.Deciding.{IsTested, IsTestedBy, is_by_tree}
use Rattle.zn_view.specs.Keeping.{update_path}
use Rattle.zn_view.specs.Lookups.{HasSeen, found_at, sees}
use Rattle.zn_view.specs.Seen.{View, empty_view, head_of, head_zxid, found_of, seen}
use Rattle.zn_view.specs.declared.plan.Decision.{Decision}
use Rattle.zn_view.specs.declared.plan.Decision.TheVariants.{Answered, Planned, Expired, Moved}
use Rattle.zn_view.specs.declared.plan.Plan.{Plan}
use Rattle.zn_view.specs.declared.plan.Who.{Who}
use Rattle.zn_view.specs.declared.want.Want.{Want}
use Rattle.zs_session.specs.Alive.{is_alive_due}
use Rattle.zs_session.specs.Answering.{ArePartsOf, IsAnswerTo, IsAwaited, OfTxn, viewed}
use Rattle.zs_session.specs.Connecting.{ConnectAnswers, Attached, Created, ConnectEnds, IsConnectFault, IsFaultOfConnect, Kept, ConnectLookedAgain, ConnectLooksFirst, ConnectMoves, Resumes, SawNoneOfMine, Waits, asked_by_connect as connect_asked, asked_in_phase, is_taken, timeout_in}
use Rattle.zs_session.specs.Sessions.{attach_txn, attach_wants, first_wants, life_key, new_session_txn, session_wants}
use Rattle.zs_session.specs.declared.connect.Connect.{Connect}
use Rattle.zs_session.specs.declared.connect.ConnectStep.{ConnectStep}
use Rattle.zs_session.specs.declared.connect.ConnectStep.TheVariants as steps
use Rattle.zk_service.specs.declared.fresh.Fresh.{Fresh}
use Rattle.zs_session.specs.declared.connect.Phase.{Phase}
use Rattle.zs_session.specs.declared.connect.Phase.TheVariants.{Unasked, Looking, Granting, Creating, Keeping, LookingAgain, Attaching, Over}
use Rattle.zs_session.specs.declared.fault.StepFault.TheVariants as faults
use Rattle.zx_base.proofs.Options.{none_some, some_is}
use Rattle.zx_base.specs.Maps.{Bytes}
use Rattle.zp_step.proofs.Cases.{of_alive}
use Rattle.zp_step.proofs.Ending.{notices-only, only_sends}
use Rattle.zp_step.proofs.Beside.{PlansBeside, first-or-anew, leaves-beside}
use Rattle.zp_step.specs.Looking.{IsForTree, IfRecords, Looks, change_by, decided, expired, guessed, moved, pending}
use Rattle.zp_step.proofs.Shutting.{steps-open}
use Rattle.zp_step.specs.Connects.{Connects, Opens, begun, connected}
use Rattle.zp_step.specs.Entries.{entered, then_reply}
use Rattle.zp_step.specs.Keepalives.{Checked, KeptAlive, Looked, StillMine, TakesUp, checks, keeps_alive}
use Rattle.zp_step.specs.Kept.{keeps}
use Rattle.zp_step.specs.Plans.{Committed, ReadOn, end_after, finishes}
use Rattle.zp_step.specs.Replies.{Is, close_after, closed_by, stage_after, waits}
use Rattle.zp_step.specs.Ending.{asked_by}
use Rattle.zp_step.specs.Stages.{Core, Pending, Stage, Unconnected, Connecting, Ready, KeepingAlive, Checking, Reading, Committing, Waiting, Shut, asked_of, counted_up, is_shut, new_core}
use Rattle.zp_step.specs.Steps.{Answers, Comes, Goes, Handles, IsFit, MayTake, Steps, StepsOpen, with_frame_counted, queued, rests, takes}
use Rattle.zp_step.specs.Taking.{TakesFrame, TakesReadable, end_of_plain, plainly}
use Rattle.zp_step.specs.declared.action.Action.{Action}
use Rattle.zp_step.specs.declared.action.Action.TheVariants as action
use Rattle.zp_step.specs.declared.input.Input.{Input}
use Rattle.zp_step.specs.declared.input.Input.TheVariants as input
use Rattle.zp_run.proofs.Asking.{asks-left}
use Rattle.zp_run.proofs.Hearing.{asked-more, hears-asked, hears-more, holds-more}
use Rattle.zp_run.proofs.Looking.{AsksFor, absent, first-head, first-life, looked-up, read-parts}
use Rattle.zp_run.proofs.Showing.{Done, Held, asks-done, closed-done, done-after, done-is, waits-done}
use Rattle.zp_run.specs.Causes.{IsAhead, IsConnecting, IsTakenAt, LacksHeader, Shows}
use Rattle.zp_run.specs.Heard.{Heard, HoldsHeard, IsConnectHeard, IsFrameAsking, IsGathered, IsResume, MayEndFor, Rests, ResumesFrom, heard_after, hears, nothing, nothing_heard, round, then_asked, with_answer}
use Rattle.zp_run.specs.Laws.{StepRests}
use Rattle.zp_run.specs.Runs.{closed_for}
use Rattle.zx_base.proofs.Booleans.{either}

-- ---- the session's record, where the decision is by it

tested-gone : (who : Who) (o : Option (Option Kv)) → IsTestedBy who Expired o → o ≡ Some None
tested-gone who None h = absurd h
tested-gone who (Some None) h = refl
tested-gone who (Some (Some kv)) h = absurd (either (int_eq kv.mod_revision who.mine) (is_by_tree Expired ≡ true) (Expired ≡ Moved kv.mod_revision) ⊥ h (λ e. cc) (λ e. cc))

pub record IsTestedMoved (who : Who) (found : ℤ) (o : Option (Option Kv)) : Type 0 where
  pub kv : Kv
  pub there : found_of o ≡ Some kv
  pub put : kv.mod_revision ≡ found
  pub other : int_eq found who.mine ≡ false

moved-is : (a b : ℤ) → Moved a ≡ Moved b → a ≡ b
moved-is a b e = ap (λ (d : Decision). elim d [ Moved found ↦ found | Answered x arm ↦ a | Planned p ↦ a | Expired ↦ a ]) e

tested-moved : (who : Who) (found : ℤ) (o : Option (Option Kv)) → IsTestedBy who (Moved found) o → IsTestedMoved who found o
tested-moved who found None h = absurd h
tested-moved who found (Some None) h = absurd (cc)
tested-moved who found (Some (Some kv)) h = go (int_eq kv.mod_revision who.mine) refl h
  where
    go : (b : Bool) → int_eq kv.mod_revision who.mine ≡ b → MatchBool b (is_by_tree (Moved found) ≡ true) (Moved found ≡ Moved kv.mod_revision) → IsTestedMoved who found (Some (Some kv))
    go true e g = absurd (cc)
    go false e g = let same = moved-is found kv.mod_revision g in record { kv = kv; there = refl; put = sym same; other = ap (λ z. int_eq z who.mine) same ∙ e }

-- this answer was heard to what was asked, and fits it; it is the input
record IsToldSo (k : Heard) (x : Input) (q : Ask) (a : Answer) : Type 0 where
  pub heard : Contains k.answers (q, a)
  pub fit : IsAnswerTo q a
  pub came : x ≡ input.Answer a

-- a resume is refused by this view
record IsRefusedBy (k : Heard) (c0 : Core) (c : Connect) (v : View) : Type 0 where
  pub connecting : IsConnecting k c0 c
  pub resumes : IsResume c.request
  pub gathered : IsGathered k.answers v
  pub looked : (int_lt c.request.session (pos 1) ≡ true) ⊎ HasSeen v (life_key c.request.session)
  pub none : SawNoneOfMine c.request v

module _ (k : Heard) (c0 : Core) (x : Input) where
  abbrev Waits-heard : Core → Type 0
  Waits-heard c = All (Contains k.frames) c.waiting

  -- ---- on a view

  decided-done : (c c' : Core) (xid : ℤ) (r : Request) (v : View) (now : ℕ) (out : List Action) (d : Decision) → Waits-heard c → IsFrameAsking k xid r → IsForTree r → IsGathered k.answers v → IsTested r c.who v d → Is (decided c xid r v now d) c' out → Done k c0 x c' out
  decided-done c c' xid r v now out (Answered answer arm) w f t g h i = waits-done k c0 x c c' (pending v xid answer (change_by r v arm) None) out w tt i
  decided-done c c' xid r v now out (Planned p) w f t g h i =
      asks-done k c0 x (record c { stage = Committing xid r v p now }) c' _ out (record { waiting = w; stage = (f, t) }) (λ e. cc) i
  decided-done c c' xid r v now out Expired w f t g h i =
      waits-done k c0 x c c' (expired v xid) out w (refl, record { view = v; gathered = g; at = refl; gone = tested-gone c.who (sees v (life_key c.who.session)) (h t) }) i
  decided-done c c' xid r v now out (Moved found) w f t g h i =
      let m = tested-moved c.who found (sees v (life_key c.who.session)) (h t) in
      waits-done k c0 x c c' (moved c.who v found xid) out w (refl, record { view = v; gathered = g; own = refl; kv = m.kv; there = m.there; put = m.put; other = m.other }) i

  looks-done : (c c' : Core) (xid : ℤ) (r : Request) (v : View) (now : ℕ) (out : List Action) → Waits-heard c → IsFrameAsking k xid r → IsForTree r → IsGathered k.answers v → Looks c xid r v now c' out → Done k c0 x c' out
  looks-done c c' xid r v now out w f t g (inl y) =
      asks-done k c0 x (record c { stage = Reading xid r v _ }) c' _ out (record { waiting = w; stage = (f, t, g) }) (λ e. cc) y.is
  looks-done c c' xid r v now out w f t g (inr (inl y)) =
      asks-done k c0 x (record c { stage = Committing xid r (guessed v y.key) y.plan now }) c' _ out (record { waiting = w; stage = (f, t) }) (λ e. cc) y.is
  looks-done c c' xid r v now out w f t g (inr (inr y)) = decided-done (keeps c r v) c' xid r v now out y.decision w f t g y.tested y.is

  -- ---- a frame is taken up

  plain-done : (c c' : Core) (bytes : List ℕ) (t : Told) (out : List Action) → Waits-heard c → Contains k.frames bytes → plain_reply c.watches (read_request bytes) ≡ Some t → Is (plainly c (xid_of (read_request bytes)) t) c' out → Done k c0 x c' out
  plain-done c c' bytes t out w f e i = done-is k c0 x (plainly c (xid_of (read_request bytes)) t) c' out i (go (is_auth_refusal t.reply) refl)
    where
      say : Action
      say = action.Send (reply_packet (xid_of (read_request bytes)) c.zxid t.reply)

      go : (b : Bool) → is_auth_refusal t.reply ≡ b → Done k c0 x (record c { stage = stage_after (end_of_plain b); watches = t.watches; next = counted_up (c.next + 1) }) (say ∷ close_after (end_of_plain b))
      go true refused = record {
        rests = record { waiting = w; stage = tt };
        shows = λ why h. subst (λ z. Shows k c0 x c.who (say ∷ action.Close cause.AuthRefused ∷ []) z) (some_is h)
            (record { frame = bytes; came = f; told = only no_watches t.reply; plain = plain-closes c.watches no_watches (read_request bytes) t e refused; refused = refused; zxid = c.zxid; sent = (0, omega (arith), refl) });
        unended = λ r. absurd (cc);
      }
      go false refused = record {
        rests = record { waiting = w; stage = tt };
        shows = λ why h. absurd (none_some h);
        unended = λ r. refl;
      }

  readable-done : (c c' : Core) (bytes : List ℕ) (now : ℕ) (out : List Action) (y : Frame) (o : Option Told) → Waits-heard c → Contains k.frames bytes → read_request bytes ≡ y → plain_reply c.watches y ≡ o → TakesReadable c now c' out y o → Done k c0 x c' out
  readable-done c c' bytes now out y (Some t) w f is e h =
      plain-done c c' bytes t out w f (ap (plain_reply c.watches) is ∙ e) (subst (λ z. Is (plainly c (xid_of z) t) c' out) (sym is) h)
  readable-done c c' bytes now out NoHeader None w f is e h = absurd h
  readable-done c c' bytes now out (Unreadable xid place) None w f is e h = absurd h
  readable-done c c' bytes now out (Unknown xid kind) None w f is e h = absurd h
  readable-done c c' bytes now out (Asks xid r) None w f is e h = go (first-or-anew c c' xid r now out (update_path r) h)
    where
      asking : IsFrameAsking k xid r
      asking = record { frame = bytes; came = f; reads = is }

      tree : IsForTree r
      tree = plain-none c.watches no_watches (Asks xid r) e

      go : PlansBeside c xid r now c' out ⊎ Looks c xid r empty_view now c' out → Done k c0 x c' out
      go (inl y) = asks-done k c0 x (record c { views = y.views; stage = Committing xid r y.view y.plan now }) c' _ out (record { waiting = w; stage = (asking, tree) }) (λ f. cc) y.is
      go (inr y) = looks-done c c' xid r empty_view now out w asking tree (nothing refl) y

  takes-done : (c c' : Core) (bytes : List ℕ) (now : ℕ) (out : List Action) → Waits-heard c → Contains k.frames bytes → TakesFrame c bytes now c' out → Done k c0 x c' out
  takes-done c c' bytes now out w f h = readable-done c c' bytes now out (read_request bytes) (plain_reply c.watches (read_request bytes)) w f refl refl h

  takes-up-done : (c c' : Core) (bytes : List ℕ) (now : ℕ) (out : List Action) → Waits-heard c → Contains k.frames bytes → TakesUp c bytes now c' out → Done k c0 x c' out
  takes-up-done c c' bytes now out w f h =
      either (is_alive_due c.kept now c.timeout) (Is (keeps_alive c bytes now) c' out) (TakesFrame c bytes now c' out) (Done k c0 x c' out) h
      (asks-done k c0 x (record c { stage = KeepingAlive bytes; kept = now }) c' _ out (record { waiting = w; stage = f }) (λ e. cc))
      (takes-done c c' bytes now out w f)

  goes-done : (now : ℕ) (c c' : Core) (out : List Action) → Waits-heard c → Goes now c c' out → ((c' ≡ c) × (out ≡ [])) ⊎ ((c.stage ≡ Ready) × Done k c0 x c' out)
  goes-done now c c' out w (rests why same none) = inl (same, none)
  goes-done now c c' out w (takes d frame more first later r ws t g o) = inr (r, subst (λ l. Done k c0 x c' l) (sym o) (go (goes-done now d c' later e.rests.waiting g)))
    where
      wait : All (Contains k.frames) (frame ∷ more)
      wait = subst (All (Contains k.frames)) ws w

      e : Done k c0 x d first
      e = takes-up-done (record c { waiting = more }) d frame now first (All-tail (Contains k.frames) frame more wait) (All-head (Contains k.frames) frame more wait) t

      go : ((c' ≡ d) × (later ≡ [])) ⊎ ((d.stage ≡ Ready) × Done k c0 x c' later) → Done k c0 x c' (first ++ later)
      go (inl s) = subst (λ y. Done k c0 x y (first ++ later)) (sym s.0) (subst (λ l. Done k c0 x d l) (sym (ap (λ l. first ++ l) s.1 ∙ append-nil first)) e)
      go (inr s) = done-after k c0 x c' first later (e.unended s.0) s.1

  -- ---- answers

  records-done : (c c' : Core) (ws : List Want) (revision : ℤ) (succeeded : Bool) (parts : List ActAns) (out : List Action) (Next : Type 0) → Waits-heard c → x ≡ input.Answer (answer.Txn revision succeeded parts) → (Next → Done k c0 x c' out) → IfRecords c ws parts c' out Next → Done k c0 x c' out
  records-done c c' ws revision succeeded parts out Next w came f (inl e) =
      closed-done k c0 x c c' (cause.Damaged e.key e.value) out w (record { revision = revision; succeeded = succeeded; parts = parts; came = came; wants = ws; damaged = e.found }) e.is
  records-done c c' ws revision succeeded parts out Next w came f (inr h) = f h.1

  abbrev Told-so : Ask → Answer → Type 0
  Told-so q a = IsToldSo k x q a

  abbrev reading_txn : ℤ → List Want → TxnReq
  reading_txn at ws = record { guards = []; success = ranges_of at ws; failure = [] }

  -- what was read at once, and after a view
  gathers : (old : View) (ws : List Want) (z : ℤ) (b : Bool) (parts : List ActAns) → Told-so (reading old.revision ws) (answer.Txn z b parts) → IsGathered k.answers old → IsGathered k.answers (with_parts (at_revision old z) ws parts)
  gathers old ws z b parts t g = round old (reading_txn old.revision ws) ws z b parts g t.heard (ap (λ (y : Bool). chosen y (reading_txn old.revision ws)) (t.fit).succeeds) refl

  view-of : (ws : List Want) (z : ℤ) (b : Bool) (parts : List ActAns) → Told-so (reading (pos 0) ws) (answer.Txn z b parts) → IsGathered k.answers (viewed z ws parts)
  view-of ws z b parts t = gathers empty_view ws z b parts t (nothing refl)

  -- what a guard that failed read
  again-of : (t : TxnReq) (ws : List Want) (z : ℤ) (parts : List ActAns) → t.failure ≡ ranges_of (pos 0) ws → Told-so (ask.Txn t) (answer.Txn z false parts) → IsGathered k.answers (viewed z ws parts)
  again-of t ws z parts fails h = round empty_view t ws z false parts (nothing refl) h.heard fails refl

  -- each key that was looked up is seen
  sees-first : (at : ℤ) (ws : List Want) (z : ℤ) (b : Bool) (parts : List ActAns) (key : Bytes) → AsksFor key ws → Told-so (reading at ws) (answer.Txn z b parts) → seen (viewed z ws parts) key ≡ None → ⊥
  sees-first at ws z b parts key h t = looked-up key ws at parts (at_revision empty_view z) h (read-parts at ws z b parts t.fit)

  sees-again : (t : TxnReq) (ws : List Want) (z : ℤ) (parts : List ActAns) (key : Bytes) → t.failure ≡ ranges_of (pos 0) ws → AsksFor key ws → Told-so (ask.Txn t) (answer.Txn z false parts) → seen (viewed z ws parts) key ≡ None → ⊥
  sees-again t ws z parts key fails h s = looked-up key ws (pos 0) parts (at_revision empty_view z) h (subst (λ acts. ArePartsOf acts parts) fails (s.fit).each)

  module _ (q : Ask) (a : Answer) (told : Told-so q a) where
    -- a transaction's answer
    by-txn : (P : ℤ → Bool → List ActAns → Type 0) (R : Type 0) → OfTxn a P → ((z : ℤ) (b : Bool) (parts : List ActAns) → Told-so q (answer.Txn z b parts) → P z b parts → R) → R
    by-txn P R h f = go a refl h
      where
        go : (y : Answer) → a ≡ y → OfTxn y P → R
        go (answer.Txn z b parts) e g = f z b parts (subst (Told-so q) e told) g
        go (answer.Range z found) e g = absurd g
        go (answer.Granted z id ttl) e g = absurd g
        go (answer.Alive z id ttl) e g = absurd g

    still-done : (c c' : Core) (bytes : List ℕ) (v : View) (now : ℕ) (out : List Action) (o : Option Kv) → HasSeen v (life_key c.who.session) → found_at v (life_key c.who.session) ≡ o → Waits-heard c → Contains k.frames bytes → IsGathered k.answers v → StillMine c bytes v now c' out o → Done k c0 x c' out
    still-done c c' bytes v now out None known e w f g h =
        waits-done k c0 x c c' (expired v (xid_of (read_request bytes))) out w (refl, record { view = v; gathered = g; at = refl; gone = absent (sees v (life_key c.who.session)) known e }) h
    still-done c c' bytes v now out (Some kv) known e w f g h = go (int_eq kv.mod_revision c.who.mine) refl h
      where
        m : Pending
        m = moved c.who v kv.mod_revision (xid_of (read_request bytes))

        go : (b : Bool) → int_eq kv.mod_revision c.who.mine ≡ b → MatchBool b (TakesFrame c bytes now c' out) (Is (waits c m) c' out) → Done k c0 x c' out
        go true same i = takes-done c c' bytes now out w f i
        go false other i = waits-done k c0 x c c' m out w (refl, record { view = v; gathered = g; own = refl; kv = kv; there = e; put = refl; other = other }) i

    alive-done : (c c' : Core) (bytes : List ℕ) (now : ℕ) (out : List Action) → Waits-heard c → Contains k.frames bytes → KeptAlive c bytes now c' out a → Done k c0 x c' out
    alive-done c c' bytes now out w f h = of_alive a _ (Done k c0 x c' out) h (λ ttl i.
        either (int_eq ttl (pos 0)) (Is (checks c bytes) c' out) (TakesFrame c bytes now c' out) (Done k c0 x c' out) i
        (asks-done k c0 x (record c { stage = Checking bytes }) c' _ out (record { waiting = w; stage = f }) (λ e. cc))
        (takes-done c c' bytes now out w f))

    finished-may : (c : Core) (xid z : ℤ) (r : Request) (p : Plan) (parts : List ActAns) → IsFrameAsking k xid r → MayEndFor k c.who (finishes xid r p z parts) (end_after r)
    finished-may c xid z req.Close p parts f = f
    finished-may c xid z (req.Create q d l s) p parts f = tt
    finished-may c xid z (req.Delete q v) p parts f = tt
    finished-may c xid z (req.SetData q d v) p parts f = tt
    finished-may c xid z (req.Multi ps) p parts f = tt
    finished-may c xid z _ p parts f = tt

  checked-done : (a : Answer) (c c' : Core) (bytes : List ℕ) (now : ℕ) (out : List Action) → Told-so (reading (pos 0) (attach_wants c.who.session)) a → Waits-heard c → Contains k.frames bytes → Checked c bytes now c' out a → Done k c0 x c' out
  checked-done a c c' bytes now out told w f h =
      let ws = attach_wants c.who.session in
      by-txn (reading (pos 0) ws) a told _ (Done k c0 x c' out) h (λ z b parts s i.
      let v = viewed z ws parts in
      records-done c c' ws z b parts out (Looked c bytes now c' out v) w s.came
      (still-done (reading (pos 0) ws) a told c c' bytes v now out (found_at v (life_key c.who.session)) (sees-first (pos 0) ws z b parts (key_bytes (life_key c.who.session)) (inl refl) s) refl w f (view-of ws z b parts s)) i)

  read-done : (a : Answer) (c c' : Core) (xid : ℤ) (r : Request) (v : View) (ws : List Want) (now : ℕ) (out : List Action) → Told-so (reading v.revision ws) a → Waits-heard c → IsFrameAsking k xid r → IsForTree r → IsGathered k.answers v → ReadOn c xid r v ws now c' out a → Done k c0 x c' out
  read-done a c c' xid r v ws now out told w f t g h = by-txn (reading v.revision ws) a told _ (Done k c0 x c' out) h (λ z b parts s i.
      let y = with_parts (at_revision v z) ws parts in
      records-done c c' ws z b parts out (Looks c xid r y now c' out) w s.came
      (looks-done c c' xid r y now out w f t (gathers v ws z b parts s g)) i)

  committed-done : (c c' : Core) (xid : ℤ) (r : Request) (v : View) (p : Plan) (now : ℕ) (out : List Action) (z : ℤ) (b : Bool) (parts : List ActAns) → Told-so (transaction p) (answer.Txn z b parts) → Waits-heard c → IsFrameAsking k xid r → IsForTree r → Committed c xid r v p now c' out z b parts → Done k c0 x c' out
  committed-done c c' xid r v p now out z true parts s w f t h =
      let b = leaves-beside c h.kept (update_path r) v p z parts h.leaves in
      waits-done k c0 x h.kept c' (finishes xid r p z parts) out (subst Waits-heard (sym b.1) w) (finished-may (transaction p) (answer.Txn z true parts) s h.kept xid z r p parts f) h.is
  committed-done c c' xid r v p now out z false parts s w f t h =
      let y = viewed z p.again parts in
      records-done c c' p.again z false parts out (Looks c xid r y now c' out) w s.came
      (looks-done c c' xid r y now out w f t (again-of (plan_txn p) p.again z parts refl s)) h

  -- ---- connecting: what each step rests on

  abbrev ConnectShows : Connect → ConnectStep → Type 0
  ConnectShows c (steps.Ask q) = Unit {0}
  ConnectShows c (steps.Attached response who timeout number zxid) = Unit {0}
  ConnectShows c (steps.Ahead client head) = IsAhead k c0 client head
  ConnectShows c steps.Unknown = (v : View) × IsRefusedBy k c0 c v
  ConnectShows c (steps.Taken revision) = IsTakenAt k c0 x revision

  -- what a step shows, and what the next phase knows
  abbrev Leads-to : Connect → Phase → ConnectStep → Type 0
  Leads-to c phase step = ConnectShows c step × ResumesFrom c.request phase

  module _ (c : Connect) (phase : Phase) (step : ConnectStep) where
    asks-show : (q : Ask) (s : ConnectStep) → connect_asked s ≡ Some q → ConnectShows c s
    asks-show q (steps.Ask p) e = tt
    asks-show q (steps.Attached response who timeout number zxid) e = tt
    asks-show q (steps.Ahead client head) e = absurd (none_some e)
    asks-show q steps.Unknown e = absurd (none_some e)
    asks-show q (steps.Taken revision) e = absurd (none_some e)

    waits-show : (next : Phase) (q : Ask) → asked_in_phase c next ≡ Some q → ResumesFrom c.request next → Waits c next phase step → Leads-to c phase step
    waits-show next q e r w = (asks-show q step (w.1 ∙ e), subst (ResumesFrom c.request) (sym w.0) r)

    ends-show : (end : ConnectStep) → ConnectShows c end → ConnectEnds end phase step → Leads-to c phase step
    ends-show end h e = (subst (ConnectShows c) (sym e.1) h, subst (ResumesFrom c.request) (sym e.0) tt)

    module _ (at : IsConnecting k c0 c) where
      resumes-show : (v : View) (next : ℤ → LeaseRec → Phase) → IsResume c.request → IsGathered k.answers v → (int_lt c.request.session (pos 1) ≡ true) ⊎ HasSeen v (life_key c.request.session)
          → ((seen : ℤ) (life : LeaseRec) → ((q : Ask) × (asked_in_phase c (next seen life) ≡ Some q)) × ResumesFrom c.request (next seen life)) → Resumes c v next phase step → Leads-to c phase step
      resumes-show v next r g looked asks (inl h) = ends-show steps.Unknown (v, record { connecting = at; resumes = r; gathered = g; looked = looked; none = h.0 }) h.1
      resumes-show v next r g looked asks (inr (seen, life, mine, w)) = let q = asks seen life in waits-show (next seen life) (q.0).0 (q.0).1 q.1 w

      looks-first-show : (v : View) → IsGathered k.answers v → HasSeen v HeadKey → (int_lt c.request.session (pos 1) ≡ true) ⊎ HasSeen v (life_key c.request.session) → ConnectLooksFirst c v phase step → Leads-to c phase step
      looks-first-show v g seen looked h = go (int_lt (head_zxid (head_of v)) c.request.last_zxid) refl h
        where
          resumed : (b : Bool) → int_eq c.request.session (pos 0) ≡ b → MatchBool b (Waits c Granting phase step) (Resumes c v Keeping phase step) → Leads-to c phase step
          resumed true e i = waits-show Granting _ refl tt i
          resumed false e i = resumes-show v Keeping e g looked (λ seen life. ((_, refl), e)) i

          go : (b : Bool) → int_lt (head_zxid (head_of v)) c.request.last_zxid ≡ b → MatchBool b (ConnectEnds (steps.Ahead c.request.last_zxid (head_zxid (head_of v))) phase step) (MatchBool (int_eq c.request.session (pos 0)) (Waits c Granting phase step) (Resumes c v Keeping phase step)) → Leads-to c phase step
          go true e i = ends-show (steps.Ahead c.request.last_zxid (head_zxid (head_of v))) (record { connect = c; connecting = at; own = refl; view = v; gathered = g; looked = seen; shown = refl; above = e }) i
          go false e i = resumed (int_eq c.request.session (pos 0)) refl i

      created-show : (z : ℤ) (b : Bool) (parts : List ActAns) → c.phase ≡ Creating → x ≡ input.Answer (answer.Txn z b parts) → Created c z b parts phase step → Leads-to c phase step
      created-show z true parts p came h = ends-show _ tt h
      created-show z false parts p came h = go (is_taken c.fresh.id (viewed z (session_wants c.fresh.id) parts)) refl h.1
        where
          go : (b : Bool) → is_taken c.fresh.id (viewed z (session_wants c.fresh.id) parts) ≡ b → MatchBool b (ConnectEnds (steps.Taken z) phase step) (Waits c Creating phase step) → Leads-to c phase step
          go true there i = ends-show (steps.Taken z) (record { connect = c; connecting = at; creates = p; parts = parts; came = came; there = there }) i
          go false there i = waits-show Creating _ refl tt i

      kept-show : (seen : ℤ) (life : LeaseRec) (ttl : ℤ) → IsResume c.request → Kept c seen life ttl phase step → Leads-to c phase step
      kept-show seen life ttl r h = either (int_eq ttl (pos 0)) (Waits c LookingAgain phase step) (Waits c (Attaching seen life) phase step) (Leads-to c phase step) h (waits-show LookingAgain _ refl r) (waits-show (Attaching seen life) _ refl r)

      again-show : (z : ℤ) (parts : List ActAns) → IsResume c.request → IsGathered k.answers (viewed z (attach_wants c.request.session) parts) → HasSeen (viewed z (attach_wants c.request.session) parts) (life_key c.request.session) → ConnectLookedAgain c z parts phase step → Leads-to c phase step
      again-show z parts r g seen h = resumes-show (viewed z (attach_wants c.request.session) parts) Attaching r g (inr seen) (λ seen life. ((_, refl), r)) h.1

      attached-show : (seen : ℤ) (life : LeaseRec) (z : ℤ) (b : Bool) (parts : List ActAns) → IsResume c.request → Told-so (ask.Txn (attach_txn c.request.session seen life)) (answer.Txn z b parts) → Attached c life z b parts phase step → Leads-to c phase step
      attached-show seen life z true parts r s h = ends-show _ tt h
      attached-show seen life z false parts r s h =
          let id = c.request.session in
          let t = attach_txn id seen life in
          again-show z parts r (again-of t (attach_wants id) z parts refl s) (sees-again t (attach_wants id) z parts (key_bytes (life_key id)) refl (inl refl) s) h

      answered-show : (a : Answer) (p : Phase) → c.phase ≡ p → ((q : Ask) → asked_in_phase c p ≡ Some q → Told-so q a) → ResumesFrom c.request p → ConnectAnswers c p a phase step → Leads-to c phase step
      answered-show a Unasked e told r h = absurd h
      answered-show a Looking e told r h = by-txn (reading (pos 0) (first_wants c.request)) a (told (reading (pos 0) (first_wants c.request)) refl) _ (Leads-to c phase step) h (λ z b parts s f.
          let ws = first_wants c.request in
          looks-first-show (viewed z ws parts) (view-of ws z b parts s) (sees-first (pos 0) ws z b parts (key_bytes HeadKey) (first-head c.request) s)
          (first-life (HasSeen (viewed z ws parts) (life_key c.request.session)) c.request (int_lt c.request.session (pos 1)) refl (λ least. sees-first (pos 0) ws z b parts (key_bytes (life_key c.request.session)) least s)) f.1)
      answered-show a Granting e told r h = waits-show Creating _ refl tt h
      answered-show a Creating e told r h = by-txn (ask.Txn (new_session_txn c.fresh (timeout_in c))) a (told (ask.Txn (new_session_txn c.fresh (timeout_in c))) refl) _ (Leads-to c phase step) h (λ z b parts s f. created-show z b parts e s.came f)
      answered-show a (Keeping seen life) e told r h = of_alive a _ (Leads-to c phase step) h (λ ttl f. kept-show seen life ttl r f)
      answered-show a LookingAgain e told r h = by-txn (reading (pos 0) (attach_wants c.request.session)) a (told (reading (pos 0) (attach_wants c.request.session)) refl) _ (Leads-to c phase step) h (λ z b parts s f.
          let ws = attach_wants c.request.session in
          again-show z parts r (view-of ws z b parts s) (sees-first (pos 0) ws z b parts (key_bytes (life_key c.request.session)) (inl refl) s) f)
      answered-show a (Attaching seen life) e told r h = by-txn (ask.Txn (attach_txn c.request.session seen life)) a (told (ask.Txn (attach_txn c.request.session seen life)) refl) _ (Leads-to c phase step) h (λ z b parts s f. attached-show seen life z b parts r s f)
      answered-show a Over e told r h = absurd h

  -- a value that is no record, where it was looked for in an answer
  module _ (c : Connect) (a : Answer) (came : x ≡ input.Answer a) (key value : Bytes) where
    fault-shown : (p : Phase) → IsFaultOfConnect c p a (faults.Damaged key value) → Shows k c0 x (record { session = pos 0; mine = pos 0 }) [] (cause.Damaged key value)
    fault-shown p h = go p a came h
      where
        go : (p : Phase) (y : Answer) → x ≡ input.Answer y → IsFaultOfConnect c p y (faults.Damaged key value) → Shows k c0 x (record { session = pos 0; mine = pos 0 }) [] (cause.Damaged key value)
        go Looking (answer.Txn z b parts) e f = record { revision = z; succeeded = b; parts = parts; came = e; wants = first_wants c.request; damaged = f }
        go Creating (answer.Txn z false parts) e f = record { revision = z; succeeded = false; parts = parts; came = e; wants = session_wants c.fresh.id; damaged = f }
        go LookingAgain (answer.Txn z b parts) e f = record { revision = z; succeeded = b; parts = parts; came = e; wants = attach_wants c.request.session; damaged = f }
        go (Attaching seen life) (answer.Txn z false parts) e f = record { revision = z; succeeded = false; parts = parts; came = e; wants = attach_wants c.request.session; damaged = f }
        go Creating (answer.Txn z true parts) e f = absurd f
        go (Attaching seen life) (answer.Txn z true parts) e f = absurd f
        go Unasked (answer.Txn z b parts) e f = absurd f
        go Granting (answer.Txn z b parts) e f = absurd f
        go (Keeping seen life) (answer.Txn z b parts) e f = absurd f
        go Over (answer.Txn z b parts) e f = absurd f
        go Unasked (answer.Range z found) e f = absurd f
        go Looking (answer.Range z found) e f = absurd f
        go Granting (answer.Range z found) e f = absurd f
        go Creating (answer.Range z found) e f = absurd f
        go (Keeping seen life) (answer.Range z found) e f = absurd f
        go LookingAgain (answer.Range z found) e f = absurd f
        go (Attaching seen life) (answer.Range z found) e f = absurd f
        go Over (answer.Range z found) e f = absurd f
        go Unasked (answer.Granted z id ttl) e f = absurd f
        go Looking (answer.Granted z id ttl) e f = absurd f
        go Granting (answer.Granted z id ttl) e f = absurd f
        go Creating (answer.Granted z id ttl) e f = absurd f
        go (Keeping seen life) (answer.Granted z id ttl) e f = absurd f
        go LookingAgain (answer.Granted z id ttl) e f = absurd f
        go (Attaching seen life) (answer.Granted z id ttl) e f = absurd f
        go Over (answer.Granted z id ttl) e f = absurd f
        go Unasked (answer.Alive z id ttl) e f = absurd f
        go Looking (answer.Alive z id ttl) e f = absurd f
        go Granting (answer.Alive z id ttl) e f = absurd f
        go Creating (answer.Alive z id ttl) e f = absurd f
        go (Keeping seen life) (answer.Alive z id ttl) e f = absurd f
        go LookingAgain (answer.Alive z id ttl) e f = absurd f
        go (Attaching seen life) (answer.Alive z id ttl) e f = absurd f
        go Over (answer.Alive z id ttl) e f = absurd f

  connected-done : (c c' : Core) (now : ℕ) (old new : Connect) (out : List Action) (step : ConnectStep) → old.request ≡ new.request → Waits-heard c → IsConnectHeard k new.request → ConnectShows old step → ResumesFrom new.request new.phase → Is (connected c now new step) c' out → Done k c0 x c' out
  connected-done c c' now old new out (steps.Ask q) same w f h r i = asks-done k c0 x (connected c now new (steps.Ask q)).0 c' q out (record { waiting = w; stage = (f, r) }) (λ e. cc) i
  connected-done c c' now old new out (steps.Attached response who timeout number zxid) same w f h r i = done-is k c0 x (connected c now new (steps.Attached response who timeout number zxid)) c' out i (record {
    rests = record { waiting = w; stage = tt };
    shows = λ why e. absurd (none_some e);
    unended = λ r. refl;
  })
  connected-done c c' now old new out (steps.Ahead client head) same w f h r i = closed-done k c0 x c c' (cause.ZxidAhead client head) out w h i
  connected-done c c' now old new out steps.Unknown same w f (v, h) r i = done-is k c0 x (connected c now new steps.Unknown) c' out i (record {
    rests = record { waiting = w; stage = tt };
    shows = λ why e. subst (λ z. Shows k c0 x c.who (connected c now new steps.Unknown).1 z) (some_is e)
        (record { connect = old; connecting = h.connecting; resumes = h.resumes; view = v; gathered = h.gathered; looked = h.looked; none = h.none; sent = (0, omega (arith), ap (λ (q : ConnectRequest). action.Send (connect_packet (refusal q))) (sym same)) });
    unended = λ r. absurd (cc);
  })
  connected-done c c' now old new out (steps.Taken revision) same w f h r i = closed-done k c0 x c c' (cause.Taken revision) out w h i

  abbrev FaultShown : Bytes → Bytes → Type 0
  FaultShown key value = Shows k c0 x (record { session = pos 0; mine = pos 0 }) [] (cause.Damaged key value)

  connects-done : (c c' : Core) (connect : Connect) (o : Option Answer) (now : ℕ) (out : List Action) → Waits-heard c → IsConnectHeard k connect.request
      → ((key value : Bytes) → IsConnectFault connect o (faults.Damaged key value) → FaultShown key value)
      → ((phase : Phase) (step : ConnectStep) → ConnectMoves connect o phase step → Leads-to connect phase step)
      → Connects c connect o now c' out → Done k c0 x c' out
  connects-done c c' connect o now out w f damaged moved (inl e) = closed-done k c0 x c c' (cause.Damaged e.key e.value) out w (damaged e.key e.value e.found) e.is
  connects-done c c' connect o now out w f damaged moved (inr s) =
      let new : Connect = record { request = connect.request; fresh = connect.fresh; phase = (s.new).phase } in
      let m = moved (s.new).phase s.step (s.steps).moves in
      connected-done c c' now connect new out s.step refl w f m.0 m.1 (subst (λ (n : Connect). Is (connected c now n s.step) c' out) (s.steps).same s.is)

  opens-done : (c c' : Core) (bytes : List ℕ) (fresh : Fresh) (now : ℕ) (out : List Action) (o : Option ConnectRequest) → c0.stage ≡ Unconnected fresh → Waits-heard c → x ≡ input.Frame bytes → Contains k.frames bytes → read_connect bytes ≡ o → Opens c c0.taken fresh now c' out o → Done k c0 x c' out
  opens-done c c' bytes fresh now out None st w came f e h =
      closed-done k c0 x c c' (cause.NoHeader c0.taken) out w (record { bytes = bytes; came = came; at = refl; lacks = subst (λ (s : Stage). LacksHeader s bytes) (sym st) e }) h
  opens-done c c' bytes fresh now out (Some r) st w came f e h =
      connects-done c c' (begun r fresh) None now out w (record { frame = bytes; came = f; reads = e })
      (λ key value g. absurd g)
      (λ phase step m. waits-show (begun r fresh) phase step Looking _ refl tt m) h

  answers-done : (c c' : Core) (a : Answer) (now : ℕ) (out : List Action) (st : Stage) → c0.stage ≡ st → x ≡ input.Answer a → ((q : Ask) → asked_of c.who st ≡ Some q → Told-so q a) → Waits-heard c → HoldsHeard k c.who st → Answers c a now c' out st → Done k c0 x c' out
  answers-done c c' a now out (Unconnected fresh) st came told w s h = absurd h
  answers-done c c' a now out (Connecting connect) st came told w s h =
      connects-done c c' connect (Some a) now out w s.0
      (λ key value g. fault-shown connect a came key value connect.phase g)
      (λ phase step m. answered-show connect phase step (record { stage = st; heard = s.0 }) a connect.phase refl told s.1 m) h
  answers-done c c' a now out (KeepingAlive bytes) st came told w s h = alive-done (ask.Alive c.who.session) a (told (ask.Alive c.who.session) refl) c c' bytes now out w s h
  answers-done c c' a now out (Checking bytes) st came told w s h = checked-done a c c' bytes now out (told (reading (pos 0) (attach_wants c.who.session)) refl) w s h
  answers-done c c' a now out (Reading xid r v ws) st came told w s h = read-done a c c' xid r v ws now out (told (reading v.revision ws) refl) w s.0 s.1 s.2 h
  answers-done c c' a now out (Committing xid r v p time) st came told w s h = by-txn (transaction p) a (told (transaction p) refl) _ (Done k c0 x c' out) h (λ z b parts y f. committed-done c c' xid r v p now out z b parts y w s.0 s.1 f)
  answers-done c c' a now out Ready st came told w s h = absurd h
  answers-done c c' a now out (Waiting p) st came told w s h = absurd h
  answers-done c c' a now out Shut st came told w s h = absurd h

  -- ---- any input

  same-stage-done : (d c' : Core) (first out : List Action) → Held k d → only_sends first ≡ true → Is (d, first) c' out → Done k c0 x c' out
  same-stage-done d c' first out h only i = done-is k c0 x (d, first) c' out i (record {
    rests = h;
    shows = λ why e. absurd (none_some (sym (closes-none first only) ∙ e));
    unended = λ r. only;
  })
    where
      closes-none : (l : List Action) → only_sends l ≡ true → closed_for l ≡ None
      closes-none [] g = refl
      closes-none (action.Send bytes ∷ more) g = closes-none more g
      closes-none (action.Ask a ∷ more) g = absurd (cc)
      closes-none (action.Close why ∷ more) g = absurd (cc)

  queued-done : (c c' : Core) (bytes : List ℕ) (out : List Action) → c.taken ≡ c0.taken → ((has_header (read_request bytes) ≡ false) → LacksHeader c0.stage bytes) → Held k c → Contains k.frames bytes → x ≡ input.Frame bytes → MatchBool (has_header (read_request bytes)) (Is (queued c bytes, []) c' out) (Is (closed_by c (cause.NoHeader c.taken)) c' out) → Done k c0 x c' out
  queued-done c c' bytes out at lacks s f came h = go (has_header (read_request bytes)) refl h
    where
      go : (b : Bool) → has_header (read_request bytes) ≡ b → MatchBool b (Is (queued c bytes, []) c' out) (Is (closed_by c (cause.NoHeader c.taken)) c' out) → Done k c0 x c' out
      go true e i = same-stage-done (queued c bytes) c' [] out (record { waiting = All-append (Contains k.frames) c.waiting (bytes ∷ []) s.waiting (All-cons (Contains k.frames) bytes [] f (All-nil (Contains k.frames))); stage = s.stage }) refl i
      go false e i = closed-done k c0 x c c' (cause.NoHeader c.taken) out s.waiting (record { bytes = bytes; came = came; at = at; lacks = lacks e }) i

  comes-done : (c' : Core) (bytes : List ℕ) (now : ℕ) (out : List Action) (st : Stage) → c0.stage ≡ st → Held k c0 → Contains k.frames bytes → x ≡ input.Frame bytes → Comes c0 bytes now c' out st → Done k c0 x c' out
  comes-done c' bytes now out (Unconnected fresh) st s f came h = opens-done (with_frame_counted c0 bytes) c' bytes fresh now out (read_connect bytes) st s.waiting came f refl h
  comes-done c' bytes now out (Connecting connect) st s f came h = queued-done c0 c' bytes out refl (λ e. subst (λ (y : Stage). LacksHeader y bytes) (sym st) e) s f came h
  comes-done c' bytes now out Ready st s f came h = queued-done c0 c' bytes out refl (λ e. subst (λ (y : Stage). LacksHeader y bytes) (sym st) e) s f came h
  comes-done c' bytes now out (KeepingAlive g) st s f came h = queued-done c0 c' bytes out refl (λ e. subst (λ (y : Stage). LacksHeader y bytes) (sym st) e) s f came h
  comes-done c' bytes now out (Checking g) st s f came h = queued-done c0 c' bytes out refl (λ e. subst (λ (y : Stage). LacksHeader y bytes) (sym st) e) s f came h
  comes-done c' bytes now out (Reading xid r v ws) st s f came h = queued-done c0 c' bytes out refl (λ e. subst (λ (y : Stage). LacksHeader y bytes) (sym st) e) s f came h
  comes-done c' bytes now out (Committing xid r v p m) st s f came h = queued-done c0 c' bytes out refl (λ e. subst (λ (y : Stage). LacksHeader y bytes) (sym st) e) s f came h
  comes-done c' bytes now out (Waiting p) st s f came h = queued-done c0 c' bytes out refl (λ e. subst (λ (y : Stage). LacksHeader y bytes) (sym st) e) s f came h
  comes-done c' bytes now out Shut st s f came h = queued-done c0 c' bytes out refl (λ e. subst (λ (y : Stage). LacksHeader y bytes) (sym st) e) s f came h

  module _ (c' : Core) (e : Entry) (out : List Action) (s : Held k c0) where
    as-it-was : HoldsHeard k c0.who (entered c0 e).0.stage → Is (entered c0 e) c' out → Done k c0 x c' out
    as-it-was h i = same-stage-done (entered c0 e).0 c' (entered c0 e).1 out (record { waiting = s.waiting; stage = h }) (notices-only (fire_all c0.watches e.triggers).1) i

    entry-done : (st : Stage) → HoldsHeard k c0.who st → Is (then_reply (entered c0 e) st) c' out → Done k c0 x c' out
    entry-done (Waiting p) h i =
        let d = (entered c0 e).0 in
        done-is k c0 x (then_reply (entered c0 e) (Waiting p)) c' out i (done-after k c0 x (waits d p).0 (entered c0 e).1 (waits d p).1 (notices-only (fire_all c0.watches e.triggers).1) (waits-done k c0 x d (waits d p).0 p (waits d p).1 s.waiting h (refl, refl)))
    entry-done (Unconnected fresh) h i = as-it-was s.stage i
    entry-done (Connecting connect) h i = as-it-was s.stage i
    entry-done Ready h i = as-it-was s.stage i
    entry-done (KeepingAlive f) h i = as-it-was s.stage i
    entry-done (Checking f) h i = as-it-was s.stage i
    entry-done (Reading xid r v ws) h i = as-it-was s.stage i
    entry-done (Committing xid r v p m) h i = as-it-was s.stage i
    entry-done Shut h i = as-it-was s.stage i

last-of : {X : Type 0} (xs : List X) (y : X) → Contains (xs ++ y ∷ []) y
last-of xs y = Contains-append_right xs (y ∷ []) y (0, omega (arith), refl)

answer-there : (o : Option Ask) (a : Answer) (answers : List (Ask × Answer)) (q : Ask) → o ≡ Some q → Contains (with_answer o a answers) (q, a)
answer-there o a answers q e = subst (λ (y : Option Ask). Contains (with_answer y a answers) (q, a)) (sym e) (last-of answers (q, a))

fit-to : (o : Option Ask) (a : Answer) (q : Ask) → IsAwaited o (Some a) → o ≡ Some q → IsAnswerTo q a
fit-to o a q h e = subst (λ (y : Option Ask). IsAwaited y (Some a)) e h

handled-done : (k : Heard) (c c' : Core) (x : Input) (now : ℕ) (out : List Action) → IsFit c x → ((q : Ask) → asked_of c.who c.stage ≡ Some q → k.asked ≡ Some q) → Held (hears k x) c → Handles c x now c' out → Done (hears k x) c x c' out
handled-done k c c' (input.Frame bytes) now out fit asked s h = comes-done (hears k (input.Frame bytes)) c (input.Frame bytes) c' bytes now out c.stage refl s (last-of k.frames bytes) refl h
handled-done k c c' (input.Answer a) now out fit asked s h = answers-done (hears k (input.Answer a)) c (input.Answer a) c c' a now out c.stage refl refl
    (λ q e. record { heard = answer-there k.asked a k.answers q (asked q e); fit = fit-to (asked_of c.who c.stage) a q fit e; came = refl }) s.waiting s.stage h
handled-done k c c' (input.Entry e) now out fit asked s h = entry-done k c (input.Entry e) c' (arc_value e) out s c.stage s.stage h
handled-done k c c' input.Failed now out fit asked s h = closed-done k c input.Failed c c' cause.LinkFault out s.waiting refl h
handled-done k c c' (input.BadLength place length) now out fit asked s h = closed-done k c (input.BadLength place length) c c' (cause.BadLength place length) out s.waiting refl h
handled-done k c c' (input.Lagged cursor floor) now out fit asked s h = closed-done k c (input.Lagged cursor floor) c c' (cause.Lagged cursor floor) out s.waiting refl h
handled-done k c c' input.FeedClosed now out fit asked s h = closed-done k c input.FeedClosed c c' cause.FeedClosed out s.waiting refl h
handled-done k c c' (input.ClientEnd place) now out fit asked s h = closed-done k c (input.ClientEnd place) c c' (cause.ClientEnd place) out s.waiting refl h

asked-then : (k : Heard) (x : Input) (c : Core) (out : List Action) (q : Ask) → ((r : Ask) → asked_of c.who c.stage ≡ Some r → k.asked ≡ Some r)
    → (asked_by out ≡ Some q) ⊎ ((asked_by out ≡ None) × (asked_of c.who c.stage ≡ Some q)) → (heard_after k x out).asked ≡ Some q
asked-then k x c out q asked (inl own) = ap (λ (o : Option Ask). (then_asked (hears k x) o).asked) own
asked-then k x c out q asked (inr (none, before)) = ap (λ (o : Option Ask). (then_asked (hears k x) o).asked) none ∙ hears-asked k x ∙ asked q before

pub steps-show : (k : Heard) (c c' : Core) (x : Input) (now : ℕ) (out : List Action) → is_shut c.stage ≡ false → MayTake c x → Rests k c → Steps c x now c' out → StepRests k c c' x out
steps-show k c c' x now out opened may r h = go (steps-open c c' x now out opened h)
  where
    k' : Heard
    k' = hears k x

    -- what is out then was asked by this step, or before it
    asked : (q : Ask) → asked_of c'.who c'.stage ≡ Some q → (heard_after k x out).asked ≡ Some q
    asked q e = asked-then k x c out q r.asked (asks-left c c' x now out opened h q e)

    rest : Done k' c x c' out → StepRests k c c' x out
    rest d = let m = asked-more k' (asked_by out) in record {
      rests = record { waiting = λ i y below. m.frames _ ((d.rests).waiting i y below); stage = holds-more k' (heard_after k x out) c'.who c'.stage m (d.rests).stage; asked = asked };
      shows = d.shows;
    }

    joined : (mid : Core) (first later : List Action) → Done k' c x mid first → ((c' ≡ mid) × (later ≡ [])) ⊎ ((mid.stage ≡ Ready) × Done k' c x c' later) → Done k' c x c' (first ++ later)
    joined mid first later d (inl s) = subst (λ y. Done k' c x y (first ++ later)) (sym s.0) (subst (λ l. Done k' c x mid l) (sym (ap (λ l. first ++ l) s.1 ∙ append-nil first)) d)
    joined mid first later d (inr s) = done-after k' c x c' first later (d.unended s.0) s.1

    go : StepsOpen c x now c' out → StepRests k c c' x out
    go s =
        let m = hears-more k x in
        let d = handled-done k c s.mid x now s.first (may opened) r.asked (record { waiting = λ i y below. m.frames _ (r.waiting i y below); stage = holds-more k k' c.who c.stage m r.stage }) s.handled in
        rest (subst (λ l. Done k' c x c' l) (sym s.joined) (joined s.mid s.first s.later d (goes-done k' c x now s.mid c' s.later (d.rests).waiting s.goes)))

pub new-rests : (fresh : Fresh) → Rests nothing_heard (new_core fresh)
new-rests fresh = record { waiting = All-nil (Contains []); stage = tt; asked = λ q e. absurd (none_some e) }
