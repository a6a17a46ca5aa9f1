-- Each step answers the frame at work, or leaves it at work, where a frame comes only once it is wanted.
use Rattle.std.proofs.Common.{◌≡◌, ℕ, ◌≤◌, ℤ, pos, List, [], ◌∷◌, ◌++◌, length, Bool, true, false, refl, sym, ap, ◌∙◌, subst, inl, inr, append-nil, append_assoc, arith}
use Rattle.std.specs.Prelude.{◌⊎◌, Option, Some, None, All, if◌then◌else◌}
use Rattle.std.specs.Arc.{arc_value}
use Rattle.std.specs.Ordering.{int_eq}
use Rattle.std.proofs.lemmas.List.Elements.{All-append, All-cons, All-nil}
use Rattle.ev_types.specs.declared.answer.ActAns.{ActAns}
use Rattle.ev_types.specs.declared.answer.Answer.{Answer}
use Rattle.ev_types.specs.declared.answer.Kv.{Kv}
use Rattle.ev_types.specs.declared.ask.Ask.{Ask}
use Rattle.zk_jute.specs.Connects.{read_connect}
use Rattle.zk_jute.specs.Packets.{connect_packet, notice_packet, reply_packet}
use Rattle.zk_jute.specs.Requests.{Frame, NoHeader, Unreadable, Unknown, Asks, read_request}
use Rattle.zk_model.specs.Watches.{fire_all}
use Rattle.zk_model.specs.declared.connect.ConnectRequest.{ConnectRequest}
use Rattle.zk_model.specs.declared.reply.Notice.{Notice}
use Rattle.zk_model.specs.declared.request.Request.{Request}
use Rattle.zk_service.specs.Answers.{Told, plain_reply, xid_of, refusal, has_header, is_auth_refusal}
use Rattle.zk_service.specs.declared.cause.Cause.{Cause}
use Rattle.zk_service.specs.declared.cause.Cause.TheVariants as cause
use Rattle.zn_layout.specs.declared.entry.Entry.{Entry}
use Rattle.zn_view.specs.Adding.{at_revision}
use Rattle.zn_view.specs.Asks.{with_parts}
use Rattle.zn_view.specs.Keeping.{update_path}
use Rattle.zn_view.specs.Lookups.{found_at}
use Rattle.zn_view.specs.Seen.{View, empty_view}
use Rattle.zn_view.specs.declared.plan.Decision.{Decision}
use Rattle.zn_view.specs.declared.plan.Decision.TheVariants.{Answered, Planned, Expired, Moved}
use Rattle.zn_view.specs.declared.plan.Plan.{Plan}
use Rattle.zn_view.specs.declared.want.Want.{Want}
use Rattle.zs_session.specs.Alive.{is_alive_due}
use Rattle.zs_session.specs.Answering.{viewed}
use Rattle.zs_session.specs.Sessions.{attach_wants, life_key}
use Rattle.zs_session.specs.declared.connect.Connect.{Connect}
use Rattle.zs_session.specs.declared.connect.ConnectStep.{ConnectStep}
use Rattle.zs_session.specs.declared.connect.ConnectStep.TheVariants as steps
use Rattle.zk_service.specs.declared.fresh.Fresh.{Fresh}
use Rattle.zx_base.proofs.Options.{none_some, some_is}
use Rattle.zp_step.proofs.Cases.{of_alive, of_txn}
use Rattle.zp_step.proofs.Ending.{notices-only, only_sends}
use Rattle.zp_step.proofs.Beside.{PlansBeside, first-or-anew, leaves-beside}
use Rattle.zp_step.proofs.Sending.{sends-append}
use Rattle.zp_step.specs.Ending.{sends}
use Rattle.zp_run.proofs.Showing.{closed-after}
use Rattle.zp_run.specs.Runs.{closed_for, frame_in}
use Rattle.zp_step.proofs.Shutting.{steps-open}
use Rattle.zp_step.specs.Connects.{Connects, Opens, attached_core, begun, connected}
use Rattle.zp_step.specs.Entries.{entered, then_reply}
use Rattle.zp_step.specs.Keepalives.{Looked, StillMine, TakesUp, checks, keeps_alive}
use Rattle.zp_step.specs.Kept.{keeps}
use Rattle.zp_step.specs.Looking.{IfRecords, Looks, change_by, decided, expired, guessed, moved, pending}
use Rattle.zp_step.specs.Plans.{Committed, finishes}
use Rattle.zp_step.specs.Replies.{Is, close_after, closed_by, is_due, replied, send_notices, stage_after, waits}
use Rattle.zp_step.specs.Stages.{Core, Pending, Stage, Unconnected, Connecting, Ready, KeepingAlive, Checking, Reading, Committing, Waiting, Shut, is_shut, seen_by, wanted_in}
use Rattle.zp_step.specs.Steps.{Answers, Comes, Goes, Handles, MayTake, Steps, awaits_entry, with_frame_counted, queued, rests, takes}
use Rattle.zp_step.specs.Taking.{TakesFrame, TakesReadable, end_of_plain, plainly}
use Rattle.zp_step.specs.declared.action.Action.{Action}
use Rattle.zp_step.specs.declared.action.Action.TheVariants as action
use Rattle.zp_step.specs.declared.input.Input.{Input}
use Rattle.zp_step.specs.declared.input.Input.TheVariants as input
use Rattle.zp_conn.specs.Answered.{AreAnswered, AreAnswers, AreReplies, HasAnswered, IsAtWork, IsNotice, IsReplyTo, IsServed, is_answered}
use Rattle.zp_conn.specs.Driving.{IsTimely, awaits_frame}
use Rattle.zp_conn.specs.Turning.{listed}
use Rattle.zx_base.proofs.Booleans.{either}

-- ---- replies

replies-notices : (fs ps ns : List (List ℕ)) → AreReplies fs ps → All IsNotice ns → AreReplies fs (ps ++ ns)
replies-notices [] ps ns h k = All-append IsNotice ps ns h k
replies-notices (f ∷ fs) ps ns (a, p, more, e, n, r, h) k = (a, p, more ++ ns, ap (λ l. l ++ ns) e ∙ append_assoc a (p ∷ more) ns, n, r, replies-notices fs more ns h k)

replies-push : (fs ps ns : List (List ℕ)) (f p : List ℕ) → AreReplies fs ps → All IsNotice ns → IsReplyTo f p → AreReplies (fs ++ f ∷ []) (ps ++ (ns ++ p ∷ []))
replies-push [] ps ns f p h k r = (ps ++ ns, p, [], sym (append_assoc ps ns (p ∷ [])), All-append IsNotice ps ns h k, r, All-nil IsNotice)
replies-push (g ∷ fs) ps ns f p (a, q, more, e, n, s, h) k r =
    (a, q, more ++ (ns ++ p ∷ []), ap (λ l. l ++ (ns ++ p ∷ [])) e ∙ append_assoc a (q ∷ more) (ns ++ p ∷ []), n, s, replies-push fs more ns f p h k r)

served-notices : (left fs ps ns : List (List ℕ)) → IsServed left fs ps → All IsNotice ns → IsServed left fs (ps ++ ns)
served-notices left fs ps ns s k = record {
  connect = s.connect;
  done = s.done;
  split = s.split;
  first = s.first;
  more = s.more ++ ns;
  sent = ap (λ l. l ++ ns) s.sent;
  welcome = s.welcome;
  replies = replies-notices s.done s.more ns s.replies k;
}

served-reply : (f : List ℕ) (fs ps ns : List (List ℕ)) (p : List ℕ) → IsServed (f ∷ []) fs ps → All IsNotice ns → IsReplyTo f p → IsServed [] fs (ps ++ (ns ++ p ∷ []))
served-reply f fs ps ns p s k r = record {
  connect = s.connect;
  done = s.done ++ f ∷ [];
  split = s.split ∙ ap (λ l. s.connect ∷ l) (sym (append-nil (s.done ++ f ∷ [])));
  first = s.first;
  more = s.more ++ (ns ++ p ∷ []);
  sent = ap (λ l. l ++ (ns ++ p ∷ [])) s.sent;
  welcome = s.welcome;
  replies = replies-push s.done s.more ns f p s.replies k r;
}

-- ---- at an end

served-left : (why : Cause) (left fs ps : List (List ℕ)) → length left ≤ 1 → (is_answered why ≡ true → left ≡ []) → IsServed left fs ps → AreAnswered why fs ps
served-left why left fs ps one whole s = record {
  done = s.connect ∷ s.done;
  left = left;
  split = s.split;
  one = one;
  answers = subst (AreAnswers (s.connect ∷ s.done)) (sym s.sent) (s.welcome, s.replies);
  whole = whole;
}

served-whole : (why : Cause) (fs ps : List (List ℕ)) → IsServed [] fs ps → AreAnswered why fs ps
served-whole why fs ps s = served-left why [] fs ps (omega arith) (λ e. refl) s

never : (why : Cause) (left : List (List ℕ)) → is_answered why ≡ false → is_answered why ≡ true → left ≡ []
never why left b e = (let n : false ≡ true = sym b ∙ e in absurd (cc))

pub weaker : (why w : Cause) (fs ps : List (List ℕ)) → is_answered w ≡ false → AreAnswered why fs ps → AreAnswered w fs ps
weaker why w fs ps b a = record { done = a.done; left = a.left; split = a.split; one = a.one; answers = a.answers; whole = never w a.left b }

one-left : (why : Cause) (f : List ℕ) (fs ps : List (List ℕ)) → is_answered why ≡ false → IsServed (f ∷ []) fs ps → AreAnswered why fs ps
one-left why f fs ps b s = served-left why (f ∷ []) fs ps (omega arith) (never why (f ∷ []) b) s

pub open-answered : (why : Cause) (fs ps : List (List ℕ)) → is_answered why ≡ false → (st : Stage) → is_shut st ≡ false → HasAnswered st fs ps → AreAnswered why fs ps
open-answered why fs ps b (Unconnected fresh) o h = record { done = []; left = []; split = h.0; one = omega arith; answers = h.1; whole = λ e. refl }
open-answered why fs ps b (Connecting connect) o h = record { done = []; left = h.0 ∷ []; split = h.1; one = omega arith; answers = h.2; whole = never why (h.0 ∷ []) b }
open-answered why fs ps b Ready o h = served-whole why fs ps h
open-answered why fs ps b (KeepingAlive f) o h = one-left why f fs ps b h
open-answered why fs ps b (Checking f) o h = one-left why f fs ps b h
open-answered why fs ps b (Reading xid r v ws) o h = one-left why h.0 fs ps b h.2
open-answered why fs ps b (Committing xid r v p time) o h = one-left why h.0 fs ps b h.2
open-answered why fs ps b (Waiting p) o h = one-left why h.0 fs ps b h.2
open-answered why fs ps b Shut o h = absurd (cc)

-- where a frame is wanted, none is left
wanting-answered : (why : Cause) (fs ps : List (List ℕ)) (c : Core) (st : Stage) → awaits_frame (wanted_in c st) ≡ true → HasAnswered st fs ps → AreAnswered why fs ps
wanting-answered why fs ps c (Unconnected fresh) w h = record { done = []; left = []; split = h.0; one = omega arith; answers = h.1; whole = λ e. refl }
wanting-answered why fs ps c (Connecting connect) w h = absurd (cc)
wanting-answered why fs ps c Ready w h = served-whole why fs ps h
wanting-answered why fs ps c (KeepingAlive f) w h = absurd (cc)
wanting-answered why fs ps c (Checking f) w h = absurd (cc)
wanting-answered why fs ps c (Reading xid r v ws) w h = absurd (cc)
wanting-answered why fs ps c (Committing xid r v p time) w h = absurd (cc)
wanting-answered why fs ps c (Waiting p) w h = absurd (cc)
wanting-answered why fs ps c Shut w h = absurd (cc)

-- ---- what a part of a step leaves

pub record Row (fs ps : List (List ℕ)) (c' : Core) (out : List Action) : Type 0 where
  pub rested : c'.waiting ≡ []
  pub stands : HasAnswered c'.stage fs (ps ++ sends out)
  pub answers : (why : Cause) → closed_for out ≡ Some why → AreAnswered why fs (ps ++ sends out)
  pub any : AreAnswered cause.Memory fs (ps ++ sends out)

module _ (fs : List (List ℕ)) where
  row-is : (ps : List (List ℕ)) (y : Core × List Action) (c' : Core) (out : List Action) → Is y c' out → Row fs ps y.0 y.1 → Row fs ps c' out
  row-is ps y c' out i d = subst (λ e. Row fs ps e out) (sym i.0) (subst (λ o. Row fs ps y.0 o) (sym i.1) d)

  open-row : (ps : List (List ℕ)) (d : Core) (out : List Action) → d.waiting ≡ [] → is_shut d.stage ≡ false → closed_for out ≡ None → HasAnswered d.stage fs (ps ++ sends out) → Row fs ps d out
  open-row ps d out w o none h = record { rested = w; stands = h; answers = λ why e. absurd (none_some (sym none ∙ e)); any = open-answered cause.Memory fs (ps ++ sends out) refl d.stage o h }

  -- packets first
  row-after : (ps : List (List ℕ)) (c' : Core) (first later : List Action) → only_sends first ≡ true → Row fs (ps ++ sends first) c' later → Row fs ps c' (first ++ later)
  row-after ps c' first later only d = record {
    rested = d.rested;
    stands = subst (HasAnswered c'.stage fs) same d.stands;
    answers = λ why e. subst (AreAnswered why fs) same (d.answers why (sym (closed-after first later only) ∙ e));
    any = subst (AreAnswered cause.Memory fs) same d.any;
  }
    where
      same : (ps ++ sends first) ++ sends later ≡ ps ++ sends (first ++ later)
      same = append_assoc ps (sends first) (sends later) ∙ ap (λ l. ps ++ l) (sym (sends-append first later))

  module _ (ps : List (List ℕ)) where
    unsent : ps ≡ ps ++ []
    unsent = sym (append-nil ps)

    closed-row : (c c' : Core) (why : Cause) (out : List Action) → c.waiting ≡ [] → AreAnswered why fs ps → Is (closed_by c why) c' out → Row fs ps c' out
    closed-row c c' why out w a i = row-is ps (closed_by c why) c' out i (record {
      rested = w;
      stands = tt;
      answers = λ y e. subst (λ z. AreAnswered z fs (ps ++ [])) (some_is e) (subst (AreAnswered why fs) unsent a);
      any = weaker why cause.Memory fs (ps ++ []) refl (subst (AreAnswered why fs) unsent a);
    })

    asks-row : (d c' : Core) (q : Ask) (out : List Action) → d.waiting ≡ [] → is_shut d.stage ≡ false → HasAnswered d.stage fs ps → Is (d, action.Ask q ∷ []) c' out → Row fs ps c' out
    asks-row d c' q out w o h i = row-is ps (d, action.Ask q ∷ []) c' out i (open-row ps d (action.Ask q ∷ []) w o refl (subst (HasAnswered d.stage fs) unsent h))

    -- a reply, and the end after it
    reply-row : (d : Core) (packet : List ℕ) (o : Option Cause) → d.waiting ≡ [] → d.stage ≡ stage_after o → IsServed [] fs (ps ++ packet ∷ []) → Row fs ps d (action.Send packet ∷ close_after o)
    reply-row d packet None w st s = open-row ps d (action.Send packet ∷ []) w (ap is_shut st) refl (subst (λ t. HasAnswered t fs (ps ++ packet ∷ [])) (sym st) s)
    reply-row d packet (Some end) w st s = record {
      rested = w;
      stands = subst (λ t. HasAnswered t fs (ps ++ packet ∷ [])) (sym st) tt;
      answers = λ why e. served-whole why fs (ps ++ packet ∷ []) s;
      any = served-whole cause.Memory fs (ps ++ packet ∷ []) s;
    }

  sent-notices : (ns : List Notice) → All IsNotice (sends (send_notices ns))
  sent-notices [] = All-nil IsNotice
  sent-notices (n ∷ ns) = All-cons IsNotice (notice_packet n) (sends (send_notices ns)) (n, refl) (sent-notices ns)

  replied-row : (ps : List (List ℕ)) (c c' : Core) (p : Pending) (out : List Action) → c.waiting ≡ [] → IsAtWork p.xid fs ps → Is (replied c p) c' out → Row fs ps c' out
  replied-row ps c c' p out w (f, xid, s) i = row-is ps (replied c p) c' out i
      (row-after ps (replied c p).0 first (action.Send packet ∷ close_after p.ends) (notices-only (seen_by p.change c.watches).notices)
      (reply-row (ps ++ sends first) (replied c p).0 packet p.ends w refl (subst (IsServed [] fs) (sym (append_assoc ps (sends first) (packet ∷ []))) (served-reply f fs ps (sends first) packet s (sent-notices (seen_by p.change c.watches).notices) (p.zxid, p.answer, ap (λ x. reply_packet x p.zxid p.answer) (sym xid))))))
    where
      packet : List ℕ
      packet = reply_packet p.xid p.zxid p.answer

      first : List Action
      first = send_notices (seen_by p.change c.watches).notices

  waits-row : (ps : List (List ℕ)) (c c' : Core) (p : Pending) (out : List Action) → c.waiting ≡ [] → IsAtWork p.xid fs ps → Is (waits c p) c' out → Row fs ps c' out
  waits-row ps c c' p out w h i = go (is_due c p) i
    where
      go : (b : Bool) → Is (if b then replied c p else (record c { stage = Waiting p }, [])) c' out → Row fs ps c' out
      go true j = replied-row ps c c' p out w h j
      go false j = row-is ps (record c { stage = Waiting p }, []) c' out j (open-row ps (record c { stage = Waiting p }) [] w refl refl (subst (IsAtWork p.xid fs) (unsent ps) h))

  module _ (ps : List (List ℕ)) where
    -- ---- on a view

    decided-row : (c c' : Core) (xid : ℤ) (r : Request) (v : View) (now : ℕ) (out : List Action) (d : Decision) → c.waiting ≡ [] → IsAtWork xid fs ps → Is (decided c xid r v now d) c' out → Row fs ps c' out
    decided-row c c' xid r v now out (Answered answer arm) w h i = waits-row ps c c' (pending v xid answer (change_by r v arm) None) out w h i
    decided-row c c' xid r v now out (Planned p) w h i = asks-row ps (record c { stage = Committing xid r v p now }) c' _ out w refl h i
    decided-row c c' xid r v now out Expired w h i = waits-row ps c c' (expired v xid) out w h i
    decided-row c c' xid r v now out (Moved found) w h i = waits-row ps c c' (moved c.who v found xid) out w h i

    looks-row : (c c' : Core) (xid : ℤ) (r : Request) (v : View) (now : ℕ) (out : List Action) → c.waiting ≡ [] → IsAtWork xid fs ps → Looks c xid r v now c' out → Row fs ps c' out
    looks-row c c' xid r v now out w h (inl y) = asks-row ps (record c { stage = Reading xid r v _ }) c' _ out w refl h y.is
    looks-row c c' xid r v now out w h (inr (inl y)) = decided-row c c' xid r (guessed v y.key) now out (Planned y.plan) w h y.is
    looks-row c c' xid r v now out w h (inr (inr y)) = decided-row (keeps c r v) c' xid r v now out y.decision w h y.is

    records-row : (c c' : Core) (ws : List Want) (parts : List ActAns) (out : List Action) (Next : Type 0) (f : List ℕ) → c.waiting ≡ [] → IsServed (f ∷ []) fs ps → (Next → Row fs ps c' out) → IfRecords c ws parts c' out Next → Row fs ps c' out
    records-row c c' ws parts out Next f w s next (inl e) = closed-row ps c c' (cause.Damaged e.key e.value) out w (one-left (cause.Damaged e.key e.value) f fs ps refl s) e.is
    records-row c c' ws parts out Next f w s next (inr h) = next h.1

    -- ---- a frame is taken up

    plain-row : (c c' : Core) (bytes : List ℕ) (t : Told) (out : List Action) → c.waiting ≡ [] → IsServed (bytes ∷ []) fs ps → Is (plainly c (xid_of (read_request bytes)) t) c' out → Row fs ps c' out
    plain-row c c' bytes t out w s i = row-is ps (plainly c (xid_of (read_request bytes)) t) c' out i
        (reply-row ps (plainly c (xid_of (read_request bytes)) t).0 (reply_packet (xid_of (read_request bytes)) c.zxid t.reply) (end_of_plain (is_auth_refusal t.reply)) w refl
        (served-reply bytes fs ps [] (reply_packet (xid_of (read_request bytes)) c.zxid t.reply) s (All-nil IsNotice) (c.zxid, t.reply, refl)))

    readable-row : (c c' : Core) (bytes : List ℕ) (now : ℕ) (out : List Action) (y : Frame) (o : Option Told) → c.waiting ≡ [] → IsServed (bytes ∷ []) fs ps → read_request bytes ≡ y → TakesReadable c now c' out y o → Row fs ps c' out
    readable-row c c' bytes now out y (Some t) w s is h = plain-row c c' bytes t out w s (subst (λ z. Is (plainly c (xid_of z) t) c' out) (sym is) h)
    readable-row c c' bytes now out NoHeader None w s is h = absurd h
    readable-row c c' bytes now out (Unreadable xid place) None w s is h = absurd h
    readable-row c c' bytes now out (Unknown xid kind) None w s is h = absurd h
    readable-row c c' bytes now out (Asks xid r) None w s is h = go (first-or-anew c c' xid r now out (update_path r) h)
      where
        work : IsAtWork xid fs ps
        work = (bytes, ap xid_of is, s)

        go : PlansBeside c xid r now c' out ⊎ Looks c xid r empty_view now c' out → Row fs ps c' out
        go (inl y) = decided-row (record c { views = y.views }) c' xid r y.view now out (Planned y.plan) w work y.is
        go (inr y) = looks-row c c' xid r empty_view now out w work y

    takes-row : (c c' : Core) (bytes : List ℕ) (now : ℕ) (out : List Action) → c.waiting ≡ [] → IsServed (bytes ∷ []) fs ps → TakesFrame c bytes now c' out → Row fs ps c' out
    takes-row c c' bytes now out w s h = readable-row c c' bytes now out (read_request bytes) (plain_reply c.watches (read_request bytes)) w s refl h

    takes-up-row : (c c' : Core) (bytes : List ℕ) (now : ℕ) (out : List Action) → c.waiting ≡ [] → IsServed (bytes ∷ []) fs ps → TakesUp c bytes now c' out → Row fs ps c' out
    takes-up-row c c' bytes now out w s h =
        either (is_alive_due c.kept now c.timeout) (Is (keeps_alive c bytes now) c' out) (TakesFrame c bytes now c' out) (Row fs ps c' out) h
        (asks-row ps (record c { stage = KeepingAlive bytes; kept = now }) c' _ out w refl s)
        (takes-row c c' bytes now out w s)

    -- ---- answers

    still-row : (c c' : Core) (bytes : List ℕ) (v : View) (now : ℕ) (out : List Action) (o : Option Kv) → c.waiting ≡ [] → IsServed (bytes ∷ []) fs ps → StillMine c bytes v now c' out o → Row fs ps c' out
    still-row c c' bytes v now out None w s h = waits-row ps c c' (expired v (xid_of (read_request bytes))) out w (bytes, refl, s) h
    still-row c c' bytes v now out (Some kv) w s h =
        either (int_eq kv.mod_revision c.who.mine) (TakesFrame c bytes now c' out) (Is (waits c (moved c.who v kv.mod_revision (xid_of (read_request bytes)))) c' out) (Row fs ps c' out) h
        (takes-row c c' bytes now out w s)
        (waits-row ps c c' (moved c.who v kv.mod_revision (xid_of (read_request bytes))) out w (bytes, refl, s))

    committed-row : (c c' : Core) (xid : ℤ) (r : Request) (v : View) (p : Plan) (now : ℕ) (out : List Action) (z : ℤ) (b : Bool) (parts : List ActAns) → c.waiting ≡ [] → IsAtWork xid fs ps → Committed c xid r v p now c' out z b parts → Row fs ps c' out
    committed-row c c' xid r v p now out z true parts w k h =
        waits-row ps h.kept c' (finishes xid r p z parts) out (ap (λ (d : Core). d.waiting) (leaves-beside c h.kept (update_path r) v p z parts h.leaves).1 ∙ w) k h.is
    committed-row c c' xid r v p now out z false parts w k h =
        let y = viewed z p.again parts in
        records-row c c' p.again parts out (Looks c xid r y now c' out) k.0 w k.2 (looks-row c c' xid r y now out w k) h

    -- ---- connects

    left-unsent : (why : Cause) (f : List ℕ) → is_answered why ≡ false → fs ≡ f ∷ [] → ps ≡ [] → AreAnswered why fs ps
    left-unsent why f b e none = record { done = []; left = f ∷ []; split = e; one = omega arith; answers = none; whole = never why (f ∷ []) b }

    connected-row : (c c' : Core) (now : ℕ) (new : Connect) (f : List ℕ) (out : List Action) (step : ConnectStep) → c.waiting ≡ [] → fs ≡ f ∷ [] → ps ≡ [] → Is (connected c now new step) c' out → Row fs ps c' out
    connected-row c c' now new f out (steps.Ask q) w e none i = asks-row ps (connected c now new (steps.Ask q)).0 c' q out w refl (f, e, none) i
    connected-row c c' now new f out (steps.Attached response who timeout number zxid) w e none i = row-is ps (connected c now new (steps.Attached response who timeout number zxid)) c' out i
        (reply-row ps (attached_core c who timeout number zxid) (connect_packet response) None w refl
        (record { connect = f; done = []; split = e; first = connect_packet response; more = []; sent = ap (λ l. l ++ connect_packet response ∷ []) none; welcome = (response, refl); replies = All-nil IsNotice }))
    connected-row c c' now new f out (steps.Ahead client head) w e none i = closed-row ps c c' (cause.ZxidAhead client head) out w (left-unsent (cause.ZxidAhead client head) f refl e none) i
    connected-row c c' now new f out steps.Unknown w e none i = row-is ps (connected c now new steps.Unknown) c' out i
        (reply-row ps (record c { stage = Shut }) (connect_packet (refusal new.request)) (Some cause.Unknown) w refl
        (record { connect = f; done = []; split = e; first = connect_packet (refusal new.request); more = []; sent = ap (λ l. l ++ connect_packet (refusal new.request) ∷ []) none; welcome = (refusal new.request, refl); replies = All-nil IsNotice }))
    connected-row c c' now new f out (steps.Taken revision) w e none i = closed-row ps c c' (cause.Taken revision) out w (left-unsent (cause.Taken revision) f refl e none) i

    connects-row : (c c' : Core) (connect : Connect) (f : List ℕ) (a : Option Answer) (now : ℕ) (out : List Action) → c.waiting ≡ [] → fs ≡ f ∷ [] → ps ≡ [] → Connects c connect a now c' out → Row fs ps c' out
    connects-row c c' connect f a now out w e none (inl d) = closed-row ps c c' (cause.Damaged d.key d.value) out w (left-unsent (cause.Damaged d.key d.value) f refl e none) d.is
    connects-row c c' connect f a now out w e none (inr s) = connected-row c c' now s.new f out s.step w e none s.is

    opens-row : (c c' : Core) (place : ℕ) (fresh : Fresh) (f : List ℕ) (now : ℕ) (out : List Action) (o : Option ConnectRequest) → c.waiting ≡ [] → fs ≡ f ∷ [] → ps ≡ [] → Opens c place fresh now c' out o → Row fs ps c' out
    opens-row c c' place fresh f now out None w e none h = closed-row ps c c' (cause.NoHeader place) out w (left-unsent (cause.NoHeader place) f refl e none) h
    opens-row c c' place fresh f now out (Some r) w e none h = connects-row c c' (begun r fresh) f None now out w e none h

    answers-row : (c c' : Core) (a : Answer) (now : ℕ) (out : List Action) (st : Stage) → c.waiting ≡ [] → HasAnswered st fs ps → Answers c a now c' out st → Row fs ps c' out
    answers-row c c' a now out (Unconnected fresh) w k h = absurd h
    answers-row c c' a now out (Connecting connect) w k h = connects-row c c' connect k.0 (Some a) now out w k.1 k.2 h
    answers-row c c' a now out (KeepingAlive bytes) w k h = of_alive a _ (Row fs ps c' out) h (λ ttl f.
        either (int_eq ttl (pos 0)) (Is (checks c bytes) c' out) (TakesFrame c bytes now c' out) (Row fs ps c' out) f
        (asks-row ps (record c { stage = Checking bytes }) c' _ out w refl k)
        (takes-row c c' bytes now out w k))
    answers-row c c' a now out (Checking bytes) w k h = of_txn a _ (Row fs ps c' out) h (λ z b parts f.
        let v = viewed z (attach_wants c.who.session) parts in
        records-row c c' (attach_wants c.who.session) parts out (Looked c bytes now c' out v) bytes w k (still-row c c' bytes v now out (found_at v (life_key c.who.session)) w k) f)
    answers-row c c' a now out (Reading xid r v ws) w k h = of_txn a _ (Row fs ps c' out) h (λ z b parts f.
        let y = with_parts (at_revision v z) ws parts in
        records-row c c' ws parts out (Looks c xid r y now c' out) k.0 w k.2 (looks-row c c' xid r y now out w k) f)
    answers-row c c' a now out (Committing xid r v p time) w k h = of_txn a _ (Row fs ps c' out) h (λ z b parts f. committed-row c c' xid r v p now out z b parts w k f)
    answers-row c c' a now out Ready w k h = absurd h
    answers-row c c' a now out (Waiting p) w k h = absurd h
    answers-row c c' a now out Shut w k h = absurd h

    -- ---- an entry

    entry-row : (c c' : Core) (e : Entry) (out : List Action) (st : Stage) → c.stage ≡ st → awaits_entry (wanted_in c st) ≡ true → c.waiting ≡ [] → HasAnswered st fs ps → Is (then_reply (entered c e) st) c' out → Row fs ps c' out
    entry-row c c' e out (Waiting p) is a w k i =
        let d = (entered c e).0 in
        let first = (entered c e).1 in
        row-is ps (then_reply (entered c e) (Waiting p)) c' out i (row-after ps (waits d p).0 first (waits d p).1 (notices-only (fire_all c.watches e.triggers).1)
        (waits-row (ps ++ sends first) d (waits d p).0 p (waits d p).1 w (k.0, k.1, served-notices (k.0 ∷ []) fs ps (sends first) k.2 (sent-notices (fire_all c.watches e.triggers).1)) (refl, refl)))
    entry-row c c' e out Ready is a w k i =
        row-is ps (entered c e) c' out i (open-row ps (entered c e).0 (entered c e).1 w (ap is_shut is) (closes-none (entered c e).1 (notices-only (fire_all c.watches e.triggers).1))
        (subst (λ t. HasAnswered t fs (ps ++ sends (entered c e).1)) (sym is) (served-notices [] fs ps (sends (entered c e).1) k (sent-notices (fire_all c.watches e.triggers).1))))
      where
        closes-none : (l : List Action) → only_sends l ≡ true → closed_for l ≡ None
        closes-none [] g = refl
        closes-none (action.Send bytes ∷ more) g = closes-none more g
        closes-none (action.Ask a ∷ more) g = absurd (cc)
        closes-none (action.Close why ∷ more) g = absurd (cc)
    entry-row c c' e out (Unconnected fresh) is a w k i = absurd (cc)
    entry-row c c' e out (Connecting connect) is a w k i = absurd (cc)
    entry-row c c' e out (KeepingAlive f) is a w k i = absurd (cc)
    entry-row c c' e out (Checking f) is a w k i = absurd (cc)
    entry-row c c' e out (Reading xid r v ws) is a w k i = absurd (cc)
    entry-row c c' e out (Committing xid r v p m) is a w k i = absurd (cc)
    entry-row c c' e out Shut is a w k i = absurd (cc)

-- ---- a step

goes-none : (now : ℕ) (c c' : Core) (out : List Action) → c.waiting ≡ [] → Goes now c c' out → (c' ≡ c) × (out ≡ [])
goes-none now c c' out w (rests why same none) = (same, none)
goes-none now c c' out w (takes d frame more first later r ws t g o) = (let n : [] ≡ frame ∷ more = sym w ∙ ws in absurd (cc))

settled : (fs ps : List (List ℕ)) (mid c' : Core) (now : ℕ) (first later out : List Action) → Row fs ps mid first → Goes now mid c' later → out ≡ first ++ later → Row fs ps c' out
settled fs ps mid c' now first later out r g o =
    let s = goes-none now mid c' later r.rested g in
    row-is fs ps (mid, first) c' out (s.0, o ∙ ap (λ l. first ++ l) s.1 ∙ append-nil first) r

heads : (a b : List ℕ) (xs ys : List (List ℕ)) → a ∷ xs ≡ b ∷ ys → a ≡ b
heads a b xs ys e = cc

tails : (a b : List ℕ) (xs ys : List (List ℕ)) → a ∷ xs ≡ b ∷ ys → ys ≡ xs
tails a b xs ys e = cc

goes-one : (fs ps : List (List ℕ)) (now : ℕ) (c c' : Core) (bytes : List ℕ) (out : List Action) → c.stage ≡ Ready → c.waiting ≡ bytes ∷ [] → IsServed (bytes ∷ []) fs ps → Goes now c c' out → Row fs ps c' out
goes-one fs ps now c c' bytes out ready w s (rests (inl unready) same none) = absurd (unready ready)
goes-one fs ps now c c' bytes out ready w s (rests (inr empty) same none) = (let n : [] ≡ bytes ∷ [] = sym empty ∙ w in absurd (cc))
goes-one fs ps now c c' bytes out ready w s (takes d frame more first later r ws t g o) =
    settled fs ps d c' now first later out (takes-up-row fs ps (record c { waiting = more }) d frame now first (tails bytes frame [] more (sym w ∙ ws)) (subst (λ f. IsServed (f ∷ []) fs ps) (heads bytes frame [] more (sym w ∙ ws)) s) t) g o

module _ (fs ps : List (List ℕ)) (c c' : Core) (now : ℕ) (out : List Action) (opened : is_shut c.stage ≡ false) (w : c.waiting ≡ []) where
  unframed : Row fs ps c' out → Row (fs ++ []) ps c' out
  unframed r = subst (λ l. Row l ps c' out) (sym (append-nil fs)) r

  frame-row : (bytes : List ℕ) (st : Stage) → c.stage ≡ st → awaits_frame (wanted_in c st) ≡ true → HasAnswered st fs ps → (mid : Core) (first later : List Action) → Comes c bytes now mid first st → Goes now mid c' later → out ≡ first ++ later → Row (fs ++ bytes ∷ []) ps c' out
  frame-row bytes (Unconnected fresh) is a k mid first later h g o =
      settled (fs ++ bytes ∷ []) ps mid c' now first later out (opens-row (fs ++ bytes ∷ []) ps (with_frame_counted c bytes) mid c.taken fresh bytes now first (read_connect bytes) w (ap (λ l. l ++ bytes ∷ []) k.0) k.1 h) g o
  frame-row bytes Ready is a k mid first later h g o =
      either (has_header (read_request bytes)) (Is (queued c bytes, []) mid first) (Is (closed_by c (cause.NoHeader c.taken)) mid first) (Row (fs ++ bytes ∷ []) ps c' out) h
      (λ i. subst (Row (fs ++ bytes ∷ []) ps c') (sym (o ∙ ap (λ l. l ++ later) i.1)) (goes-one (fs ++ bytes ∷ []) ps now mid c' bytes later (ap (λ (d : Core). d.stage) i.0 ∙ is) (ap (λ (d : Core). d.waiting) i.0 ∙ ap (λ l. l ++ bytes ∷ []) w) served g))
      (λ i. settled (fs ++ bytes ∷ []) ps mid c' now first later out (closed-row (fs ++ bytes ∷ []) ps c mid (cause.NoHeader c.taken) first w (one-left (cause.NoHeader c.taken) bytes (fs ++ bytes ∷ []) ps refl served) i) g o)
    where
      served : IsServed (bytes ∷ []) (fs ++ bytes ∷ []) ps
      served = record { connect = k.connect; done = k.done; split = ap (λ l. l ++ bytes ∷ []) k.split ∙ ap (λ l. k.connect ∷ l) (append_assoc k.done [] (bytes ∷ [])); first = k.first; more = k.more; sent = k.sent; welcome = k.welcome; replies = k.replies }
  frame-row bytes (Connecting connect) is a k mid first later h g o = absurd (cc)
  frame-row bytes (KeepingAlive f) is a k mid first later h g o = absurd (cc)
  frame-row bytes (Checking f) is a k mid first later h g o = absurd (cc)
  frame-row bytes (Reading xid r v ws) is a k mid first later h g o = absurd (cc)
  frame-row bytes (Committing xid r v p m) is a k mid first later h g o = absurd (cc)
  frame-row bytes (Waiting p) is a k mid first later h g o = absurd (cc)
  frame-row bytes Shut is a k mid first later h g o = absurd (cc)

  ends-row : (why : Cause) → AreAnswered why fs ps → (mid : Core) (first later : List Action) → Is (closed_by c why) mid first → Goes now mid c' later → out ≡ first ++ later → Row (fs ++ []) ps c' out
  ends-row why a mid first later i g o = unframed (settled fs ps mid c' now first later out (closed-row fs ps c mid why first w a i) g o)

  handled-row : (x : Input) → IsTimely c x → MayTake c x → HasAnswered c.stage fs ps → (mid : Core) (first later : List Action) → Handles c x now mid first → Goes now mid c' later → out ≡ first ++ later → Row (fs ++ listed (frame_in x)) ps c' out
  handled-row (input.Frame bytes) t m k mid first later h g o = frame-row bytes c.stage refl t k mid first later h g o
  handled-row (input.Answer a) t m k mid first later h g o = unframed (settled fs ps mid c' now first later out (answers-row fs ps c mid a now first c.stage w k h) g o)
  handled-row (input.Entry e) t m k mid first later h g o = unframed (settled fs ps mid c' now first later out (entry-row fs ps c mid (arc_value e) first c.stage refl (m opened).awaited w k h) g o)
  handled-row input.Failed t m k mid first later h g o = ends-row cause.LinkFault (open-answered cause.LinkFault fs ps refl c.stage opened k) mid first later h g o
  handled-row (input.BadLength place length) t m k mid first later h g o = ends-row (cause.BadLength place length) (wanting-answered (cause.BadLength place length) fs ps c c.stage t k) mid first later h g o
  handled-row (input.Lagged cursor floor) t m k mid first later h g o = ends-row (cause.Lagged cursor floor) (open-answered (cause.Lagged cursor floor) fs ps refl c.stage opened k) mid first later h g o
  handled-row input.FeedClosed t m k mid first later h g o = ends-row cause.FeedClosed (open-answered cause.FeedClosed fs ps refl c.stage opened k) mid first later h g o
  handled-row (input.ClientEnd place) t m k mid first later h g o = ends-row (cause.ClientEnd place) (wanting-answered (cause.ClientEnd place) fs ps c c.stage t k) mid first later h g o

pub step-answers : (fs ps : List (List ℕ)) (c c' : Core) (x : Input) (now : ℕ) (out : List Action) → is_shut c.stage ≡ false → c.waiting ≡ [] → IsTimely c x → MayTake c x → HasAnswered c.stage fs ps → Steps c x now c' out → Row (fs ++ listed (frame_in x)) ps c' out
step-answers fs ps c c' x now out opened w t m k h = (let s = steps-open c c' x now out opened h in handled-row fs ps c c' now out opened w x t m k s.mid s.first s.later s.handled s.goes s.joined)
