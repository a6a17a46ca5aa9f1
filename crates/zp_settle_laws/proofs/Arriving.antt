-- Frames that come leave an attached connection open, where none of them asks for its end.
use Rattle.std.proofs.Common.{◌≡◌, ℕ, ◌+◌, List, [], ◌∷◌, ◌++◌, append-nil, append_assoc, refl, sym, ap, ◌∙◌, subst, Bool, true, false, ℤ, inl, inr}
use Rattle.std.specs.Prelude.{Option, Some, None, ◌⊎◌, MatchBool, fold, if◌then◌else◌, not, take}
use Rattle.zk_jute.specs.Requests.{Frame, NoHeader, Unreadable, Unknown, Asks, read_request}
use Rattle.zk_model.specs.Watches.{no_watches}
use Rattle.zk_service.proofs.PlainReplies.{plain-none}
use Rattle.zk_transcript.proofs.Appending.{after-push}
use Rattle.zk_service.specs.Answers.{Told, plain_reply, xid_of, has_header}
use Rattle.zk_transcript.specs.History.{after}
use Rattle.zk_service.specs.States.{session_at}
use Rattle.zk_service.specs.declared.cause.Cause.TheVariants as cause
use Rattle.zk_service.specs.declared.cause.Ended.TheVariants as ended
use Rattle.zk_transcript.specs.declared.transcript.TranscriptLine.TheVariants.{Close, Frame as FrameLine, Send}
use Rattle.zk_transcript.specs.declared.transcript.TranscriptLine.{TranscriptLine}
use Rattle.zk_service.specs.declared.update.UpdateKind.{UpdateKind}
use Rattle.zn_view.specs.Asks.{head_want}
use Rattle.zn_view.specs.Seen.{empty_view}
use Rattle.zs_session.specs.Alive.{is_alive_due}
use Rattle.zx_base.proofs.Options.{some_is}
use Rattle.zn_view.specs.Keeping.{update_path}
use Rattle.zp_step.specs.Looking.{Looks, asks_for, decided, max_ranges}
use Rattle.zp_step.proofs.Beside.{PlansBeside, first-or-anew}
use Rattle.zn_view.specs.declared.plan.Decision.TheVariants.{Planned}
use Rattle.zp_step.proofs.Shutting.{steps-open}
use Rattle.zp_step.specs.Keepalives.{TakesUp, keeps_alive}
use Rattle.zp_step.specs.Replies.{Is, closed_by}
use Rattle.zp_step.specs.Stages.{Core, Stage, Unconnected, Connecting, Ready, KeepingAlive, Checking, Reading, Committing, Waiting, Shut, counted_up}
use Rattle.zp_step.specs.Steps.{Comes, Goes, Steps as CoreSteps, queued, rests, takes}
use Rattle.zp_step.specs.Taking.{TakesFrame, TakesReadable, plainly}
use Rattle.zp_step.specs.declared.action.Action.TheVariants as action
use Rattle.zp_step.specs.declared.action.Action.{Action}
use Rattle.zp_step.specs.declared.input.Input.TheVariants as input
use Rattle.zp_script.specs.Arriving.{EndsBadly, FramesArrive, frame_lines, shown_frame}
use Rattle.zp_script.specs.Handing.{Handed}
use Rattle.zp_script.specs.Kinds.{kind_asked}
use Rattle.zp_script.specs.StepOutcomes.{StepOutcome, acts, acts_all, quiet}
use Rattle.zp_script.specs.Worlds.{Closed, Conn, Connection, World, after_step, conn_at, is_closed_actor, is_open_conn, with_conn, zxid_at}
use Rattle.zp_world_laws.proofs.Handing.{core-same}
use Rattle.zp_world_laws.proofs.Numbers.{conn-here}
use Rattle.zp_settle_laws.proofs.Open.{here-as, lasting-open}
use Rattle.zp_settle_laws.proofs.Staying.{goes-lasting}
use Rattle.zp_settle_laws.specs.Staying.{AreLasting, AreMild, FramesLeaveOpen, IsLasting, IsLastingIn, StaysOpen, closes_after}
use Rattle.zx_base.proofs.Booleans.{true-not_false as true-false, either}

-- ---- frames that are taken up leave who it is

is-who : (x : Core × List Action) (c c' : Core) (out : List Action) → x.0.who ≡ c.who → Is x c' out → c'.who ≡ c.who
is-who x c c' out e i = ap (λ (d : Core). d.who) i.0 ∙ e

readable-who : (c c' : Core) (now : ℕ) (out : List Action) (x : Frame) (o : Option Told) → plain_reply c.watches x ≡ o → TakesReadable c now c' out x o → c'.who ≡ c.who
readable-who c c' now out x (Some t) p h = is-who (plainly c (xid_of x) t) c c' out refl h
readable-who c c' now out NoHeader None p h = absurd h
readable-who c c' now out (Unreadable xid place) None p h = absurd h
readable-who c c' now out (Unknown xid kind) None p h = absurd h
readable-who c c' now out (Asks xid r) None p h = go (first-or-anew c c' xid r now out (update_path r) h)
  where
    go : PlansBeside c xid r now c' out ⊎ Looks c xid r empty_view now c' out → c'.who ≡ c.who
    go (inl y) = is-who (decided (record c { views = y.views }) xid r y.view now (Planned y.plan)) c c' out refl y.is
    go (inr (inl y)) = is-who (asks_for c xid r empty_view (take max_ranges y.lacking)) c c' out refl y.is
    go (inr (inr (inl y))) = absurd (let begun : true ≡ false = (y.may).begun in cc)
    go (inr (inr (inr y))) = absurd (y.whole.enough refl (plain-none c.watches no_watches (Asks xid r) p) head_want (inl refl) refl)

takes_up-who : (c c' : Core) (bytes : List ℕ) (now : ℕ) (out : List Action) → TakesUp c bytes now c' out → c'.who ≡ c.who
takes_up-who c c' bytes now out h =
    either (is_alive_due c.kept now c.timeout) (Is (keeps_alive c bytes now) c' out) (TakesFrame c bytes now c' out) (c'.who ≡ c.who) h (is-who (keeps_alive c bytes now) c c' out refl)
    (readable-who c c' now out (read_request bytes) (plain_reply c.watches (read_request bytes)) refl)

goes-who : (now : ℕ) (c c' : Core) (out : List Action) → Goes now c c' out → c'.who ≡ c.who
goes-who now c c' out (rests why same none) = ap (λ (d : Core). d.who) same
goes-who now c c' out (takes d frame more first later ready w t g o) = goes-who now d c' later g ∙ takes_up-who (record c { waiting = more }) d frame now first t

-- ---- a frame

lasting-append : (fs : List (List ℕ)) (f : List ℕ) → AreLasting fs → closes_after (read_request f) ≡ false → AreLasting (fs ++ f ∷ [])
lasting-append [] f h k = (k, tt)
lasting-append (g ∷ fs) f h k = (h.0, lasting-append fs f h.1 k)

queued-lasting : (c : Core) (f : List ℕ) → closes_after (read_request f) ≡ false → IsLasting c → IsLasting (queued c f)
queued-lasting c f k h = record { work = h.work; waiting = lasting-append c.waiting f h.waiting k }

-- it waits after the others, or is taken up
abbrev Stays : Core → Core → Type 0
Stays c d = IsLasting d × (d.who ≡ c.who)

queue-stays : (c mid : Core) (f : List ℕ) (first : List Action) → has_header (read_request f) ≡ true → closes_after (read_request f) ≡ false → IsLasting c
    → MatchBool (has_header (read_request f)) (Is (queued c f, []) mid first) (Is (closed_by c (cause.NoHeader c.taken)) mid first) → Stays c mid
queue-stays c mid f first header k l h = go (has_header (read_request f)) header h
  where
    go : (b : Bool) → b ≡ true → MatchBool b (Is (queued c f, []) mid first) (Is (closed_by c (cause.NoHeader c.taken)) mid first) → Stays c mid
    go true e i = (subst IsLasting (sym i.0) (queued-lasting c f k l), ap (λ (d : Core). d.who) i.0)
    go false e i = absurd (true-false (sym e))

comes-stays : (c mid : Core) (f : List ℕ) (now : ℕ) (first : List Action) (st : Stage) → c.stage ≡ st → has_header (read_request f) ≡ true → closes_after (read_request f) ≡ false → IsLasting c → Comes c f now mid first st → Stays c mid
comes-stays c mid f now first (Unconnected fresh) e header k l h = absurd (subst IsLastingIn e l.work)
comes-stays c mid f now first (Connecting x) e header k l h = queue-stays c mid f first header k l h
comes-stays c mid f now first Ready e header k l h = queue-stays c mid f first header k l h
comes-stays c mid f now first (KeepingAlive g) e header k l h = queue-stays c mid f first header k l h
comes-stays c mid f now first (Checking g) e header k l h = queue-stays c mid f first header k l h
comes-stays c mid f now first (Reading xid r v ws) e header k l h = queue-stays c mid f first header k l h
comes-stays c mid f now first (Committing xid r v p m) e header k l h = queue-stays c mid f first header k l h
comes-stays c mid f now first (Waiting p) e header k l h = queue-stays c mid f first header k l h
comes-stays c mid f now first Shut e header k l h = queue-stays c mid f first header k l h

frame-stays : (c c' : Core) (f : List ℕ) (now : ℕ) (out : List Action) → has_header (read_request f) ≡ true → closes_after (read_request f) ≡ false → IsLasting c → CoreSteps c (input.Frame f) now c' out → Stays c c'
frame-stays c c' f now out header k l h =
    let s = steps-open c c' (input.Frame f) now out (lasting-open c.stage l.work) h in
    let m = comes-stays c s.mid f now s.first c.stage refl header k l s.handled in
    (goes-lasting now s.mid c' s.later m.0 s.goes, goes-who now s.mid c' s.later s.goes ∙ m.1)

-- ---- lines that leave every session

abbrev IsStill : List TranscriptLine → Type 0
IsStill more = (ls : List TranscriptLine) → after (ls ++ more) ≡ after ls

frames-still : (c i : ℕ) (z : ℤ) (fs : List (List ℕ)) → IsStill (frame_lines c i z fs)
frames-still c i z [] ls = ap after (append-nil ls)
frames-still c i z (f ∷ fs) ls =
    ap after (sym (append_assoc ls (FrameLine c i z f ∷ []) (frame_lines c (counted_up (i + 1)) z fs))) ∙ frames-still c (counted_up (i + 1)) z fs (ls ++ FrameLine c i z f ∷ []) ∙ after-push ls (FrameLine c i z f)

acts-still : (ls onward : List TranscriptLine) (c : ℕ) (kind : Option UpdateKind) (out : List Action) (o : StepOutcome) → IsStill onward → after (ls ++ (fold (acts c kind onward) o out).lines) ≡ after (ls ++ o.lines)
acts-still ls onward c kind [] o h = refl
acts-still ls onward c kind (action.Send bytes ∷ out) o h = acts-still ls onward c kind out (acts c kind onward o (action.Send bytes)) h ∙ ap after (sym (append_assoc ls o.lines (Send c bytes ∷ []))) ∙ after-push (ls ++ o.lines) (Send c bytes)
acts-still ls onward c kind (action.Ask a ∷ out) o h = acts-still ls onward c kind out (acts c kind onward o (action.Ask a)) h
acts-still ls onward c kind (action.Close why ∷ out) o h =
    acts-still ls onward c kind out (acts c kind onward o (action.Close why)) h ∙ ap after (sym (append_assoc ls (o.lines ++ onward) (Close c (ended.Cause why) ∷ []))) ∙ after-push (ls ++ (o.lines ++ onward)) (Close c (ended.Cause why))
    ∙ ap after (sym (append_assoc ls o.lines onward)) ∙ h (ls ++ o.lines)

-- ---- frames come

pub one-stays : (c : ℕ) (w mid : World) (x : Conn) (f : List ℕ) (fs : List (List ℕ)) → conn_at c w ≡ Some x → Handed c (frame_lines c (counted_up (x.frames + 1)) (zxid_at w.store) fs) (shown_frame c w x f) (input.Frame f) mid
    → has_header (read_request f) ≡ true → closes_after (read_request f) ≡ false → StaysOpen c w → StaysOpen c mid
one-stays c w mid x f fs found hd header k s =
    let w1 = shown_frame c w x f in
    let onward = frame_lines c (counted_up (x.frames + 1)) (zxid_at w.store) fs in
    let v : Conn = record x { frames = counted_up (x.frames + 1) } in
    let is_conn : s.conn ≡ x = some_is (sym s.there ∙ found) in
    let is_v : v ≡ hd.conn = some_is (sym (conn-here w c v) ∙ hd.found) in
    let is_core : s.core ≡ hd.core = core-same s.core hd.core (sym s.actor ∙ ap (λ (u : Conn). u.actor) is_conn ∙ ap (λ (u : Conn). u.actor) is_v ∙ hd.serving) in
    let m = frame-stays s.core hd.next f w.clock hd.out header k s.lasting (subst (λ (q : Core). CoreSteps q (input.Frame f) w.clock hd.next hd.out) (sym is_core) hd.stepped) in
    let o = acts_all c (kind_asked c (Connection hd.next)) onward hd.conn.flight hd.out in
    let still : after mid.lines ≡ after w.lines =
    ap (λ (u : World). after u.lines) hd.result ∙ acts-still w1.lines onward c (kind_asked c (Connection hd.next)) hd.out (quiet hd.conn.flight) (frames-still c (counted_up (x.frames + 1)) (zxid_at w.store) fs)
    ∙ ap after (append-nil w1.lines) ∙ after-push w.lines (FrameLine c x.frames (zxid_at w.store) f) in
    record {
      conn = record (hd.conn) { actor = after_step hd.next; flight = o.flight };
      core = hd.next;
      there = ap (conn_at c) hd.result ∙ conn-here w1 c (record (hd.conn) { actor = after_step hd.next; flight = o.flight });
      actor = ap (λ b. if b then Closed else Connection hd.next) (lasting-open hd.next.stage (m.0).work);
      lasting = m.0;
      here = here-as w.lines mid.lines s.core.who hd.next.who m.1 (ap (session_at s.core.who.session) still) s.here;
    }

frames-stay : (c : ℕ) (w w' : World) (fs : List (List ℕ)) → AreMild fs → StaysOpen c w → FramesArrive c w fs w' → StaysOpen c w'
frames-stay c w w' [] m s h = subst (StaysOpen c) (sym h) s
frames-stay c w w' (f ∷ fs) m s (x, mid, found, hd, rest) = go (is_open_conn (conn_at c mid)) (open-now still) (frames-stay c mid w' fs m.2 still) rest
  where
    still : StaysOpen c mid
    still = one-stays c w mid x f fs found hd m.0 m.1 s

    open-now : StaysOpen c mid → is_open_conn (conn_at c mid) ≡ true
    open-now t = ap is_open_conn t.there ∙ ap (λ a. not (is_closed_actor a)) t.actor

    go : (b : Bool) → b ≡ true → (FramesArrive c mid fs w' → StaysOpen c w') → MatchBool b (FramesArrive c mid fs w') (w' ≡ mid) → StaysOpen c w'
    go true e later r = later r
    go false e later r = absurd (true-false (sym e))

pub frames-leave-open : FramesLeaveOpen
frames-leave-open w w' c bytes a mild none s =
    let v : Conn = record (a.conn) { stream = a.stream } in
    let is_conn : s.conn ≡ a.conn = some_is (sym s.there ∙ a.found) in
    let begun : StaysOpen c (with_conn w c v) = record { conn = v; core = s.core; there = conn-here w c v; actor = ap (λ (u : Conn). u.actor) (sym is_conn) ∙ s.actor; lasting = s.lasting; here = s.here } in
    let t = frames-stay c (with_conn w c v) a.mid a.frames mild begun a.arrive in
    let ends : EndsBadly c a.mid a.stream.place None w' = subst (λ o. EndsBadly c a.mid a.stream.place o w') none a.ends in
    subst (StaysOpen c) (sym ends) t
