-- What a core keeps: a step leads from a core that keeps it to one that does.
use Rattle.std.proofs.Common.{◌≡◌, ℕ, ◌+◌, ℤ, pos, ◌≤◌, Bool, true, false, List, [], ◌∷◌, take, length, refl, sym, ap, ◌∙◌, subst, inl, inr, rules, arith}
use Rattle.std.specs.Prelude.{Option, Some, None, ◌⊎◌, All, MatchBool, if◌then◌else◌}
use Rattle.std.specs.Ordering.{int_eq}
use Rattle.std.specs.Arc.{arc_value}
use Rattle.std.proofs.lemmas.List.Elements.{All-push, All-weaker}
use Rattle.ev_types.specs.declared.answer.ActAns.{ActAns}
use Rattle.ev_types.specs.declared.answer.Answer.{Answer}
use Rattle.ev_types.specs.declared.answer.Answer.TheVariants as answer
use Rattle.ev_types.specs.declared.answer.Kv.{Kv}
use Rattle.zk_jute.specs.Connects.{read_connect}
use Rattle.zk_jute.specs.Records.{contents_of}
use Rattle.zk_jute.specs.Requests.{Frame, NoHeader, Unreadable, Unknown, Asks, read_request}
use Rattle.zk_jute.proofs.Contents.{contents_within}
use Rattle.zk_model.specs.Limits.{max_frame}
use Rattle.zk_model.specs.Watches.{Watches}
use Rattle.zk_model.specs.declared.connect.ConnectRequest.{ConnectRequest}
use Rattle.zk_model.specs.declared.request.Request.{Request}
use Rattle.zk_service.specs.Answers.{Told, plain_reply, xid_of, has_header, is_auth_refusal}
use Rattle.zk_service.specs.declared.cause.Cause.{Cause}
use Rattle.zk_service.specs.declared.cause.Cause.TheVariants as cause
use Rattle.zn_layout.specs.declared.entry.Entry.{Entry}
use Rattle.zn_view.specs.Adding.{at_revision, is_new}
use Rattle.zn_view.specs.Asks.{with_part, with_parts}
use Rattle.zn_view.specs.Lookups.{found_at}
use Rattle.zn_view.specs.Seen.{IsCountNumber, View, empty_view}
use Rattle.zn_view.specs.declared.plan.Decision.{Decision}
use Rattle.zn_view.specs.declared.plan.Decision.TheVariants.{Answered, Planned, Expired, Moved}
use Rattle.zn_view.specs.declared.plan.Plan.{Plan}
use Rattle.zn_view.specs.declared.want.Want.{Want}
use Rattle.zn_view.specs.declared.want.Want.TheVariants as want
use Rattle.zs_session.specs.Alive.{is_alive_due}
use Rattle.zs_session.specs.Answering.{IsAwaited, viewed}
use Rattle.zs_session.specs.Connecting.{IsConnectHeld as IsHeldConnect}
use Rattle.zs_session.specs.declared.connect.Connect.{Connect}
use Rattle.zs_session.specs.declared.connect.ConnectStep.{ConnectStep}
use Rattle.zs_session.specs.declared.connect.ConnectStep.TheVariants as steps
use Rattle.zk_service.specs.declared.fresh.Fresh.{Fresh}
use Rattle.zs_session.proofs.Holding.{IsRealStep, step-held, step-real}
use Rattle.zs_session.specs.Sessions.{attach_wants, life_key}
use Rattle.zp_step.specs.declared.action.Action.{Action}
use Rattle.zp_step.specs.declared.input.Input.{Input}
use Rattle.zp_step.specs.declared.input.Input.TheVariants as input
use Rattle.zp_step.specs.Connects.{Connects, Opens, begun, connected}
use Rattle.zp_step.specs.Entries.{entered, then_reply, told_entry}
use Rattle.zn_view.specs.Keeping.{update_path}
use Rattle.zp_step.specs.Kept.{keeps}
use Rattle.zp_step.proofs.Beside.{PlansBeside, first-or-anew, leaves-beside}
use Rattle.zp_step.specs.Keepalives.{Checked, KeptAlive, Looked, StillMine, TakesUp, checks, keeps_alive}
use Rattle.zp_step.specs.Looking.{IfRecords, Looks, asks_for, change_by, decided, expired, guessed, max_ranges, moved, pending}
use Rattle.zp_step.specs.Plans.{CommitAnswered, ReadOn, finishes}
use Rattle.zp_step.specs.Replies.{Is, closed_by, is_due, replied, stage_after, waits}
use Rattle.zp_step.specs.Stages.{Core, Pending, Stage, Unconnected, Connecting, Ready, KeepingAlive, Checking, Reading, Committing, Waiting, Shut, asked_of, counted_up, is_shut, seen_by}
use Rattle.zp_step.specs.Steps.{Answers, Comes, Handles, IsFit, with_frame_counted, queued}
use Rattle.zp_step.specs.Taking.{TakesFrame, TakesReadable, end_of_plain, plainly}
use Rattle.zp_core.specs.Held.{IsFrame, IsHeld, IsHeldIn, IsReal, IsRequest, IsServing}
use Rattle.zx_base.proofs.Booleans.{either}

-- ---- a request that came in a frame

pub request-of : (bytes : List ℕ) (xid : ℤ) (r : Request) → IsFrame bytes → read_request bytes ≡ Asks xid r → IsRequest r
request-of bytes xid r f read = record {
  short = All-weaker (λ content. length content ≤ length bytes) (λ content. length content ≤ max_frame) (λ content le. omega (arith, f.short)) (contents_of r) (contents_within bytes xid r read);
}

-- ---- the revision of a view

none-yet : IsCountNumber (pos 0)
none-yet = record { least = search rules; most = search rules }

begun-count : (b : Bool) (v : View) (z : ℤ) → IsCountNumber v.revision → IsCountNumber z → IsCountNumber (if b then record v { revision = z } else v).revision
begun-count true v z first count = count
begun-count false v z first count = first

pub count-at : (v : View) (z : ℤ) → IsCountNumber v.revision → IsCountNumber z → IsCountNumber (at_revision v z).revision
count-at v z first count = begun-count (is_new v) v z first count

revision-parts : (v : View) (ws : List Want) (parts : List ActAns) → (with_parts v ws parts).revision ≡ v.revision
revision-parts v [] parts = refl
revision-parts v (w ∷ ws) [] = refl
revision-parts v (want.Key k ∷ ws) (a ∷ more) = revision-parts (with_part v (want.Key k) a) ws more
revision-parts v (want.Children p ∷ ws) (a ∷ more) = revision-parts (with_part v (want.Children p) a) ws more

-- ---- a core of a session

pub is-held : (x : Core × List Action) (c' : Core) (out : List Action) → Is x c' out → IsHeld x.0 → IsHeld c'
is-held x c' out i h = subst IsHeld (sym i.0) h

module _ (c : Core) (real : IsReal c.who.session) (frames : All IsFrame c.waiting) where
  after-held : (ends : Option Cause) (zxid cursor : ℤ) (w : Watches) (next : ℕ) → IsHeld (record c { stage = stage_after ends; zxid = zxid; cursor = cursor; watches = w; next = next })
  after-held None zxid cursor w next = record { frames = frames; stage = real }
  after-held (Some why) zxid cursor w next = tt

  sent-held : (b : Bool) (p : Pending) → IsHeld (if b then replied c p else (record c { stage = Waiting p }, [])).0
  sent-held true p = after-held p.ends p.zxid p.number (seen_by p.change c.watches).watches (counted_up (c.next + 1))
  sent-held false p = record { frames = frames; stage = real }

  pub waits-held : (p : Pending) → IsHeld (waits c p).0
  waits-held p = sent-held (is_due c p) p

  decided-held : (xid : ℤ) (r : Request) (v : View) (now : ℕ) (d : Decision) → IsRequest r → IsHeld (decided c xid r v now d).0
  decided-held xid r v now (Answered answer arm) q = waits-held (pending v xid answer (change_by r v arm) None)
  decided-held xid r v now (Planned p) q = record { frames = frames; stage = (real, q) }
  decided-held xid r v now Expired q = waits-held (expired v xid)
  decided-held xid r v now (Moved found) q = waits-held (moved c.who v found xid)

module _ (c : Core) (real : IsReal c.who.session) (frames : All IsFrame c.waiting) where
  module _ (now : ℕ) (c' : Core) (out : List Action) where
    pub looks-held : (xid : ℤ) (r : Request) (v : View) → IsRequest r → IsCountNumber v.revision → Looks c xid r v now c' out → IsHeld c'
    looks-held xid r v q count (inl a) = is-held (asks_for c xid r v (take max_ranges a.lacking)) c' out a.is (record { frames = frames; stage = (real, q, count) })
    looks-held xid r v q count (inr (inl g)) = is-held (decided c xid r (guessed v g.key) now (Planned g.plan)) c' out g.is (record { frames = frames; stage = (real, q) })
    looks-held xid r v q count (inr (inr d)) = is-held (decided (keeps c r v) xid r v now d.decision) c' out d.is (decided-held (keeps c r v) real frames xid r v now d.decision q)

    readable-held : (x : Frame) (o : Option Told) → ((xid : ℤ) (r : Request) → x ≡ Asks xid r → IsRequest r) → TakesReadable c now c' out x o → IsHeld c'
    readable-held x (Some t) known h =
        is-held (plainly c (xid_of x) t) c' out h (after-held c real frames (end_of_plain (is_auth_refusal t.reply)) c.zxid c.cursor t.watches (counted_up (c.next + 1)))
    readable-held (Asks xid r) None known h = go (first-or-anew c c' xid r now out (update_path r) h)
      where
        go : PlansBeside c xid r now c' out ⊎ Looks c xid r empty_view now c' out → IsHeld c'
        go (inl y) = let d = record c { views = y.views } in is-held (decided d xid r y.view now (Planned y.plan)) c' out y.is (decided-held d real frames xid r y.view now (Planned y.plan) (known xid r refl))
        go (inr y) = looks-held xid r empty_view (known xid r refl) none-yet y
    readable-held NoHeader None known h = absurd h
    readable-held (Unreadable xid place) None known h = absurd h
    readable-held (Unknown xid kind) None known h = absurd h

    pub takes-held : (bytes : List ℕ) → IsFrame bytes → TakesFrame c bytes now c' out → IsHeld c'
    takes-held bytes f h = readable-held (read_request bytes) (plain_reply c.watches (read_request bytes)) (λ xid r read. request-of bytes xid r f read) h

    pub takes_up-held : (bytes : List ℕ) → IsFrame bytes → TakesUp c bytes now c' out → IsHeld c'
    takes_up-held bytes f h =
        either (is_alive_due c.kept now c.timeout) (Is (keeps_alive c bytes now) c' out) (TakesFrame c bytes now c' out) (IsHeld c') h
        (λ i. is-held (keeps_alive c bytes now) c' out i (record { frames = frames; stage = (real, f) }))
        (takes-held bytes f)

    if_records-held : (ws : List Want) (parts : List ActAns) (Next : Type 0) → (Next → IsHeld c') → IfRecords c ws parts c' out Next → IsHeld c'
    if_records-held ws parts Next f (inl d) = is-held (closed_by c (cause.Damaged d.key d.value)) c' out d.is tt
    if_records-held ws parts Next f (inr n) = f n.1

    -- ---- by the answer to what was asked for a request

    kept_alive-held : (bytes : List ℕ) → IsFrame bytes → (a : Answer) → KeptAlive c bytes now c' out a → IsHeld c'
    kept_alive-held bytes f (answer.Alive z id ttl) h =
        either (int_eq ttl (pos 0)) (Is (checks c bytes) c' out) (TakesFrame c bytes now c' out) (IsHeld c') h
        (λ i. is-held (checks c bytes) c' out i (record { frames = frames; stage = (real, f) }))
        (takes-held bytes f)
    kept_alive-held bytes f (answer.Txn z b parts) h = absurd h
    kept_alive-held bytes f (answer.Range z found) h = absurd h
    kept_alive-held bytes f (answer.Granted z id ttl) h = absurd h

    still_mine-held : (bytes : List ℕ) → IsFrame bytes → (v : View) (found : Option Kv) → StillMine c bytes v now c' out found → IsHeld c'
    still_mine-held bytes f v None h = is-held (waits c (expired v (xid_of (read_request bytes)))) c' out h (waits-held c real frames (expired v (xid_of (read_request bytes))))
    still_mine-held bytes f v (Some kv) h =
        let p = moved c.who v kv.mod_revision (xid_of (read_request bytes)) in
        either (int_eq kv.mod_revision c.who.mine) (TakesFrame c bytes now c' out) (Is (waits c p) c' out) (IsHeld c') h
        (takes-held bytes f)
        (λ i. is-held (waits c p) c' out i (waits-held c real frames p))

    checked-held : (bytes : List ℕ) → IsFrame bytes → (a : Answer) → Checked c bytes now c' out a → IsHeld c'
    checked-held bytes f (answer.Txn z b parts) h =
        let v = viewed z (attach_wants c.who.session) parts in
        if_records-held (attach_wants c.who.session) parts (Looked c bytes now c' out v) (still_mine-held bytes f v (found_at v (life_key c.who.session))) h
    checked-held bytes f (answer.Range z found) h = absurd h
    checked-held bytes f (answer.Granted z id ttl) h = absurd h
    checked-held bytes f (answer.Alive z id ttl) h = absurd h

    read_on-held : (xid : ℤ) (r : Request) (v : View) (ws : List Want) (z : ℤ) (b : Bool) (parts : List ActAns) → IsRequest r → IsCountNumber v.revision → IsCountNumber z
        → ReadOn c xid r v ws now c' out (answer.Txn z b parts) → IsHeld c'
    read_on-held xid r v ws z b parts q first count h =
        let w = with_parts (at_revision v z) ws parts in
        if_records-held ws parts (Looks c xid r w now c' out) (looks-held xid r w q (subst IsCountNumber (sym (revision-parts (at_revision v z) ws parts)) (count-at v z first count))) h

    commit-held : (xid : ℤ) (r : Request) (u : View) (p : Plan) (z : ℤ) (b : Bool) (parts : List ActAns) → IsRequest r → IsCountNumber z
        → CommitAnswered c xid r u p now c' out (answer.Txn z b parts) → IsHeld c'
    commit-held xid r u p z true parts q count h =
        let e = leaves-beside c h.kept (update_path r) u p z parts h.leaves in
        let d = record c { views = e.0 } in
        let fin = finishes xid r p z parts in
        is-held (waits d fin) c' out (subst (λ (x : Core). Is (waits x fin) c' out) e.1 h.is) (waits-held d real frames fin)
    commit-held xid r u p z false parts q count h =
        let w = viewed z p.again parts in
        if_records-held p.again parts (Looks c xid r w now c' out) (looks-held xid r w q (subst IsCountNumber (sym (revision-parts (at_revision empty_view z) p.again parts)) count)) h

-- ---- how the connection gets its session

connected-held : (c : Core) (now : ℕ) (new : Connect) (step : ConnectStep) → All IsFrame c.waiting → IsHeldConnect new → IsRealStep step → IsHeld (connected c now new step).0
connected-held c now new (steps.Ask q) frames held real = record { frames = frames; stage = held }
connected-held c now new (steps.Attached response who timeout number zxid) frames held real = record { frames = frames; stage = real }
connected-held c now new (steps.Ahead client head) frames held real = tt
connected-held c now new steps.Unknown frames held real = tt
connected-held c now new (steps.Taken revision) frames held real = tt

pub connects-held : (c : Core) (connect : Connect) (a : Option Answer) (now : ℕ) (c' : Core) (out : List Action) → All IsFrame c.waiting → IsHeldConnect connect
    → Connects c connect a now c' out → IsHeld c'
connects-held c connect a now c' out frames held (inl e) = is-held (closed_by c (cause.Damaged e.key e.value)) c' out e.is tt
connects-held c connect a now c' out frames held (inr s) =
    let m = s.steps in
    let next : IsHeldConnect s.new = subst IsHeldConnect (sym m.same) (step-held connect (s.new).phase s.step a held m.moves) in
    is-held (connected c now s.new s.step) c' out s.is (connected-held c now s.new s.step frames next (step-real connect (s.new).phase s.step a held m.moves))

opens-held : (c : Core) (place : ℕ) (fresh : Fresh) (now : ℕ) (c' : Core) (out : List Action) (r : Option ConnectRequest) → All IsFrame c.waiting → IsReal fresh.id
    → Opens c place fresh now c' out r → IsHeld c'
opens-held c place fresh now c' out None frames real h = is-held (closed_by c (cause.NoHeader place)) c' out h tt
opens-held c place fresh now c' out (Some r) frames real h =
    connects-held c (begun r fresh) None now c' out frames (record { fresh = real; phase = tt }) h

-- ---- at each input

-- what a core that is open keeps
open-held : (c : Core) → is_shut c.stage ≡ false → IsHeld c → IsServing c
open-held c shut h = subst (λ b. MatchBool b (Unit {0}) (IsServing c)) shut h

module _ (c : Core) (frames : All IsFrame c.waiting) (now : ℕ) (c' : Core) (out : List Action) where
  answers-held : (s : Stage) → IsHeldIn c.who.session s → (a : Answer) → IsAwaited (asked_of c.who s) (Some a) → Answers c a now c' out s → IsHeld c'
  answers-held (Connecting connect) k a fit h = connects-held c connect (Some a) now c' out frames k h
  answers-held (KeepingAlive frame) k a fit h = kept_alive-held c k.0 frames now c' out frame k.1 a h
  answers-held (Checking frame) k a fit h = checked-held c k.0 frames now c' out frame k.1 a h
  answers-held (Reading xid r v ws) k (answer.Txn z b parts) fit h = read_on-held c k.0 frames now c' out xid r v ws z b parts k.1 k.2 fit.revision_is h
  answers-held (Reading xid r v ws) k (answer.Range z found) fit h = absurd fit
  answers-held (Reading xid r v ws) k (answer.Granted z id ttl) fit h = absurd fit
  answers-held (Reading xid r v ws) k (answer.Alive z id ttl) fit h = absurd fit
  answers-held (Committing xid r v p time) k (answer.Txn z b parts) fit h = commit-held c k.0 frames now c' out xid r v p z b parts k.1 fit.revision_is h
  answers-held (Committing xid r v p time) k (answer.Range z found) fit h = absurd fit
  answers-held (Committing xid r v p time) k (answer.Granted z id ttl) fit h = absurd fit
  answers-held (Committing xid r v p time) k (answer.Alive z id ttl) fit h = absurd fit
  answers-held (Unconnected fresh) k a fit h = absurd h
  answers-held Ready k a fit h = absurd h
  answers-held (Waiting p) k a fit h = absurd h
  answers-held Shut k a fit h = absurd h

  queued-held : (s : Stage) → c.stage ≡ s → is_shut s ≡ false → IsHeldIn c.who.session s → (bytes : List ℕ) → IsFrame bytes → IsHeld (queued c bytes)
  queued-held s at shut k bytes f =
      let d = queued c bytes in
      subst (λ b. MatchBool b (Unit {0}) (IsServing d)) (sym (ap is_shut at ∙ shut))
      (record { frames = All-push IsFrame c.waiting bytes frames f; stage = subst (IsHeldIn c.who.session) (sym at) k })

  later-held : (s : Stage) → c.stage ≡ s → is_shut s ≡ false → IsHeldIn c.who.session s → (bytes : List ℕ) → length bytes ≤ max_frame → (b : Bool)
      → has_header (read_request bytes) ≡ b → MatchBool b (Is (queued c bytes, []) c' out) (Is (closed_by c (cause.NoHeader c.taken)) c' out) → IsHeld c'
  later-held s at shut k bytes short true headed h =
      is-held (queued c bytes, []) c' out h (queued-held s at shut k bytes (record { short = short; headed = headed }))
  later-held s at shut k bytes short false headed h = is-held (closed_by c (cause.NoHeader c.taken)) c' out h tt

  comes-held : (s : Stage) → c.stage ≡ s → is_shut s ≡ false → IsHeldIn c.who.session s → (bytes : List ℕ) → length bytes ≤ max_frame → Comes c bytes now c' out s → IsHeld c'
  comes-held (Unconnected fresh) at shut k bytes short h = opens-held (with_frame_counted c bytes) c.taken fresh now c' out (read_connect bytes) frames k h
  comes-held (Connecting connect) at shut k bytes short h = later-held (Connecting connect) at shut k bytes short (has_header (read_request bytes)) refl h
  comes-held Ready at shut k bytes short h = later-held Ready at shut k bytes short (has_header (read_request bytes)) refl h
  comes-held (KeepingAlive f) at shut k bytes short h = later-held (KeepingAlive f) at shut k bytes short (has_header (read_request bytes)) refl h
  comes-held (Checking f) at shut k bytes short h = later-held (Checking f) at shut k bytes short (has_header (read_request bytes)) refl h
  comes-held (Reading xid r v ws) at shut k bytes short h = later-held (Reading xid r v ws) at shut k bytes short (has_header (read_request bytes)) refl h
  comes-held (Committing xid r v p time) at shut k bytes short h = later-held (Committing xid r v p time) at shut k bytes short (has_header (read_request bytes)) refl h
  comes-held (Waiting p) at shut k bytes short h = later-held (Waiting p) at shut k bytes short (has_header (read_request bytes)) refl h
  comes-held Shut at shut k bytes short h = absurd (cc)

still-held : (c : Core) (e : Entry) (s : Stage) → c.stage ≡ s → is_shut s ≡ false → IsServing c → IsHeld (entered c e).0
still-held c e s at shut k =
    let d = (entered c e).0 in
    subst (λ b. MatchBool b (Unit {0}) (IsServing d)) (sym (ap is_shut at ∙ shut)) (record { frames = k.frames; stage = k.stage })

told-held : (c : Core) (e : Entry) (s : Stage) → c.stage ≡ s → is_shut s ≡ false → IsServing c → IsHeld (then_reply (entered c e) s).0
told-held c e (Waiting p) at shut k = waits-held (entered c e).0 (subst (IsHeldIn c.who.session) at k.stage) k.frames p
told-held c e (Unconnected fresh) at shut k = still-held c e (Unconnected fresh) at shut k
told-held c e (Connecting connect) at shut k = still-held c e (Connecting connect) at shut k
told-held c e Ready at shut k = still-held c e Ready at shut k
told-held c e (KeepingAlive f) at shut k = still-held c e (KeepingAlive f) at shut k
told-held c e (Checking f) at shut k = still-held c e (Checking f) at shut k
told-held c e (Reading xid r v ws) at shut k = still-held c e (Reading xid r v ws) at shut k
told-held c e (Committing xid r v p time) at shut k = still-held c e (Committing xid r v p time) at shut k
told-held c e Shut at shut k = absurd (cc)

pub handles-held : (c : Core) (x : Input) (now : ℕ) (c' : Core) (out : List Action) → is_shut c.stage ≡ false → IsHeld c → IsFit c x → Handles c x now c' out → IsHeld c'
handles-held c (input.Frame bytes) now c' out shut held fit h =
    let k = open-held c shut held in
    comes-held c k.frames now c' out c.stage refl shut k.stage bytes fit h
handles-held c (input.Answer a) now c' out shut held fit h =
    let k = open-held c shut held in
    answers-held c k.frames now c' out c.stage k.stage a fit h
handles-held c (input.Entry e) now c' out shut held fit h = is-held (told_entry c (arc_value e)) c' out h (told-held c (arc_value e) c.stage refl shut (open-held c shut held))
handles-held c input.Failed now c' out shut held fit h = is-held (closed_by c cause.LinkFault) c' out h tt
handles-held c (input.BadLength place length) now c' out shut held fit h = is-held (closed_by c (cause.BadLength place length)) c' out h tt
handles-held c (input.Lagged cursor floor) now c' out shut held fit h = is-held (closed_by c (cause.Lagged cursor floor)) c' out h tt
handles-held c input.FeedClosed now c' out shut held fit h = is-held (closed_by c cause.FeedClosed) c' out h tt
handles-held c (input.ClientEnd place) now c' out shut held fit h = is-held (closed_by c (cause.ClientEnd place)) c' out h tt
