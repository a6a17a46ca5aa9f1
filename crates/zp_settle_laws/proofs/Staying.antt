-- An attached connection whose session lives takes an answer or an entry, and stays open.
use Rattle.std.proofs.Common.{◌≡◌, ℕ, List, [], ◌∷◌, take, refl, sym, ap, ◌∙◌, subst, arith, Bool, true, false, ℤ, pos, inl, inr}
use Rattle.std.specs.Prelude.{Option, Some, None, ◌⊎◌, MatchBool, if◌then◌else◌, ◌≤ℤ◌}
use Rattle.std.specs.Arc.{arc_value}
use Rattle.std.specs.Ordering.{int_eq}
use Rattle.std.proofs.lemmas.Bool.Decides.{Decides-int_eq}
use Rattle.std.proofs.lemmas.Int.{ints}
use Rattle.ev_types.specs.Ranges.{Keys}
use Rattle.ev_types.specs.Store.{mod_of}
use Rattle.ev_types.specs.declared.answer.ActAns.{ActAns}
use Rattle.ev_types.specs.declared.answer.Answer.{Answer}
use Rattle.ev_types.specs.declared.answer.Answer.TheVariants as answer
use Rattle.ev_types.specs.declared.answer.Kv.{Kv}
use Rattle.zk_jute.specs.Requests.{Frame, NoHeader, Unreadable, Unknown, Asks, read_request}
use Rattle.zk_model.specs.Watches.{Watches, no_watches}
use Rattle.zk_model.specs.declared.request.Request.{Request}
use Rattle.zk_model.specs.declared.request.Request.TheVariants as req
use Rattle.zk_service.proofs.PlainReplies.{plain-closes, plain-none}
use Rattle.zk_service.specs.Answers.{Told, plain_reply, xid_of, is_auth_refusal}
use Rattle.zk_service.specs.declared.cause.Cause.{Cause}
use Rattle.zn_layout.specs.StandsFor.{at}
use Rattle.zn_layout.specs.declared.entry.Entry.{Entry}
use Rattle.zn_layout.specs.Keys.{key_bytes}
use Rattle.zn_view.proofs.AsSeen.{agrees-seen}
use Rattle.zn_view.specs.Adding.{AreRecords, at_revision}
use Rattle.zn_view.specs.Asks.{head_want, with_parts}
use Rattle.zn_view.specs.Deciding.{IsTestedBy, is_by_tree}
use Rattle.zn_view.specs.Lookups.{found_at, sees}
use Rattle.zn_view.specs.Needs.{life_want}
use Rattle.zn_view.specs.Seen.{View, empty_view}
use Rattle.zn_view.specs.Views.{Agrees}
use Rattle.zn_view.specs.declared.plan.Decision.{Decision}
use Rattle.zn_view.specs.declared.plan.Decision.TheVariants.{Answered, Planned, Expired, Moved}
use Rattle.zn_view.specs.declared.plan.Plan.{Plan}
use Rattle.zn_view.specs.declared.plan.Who.{Who}
use Rattle.zn_view.specs.declared.want.Want.{Want}
use Rattle.zs_session.specs.Alive.{is_alive_due}
use Rattle.zs_session.specs.Answering.{viewed}
use Rattle.zs_session.specs.Sessions.{attach_wants, life_key}
use Rattle.zx_base.proofs.Options.{none_some, some_is}
use Rattle.zp_step.proofs.Cases.{of_alive}
use Rattle.zp_laws.proofs.Honest.{records-sound}
use Rattle.zp_step.specs.Looking.{IsForTree, IfRecords, Looks, asks_for, change_by, decided, guessed, max_ranges, moved, pending}
use Rattle.zp_step.specs.Kept.{keeps}
use Rattle.zn_view.specs.Keeping.{update_path}
use Rattle.zp_step.proofs.Beside.{PlansBeside, first-or-anew, leaves-beside}
use Rattle.zp_step.specs.Entries.{entered, then_reply, told_entry}
use Rattle.zp_step.specs.Keepalives.{Checked, KeptAlive, Looked, StillMine, TakesUp, checks, keeps_alive}
use Rattle.zp_step.specs.Plans.{CommitAnswered, Committed, ReadOn, end_after, finishes}
use Rattle.zp_step.specs.Replies.{Is, is_due, replied, stage_after, waits}
use Rattle.zp_step.specs.Stages.{Core, Pending, Stage, Unconnected, Connecting, Ready, KeepingAlive, Checking, Reading, Committing, Waiting, Shut}
use Rattle.zp_step.specs.Steps.{Answers, Goes, StepsOpen, rests, takes}
use Rattle.zp_step.specs.Taking.{TakesFrame, TakesReadable, end_of_plain, plainly}
use Rattle.zp_step.specs.declared.action.Action.{Action}
use Rattle.zp_step.specs.declared.input.Input.TheVariants as input
use Rattle.zp_settle_laws.proofs.Places.{view_on}
use Rattle.zp_settle_laws.specs.Staying.{AreLasting, IsLasting, IsLastingIn, asks_close, closes_after, is_close, refuses}
use Rattle.zx_base.proofs.Booleans.{or-split, true-not_false as true-false, either}

-- ---- what an answer shows

-- the view is of keys in which the record of the session's life is the connection's own
pub record SeesLife (who : Who) (v : View) : Type 0 where
  pub keys : Keys
  pub agrees : Agrees v keys
  pub own : mod_of (at keys (life_key who.session)) ≡ who.mine

pub record ShowsLife (who : Who) (f : Option Kv) : Type 0 where
  pub kv : Kv
  pub there : f ≡ Some kv
  pub own : kv.mod_revision ≡ who.mine

abbrev pub CommitShows : Who → Plan → ℤ → List ActAns → Bool → Type 0
CommitShows who p z parts true = Unit {0}
CommitShows who p z parts false = AreRecords p.again parts × SeesLife who (viewed z p.again parts)

abbrev pub Shows : Who → Stage → Answer → Type 0
Shows who (Checking f) (answer.Txn z b parts) = AreRecords (attach_wants who.session) parts × ShowsLife who (found_at (viewed z (attach_wants who.session) parts) (life_key who.session))
Shows who (Reading xid r v ws) (answer.Txn z b parts) = IsForTree r × AreRecords ws parts × SeesLife who (view_on v z ws parts)
Shows who (Committing xid r v p m) (answer.Txn z b parts) = IsForTree r × CommitShows who p z parts b
Shows who _ a = Unit {0}

is-lasting : (x : Core × List Action) (c' : Core) (out : List Action) → IsLasting x.0 → Is x c' out → IsLasting c'
is-lasting x c' out k i = subst IsLasting (sym i.0) k

answered : (c d : Core) (o : Option Cause) → o ≡ None → AreLasting c.waiting → d.stage ≡ stage_after o → d.waiting ≡ c.waiting → IsLasting d
answered c d (Some why) none w st same = absurd (none_some (sym none))
answered c d None none w st same = record { work = subst IsLastingIn (sym st) tt; waiting = subst AreLasting (sym same) w }

waits-lasting : (c : Core) (p : Pending) → p.ends ≡ None → AreLasting c.waiting → IsLasting (waits c p).0
waits-lasting c p none w = go (is_due c p)
  where
    go : (b : Bool) → IsLasting (if b then replied c p else (record c { stage = Waiting p }, [])).0
    go true = answered c (replied c p).0 p.ends none w refl refl
    go false = record { work = none; waiting = w }

-- ---- a decision is by the tree

tested-tree : (who : Who) (v : View) (d : Decision) (o : Option (Option Kv)) → sees v (life_key who.session) ≡ o → (o ≡ None → ⊥) → pos 1 ≤ℤ who.mine → SeesLife who v → IsTestedBy who d o → is_by_tree d ≡ true
tested-tree who v d None e some rises s t = absurd (some refl)
tested-tree who v d (Some None) e some rises s t =
    absurd (let zero_is : pos 0 ≡ who.mine = sym (ap mod_of (agrees-seen v s.keys (key_bytes (life_key who.session)) None s.agrees e)) ∙ s.own in omega (arith, ints, zero_is, rises))
tested-tree who v d (Some (Some kv)) e some rises s t =
    let own : kv.mod_revision ≡ who.mine = sym (ap mod_of (agrees-seen v s.keys (key_bytes (life_key who.session)) (Some kv) s.agrees e)) ∙ s.own in
    go (int_eq kv.mod_revision who.mine) ((Decides-int_eq kv.mod_revision who.mine).1 own) t
  where
    go : (b : Bool) → b ≡ true → MatchBool b (is_by_tree d ≡ true) (d ≡ Moved kv.mod_revision) → is_by_tree d ≡ true
    go true f h = h
    go false f h = absurd (true-false (sym f))

decided-lasting : (c : Core) (xid : ℤ) (r : Request) (v : View) (now : ℕ) (d : Decision) → is_by_tree d ≡ true → is_close r ≡ false → AreLasting c.waiting → IsLasting (decided c xid r v now d).0
decided-lasting c xid r v now (Answered answer arm) t k w = waits-lasting c (pending v xid answer (change_by r v arm) None) refl w
decided-lasting c xid r v now (Planned p) t k w = record { work = k; waiting = w }
decided-lasting c xid r v now Expired t k w = absurd (true-false (sym t))
decided-lasting c xid r v now (Moved found) t k w = absurd (true-false (sym t))

-- what is not refused where nothing is armed is not refused, whatever is armed
not-refused : (w : Watches) (x : Frame) (t : Told) → plain_reply w x ≡ Some t → refuses (plain_reply no_watches x) ≡ false → is_auth_refusal t.reply ≡ false
not-refused w x t p k = go (is_auth_refusal t.reply) refl
  where
    go : (b : Bool) → is_auth_refusal t.reply ≡ b → b ≡ false
    go false e = refl
    go true e = let bad : true ≡ false = sym e ∙ sym (ap refuses (plain-closes w no_watches x t p e)) ∙ k in absurd (true-false bad)

module _ (c' : Core) (out : List Action) where
  looks-lasting : (c : Core) (xid : ℤ) (r : Request) (v : View) (now : ℕ) → pos 1 ≤ℤ c.who.mine → IsForTree r → SeesLife c.who v → is_close r ≡ false → AreLasting c.waiting → Looks c xid r v now c' out → IsLasting c'
  looks-lasting c xid r v now rises tree s k w (inl y) = is-lasting (asks_for c xid r v (take max_ranges y.lacking)) c' out (record { work = k; waiting = w }) y.is
  looks-lasting c xid r v now rises tree s k w (inr (inl y)) = is-lasting (decided c xid r (guessed v y.key) now (Planned y.plan)) c' out (record { work = k; waiting = w }) y.is
  looks-lasting c xid r v now rises tree s k w (inr (inr y)) =
      let by_tree = tested-tree c.who v y.decision (sees v (life_key c.who.session)) refl (y.whole.enough refl tree (life_want c.who.session) (inr (inl refl))) rises s (y.tested tree) in
      is-lasting (decided (keeps c r v) xid r v now y.decision) c' out (decided-lasting (keeps c r v) xid r v now y.decision by_tree k w) y.is

  records-lasting : (c : Core) (ws : List Want) (parts : List ActAns) (Next : Type 0) → AreRecords ws parts → (Next → IsLasting c') → IfRecords c ws parts c' out Next → IsLasting c'
  records-lasting c ws parts Next all f (inl e) = absurd (records-sound ws parts e.key e.value all e.found)
  records-lasting c ws parts Next all f (inr h) = f h.1

  -- ---- a frame is taken up

  readable-lasting : (c : Core) (now : ℕ) (x : Frame) (o : Option Told) → plain_reply c.watches x ≡ o → closes_after x ≡ false → AreLasting c.waiting → TakesReadable c now c' out x o → IsLasting c'
  readable-lasting c now x (Some t) p k w h =
      let mild : is_auth_refusal t.reply ≡ false = not-refused c.watches x t p (or-split (asks_close x) (refuses (plain_reply no_watches x)) k).1 in
      is-lasting (plainly c (xid_of x) t) c' out (answered c (plainly c (xid_of x) t).0 (end_of_plain (is_auth_refusal t.reply)) (ap end_of_plain mild) w refl refl) h
  readable-lasting c now NoHeader None p k w h = absurd h
  readable-lasting c now (Unreadable xid place) None p k w h = absurd h
  readable-lasting c now (Unknown xid kind) None p k w h = absurd h
  readable-lasting c now (Asks xid r) None p k w h = go (first-or-anew c c' xid r now out (update_path r) h)
    where
      stays : is_close r ≡ false
      stays = (or-split (is_close r) (refuses (plain_reply no_watches (Asks xid r))) k).0

      go : PlansBeside c xid r now c' out ⊎ Looks c xid r empty_view now c' out → IsLasting c'
      go (inl y) = is-lasting (decided (record c { views = y.views }) xid r y.view now (Planned y.plan)) c' out (record { work = stays; waiting = w }) y.is
      go (inr (inl y)) = is-lasting (asks_for c xid r empty_view (take max_ranges y.lacking)) c' out (record { work = stays; waiting = w }) y.is
      go (inr (inr (inl y))) = absurd (let begun : true ≡ false = (y.may).begun in cc)
      go (inr (inr (inr y))) = absurd (y.whole.enough refl (plain-none c.watches no_watches (Asks xid r) p) head_want (inl refl) refl)

  takes-lasting : (c : Core) (bytes : List ℕ) (now : ℕ) → closes_after (read_request bytes) ≡ false → AreLasting c.waiting → TakesFrame c bytes now c' out → IsLasting c'
  takes-lasting c bytes now k w h = readable-lasting c now (read_request bytes) (plain_reply c.watches (read_request bytes)) refl k w h

  takes_up-lasting : (c : Core) (bytes : List ℕ) (now : ℕ) → closes_after (read_request bytes) ≡ false → AreLasting c.waiting → TakesUp c bytes now c' out → IsLasting c'
  takes_up-lasting c bytes now k w h =
      either (is_alive_due c.kept now c.timeout) (Is (keeps_alive c bytes now) c' out) (TakesFrame c bytes now c' out) (IsLasting c') h
      (is-lasting (keeps_alive c bytes now) c' out (record { work = k; waiting = w }))
      (takes-lasting c bytes now k w)

  -- ---- answers

  still-lasting : (c : Core) (bytes : List ℕ) (v : View) (now : ℕ) (o : Option Kv) → ShowsLife c.who o → closes_after (read_request bytes) ≡ false → AreLasting c.waiting → StillMine c bytes v now c' out o → IsLasting c'
  still-lasting c bytes v now None s k w h = absurd (none_some s.there)
  still-lasting c bytes v now (Some kv) s k w h = go (int_eq kv.mod_revision c.who.mine) ((Decides-int_eq kv.mod_revision c.who.mine).1 (ap (λ (y : Kv). y.mod_revision) (some_is s.there) ∙ s.own)) h
    where
      go : (b : Bool) → b ≡ true → MatchBool b (TakesFrame c bytes now c' out) (Is (waits c (moved c.who v kv.mod_revision (xid_of (read_request bytes)))) c' out) → IsLasting c'
      go true f t = takes-lasting c bytes now k w t
      go false f t = absurd (true-false (sym f))

  checked-lasting : (c : Core) (bytes : List ℕ) (now : ℕ) (a : Answer) → Shows c.who (Checking bytes) a → closes_after (read_request bytes) ≡ false → AreLasting c.waiting → Checked c bytes now c' out a → IsLasting c'
  checked-lasting c bytes now (answer.Txn z b parts) s k w h =
      let v = viewed z (attach_wants c.who.session) parts in
      records-lasting c (attach_wants c.who.session) parts (Looked c bytes now c' out v) s.0 (still-lasting c bytes v now (found_at v (life_key c.who.session)) s.1 k w) h
  checked-lasting c bytes now (answer.Range z found) s k w h = absurd h
  checked-lasting c bytes now (answer.Granted z id ttl) s k w h = absurd h
  checked-lasting c bytes now (answer.Alive z id ttl) s k w h = absurd h

  alive-lasting : (c : Core) (bytes : List ℕ) (now : ℕ) (a : Answer) → closes_after (read_request bytes) ≡ false → AreLasting c.waiting → KeptAlive c bytes now c' out a → IsLasting c'
  alive-lasting c bytes now a k w h = of_alive a _ (IsLasting c') h (λ ttl f.
      either (int_eq ttl (pos 0)) (Is (checks c bytes) c' out) (TakesFrame c bytes now c' out) (IsLasting c') f
      (is-lasting (checks c bytes) c' out (record { work = k; waiting = w }))
      (takes-lasting c bytes now k w))

  read-lasting : (c : Core) (xid : ℤ) (r : Request) (v : View) (ws : List Want) (now : ℕ) (a : Answer) → pos 1 ≤ℤ c.who.mine → Shows c.who (Reading xid r v ws) a → is_close r ≡ false → AreLasting c.waiting → ReadOn c xid r v ws now c' out a → IsLasting c'
  read-lasting c xid r v ws now (answer.Txn z b parts) rises s k w h =
      let y = with_parts (at_revision v z) ws parts in
      records-lasting c ws parts (Looks c xid r y now c' out) s.1 (looks-lasting c xid r y now rises s.0 s.2 k w) h
  read-lasting c xid r v ws now (answer.Range z found) rises s k w h = absurd h
  read-lasting c xid r v ws now (answer.Granted z id ttl) rises s k w h = absurd h
  read-lasting c xid r v ws now (answer.Alive z id ttl) rises s k w h = absurd h

  ends-none : (r : Request) → is_close r ≡ false → end_after r ≡ None
  ends-none req.Close k = absurd (true-false k)
  ends-none _ k = refl

  committed-lasting : (c : Core) (xid : ℤ) (r : Request) (u : View) (p : Plan) (now : ℕ) (z : ℤ) (b : Bool) (parts : List ActAns) → pos 1 ≤ℤ c.who.mine → IsForTree r → CommitShows c.who p z parts b → is_close r ≡ false → AreLasting c.waiting → Committed c xid r u p now c' out z b parts → IsLasting c'
  committed-lasting c xid r u p now z true parts rises tree s k w h =
      let e = leaves-beside c h.kept (update_path r) u p z parts h.leaves in
      is-lasting (waits h.kept (finishes xid r p z parts)) c' out (waits-lasting h.kept (finishes xid r p z parts) (ends-none r k) (subst (λ (d : Core). AreLasting d.waiting) (sym e.1) w)) h.is
  committed-lasting c xid r u p now z false parts rises tree s k w h =
      let y = viewed z p.again parts in
      records-lasting c p.again parts (Looks c xid r y now c' out) s.0 (looks-lasting c xid r y now rises tree s.1 k w) h

  commit-lasting : (c : Core) (xid : ℤ) (r : Request) (v : View) (p : Plan) (m now : ℕ) (a : Answer) → pos 1 ≤ℤ c.who.mine → Shows c.who (Committing xid r v p m) a → is_close r ≡ false → AreLasting c.waiting → CommitAnswered c xid r v p now c' out a → IsLasting c'
  commit-lasting c xid r v p m now (answer.Txn z b parts) rises s k w h = committed-lasting c xid r v p now z b parts rises s.0 s.1 k w h
  commit-lasting c xid r v p m now (answer.Range z found) rises s k w h = absurd h
  commit-lasting c xid r v p m now (answer.Granted z id ttl) rises s k w h = absurd h
  commit-lasting c xid r v p m now (answer.Alive z id ttl) rises s k w h = absurd h

  answers-lasting : (c : Core) (a : Answer) (now : ℕ) (st : Stage) → pos 1 ≤ℤ c.who.mine → Shows c.who st a → IsLastingIn st → AreLasting c.waiting → Answers c a now c' out st → IsLasting c'
  answers-lasting c a now (Unconnected fresh) rises s k w h = absurd h
  answers-lasting c a now (Connecting x) rises s k w h = absurd k
  answers-lasting c a now Ready rises s k w h = absurd h
  answers-lasting c a now (KeepingAlive bytes) rises s k w h = alive-lasting c bytes now a k w h
  answers-lasting c a now (Checking bytes) rises s k w h = checked-lasting c bytes now a s k w h
  answers-lasting c a now (Reading xid r v ws) rises s k w h = read-lasting c xid r v ws now a rises s k w h
  answers-lasting c a now (Committing xid r v p m) rises s k w h = commit-lasting c xid r v p m now a rises s k w h
  answers-lasting c a now (Waiting p) rises s k w h = absurd h
  answers-lasting c a now Shut rises s k w h = absurd h

-- ---- frames that wait are taken up

pub goes-lasting : (now : ℕ) (c c' : Core) (out : List Action) → IsLasting c → Goes now c c' out → IsLasting c'
goes-lasting now c c' out k (rests why same none) = subst IsLasting (sym same) k
goes-lasting now c c' out k (takes d frame more first later ready w t g o) =
    let fs : AreLasting (frame ∷ more) = subst AreLasting w k.waiting in
    goes-lasting now d c' later (takes_up-lasting d first (record c { waiting = more }) frame now fs.0 fs.1 t) g

-- ---- a whole step

pub answer-lasting : (c c' : Core) (a : Answer) (now : ℕ) (out : List Action) → pos 1 ≤ℤ c.who.mine → Shows c.who c.stage a → IsLasting c → StepsOpen c (input.Answer a) now c' out → IsLasting c'
answer-lasting c c' a now out rises s k h = goes-lasting now h.mid c' h.later (answers-lasting h.mid h.first c a now c.stage rises s k.work k.waiting h.handled) h.goes

entered-lasting : (c : Core) (e : Entry) (st : Stage) → c.stage ≡ st → IsLasting c → IsLasting (then_reply (entered c e) st).0
entered-lasting c e (Waiting p) at k = waits-lasting (entered c e).0 p (subst IsLastingIn at k.work) k.waiting
entered-lasting c e (Unconnected f) at k = record { work = k.work; waiting = k.waiting }
entered-lasting c e (Connecting f) at k = record { work = k.work; waiting = k.waiting }
entered-lasting c e Ready at k = record { work = k.work; waiting = k.waiting }
entered-lasting c e (KeepingAlive f) at k = record { work = k.work; waiting = k.waiting }
entered-lasting c e (Checking f) at k = record { work = k.work; waiting = k.waiting }
entered-lasting c e (Reading xid r v ws) at k = record { work = k.work; waiting = k.waiting }
entered-lasting c e (Committing xid r v p m) at k = record { work = k.work; waiting = k.waiting }
entered-lasting c e Shut at k = record { work = k.work; waiting = k.waiting }

pub entry-lasting : (c c' : Core) (e : _) (now : ℕ) (out : List Action) → IsLasting c → StepsOpen c (input.Entry e) now c' out → IsLasting c'
entry-lasting c c' e now out k h = goes-lasting now h.mid c' h.later (is-lasting (told_entry c (arc_value e)) h.mid h.first (entered-lasting c (arc_value e) c.stage refl k) h.handled) h.goes
