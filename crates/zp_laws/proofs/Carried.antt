-- A plan that was carried out: its draft is the service's reply, as of right after its own line.
use Rattle.std.proofs.Common.{◌≡◌, ℕ, ◌+◌, ◌≤◌, List, length, take, take-take, refl, sym, ap, ◌∙◌, subst, arith, Bool, true, ℤ, pos, inl, inr}
use Rattle.std.specs.Prelude.{Option, Some, None, is_some, option_map, option_and_then, ◌⊎◌, ◌≤ℤ◌, ◌<ℤ◌, ◌==◌, All, Contains, if◌then◌else◌, nat_abs}
use Rattle.std.specs.FinMap.{get}
use Rattle.std.specs.List.{list_all}
use Rattle.std.proofs.lemmas.Bool.Decides.{nat_tests, Decides-int_eq}
use Rattle.std.proofs.lemmas.Int.{ints}
use Rattle.std.proofs.lemmas.List.{length-take-le}
use Rattle.std.proofs.lemmas.List.Elements.{All-contains}
use Rattle.std.proofs.lemmas.List.Sums.{AllPass-from_list_all}
use Rattle.ev_types.specs.declared.answer.ActAns.{ActAns}
use Rattle.ev_types.specs.declared.answer.Answer.TheVariants as answer
use Rattle.ev_types.specs.declared.answer.Kv.{Kv}
use Rattle.ev_types.specs.declared.ask.Guard.{Guard}
use Rattle.ev_types.specs.Denials.{carry}
use Rattle.ev_types.specs.Ranges.{Keys}
use Rattle.ev_types.specs.Store.{Store, acts_applied, holds, last_revision, mod_of, present, store_at}
use Rattle.ev_types.specs.declared.ask.Ask.TheVariants as ask
use Rattle.zk_jute.specs.Requests.{Asks, Frame, read_request}
use Rattle.zk_model.specs.Watches.{Watches}
use Rattle.zk_model.specs.declared.reply.Body.{Body}
use Rattle.zk_model.specs.declared.reply.Body.TheVariants as body
use Rattle.zk_model.specs.declared.reply.Reply.{Reply}
use Rattle.zk_model.specs.declared.reply.Reply.TheVariants as reply
use Rattle.zk_model.specs.declared.request.Request.{Request}
use Rattle.zk_model.specs.declared.request.Request.TheVariants as req
use Rattle.zk_service.specs.Answers.{owned_limit_in, only, xid_of}
use Rattle.zk_service.specs.States.{Commit, Session, State, attached_session, commit, limit_of, session_at}
use Rattle.zk_transcript.specs.History.{after, asked_commit, asked_in, frame_shown, request, state_at}
use Rattle.zk_transcript.specs.Legal.{is_legal}
use Rattle.zk_transcript.specs.Walks.{Walker, closes_session, own_update, placed_frame, response_at, told_as_of, told_response, with_end}
use Rattle.zk_transcript.specs.declared.transcript.TranscriptLine.{TranscriptLine}
use Rattle.zk_service.specs.declared.update.UpdateKind.{UpdateKind}
use Rattle.zk_service.specs.declared.update.UpdateKind.TheVariants as kinds
use Rattle.zk_service.specs.declared.update.UpdateRec.{UpdateRec}
use Rattle.zk_transcript.proofs.Lookups.{first_shown-place}
use Rattle.zk_least.proofs.Rising.{Rises, at-line, rising}
use Rattle.zn_layout.specs.Keys.{HeadKey, LeaseKey, key_bytes}
use Rattle.zn_layout.specs.StandsFor.{HeadMeans, StandsFor, at}
use Rattle.zn_view.specs.Keeping.{PutsNewKeys, after_view}
use Rattle.zn_view.proofs.Guarded.{plan-leaves}
use Rattle.zn_layout.specs.Updates.{update_txn}
use Rattle.zn_layout.proofs.Commits.{committed}
use Rattle.zn_view.specs.Asks.{lease_guard, plan_txn, ranges_of, transaction}
use Rattle.zn_view.proofs.Asked.{stands-put}
use Rattle.zn_view.specs.Laws.{LivesAs}
use Rattle.zn_view.specs.Needs.{finished}
use Rattle.zn_view.specs.Seen.{View, head_number}
use Rattle.zn_view.specs.Views.{Agrees, done_by, limit_at, live}
use Rattle.zn_view.specs.declared.plan.Plan.{Plan}
use Rattle.zn_view.proofs.Showing.{carried-out}
use Rattle.zn_view.proofs.Tested.{session-lives}
use Rattle.zp_step.specs.Kept.{head_shown}
use Rattle.zp_step.specs.Plans.{end_after, finishes}
use Rattle.zp_step.specs.Stages.{Core}
use Rattle.zp_laws.specs.Frames.{IsFrameAt}
use Rattle.zp_laws.specs.Inputs.{IsOfEarlier, IsOwnLine, Precedes, StoodAt, kind_for}
use Rattle.zp_laws.specs.Standing.{IsBoundPlan, IsReply, IsViewOf, Matches}
use Rattle.zp_laws.proofs.Attached.{acts-here, first_place-take, live-is, moored}
use Rattle.zp_laws.proofs.Deciding.{attached-then, walker-frame}
use Rattle.zp_laws.proofs.Replying.{past-told}
use Rattle.zp_laws.proofs.Revisions.{IsFoundIn, made-found, may-commit}

-- ---- the guard on the record of the session's life

-- the session is open, and was attached last at this zxid
pub record IsHeld (s : State) (id mine : ℤ) : Type 0 where
  pub session : Session
  pub there : session_at id s ≡ Some session
  pub attached : session.attached ≡ mine

held : (m : Keys) (s : State) (id mine : ℤ) → StandsFor m s → pos 1 ≤ℤ id → pos 1 ≤ℤ mine → mod_of (at m (LeaseKey (nat_abs id))) ≡ mine → IsHeld s id mine
held m s id mine st least rises h = go (at m (LeaseKey (nat_abs id))) (session-lives m s id least st) h
  where
    go : (o : Option Kv) → LivesAs o (live (session_at id s)) → mod_of o ≡ mine → IsHeld s id mine
    go None l f = absurd (omega (arith, ints, f, rises))
    go (Some kv) (x, lives, same) f = record { session = x; there = (live-is (session_at id s) x lives).there; attached = same ∙ f }

guard-holds : (m : Keys) (gs : List Guard) (g : Guard) → list_all (holds m) gs ≡ true → Contains gs g → mod_of (get m g.key) ≡ g.mod_revision
guard-holds m gs g h there =
    (Decides-int_eq (mod_of (get m g.key)) g.mod_revision).0 (All-contains (λ (x : Guard). holds m x ≡ true) gs g (AllPass-from_list_all (holds m) gs h) there)

-- ---- the head

zxid-most : (m : Keys) (s : State) → StandsFor m s → s.zxid ≤ℤ last_revision
zxid-most m s st = go (at m HeadKey) refl st.head
  where
    go : (o : Option Kv) → at m HeadKey ≡ o → HeadMeans o s → s.zxid ≤ℤ last_revision
    go None e none = absurd none
    go (Some kv) e is = subst (λ (z : ℤ). z ≤ℤ last_revision) is.zxid ((st.layout).most (key_bytes HeadKey) kv e)

head-counts : (m : Keys) (s : State) → StandsFor m s → head_number (at m HeadKey) ≡ pos s.updates
head-counts m s st = go (at m HeadKey) st.head
  where
    go : (o : Option Kv) → HeadMeans o s → head_number o ≡ pos s.updates
    go None none = absurd none
    go (Some kv) is = is.number

-- ---- the request before its line

request-before : (lines : List TranscriptLine) (c i m k : ℕ) (bytes : List ℕ) (xid : ℤ) (q : Request) → placed_frame c i (take m lines) ≡ Some (k, bytes) → read_request bytes ≡ Asks xid q → request c i (take m lines) ≡ Some q
request-before lines c i m k bytes xid q f r =
    ap (option_and_then (λ b. asked_in (read_request b))) (first_shown-place (frame_shown c i) 0 (take m lines) (k, bytes) f) ∙ ap asked_in r

commit-is : (before : List TranscriptLine) (s : State) (z : ℤ) (c i now : ℕ) (id : ℤ) (x : Session) (q : Request)
    → attached_session c s ≡ Some (id, x) → request c i before ≡ Some q → asked_commit before s z c i now ≡ commit s.tree (limit_of x) id q z now
commit-is before s z c i now id x q a r =
    ap (λ o. elim o [ None ↦ None | Some e ↦ elim (request c i before) [ None ↦ None | Some p ↦ commit s.tree (limit_of e.1) e.0 p z now ] ]) a
    ∙ ap (λ o. elim o [ None ↦ None | Some p ↦ commit s.tree (limit_of x) id p z now ]) r

-- ---- what the line did

abbrev IsOther : Request → ℤ → ℕ → ℕ → ℕ → State → ℤ → Type 0
IsOther q id c i now s z = (kind_for q id c i now ≡ kinds.Asked c i now) × (done_by s z id q now ≡ commit s.tree (limit_at id s) id q z now) × (end_after q ≡ None)

close-or-other : (s : State) (z id : ℤ) (c i now : ℕ) (q : Request) → (q ≡ req.Close) ⊎ IsOther q id c i now s z
close-or-other s z id c i now req.Close = inl refl
close-or-other s z id c i now _ = inr (refl, refl, refl)

-- the plan's draft is the line's response
record Responds (lines : List TranscriptLine) (k : ℕ) (z : ℤ) (kind : UpdateKind) (r : Reply) (ending : Bool) : Type 0 where
  response : Body
  at_line : response_at lines k z kind ≡ Some response
  same : r ≡ reply.Good response
  closing : closes_session kind ≡ ending

responds : (lines : List TranscriptLine) (k conn i now : ℕ) (z id : ℤ) (q : Request) (x : Session) (y : Commit) (r : Reply)
    → session_at id (state_at lines k) ≡ Some x → attached_session conn (state_at lines k) ≡ Some (id, x) → request conn i (take k lines) ≡ Some q → done_by (state_at lines k) z id q now ≡ Some y → r ≡ reply.Good y.response
    → Responds lines k z (kind_for q id conn i now) r (is_some (end_after q))
responds lines k conn i now z id q x y r there a f d e = elim (close-or-other (state_at lines k) z id conn i now q) [
  | inl close ↦ subst (λ p. Responds lines k z (kind_for p id conn i now) r (is_some (end_after p))) (sym close)
      (record { response = body.Empty; at_line = refl; same = e ∙ ap reply.Good (closed_body (subst (λ p. done_by (state_at lines k) z id p now ≡ Some y) close d)); closing = refl })
  | inr other ↦ record {
    response = y.response;
    at_line = ap (response_at lines k z) other.0
        ∙ ap (option_map (λ (c : Commit). c.response)) (commit-is (take k lines) (state_at lines k) z conn i now id x q a f
        ∙ ap (λ n. commit (state_at lines k).tree n id q z now) (sym (ap owned_limit_in there)) ∙ sym other.1 ∙ d);
    same = e;
    closing = ap closes_session other.0 ∙ sym (ap is_some other.2);
  }
]
  where
    closed_body : done_by (state_at lines k) z id req.Close now ≡ Some y → y.response ≡ body.Empty
    closed_body h = ap (λ (o : Option Commit). elim o [ None ↦ y.response | Some v ↦ v.response ]) (sym h)

own-told : (past : List TranscriptLine) (conn : ℕ) (id : ℤ) (x : Frame) (ws : Watches) (k : ℕ) (u : UpdateRec) (b : Body) (ending : Bool) → length past ≡ k + 1 → response_at past k u.zxid u.kind ≡ Some b → closes_session u.kind ≡ ending
    → told_as_of past conn id x ws (Some (k, u)) ≡ Some (ending, only ws (reply.Good b))
unfolding told_as_of
own-told past conn id x ws k u b ending n r e =
    let right : (length past == k + 1) ≡ true = grind (arith, nat_tests) in
    ap (λ t. if t then with_end (closes_session u.kind) (told_response ws (response_at past k u.zxid u.kind)) else None) right
    ∙ ap (λ t. with_end t (told_response ws (response_at past k u.zxid u.kind))) e
    ∙ ap (λ o. with_end ending (told_response ws o)) r

rises-there : (s t : State) → Rises s t → t.updates ≡ s.updates + 1 → s.zxid <ℤ t.zxid
rises-there s t (inl a) e = absurd (omega (arith, a.0, e))
rises-there s t (inr a) e = a.1

responds-take : (lines : List TranscriptLine) (k looked : ℕ) (z : ℤ) (kind : UpdateKind) → k ≤ looked → response_at (take looked lines) k z kind ≡ response_at lines k z kind
responds-take lines k looked z (kinds.Asked c i now) le = ap (λ ls. option_map (λ (x : Commit). x.response) (asked_commit ls (after ls) z c i now)) (take-take k looked lines le)
responds-take lines k looked z (kinds.Closed id c i) le = refl
responds-take lines k looked z (kinds.Begin now) le = refl
responds-take lines k looked z (kinds.Session id c) le = refl
responds-take lines k looked z (kinds.Attach id c) le = refl
responds-take lines k looked z (kinds.Reaped id) le = refl

-- ---- a plan was carried out

pub record WasDone (store : Store) (lines : List TranscriptLine) (conn : ℕ) (c : Core) (w : Walker) (bytes : List ℕ) (v : View) (p : Plan) (m : ℕ) (xid : ℤ) (q : Request) (before then_store : Store) (r : ℤ) (parts : List ActAns) (looked : ℕ) : Type 0 where
  pub least : pos 1 ≤ℤ c.who.session
  pub rises : pos 1 ≤ℤ c.who.mine
  pub legal : is_legal lines ≡ true
  pub matches : Matches lines c w
  pub frame : IsFrameAt lines conn c.next bytes
  pub reads : read_request bytes ≡ Asks xid q
  pub bound : IsBoundPlan store c.who q v p m
  pub carried_out : carry before (transaction p) ≡ Some (then_store, answer.Txn r true parts)
  pub was : Precedes before store
  pub is : Precedes then_store store
  pub earlier : IsOfEarlier v before
  pub shown : StoodAt then_store lines conn c.who w looked
  pub own : IsOwnLine lines conn c w before q m r looked

module _ (store : Store) (lines : List TranscriptLine) (conn : ℕ) (c : Core) (w : Walker) (bytes : List ℕ) (v : View) (p : Plan) (m : ℕ) (xid : ℤ) (q : Request) (before then_store : Store) (r : ℤ) (parts : List ActAns) (looked : ℕ)
    (k : WasDone store lines conn c w bytes v p m xid q before then_store r parts looked) where
  -- what the view found is in the store that carried the plan out, at the view's revision
  found-before : (k.bound).number ≤ length before.revisions → All (IsFoundIn (store_at before (k.bound).number)) v.keys
  found-before le = subst (λ (keys : Keys). All (IsFoundIn keys) v.keys) ((k.was).same (k.bound).number le) (made-found q v p (store_at store (k.bound).number) (k.bound).made_of)

  draft-responds : Responds lines (k.own).place r (kind_for q c.who.session conn c.next m) (finished r p.draft) (is_some (end_after q))
  draft-responds =
      let o = k.own in
      let h = k.legal in
      let s = state_at lines o.place in
      let past = past-told lines c w o.place h k.matches (o.planned).told in
      let there = attached-then lines conn c w o.place h k.least k.matches o.planned in
      let fine = moored lines conn c.who o.place there in
      let d = carried-out before then_store p r parts (((k.bound).good).asked).shows k.carried_out in
      let le = k.earlier (k.bound).number (k.bound).revision in
      let may = may-commit before v p (k.bound).number (length before.revisions) (((k.bound).good).reads).keys le (found-before le) ((o.stood).layout).least (k.bound).put (((k.bound).good).reads).guards d.holds in
      let l = at-line lines o.place o.update h o.there in
      let up = rises-there s (state_at lines (o.place + 1)) (rising lines o.place (o.place + 1) h (omega arith) (omega (arith, past.some))) l.updates in
      let rises : s.zxid <ℤ r = omega (arith, ints, up, l.zxid, o.zxid) in
      let later : (state_at lines looked).zxid ≡ r = ap (λ n. (state_at lines n).zxid) o.right ∙ l.zxid ∙ o.zxid in
      let most : r ≤ℤ last_revision = subst (λ (z : ℤ). z ≤ℤ last_revision) later (zxid-most (present then_store) (state_at lines looked) (k.shown).stands) in
      let y = (((k.bound).good).commits).answers (present before) s r fine.sound o.stood may rises most in
      let guard = guard-holds (present before) p.guards (lease_guard c.who) d.holds (((k.bound).good).asked).lease in
      let x = held (present before) s c.who.session c.who.mine o.stood k.least k.rises guard in
      let acts = acts-here lines conn c.who o.place there x.session x.there x.attached in
      let f = k.frame in
      let asked = request-before lines conn c.next o.place f.place bytes xid q (first_place-take (frame_shown conn c.next) 0 o.place lines f.place bytes f.framed (let lt = o.asked f.place bytes f.framed in omega (arith, lt))) k.reads in
      responds lines o.place conn c.next m r c.who.session q x.session y.made (finished r p.draft) x.there acts asked y.commits y.answers

  -- what the update leaves of its view is of the store, as the update left it
  pub done-view : (head : Kv) → PutsNewKeys v p → head_shown parts ≡ Some head → IsViewOf store (after_view v p.guards p.success r head)
  done-view head new shows =
      let o = k.own in
      let good = (k.bound).good in
      let s = state_at lines o.place in
      let there = attached-then lines conn c w o.place k.legal k.least k.matches o.planned in
      let fine = moored lines conn c.who o.place there in
      let d = carried-out before then_store p r parts (good.asked).shows k.carried_out in
      let le = k.earlier (k.bound).number (k.bound).revision in
      let may = may-commit before v p (k.bound).number (length before.revisions) (good.reads).keys le (found-before le) ((o.stood).layout).least (k.bound).put (good.reads).guards d.holds in
      let writes = good.writes in
      let again = ranges_of (pos 0) p.again in
      let txn : plan_txn p ≡ update_txn p.guards writes.changes p.triggers again = λ i. record { guards = p.guards; success = writes.acts i; failure = again } in
      let z = (committed before then_store p.guards writes.changes p.triggers again r parts (subst (λ t. carry before (ask.Txn t) ≡ Some (then_store, answer.Txn r true parts)) txn k.carried_out)).zxid_is in
      let keys : present then_store ≡ acts_applied r (present before) p.success = d.keys ∙ ap (λ (y : ℤ). acts_applied y (present before) p.success) (sym z) in
      let head_there = ap (λ (m : Keys). get m (key_bytes HeadKey)) (sym keys) ∙ sym d.head ∙ shows in
      let x = after_view v p.guards p.success r head in
      let now : Agrees x (present then_store) = subst (Agrees x) (sym keys) (plan-leaves v p (good.reads).keys (present before) s r head (good.reads).guards new fine.sound o.stood may head_there) in
      let same : store_at store (length then_store.revisions) ≡ present then_store = (k.is).same (length then_store.revisions) (omega arith) in
      record {
        number = length then_store.revisions;
        revision = d.revision_is;
        known = (k.is).longer;
        agrees = subst (Agrees x) (sym same) now;
        put = stands-put x (present then_store) (state_at lines looked) (k.shown).stands now;
      }

  pub done-reply : IsReply lines conn c.who w (finishes xid q p r parts) looked
  done-reply =
      let o = k.own in
      let mt = k.matches in
      let l = at-line lines o.place o.update k.legal o.there in
      let d = carried-out before then_store p r parts (((k.bound).good).asked).shows k.carried_out in
      let number = ap head_number d.head ∙ head-counts (present then_store) (state_at lines looked) (k.shown).stands in
      let b = draft-responds in
      let len : length (take looked lines) ≡ o.place + 1 = length-take-le looked lines ((k.shown).moment).past ∙ o.right in
      let le : o.place ≤ looked = omega (arith, o.right) in
      let response : response_at (take looked lines) o.place (o.update).zxid (o.update).kind ≡ Some b.response =
      responds-take lines o.place looked (o.update).zxid (o.update).kind le ∙ ap (λ z. response_at lines o.place z (o.update).kind) o.zxid ∙ ap (response_at lines o.place r) o.kind ∙ b.at_line in
      record {
        moment = (k.shown).moment;
        bytes = bytes;
        frame = walker-frame lines conn c w bytes mt k.frame;
        xid = ap xid_of k.reads;
        zxid = ap (λ n. (state_at lines n).zxid) o.right ∙ l.zxid ∙ o.zxid;
        number = sym number;
        told = λ ws.
            ap (told_as_of (take looked lines) conn c.who.session (read_request bytes) ws) (ap (λ n. own_update conn n lines) mt.next ∙ o.line)
            ∙ own-told (take looked lines) conn c.who.session (read_request bytes) ws o.place o.update b.response (is_some (end_after q)) len response (ap closes_session o.kind ∙ b.closing)
            ∙ ap (λ y. Some (is_some (end_after q), only ws y)) (sym b.same);
      }
