-- A plan that is bound to a view by its guards may be carried out whenever they hold: its session is attached where it was then,
-- and the update is one that the service could make.
use Rattle.std.proofs.Common.{◌≡◌, ℕ, ◌≤◌, List, length, take, refl, sym, ap, ◌∙◌, subst, arith, Bool, true, false, ℤ, pos, inl, inr}
use Rattle.std.specs.Prelude.{Option, Some, None, nat_abs, not, ◌⊎◌, ◌≤ℤ◌, if◌then◌else◌, ◌&&◌, nat_lt, nat_le, Contains, option_and_then, is_some, int_lt, int_le}
use Rattle.std.specs.FinMap.{get}
use Rattle.std.specs.Ordering.{int_eq}
use Rattle.std.specs.List.{list_all}
use Rattle.std.proofs.Math.Seq.{take-length}
use Rattle.std.proofs.lemmas.List.Elements.{All-contains}
use Rattle.std.proofs.lemmas.List.Sums.{AllPass-from_list_all}
use Rattle.std.proofs.lemmas.Int.{ints}
use Rattle.std.proofs.lemmas.Bool.Decides.{nat_tests, Decides-int_eq}
use Rattle.ev_types.specs.Ranges.{Keys}
use Rattle.ev_types.specs.Store.{Store, acts_applied, holds, last_revision, mod_of, present, store_at}
use Rattle.ev_types.specs.declared.answer.Kv.{Kv}
use Rattle.ev_types.specs.declared.ask.Guard.{Guard}
use Rattle.ev_types.specs.declared.ask.TxnReq.{TxnReq}
use Rattle.zk_jute.specs.Requests.{Asks, read_request}
use Rattle.zk_model.specs.Limits.{max_frame, max_long, max_parts}
use Rattle.zk_model.specs.Watches.{no_watches}
use Rattle.zk_model.specs.declared.request.Request.{Request}
use Rattle.zk_model.specs.declared.request.Request.TheVariants as req
use Rattle.zk_transcript.proofs.Lookups.{first_shown-place}
use Rattle.zk_transcript.proofs.SoundHistories.{legal-sound}
use Rattle.zk_service.specs.Answers.{Told, owned_limit_in, plain_request}
use Rattle.zk_service.specs.States.{Commit, Session, State, attached_session, commit, committed, limit_of, session_at}
use Rattle.zk_transcript.specs.History.{after, asked_commit, asked_in, frame, frame_shown, request, updated}
use Rattle.zk_transcript.specs.Legal.{attach_of, follows, is_close, is_id, is_in_order, is_legal, is_live, is_live_as, is_small_frame, is_within_parts, may_update}
use Rattle.zk_transcript.specs.declared.transcript.TranscriptLine.{TranscriptLine}
use Rattle.zk_transcript.specs.declared.transcript.TranscriptLine.TheVariants.{Update}
use Rattle.zk_service.specs.declared.update.UpdateKind.{UpdateKind}
use Rattle.zk_service.specs.declared.update.UpdateKind.TheVariants.{Asked}
use Rattle.zn_layout.specs.Keys.{LeaseKey, key_bytes}
use Rattle.zn_layout.specs.StandsFor.{StandsFor, at}
use Rattle.zn_view.proofs.Tested.{session-lives}
use Rattle.zn_view.specs.Asks.{lease_guard}
use Rattle.zn_view.specs.Laws.{LivesAs}
use Rattle.zn_view.specs.Views.{done_by, limit_at, live, state_after}
use Rattle.zn_view.specs.declared.plan.Who.{Who}
use Rattle.zp_laws.proofs.Attached.{IsAttached, acts-here, live-is}
use Rattle.zp_laws.proofs.Revisions.{made-found, may-commit}
use Rattle.zp_laws.specs.Inputs.{kind_for}
use Rattle.zp_step.specs.Looking.{IsForTree}
use Rattle.zp_laws.specs.Standing.{is_ahead}
use Rattle.zp_world_laws.proofs.Commits.{stands-now, zxid-next}
use Rattle.zp_world_laws.specs.Bounds.{IsBoundRequest}
use Rattle.zp_world_laws.specs.Serving.{Commits, GuardsHold, StoreServes, next_revision}
use Rattle.zx_base.proofs.Booleans.{and-both as both-true, same-test}

-- ---- the guard on the record of the session's life

-- the session is open and has not lapsed, and was attached last at this zxid
pub record IsHeld (s : State) (who : Who) : Type 0 where
  pub session : Session
  pub there : session_at who.session s ≡ Some session
  pub alive : session.lapsed ≡ false
  pub mine : session.attached ≡ who.mine

-- where the record of a session's life was put at an attachment, the session is attached there
pub held : (m : Keys) (s : State) (who : Who) → StandsFor m s → pos 1 ≤ℤ who.session → pos 1 ≤ℤ who.mine → mod_of (get m (key_bytes (LeaseKey (nat_abs who.session)))) ≡ who.mine → IsHeld s who
held m s who st least rises h = go (at m (LeaseKey (nat_abs who.session))) h (session-lives m s who.session least st)
  where
    go : (o : Option Kv) → mod_of o ≡ who.mine → LivesAs o (live (session_at who.session s)) → IsHeld s who
    go None e l = absurd (omega (arith, ints, e, rises))
    go (Some kv) e l = let is = live-is (session_at who.session s) l.0 l.1 in record { session = l.0; there = is.there; alive = is.alive; mine = l.2 ∙ e }

-- a guard among those that hold
pub guard-holds : (m : Keys) (gs : List Guard) (g : Guard) → list_all (holds m) gs ≡ true → Contains gs g → mod_of (get m g.key) ≡ g.mod_revision
guard-holds m gs g h there =
    (Decides-int_eq (mod_of (get m g.key)) g.mod_revision).0 (All-contains (λ (x : Guard). holds m x ≡ true) gs g (AllPass-from_list_all (holds m) gs h) there)

-- ---- what a plan does is what its line does

record Does (lines : List TranscriptLine) (s : State) (z id : ℤ) (c i : ℕ) (q : Request) (now : ℕ) : Type 0 where
  may : may_update lines s z (kind_for q id c i now) ≡ true
  same : updated lines s z (kind_for q id c i now) ≡ state_after s z id q now
  zxid : (state_after s z id q now).zxid ≡ z

request-is : (lines : List TranscriptLine) (c i : ℕ) (bytes : List ℕ) (xid : ℤ) (q : Request) → frame c i lines ≡ Some bytes → read_request bytes ≡ Asks xid q → request c i lines ≡ Some q
request-is lines c i bytes xid q f r = ap (option_and_then (λ b. asked_in (read_request b))) f ∙ ap asked_in r

asked_commit-is : (lines : List TranscriptLine) (s : State) (z : ℤ) (c i now : ℕ) (id : ℤ) (x : Session) (q : Request)
    → attached_session c s ≡ Some (id, x) → request c i lines ≡ Some q → asked_commit lines s z c i now ≡ commit s.tree (limit_of x) id q z now
asked_commit-is lines s z c i now id x q a r =
    ap (λ (o : Option (ℤ × Session)). elim o [ None ↦ None | Some e ↦ elim (request c i lines) [ None ↦ None | Some p ↦ commit s.tree (limit_of e.1) e.0 p z now ] ]) a
    ∙ ap (λ (o : Option Request). elim o [ None ↦ None | Some p ↦ commit s.tree (limit_of x) id p z now ]) r

few-parts : (n : ℕ) (o : Option Told) → ((o ≡ None) → ⊥) → (if nat_lt max_parts n then o else None) ≡ None → nat_le n max_parts ≡ true
few-parts n o some h = go (nat_lt max_parts n) refl h
  where
    go : (b : Bool) → nat_lt max_parts n ≡ b → (if b then o else None) ≡ None → nat_le n max_parts ≡ true
    go true e f = absurd (some f)
    go false e f = grind (arith, nat_tests)

within-parts : (q : Request) → plain_request no_watches q ≡ None → is_within_parts (Some q) ≡ true
unfolding plain_request
within-parts (req.Multi parts) h = few-parts (length parts) _ (λ e. (cc)) h
within-parts _ h = refl

close-or-not : (s : State) (z id : ℤ) (c i now : ℕ) (q : Request)
    → (q ≡ req.Close) ⊎ ((kind_for q id c i now ≡ Asked c i now) × (state_after s z id q now ≡ committed s z (commit s.tree (limit_at id s) id q z now)) × (done_by s z id q now ≡ commit s.tree (limit_at id s) id q z now))
close-or-not s z id c i now req.Close = inl refl
close-or-not s z id c i now _ = inr (refl, refl, refl)

committed-zxid : (s : State) (z : ℤ) (o : Option Commit) (x : Commit) → o ≡ Some x → (committed s z o).zxid ≡ z
committed-zxid s z o x h = ap (λ v. (committed s z v).zxid) h

five : (a b c d e : Bool) → a ≡ true → b ≡ true → c ≡ true → d ≡ true → e ≡ true → (a && b && c && d && e) ≡ true
five a b c d e x y z u v = both-true (a && b && c && d) e (both-true (a && b && c) d (both-true (a && b) c (both-true a b x y) z) u) v

record Acts (lines : List TranscriptLine) (s : State) (c i : ℕ) (id : ℤ) (q : Request) : Type 0 where
  session : Session
  there : session_at id s ≡ Some session
  at_c : attached_session c s ≡ Some (id, session)
  alive : session.lapsed ≡ false
  number : is_id id ≡ true
  index : nat_lt 0 i ≡ true
  small : is_small_frame (frame c i lines) ≡ true
  asked : request c i lines ≡ Some q
  tree : IsForTree q

closes : (lines : List TranscriptLine) (s : State) (z id : ℤ) (c i now : ℕ) (a : Acts lines s c i id req.Close) → Does lines s z id c i req.Close now
unfolding may_update updated
closes lines s z id c i now a = record {
  may = five (is_id id) _ _ _ _ a.number (ap (is_live_as id) a.at_c ∙ both-true (int_eq id id) (not (a.session).lapsed) ((Decides-int_eq id id).1 refl) (ap not a.alive)) a.index a.small (ap is_close a.asked);
  same = refl;
  zxid = refl;
}

changes : (lines : List TranscriptLine) (s : State) (z id : ℤ) (c i now : ℕ) (q : Request) (y : Commit) (a : Acts lines s c i id q) → commit s.tree (limit_at id s) id q z now ≡ Some y
    → (may_update lines s z (Asked c i now) ≡ true) × (updated lines s z (Asked c i now) ≡ committed s z (commit s.tree (limit_at id s) id q z now))
unfolding may_update updated
changes lines s z id c i now q y a some =
    let limit : limit_of (a.session) ≡ limit_at id s = sym (ap owned_limit_in a.there) in
    let is : asked_commit lines s z c i now ≡ commit s.tree (limit_at id s) id q z now = asked_commit-is lines s z c i now id a.session q a.at_c a.asked ∙ ap (λ n. commit s.tree n id q z now) limit in (
      five _ _ _ _ _ (ap is_live a.at_c ∙ ap not a.alive) a.index a.small (ap is_within_parts a.asked ∙ within-parts q a.tree) (ap is_some (is ∙ some)),
      ap (committed s z) is,
    )

does : (lines : List TranscriptLine) (s : State) (z id : ℤ) (c i now : ℕ) (q : Request) (y : Commit) → Acts lines s c i id q → done_by s z id q now ≡ Some y → Does lines s z id c i q now
does lines s z id c i now q y a done = elim (close-or-not s z id c i now q) [
  | inl close ↦ subst (λ p. Acts lines s c i id p → Does lines s z id c i p now) (sym close) (λ b. closes lines s z id c i now b) a
  | inr other ↦
      let some : commit s.tree (limit_at id s) id q z now ≡ Some y = sym other.2 ∙ done in
      let r = changes lines s z id c i now q y a some in
      record {
        may = subst (λ k. may_update lines s z k ≡ true) (sym other.0) r.0;
        same = ap (updated lines s z) other.0 ∙ r.1 ∙ sym other.1;
        zxid = ap (λ (v : State). v.zxid) other.1 ∙ committed-zxid s z (commit s.tree (limit_at id s) id q z now) y some;
      }
]

-- its line comes after all of its connection's requests
in-order : (lines : List TranscriptLine) (z id : ℤ) (c i now : ℕ) (q : Request) → is_ahead lines c i ≡ true → is_in_order lines (Update (record { zxid = z; kind = kind_for q id c i now })) ≡ true
in-order lines z id c i now q h = elim (close-or-not (after lines) z id c i now q) [
  | inl close ↦ subst (λ p. is_in_order lines (Update (record { zxid = z; kind = kind_for p id c i now })) ≡ true) (sym close) (ap (λ b. follows lines c (if b then Some i else None)) (same-test c) ∙ h)
  | inr other ↦ subst (λ k. is_in_order lines (Update (record { zxid = z; kind = k })) ≡ true) (sym other.0) (ap (λ b. follows lines c (if b then Some i else None)) (same-test c) ∙ h)
]

pub number-is : (id : ℤ) → pos 1 ≤ℤ id → id ≤ℤ max_long → is_id id ≡ true
number-is id least most = let a : int_lt (pos 0) id ≡ true = grind (arith, ints, least) in let b : int_le id max_long ≡ true = grind (arith, ints, most) in both-true (int_lt (pos 0) id) (int_le id max_long) a b

at-last : (lines : List TranscriptLine) (c : ℕ) (who : Who) (x : Session) → IsAttached lines c who (length lines) → session_at who.session (after lines) ≡ Some x → x.attached ≡ who.mine → attached_session c (after lines) ≡ Some (who.session, x)
at-last lines c who x a there same =
    let e : take (length lines) lines ≡ lines = take-length lines in
    subst (λ l. attached_session c (after l) ≡ Some (who.session, x)) e (acts-here lines c who (length lines) a x (ap (λ l. session_at who.session (after l)) e ∙ there) same)

-- a request's plan is an update that the service could make, wherever its guards hold
pub request-commits : (s : Store) (lines : List TranscriptLine) (c i : ℕ) (t : TxnReq) (kind : UpdateKind) → StoreServes s lines → next_revision s ≤ℤ last_revision → is_ahead lines c i ≡ true
    → IsBoundRequest s lines c i kind t → GuardsHold s t → Commits s lines kind t
request-commits s lines c i t kind w room last b h =
    let z = next_revision s in
    let st = stands-now s lines w in
    let sound = legal-sound lines w.legal in
    let rises = zxid-next s lines w in
    let guards : list_all (holds (present s)) (b.plan).guards ≡ true = subst (λ (p : TxnReq). list_all (holds (present s)) p.guards ≡ true) b.txn h in
    let p = b.bound in
    let found = made-found b.request b.view b.plan (store_at s p.number) p.made_of in
    let may = may-commit s b.view b.plan p.number (length s.revisions) ((p.good).reads).keys p.known found (st.layout).least p.put ((p.good).reads).guards guards in
    let is_held = held (present s) (after lines) b.who st b.least b.rises (guard-holds (present s) (b.plan).guards (lease_guard b.who) guards ((p.good).asked).lease) in
    let a : IsAttached lines c b.who (length lines) = record { legal = ap is_legal (take-length lines) ∙ w.legal; place = b.place; own = ap (attach_of c) (take-length lines) ∙ b.attached; least = b.least } in
    let answer = ((p.good).commits).answers (present s) (after lines) z sound st may rises room in
    let f = (b.framed).frame in
    let framed : frame c i lines ≡ Some (b.framed).bytes = first_shown-place (frame_shown c i) 0 lines (f.place, (b.framed).bytes) f.framed in
    let acts : Acts lines (after lines) c i (b.who).session b.request = record {
      session = is_held.session;
      there = is_held.there;
      at_c = at-last lines c b.who is_held.session a is_held.there is_held.mine;
      alive = is_held.alive;
      number = number-is (b.who).session b.least b.most;
      index = positive i b.index;
      small = ap is_small_frame framed ∙ small-is (length (b.framed).bytes) b.small;
      asked = request-is lines c i (b.framed).bytes b.xid b.request framed (b.framed).reads;
      tree = b.tree;
    } in
    let d = does lines (after lines) z (b.who).session c i b.time b.request answer.made acts answer.commits in
    let carried = ((p.good).commits).carries (present s) (after lines) z sound st may rises room in
    record {
      may = subst (λ k. may_update lines (after lines) z k ≡ true) (sym b.of_kind) d.may;
      ordered = subst (λ k. is_in_order lines (Update (record { zxid = z; kind = k })) ≡ true) (sym b.of_kind) (in-order lines z (b.who).session c i b.time b.request last);
      stands = subst (λ k. StandsFor (acts_applied z (present s) t.success) (updated lines (after lines) z k)) (sym b.of_kind)
          (subst (λ (l : TxnReq). StandsFor (acts_applied z (present s) l.success) (updated lines (after lines) z (kind_for b.request (b.who).session c i b.time))) (sym b.txn)
          (subst (StandsFor (acts_applied z (present s) (b.plan).success)) (sym d.same) carried));
      zxid = ap (λ k. (updated lines (after lines) z k).zxid) b.of_kind ∙ ap (λ (v : State). v.zxid) d.same ∙ d.zxid;
    }
  where
    positive : (n : ℕ) → 1 ≤ n → nat_lt 0 n ≡ true
    positive n le = grind (arith, nat_tests)

    small-is : (n : ℕ) → n ≤ max_frame → nat_le n max_frame ≡ true
    small-is n le = grind (arith, nat_tests)
