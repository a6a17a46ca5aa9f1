-- What one step of an attached connection sends is some choices' packets, and an open core stands where they lead.
use Rattle.std.proofs.Common.{◌≡◌, ℕ, ◌+◌, ◌≤◌, List, [], ◌∷◌, ◌++◌, length, refl, sym, ap, ◌∙◌, subst, arith, Bool, true, false, ℤ, pos, inl, inr}
use Rattle.std.specs.Prelude.{Option, Some, None, IfSome, ◌⊎◌, ◌≤ℤ◌, MatchBool, Contains, if◌then◌else◌, nat_eq, ◌&&◌}
use Rattle.std.specs.Arc.{arc_value}
use Rattle.std.specs.Ordering.{int_eq}
use Rattle.std.proofs.lemmas.Bool.Decides.{nat_tests, Decides-int_eq}
use Rattle.std.proofs.lemmas.Int.{ints}
use Rattle.ev_types.specs.Denials.{carry}
use Rattle.ev_types.specs.Store.{Store, present, revision, store_at}
use Rattle.ev_types.specs.declared.answer.ActAns.{ActAns}
use Rattle.ev_types.specs.declared.answer.Answer.{Answer}
use Rattle.ev_types.specs.declared.answer.Answer.TheVariants as answer
use Rattle.ev_types.specs.declared.answer.Kv.{Kv}
use Rattle.ev_types.specs.declared.ask.Ask.{Ask}
use Rattle.zk_jute.specs.Requests.{read_request}
use Rattle.zk_model.specs.declared.request.Request.{Request}
use Rattle.zk_service.specs.Answers.{xid_of, has_header}
use Rattle.zk_service.specs.States.{session_at}
use Rattle.zk_transcript.specs.History.{state_at}
use Rattle.zk_transcript.specs.Legal.{is_legal}
use Rattle.zk_transcript.specs.Walks.{Walker, is_not_overtaken, own_update}
use Rattle.zk_service.specs.declared.cause.Cause.{Cause}
use Rattle.zk_service.specs.declared.cause.Cause.TheVariants as cause
use Rattle.zk_transcript.specs.declared.transcript.TranscriptLine.{TranscriptLine}
use Rattle.zx_base.proofs.Options.{some_is}
use Rattle.zn_layout.specs.Keys.{HeadKey}
use Rattle.zn_layout.specs.StandsFor.{StandsFor}
use Rattle.zn_view.specs.Lookups.{found_at}
use Rattle.zn_view.specs.Adding.{at_revision}
use Rattle.zn_view.specs.Asks.{reading, transaction, with_parts}
use Rattle.zn_view.specs.Laws.{LivesAs}
use Rattle.zn_view.specs.Needs.{key_want}
use Rattle.zn_view.specs.Seen.{View, empty_view}
use Rattle.zn_view.specs.Views.{Agrees, live}
use Rattle.zn_view.specs.declared.plan.Plan.{Plan}
use Rattle.zn_view.specs.declared.snapshot.SeenChildren.{SeenChildren}
use Rattle.zn_view.specs.declared.snapshot.SeenKey.{SeenKey}
use Rattle.zn_view.specs.declared.want.Want.{Want}
use Rattle.zn_view.proofs.Showing.{again-shown, first-shown, later-shown}
use Rattle.zn_view.proofs.Tested.{session-lives}
use Rattle.zs_session.specs.Answering.{viewed}
use Rattle.zs_session.specs.Sessions.{attach_wants, life_key}
use Rattle.zn_view.specs.Keeping.{IsAfter, PutsNewKeys, trimmed, update_path}
use Rattle.zn_view.proofs.After.{after-is}
use Rattle.zx_base.specs.Maps.{Bytes}
use Rattle.zp_step.specs.Kept.{Leaves, LeavesAt, LeavesBy, head_shown, left_core, put_first}
use Rattle.zp_step.specs.Keepalives.{Checked, KeptAlive, Looked, StillMine, checks}
use Rattle.zp_step.specs.Looking.{IfRecords, Looks, moved}
use Rattle.zp_step.specs.Plans.{CommitAnswered, ReadOn, finishes}
use Rattle.zp_step.specs.Replies.{Is, closed_by, waits}
use Rattle.zp_step.specs.Stages.{Core, KeptViews, Stage, Unconnected, Connecting, Ready, KeepingAlive, Checking, Reading, Committing, Waiting, Shut, asked_of, is_shut, is_open, is_served, waits_from}
use Rattle.zp_step.specs.Steps.{Answers, Comes, Handles, Steps, queued}
use Rattle.zp_step.specs.Taking.{TakesFrame}
use Rattle.zp_step.specs.declared.action.Action.{Action}
use Rattle.zp_step.specs.declared.action.Action.TheVariants as action
use Rattle.zp_step.specs.declared.input.Input.{Input}
use Rattle.zp_step.specs.declared.input.Input.TheVariants as input
use Rattle.zp_step.proofs.Shutting.{steps-open}
use Rattle.zp_laws.specs.Frames.{AreFrames, IsAtWork, IsFrameAt}
use Rattle.zp_laws.specs.Inputs.{IsNextFrame, IsOfEarlierIn, IsOwn, IsReady, Precedes, StoodAt, is_answer, is_first}
use Rattle.zp_laws.specs.Standing.{AreViewsOf, IsFreshLook, IsPastFrame, IsViewOf, IsNoView, IsReply, IsViewAt, Knows, Matches, Stands, StandsOpen, has_looked}
use Rattle.zp_laws.specs.Walking.{Walks}
use Rattle.zp_step.proofs.Cases.{of_alive, open-unless}
use Rattle.zp_laws.proofs.Carried.{WasDone, done-reply, done-view}
use Rattle.zp_laws.proofs.Deciding.{Sees, expired-walks, moved-walks, view-walks}
use Rattle.zp_laws.proofs.Entering.{entry-walks}
use Rattle.zp_laws.proofs.Keeping.{views-put}
use Rattle.zp_laws.proofs.Going.{Works, asking-walks, beside-walks, goes-walks, still-matches, takes-walks}
use Rattle.zp_laws.proofs.Parts.{found-there, revision-kept, wanted-seen}
use Rattle.zp_laws.proofs.Replying.{Busy, waits-walks}
use Rattle.zp_laws.proofs.Strides.{ahead-now, strides-none, walks-append, walks-is}
use Rattle.zx_base.proofs.Booleans.{either}

-- ---- closes

pub closed-walks : (store : Store) (lines : List TranscriptLine) (conn : ℕ) (Afresh : Type 0) (c c' : Core) (w : Walker) (looked : ℕ) (why : Cause) (out : List Action) → Is (closed_by c why) c' out → Walks store lines conn Afresh c c' w looked out
closed-walks store lines conn Afresh c c' w looked why out i = walks-is store lines conn Afresh c c' (closed_by c why) w looked out i (record {
  walker = w;
  strides = strides-none lines conn Afresh c.who.session w (action.Close why ∷ []) refl;
  stands = tt;
  looks = λ q e. absurd (cc);
  who = refl;
  ahead = inr tt;
  zxid = omega (arith, ints);
  cursor = omega (arith, ints);
})

records-walks : (store : Store) (lines : List TranscriptLine) (conn : ℕ) (Afresh : Type 0) (c c' : Core) (w : Walker) (looked : ℕ) (ws : List Want) (parts : List ActAns) (out : List Action) (Next : Type 0) → (Next → Walks store lines conn Afresh c c' w looked out)
    → IfRecords c ws parts c' out Next → Walks store lines conn Afresh c c' w looked out
records-walks store lines conn Afresh c c' w looked ws parts out Next f (inl e) = closed-walks store lines conn Afresh c c' w looked (cause.Damaged e.key e.value) out e.is
records-walks store lines conn Afresh c c' w looked ws parts out Next f (inr h) = f h.1

-- ---- a frame comes

pub frames-push : (lines : List TranscriptLine) (conn i : ℕ) (fs : List (List ℕ)) (f : List ℕ) → AreFrames lines conn i fs → IsFrameAt lines conn (i + length fs) f → AreFrames lines conn i (fs ++ f ∷ [])
frames-push lines conn i [] f h g = (subst (λ n. IsFrameAt lines conn n f) (omega arith) g, tt)
frames-push lines conn i (x ∷ fs) f h g = (h.0, frames-push lines conn (i + 1) fs f h.1 (subst (λ n. IsFrameAt lines conn n f) (omega arith) g))

module _ (store : Store) (lines : List TranscriptLine) (conn : ℕ) (c c' : Core) (w : Walker) (looked : ℕ) (bytes : List ℕ) (out : List Action) (s : Stands store lines conn c w looked) (t : IsNextFrame lines conn c bytes) where
  pub knows-still : (st : Stage) → Knows store lines conn c w looked st → Knows store lines conn (queued c bytes) w looked st
  knows-still (Unconnected fresh) x = x
  knows-still (Connecting connect) x = x
  knows-still Ready x = x
  knows-still (KeepingAlive g) x = tt
  knows-still (Checking g) x = tt
  knows-still (Reading xid r v ws) x = x
  knows-still (Committing xid r v p m) x = x
  knows-still (Waiting p) x = x
  knows-still Shut x = tt

  stands-still : (b : Bool) → Stands store lines conn (queued c bytes) w looked → StandsOpen b store lines conn (queued c bytes) w looked
  stands-still true x = x
  stands-still false x = tt

  queued-walks : MatchBool (has_header (read_request bytes)) (Is (queued c bytes, []) c' out) (Is (closed_by c (cause.NoHeader c.taken)) c' out) → Walks store lines conn (IsFreshLook lines conn false c looked) c c' w looked out
  queued-walks h = go (has_header (read_request bytes)) refl h
    where
      go : (b : Bool) → has_header (read_request bytes) ≡ b → MatchBool b (Is (queued c bytes, []) c' out) (Is (closed_by c (cause.NoHeader c.taken)) c' out) → Walks store lines conn (IsFreshLook lines conn false c looked) c c' w looked out
      go true e i = walks-is store lines conn (IsFreshLook lines conn false c looked) c c' (queued c bytes, []) w looked out i (record {
        walker = w;
        strides = strides-none lines conn (IsFreshLook lines conn false c looked) c.who.session w [] refl;
        stands = stands-still (is_open c.stage) (record {
          matches = still-matches lines c (queued c bytes) w s.matches refl refl refl refl;
          work = s.work;
          waiting = frames-push lines conn (waits_from c.stage c.next) c.waiting bytes s.waiting (record { place = t.place; framed = t.framed; header = e; small = t.small });
          turn = s.turn;
          views = s.views;
          knows = knows-still c.stage s.knows;
        });
        looks = λ q. q;
        who = refl;
        ahead = inl (refl, refl);
        zxid = omega (arith, ints);
        cursor = omega (arith, ints);
      })
      go false e i = closed-walks store lines conn (IsFreshLook lines conn false c looked) c c' w looked (cause.NoHeader c.taken) out i

  comes-walks : (now : ℕ) (st : Stage) → is_served st ≡ true → Comes c bytes now c' out st → Walks store lines conn (IsFreshLook lines conn false c looked) c c' w looked out
  comes-walks now (Unconnected fresh) v h = absurd (cc)
  comes-walks now (Connecting connect) v h = absurd (cc)
  comes-walks now Ready v h = queued-walks h
  comes-walks now (KeepingAlive f) v h = queued-walks h
  comes-walks now (Checking f) v h = queued-walks h
  comes-walks now (Reading xid r u ws) v h = queued-walks h
  comes-walks now (Committing xid r u p m) v h = queued-walks h
  comes-walks now (Waiting p) v h = queued-walks h
  comes-walks now Shut v h = queued-walks h

-- ---- an answer comes

pub record AtStage (store : Store) (lines : List TranscriptLine) (conn : ℕ) (c : Core) (w : Walker) (looked : ℕ) (a : Answer) (st : Stage) : Type 0 where
  pub legal : is_legal lines ≡ true
  pub least : pos 1 ≤ℤ c.who.session
  pub rises : pos 1 ≤ℤ c.who.mine
  pub served : is_served st ≡ true
  pub matches : Matches lines c w
  pub work : IsAtWork lines conn c.next st
  pub waiting : AreFrames lines conn (waits_from st c.next) c.waiting
  pub turn : is_not_overtaken lines conn c.next ≡ true
  pub views : AreViewsOf store c.views
  pub knows : Knows store lines conn c w looked st
  pub asked : Ask
  pub out : asked_of c.who st ≡ Some asked
  pub before : Store
  pub then_store : Store
  pub carried_out : carry before asked ≡ Some (then_store, a)
  pub begun : 1 ≤ length then_store.revisions
  pub was : Precedes before store
  pub is : Precedes then_store store
  pub earlier : IsOfEarlierIn st before
  pub shown : is_first st ≡ true → StoodAt then_store lines conn c.who w looked
  pub own : IsOwn lines conn c w before looked st a

-- a view that was just read
first-view : (store t : Store) (lines : List TranscriptLine) (conn : ℕ) (c : Core) (w : Walker) (looked : ℕ) (v : View) (r : ℤ) → v.revision ≡ r → r ≡ revision t → 1 ≤ length t.revisions → Precedes t store → Agrees v (present t) → StoodAt t lines conn c.who w looked
    → IsViewAt store lines conn c.who w v looked
first-view store t lines conn c w looked v r e f begun is agrees shown = record {
  number = length t.revisions;
  revision = e ∙ f;
  begun = begun;
  known = is.longer;
  agrees = subst (Agrees v) (sym (is.same (length t.revisions) (omega arith))) agrees;
  stands = subst (λ m. StandsFor m (state_at lines looked)) (sym (is.same (length t.revisions) (omega arith))) shown.stands;
  moment = shown.moment;
}

not-zero : (r : ℤ) (n : ℕ) → r ≡ pos n → 1 ≤ n → int_eq r (pos 0) ≡ false
not-zero r n e h = ap (λ z. int_eq z (pos 0)) e ∙ above-zero n h
  where
    above-zero : (n : ℕ) → 1 ≤ n → int_eq (pos n) (pos 0) ≡ false
    above-zero n h = grind (arith, nat_tests, ints)

empty-is : (v : View) → IsNoView v → v ≡ empty_view
empty-is v h = rebuilt v.revision v.keys v.lists h.0 h.1 h.2
  where
    rebuilt : (r : ℤ) (ks : List SeenKey) (ls : List SeenChildren) → r ≡ pos 0 → ks ≡ [] → ls ≡ [] → ◌≡◌ {A = View} (record { revision = r; keys = ks; lists = ls }) empty_view
    rebuilt r ks ls a b c = rw (a, b, c) refl

-- a first round takes the revision of its answer
began-at : (r : ℤ) → at_revision empty_view r ≡ record empty_view { revision = r }
began-at r = refl

wants-life : (id : ℤ) → Contains (attach_wants id) (key_want (life_key id))
wants-life id = (0, omega arith, refl)

wants-head : (id : ℤ) → Contains (attach_wants id) (key_want HeadKey)
wants-head id = (1, omega arith, refl)

module _ (store : Store) (lines : List TranscriptLine) (conn : ℕ) (c c' : Core) (w : Walker) (looked now : ℕ) (out : List Action) where
  -- what an answer in this stage shows, or the stage holds, was seen after the line of the frame at work
  abbrev Afresh : Stage → Type 0
  Afresh st = has_looked true st ≡ true → IsPastFrame lines conn c.next looked

  works-at : (a : Answer) (st : Stage) (bytes : List ℕ) → AtStage store lines conn c w looked a st → IsFrameAt lines conn c.next bytes → AreFrames lines conn (c.next + 1) c.waiting → own_update conn c.next lines ≡ None → Works store lines conn c w bytes
  works-at a st bytes k f g own = record { legal = k.legal; matches = k.matches; frame = f; waiting = g; turn = k.turn; views = k.views; ahead = ahead-now lines 0 conn c.next k.turn own }

  -- ---- the keepalive that was due

  alive-walks : (a : Answer) (bytes : List ℕ) → AtStage store lines conn c w looked a (KeepingAlive bytes) → KeptAlive c bytes now c' out a → Walks store lines conn (Afresh (KeepingAlive bytes)) c c' w looked out
  alive-walks a bytes k h = of_alive a _ (Walks store lines conn (Afresh (KeepingAlive bytes)) c c' w looked out) h (λ ttl f.
      let wk = works-at a (KeepingAlive bytes) bytes k k.work k.waiting k.own in
      let d = (checks c bytes).0 in
      either (int_eq ttl (pos 0)) (Is (checks c bytes) c' out) (TakesFrame c bytes now c' out) (Walks store lines conn (Afresh (KeepingAlive bytes)) c c' w looked out) f
      (λ i. walks-is store lines conn (Afresh (KeepingAlive bytes)) c c' (checks c bytes) w looked out i (asking-walks store lines conn (Afresh (KeepingAlive bytes)) c d w bytes looked (checks c bytes).1 wk refl refl refl refl refl refl
      (record { matches = still-matches lines c d w k.matches refl refl refl refl; work = k.work; waiting = k.waiting; turn = k.turn; views = k.views; knows = tt }) refl wk.ahead (λ q e. absurd (cc))))
      (takes-walks store lines conn (Afresh (KeepingAlive bytes)) c c' w bytes looked now out wk))

  -- ---- the look at the session

  still-walks : (bytes : List ℕ) (v : View) → Sees store lines conn c w bytes v looked → (o : Option Kv) → LivesAs o (live (session_at c.who.session (state_at lines looked))) → StillMine c bytes v now c' out o → Walks store lines conn (Afresh (Checking bytes)) c c' w looked out
  still-walks bytes v k None l h = expired-walks store lines conn c w bytes v looked k (Afresh (Checking bytes)) (λ q. q refl) c' out (xid_of (read_request bytes)) refl l h
  still-walks bytes v k (Some kv) (x, lives, same) h = go (int_eq kv.mod_revision c.who.mine) refl h
    where
      no : int_eq kv.mod_revision c.who.mine ≡ false → x.attached ≡ c.who.mine → ⊥
      no f s = let t = (Decides-int_eq kv.mod_revision c.who.mine).1 (sym same ∙ s) in cc

      go : (t : Bool) → int_eq kv.mod_revision c.who.mine ≡ t → MatchBool t (TakesFrame c bytes now c' out) (Is (waits c (moved c.who v kv.mod_revision (xid_of (read_request bytes)))) c' out) → Walks store lines conn (Afresh (Checking bytes)) c c' w looked out
      go true f i = takes-walks store lines conn (Afresh (Checking bytes)) c c' w bytes looked now out k.works i
      go false f i = moved-walks store lines conn c w bytes v looked k (Afresh (Checking bytes)) (λ q. q refl) c' out (xid_of (read_request bytes)) kv.mod_revision x refl lives (no f) i

  checked-walks : (a : Answer) (bytes : List ℕ) → AtStage store lines conn c w looked a (Checking bytes) → Checked c bytes now c' out a → Walks store lines conn (Afresh (Checking bytes)) c c' w looked out
  checked-walks (answer.Txn r b parts) bytes k h =
      let id = c.who.session in
      let ws = attach_wants id in
      let v = viewed r ws parts in
      let wk = works-at (answer.Txn r b parts) (Checking bytes) bytes k k.work k.waiting k.own in
      let asks : reading (pos 0) ws ≡ k.asked = some_is k.out in
      let did = ap (carry k.before) asks ∙ k.carried_out in
      let first = first-shown k.before k.then_store ws r b parts did in
      let agrees : Agrees v (present k.then_store) = subst (λ (t : Store). Agrees v (present t)) (sym (first.1).same) (first.1).agrees in
      let view = first-view store k.then_store lines conn c w looked v r (revision-kept (record empty_view { revision = r }) ws parts) first.0 k.begun k.is agrees (k.shown refl) in
      let sees : Sees store lines conn c w bytes v looked = record { works = wk; least = k.least; view = view; head = wanted-seen k.before k.then_store ws r b parts (record empty_view { revision = r }) HeadKey did (wants-head id); own = k.own } in
      let found = found-there (store_at store view.number) v (life_key id) view.agrees (wanted-seen k.before k.then_store ws r b parts (record empty_view { revision = r }) (life_key id) did (wants-life id)) in
      let lives : LivesAs (found_at v (life_key id)) (live (session_at id (state_at lines looked))) =
      subst (λ o. LivesAs o (live (session_at id (state_at lines looked)))) (sym found) (session-lives (store_at store view.number) (state_at lines looked) id k.least view.stands) in
      records-walks store lines conn (Afresh (Checking bytes)) c c' w looked ws parts out (Looked c bytes now c' out v) (still-walks bytes v sees (found_at v (life_key id)) lives) h
  checked-walks (answer.Alive r id ttl) bytes k h = absurd h
  checked-walks (answer.Range r f) bytes k h = absurd h
  checked-walks (answer.Granted r id ttl) bytes k h = absurd h

  -- ---- a round

  read-walks : (a : Answer) (xid : ℤ) (q : Request) (v : View) (ws : List Want) → AtStage store lines conn c w looked a (Reading xid q v ws) → ReadOn c xid q v ws now c' out a → Walks store lines conn (Afresh (Reading xid q v ws)) c c' w looked out
  read-walks (answer.Txn r b parts) xid q v ws k h =
      let f = k.work in
      let wk = works-at (answer.Txn r b parts) (Reading xid q v ws) f.bytes k f.frame k.waiting k.own in
      let known = k.knows in
      let asks : reading v.revision ws ≡ k.asked = some_is k.out in
      records-walks store lines conn (Afresh (Reading xid q v ws)) c c' w looked ws parts out (Looks c xid q (with_parts (at_revision v r) ws parts) now c' out)
      (view-walks store lines conn (Afresh (Reading xid q v ws)) c c' w f.bytes (with_parts (at_revision v r) ws parts) looked now xid q out wk k.least (grown asks known.1) k.own f.reads known.0 (λ q. q refl)) h
    where
      grown : reading v.revision ws ≡ k.asked → IsNoView v ⊎ IsViewAt store lines conn c.who w v looked → IsViewAt store lines conn c.who w (with_parts (at_revision v r) ws parts) looked
      grown asks (inl none) =
          let e : v ≡ empty_view = empty-is v none in
          let first = first-shown k.before k.then_store ws r b parts (ap (λ (z : ℤ). carry k.before (reading z ws)) (sym none.0) ∙ ap (carry k.before) asks ∙ k.carried_out) in
          let y = with_parts (record empty_view { revision = r }) ws parts in
          let agrees : Agrees y (present k.then_store) = subst (λ (t : Store). Agrees y (present t)) (sym (first.1).same) (first.1).agrees in
          let is_zero : int_eq v.revision (pos 0) ≡ true = ap (λ (z : ℤ). int_eq z (pos 0)) none.0 in
          subst (λ (u : View). IsViewAt store lines conn c.who w (with_parts u ws parts) looked) (sym (ap (λ (u : View). at_revision u r) e ∙ began-at r))
          (first-view store k.then_store lines conn c w looked y r (revision-kept (record empty_view { revision = r }) ws parts) first.0 k.begun k.is agrees (k.shown is_zero))
      grown asks (inr view) =
          let not0 : int_eq v.revision (pos 0) ≡ false = not-zero v.revision view.number view.revision view.begun in
          let stays : at_revision v r ≡ v = ap (λ t. if t && (nat_eq (length v.keys) 0 && nat_eq (length v.lists) 0) then record v { revision = r } else v) not0 in
          let le = k.earlier view.number view.revision in
          let then_same = (k.was).same view.number le in
          let more = later-shown k.before k.then_store v view.number ws r b parts view.revision view.begun (subst (Agrees v) then_same view.agrees) (ap (carry k.before) asks ∙ k.carried_out) in
          subst (λ (y : View). IsViewAt store lines conn c.who w (with_parts y ws parts) looked) (sym stays) (record {
            number = view.number;
            revision = revision-kept v ws parts ∙ view.revision;
            begun = view.begun;
            known = view.known;
            agrees = subst (Agrees (with_parts v ws parts)) (sym then_same) more.agrees;
            stands = view.stands;
            moment = view.moment;
          })
  read-walks (answer.Alive r id ttl) xid q v ws k h = absurd h
  read-walks (answer.Range r f) xid q v ws k h = absurd h
  read-walks (answer.Granted r id ttl) xid q v ws k h = absurd h

  -- ---- a plan was carried out, or a guard failed

  made-as : (r : ℤ) (parts : List ActAns) (xid : ℤ) (q : Request) (v : View) (p : Plan) (m : ℕ) → (k : AtStage store lines conn c w looked (answer.Txn r true parts) (Committing xid q v p m)) → WasDone store lines conn c w (k.work).bytes v p m xid q k.before k.then_store r parts looked
  made-as r parts xid q v p m k =
      let f = k.work in
      let asks : transaction p ≡ k.asked = some_is k.out in
      record {
        least = k.least;
        rises = k.rises;
        legal = k.legal;
        matches = k.matches;
        frame = f.frame;
        reads = f.reads;
        bound = (k.knows).1;
        carried_out = ap (carry k.before) asks ∙ k.carried_out;
        was = k.was;
        is = k.is;
        earlier = k.earlier;
        shown = k.shown refl;
        own = k.own;
      }

  -- what is kept after an update is of the store
  pub was-left : (r : ℤ) (parts : List ActAns) (xid : ℤ) (q : Request) (v : View) (p : Plan) (m : ℕ) → (k : AtStage store lines conn c w looked (answer.Txn r true parts) (Committing xid q v p m)) → (d : Core) → Leaves c q v p r parts d
      → (xs : KeptViews) × (d ≡ record c { views = xs }) × AreViewsOf store xs
  was-left r parts xid q v p m k d h = at_path (update_path q) ((k.knows).1).keepable h
    where
      left : (j : Bytes) (head : Kv) (o : Option View) → PutsNewKeys v p → head_shown parts ≡ Some head → IsAfter v p.guards p.success r head o → d ≡ left_core c j o → (xs : KeptViews) × (d ≡ record c { views = xs }) × AreViewsOf store xs
      left j head None new e is y = (c.views, y, k.views)
      left j head (Some x) new e is y =
          let of = done-view store lines conn c w (k.work).bytes v p m xid q k.before k.then_store r parts looked (made-as r parts xid q v p m k) head new e in
          (put_first j (trimmed x) c.views, y, views-put store j x c.views (subst (IsViewOf store) (sym (after-is v x p.guards p.success r head (Some x) refl is)) of) k.views)

      by_head : (j : Bytes) (o : Option Kv) → head_shown parts ≡ o → PutsNewKeys v p → LeavesBy c j v p r o d → (xs : KeptViews) × (d ≡ record c { views = xs }) × AreViewsOf store xs
      by_head j None e new y = (c.views, y, k.views)
      by_head j (Some head) e new y = left j head y.0 new e y.1 y.2

      at_path : (o : Option Bytes) → IfSome o (λ j. PutsNewKeys v p) → LeavesAt c o v p r parts d → (xs : KeptViews) × (d ≡ record c { views = xs }) × AreViewsOf store xs
      at_path None new y = (c.views, y, k.views)
      at_path (Some j) new y = by_head j (head_shown parts) refl new y

  pub was-done : (r : ℤ) (parts : List ActAns) (xid : ℤ) (q : Request) (v : View) (p : Plan) (m : ℕ) → (k : AtStage store lines conn c w looked (answer.Txn r true parts) (Committing xid q v p m)) → IsReply lines conn c.who w (finishes xid q p r parts) looked
  was-done r parts xid q v p m k = done-reply store lines conn c w (k.work).bytes v p m xid q k.before k.then_store r parts looked (made-as r parts xid q v p m k)

  pub busy-at : (a : Answer) (xid : ℤ) (q : Request) (v : View) (p : Plan) (m : ℕ) → AtStage store lines conn c w looked a (Committing xid q v p m) → (xs : KeptViews) → AreViewsOf store xs → Busy store lines conn (record c { views = xs }) w
  busy-at a xid q v p m k xs h = record { legal = k.legal; matches = still-matches lines c (record c { views = xs }) w k.matches refl refl refl refl; waiting = k.waiting; turn = k.turn; views = h }

  committed-walks : (a : Answer) (xid : ℤ) (q : Request) (v : View) (p : Plan) (m : ℕ) → AtStage store lines conn c w looked a (Committing xid q v p m) → CommitAnswered c xid q v p now c' out a → Walks store lines conn (Afresh (Committing xid q v p m)) c c' w looked out
  committed-walks (answer.Txn r true parts) xid q v p m k h =
      let y = was-left r parts xid q v p m k h.kept h.leaves in
      let d = record c { views = y.0 } in
      let fin = finishes xid q p r parts in
      beside-walks store lines conn (Afresh (Committing xid q v p m)) c c' y.0 w looked out
      (waits-walks store lines conn d w fin looked (busy-at (answer.Txn r true parts) xid q v p m k y.0 y.2) (was-done r parts xid q v p m k) (Afresh (Committing xid q v p m)) (λ y. y refl) c' out (subst (λ (x : Core). Is (waits x fin) c' out) y.1 h.is))
  committed-walks (answer.Txn r false parts) xid q v p m k h =
      let f = k.work in
      let wk = works-at (answer.Txn r false parts) (Committing xid q v p m) f.bytes k f.frame k.waiting k.own in
      let asks : transaction p ≡ k.asked = some_is k.out in
      let again = again-shown k.before k.then_store p r parts (ap (carry k.before) asks ∙ k.carried_out) in
      let y = viewed r p.again parts in
      let agrees : Agrees y (present k.then_store) = subst (λ (t : Store). Agrees y (present t)) (sym (again.1).same) (again.1).agrees in
      records-walks store lines conn (Afresh (Committing xid q v p m)) c c' w looked p.again parts out (Looks c xid q y now c' out)
      (view-walks store lines conn (Afresh (Committing xid q v p m)) c c' w f.bytes y looked now xid q out wk k.least
      (first-view store k.then_store lines conn c w looked y r (revision-kept (record empty_view { revision = r }) p.again parts) again.0 k.begun k.is agrees (k.shown refl)) k.own f.reads (k.knows).0 (λ z. z refl)) h
  committed-walks (answer.Alive r id ttl) xid q v p m k h = absurd h
  committed-walks (answer.Range r f) xid q v p m k h = absurd h
  committed-walks (answer.Granted r id ttl) xid q v p m k h = absurd h

  answers-walks : (a : Answer) (st : Stage) → AtStage store lines conn c w looked a st → Answers c a now c' out st → Walks store lines conn (Afresh st) c c' w looked out
  answers-walks a (Unconnected fresh) k h = absurd h
  answers-walks a (Connecting connect) k h = let s : false ≡ true = k.served in absurd (cc)
  answers-walks a Ready k h = absurd h
  answers-walks a (KeepingAlive bytes) k h = alive-walks a bytes k h
  answers-walks a (Checking bytes) k h = checked-walks a bytes k h
  answers-walks a (Reading xid q v ws) k h = read-walks a xid q v ws k h
  answers-walks a (Committing xid q v p m) k h = committed-walks a xid q v p m k h
  answers-walks a (Waiting p) k h = absurd h
  answers-walks a Shut k h = absurd h

-- ---- a step

pub at-stage : (store : Store) (lines : List TranscriptLine) (conn : ℕ) (c : Core) (w : Walker) (looked : ℕ) (a : Answer) → IsReady store lines conn c w looked (input.Answer a) → AtStage store lines conn c w looked a c.stage
at-stage store lines conn c w looked a k =
    let t = k.true_input in
    let s = k.stands in
    record {
      legal = k.legal;
      least = k.least;
      rises = k.rises;
      served = k.served;
      matches = s.matches;
      work = s.work;
      waiting = s.waiting;
      turn = s.turn;
      views = s.views;
      knows = s.knows;
      asked = t.asked;
      out = t.out;
      before = t.before;
      then_store = t.then_store;
      carried_out = t.carried_out;
      begun = t.begun;
      was = t.was;
      is = t.is;
      earlier = t.earlier;
      shown = t.shown;
      own = t.own;
    }

handled-walks : (store : Store) (lines : List TranscriptLine) (conn : ℕ) (c c' : Core) (w : Walker) (looked now : ℕ) (x : Input) (out : List Action) → IsReady store lines conn c w looked x → Handles c x now c' out → Walks store lines conn (IsFreshLook lines conn (is_answer x) c looked) c c' w looked out
handled-walks store lines conn c c' w looked now (input.Frame bytes) out k h = comes-walks store lines conn c c' w looked bytes out k.stands k.true_input now c.stage k.served h
handled-walks store lines conn c c' w looked now (input.Answer a) out k h = answers-walks store lines conn c c' w looked now out a c.stage (at-stage store lines conn c w looked a k) h
handled-walks store lines conn c c' w looked now (input.Entry e) out k h = entry-walks store lines conn (IsFreshLook lines conn false c looked) c c' w (arc_value e) looked out k.legal k.stands k.true_input (λ q. q) h
handled-walks store lines conn c c' w looked now input.Failed out k h = closed-walks store lines conn (IsFreshLook lines conn false c looked) c c' w looked cause.LinkFault out h
handled-walks store lines conn c c' w looked now (input.BadLength place length) out k h = closed-walks store lines conn (IsFreshLook lines conn false c looked) c c' w looked (cause.BadLength place length) out h
handled-walks store lines conn c c' w looked now (input.Lagged cursor floor) out k h = closed-walks store lines conn (IsFreshLook lines conn false c looked) c c' w looked (cause.Lagged cursor floor) out h
handled-walks store lines conn c c' w looked now input.FeedClosed out k h = closed-walks store lines conn (IsFreshLook lines conn false c looked) c c' w looked cause.FeedClosed out h
handled-walks store lines conn c c' w looked now (input.ClientEnd place) out k h = closed-walks store lines conn (IsFreshLook lines conn false c looked) c c' w looked (cause.ClientEnd place) out h

pub served-open : (st : Stage) → is_served st ≡ true → is_shut st ≡ false
served-open st h = open-unless st (λ e. let f : false ≡ true = sym (ap is_served e) ∙ h in cc)

pub sends_are_walks : (store : Store) (lines : List TranscriptLine) (conn : ℕ) (c c' : Core) (w : Walker) (looked now : ℕ) (x : Input) (out : List Action)
    → IsReady store lines conn c w looked x → Steps c x now c' out → Walks store lines conn (IsFreshLook lines conn (is_answer x) c looked) c c' w looked out
sends_are_walks store lines conn c c' w looked now x out k h =
    let s = steps-open c c' x now out (served-open c.stage k.served) h in
    let first = handled-walks store lines conn c s.mid w looked now x s.first k s.handled in
    let later = goes-walks store lines conn looked now s.mid c' first.walker s.later k.legal first.stands s.goes in
    subst (λ l. Walks store lines conn (IsFreshLook lines conn (is_answer x) c looked) c c' w looked l) (sym s.joined) (walks-append store lines conn (IsFreshLook lines conn (is_answer x) c looked) c s.mid c' w looked s.first s.later first later)
