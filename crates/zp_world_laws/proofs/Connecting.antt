-- What a connection without a session asks is bound; and where it is carried out, the answer tells of the connection's own line.
use Rattle.ev_types.specs.Denials.{carry}
use Rattle.ev_types.specs.Store.{Store, present, revision, succeeds}
use Rattle.ev_types.specs.declared.answer.ActAns.{ActAns}
use Rattle.ev_types.specs.declared.answer.Answer.TheVariants as answer
use Rattle.ev_types.specs.declared.answer.Answer.{Answer}
use Rattle.ev_types.specs.declared.ask.Ask.TheVariants as ask
use Rattle.ev_types.specs.declared.ask.Ask.{Ask}
use Rattle.ev_types.specs.declared.ask.TxnReq.{TxnReq}
use Rattle.std.proofs.Common.{Bool, List, [], ap, append-nil, arith, false, inl, inr, length, pos, refl, subst, sym, true, ℕ, ℤ, ◌++◌, ◌+◌, ◌∙◌, ◌∷◌, ◌≡◌, ◌≤◌}
use Rattle.std.proofs.Math.Seq.{take-length}
use Rattle.std.proofs.lemmas.Int.{ints}
use Rattle.std.proofs.lemmas.List.{length-append}
use Rattle.std.specs.FinMap.{get}
use Rattle.std.specs.Prelude.{None, Some, option_and_then, option_map, ◌≤ℤ◌}
use Rattle.zk_jute.specs.Connects.{read_connect}
use Rattle.zk_model.specs.Limits.{max_frame}
use Rattle.zk_model.specs.declared.connect.ConnectRequest.{ConnectRequest}
use Rattle.zk_transcript.proofs.Appending.{after-push, first_place-push}
use Rattle.zk_transcript.proofs.Attachments.{attach_of-new}
use Rattle.zk_transcript.proofs.Histories.{first_shown-push}
use Rattle.zk_transcript.proofs.Lookups.{first_shown-place}
use Rattle.zk_service.proofs.SessionMaps.{at-insert_same}
use Rattle.zk_transcript.proofs.SoundHistories.{legal-bounded, legal-sound}
use Rattle.zk_transcript.proofs.Walks.{first_place-bound}
use Rattle.zk_service.specs.States.{IsSound, Session, State, attached_anew, granted_timeout, new_session, or_nothing, session_at}
use Rattle.zk_transcript.specs.History.{after, connect, frame, frame_shown, open_shown, opening, state_at, updated, when}
use Rattle.zk_transcript.specs.Legal.{attach_in, attach_of, index_in, is_below_place}
use Rattle.zk_transcript.specs.Walks.{packets}
use Rattle.zk_transcript.specs.declared.transcript.TranscriptLine.{TranscriptLine}
use Rattle.zk_service.specs.declared.update.UpdateKind.TheVariants.{Attach, Session as NewSession}
use Rattle.zk_service.specs.declared.update.UpdateKind.{UpdateKind}
use Rattle.zn_layout.specs.StandsFor.{StandsFor}
use Rattle.zn_layout.specs.declared.record.LeaseRec.{LeaseRec}
use Rattle.zn_view.specs.Asks.{ranges_of}
use Rattle.zp_step.specs.Kinds.{kind_of_connect}
use Rattle.zp_script.specs.declared.flight.Asking.{Asking}
use Rattle.zp_script.specs.declared.flight.Flight.TheVariants.{Carried, Denied, Out}
use Rattle.zp_laws.proofs.Attached.{first-there}
use Rattle.zp_laws.proofs.Growing.{frames-push as frames-longer}
use Rattle.zp_laws.specs.Inputs.{Precedes}
use Rattle.zp_step.specs.Stages.{Core}
use Rattle.zp_world_laws.proofs.Asking.{ranges-read}
use Rattle.zp_world_laws.proofs.Commits.{Committed, line_of, stands-now, zxid-next, zxid-within}
use Rattle.zp_world_laws.proofs.Connects.{was-seen}
use Rattle.zp_world_laws.proofs.Executing.{precedes-self, update-room}
use Rattle.zp_world_laws.proofs.Growing.{same-precedes, serves-same}
use Rattle.zp_world_laws.proofs.Knowing.{rests-push, zxid-rises}
use Rattle.zp_world_laws.proofs.Looking.{get-last}
use Rattle.zp_world_laws.proofs.Moments.{whole}
use Rattle.zp_world_laws.proofs.Outcomes.{next-room, outcome, plan-commits, still}
use Rattle.zp_world_laws.proofs.Packets.{packets-append}
use Rattle.zp_world_laws.proofs.Talking.{ahead-push}
use Rattle.zp_world_laws.proofs.Transactions.{txn-answered, txn-reads}
use Rattle.zp_world_laws.specs.Bounds.{IsBound, IsBoundAs, IsBoundAsk, IsUnattached}
use Rattle.zp_world_laws.specs.Connecting.{HasOwnLine, IsConnectAnswer, IsConnectOut, IsConnecting, IsOwnSession, IsSeenLife, IsUntouched, RestsOn}
use Rattle.zp_world_laws.specs.Connections.{HasSmallFrames}
use Rattle.zp_world_laws.specs.Serving.{StoreServes, next_revision, only_reads, update_lines}
use Rattle.zp_laws.proofs.Attachments.{session-attached}
use Rattle.zs_session.proofs.Welcomes.{number-welcomed}
use Rattle.zs_session.specs.Connecting.{asked_in_phase, number_shown, timeout_in}
use Rattle.zs_session.specs.Sessions.{attach_changes, attach_guards, attach_txn, attach_wants, first_wants, new_session_changes, new_session_guards, new_session_txn, session_wants}
use Rattle.zk_service.specs.declared.fresh.Fresh.{Fresh}
use Rattle.zs_session.specs.declared.connect.Connect.{Connect}
use Rattle.zs_session.specs.declared.connect.Phase.TheVariants.{Attaching, Creating, Granting, Keeping, Looking, LookingAgain, Over, Unasked}
use Rattle.zs_session.specs.declared.connect.Phase.{Phase}
use Rattle.zx_base.proofs.Options.{none_some, some_is}
use Rattle.zx_base.proofs.Booleans.{same-test as same-nat}

-- ---- the session after its line

session-new : (lines : List TranscriptLine) (s : State) (z id : ℤ) (c : ℕ) → session_at id (updated lines s z (NewSession id c)) ≡ Some (new_session (opening c lines) (connect c lines) c z)
unfolding updated
session-new lines s z id c = at-insert_same s.sessions id (new_session (opening c lines) (connect c lines) c z)

session-anew : (lines : List TranscriptLine) (s : State) (z id : ℤ) (c : ℕ) (x : Session) → session_at id s ≡ Some x → session_at id (updated lines s z (Attach id c)) ≡ Some (record x { connection = c; attached = z })
unfolding updated
session-anew lines s z id c x e = ap (λ o. get (attached_anew s z id c o) id) e ∙ at-insert_same s.sessions id (record x { connection = c; attached = z })

-- ---- what it asks is bound

-- its connect, to which nothing was answered
pub record IsAwaiting (s : Store) (lines : List TranscriptLine) (c : ℕ) (x : Connect) : Type 0 where
  pub untouched : IsUntouched lines c x.fresh
  pub unattached : attach_of c lines ≡ None
  pub bytes : List ℕ
  pub framed : frame c 0 lines ≡ Some bytes
  pub small : length bytes ≤ max_frame
  pub reads : read_connect bytes ≡ Some x.request
  pub serves : StoreServes s lines

pub connect-is : (lines : List TranscriptLine) (c : ℕ) (bytes : List ℕ) (r : ConnectRequest) → frame c 0 lines ≡ Some bytes → read_connect bytes ≡ Some r → connect c lines ≡ Some r
connect-is lines c bytes r f e = ap (option_and_then read_connect) f ∙ e

module _ (s : Store) (lines : List TranscriptLine) (c : ℕ) (x : Connect) (k : IsAwaiting s lines c x) where
  is-unattached : x.request.last_zxid ≤ℤ (after lines).zxid → IsUnattached s lines c x.request
  is-unattached past = record {
    unattached = k.unattached;
    silent = (k.untouched).silent;
    bytes = k.bytes;
    framed = k.framed;
    small = k.small;
    connected = connect-is lines c k.bytes x.request k.framed k.reads;
    past = (let le = zxid-within s lines k.serves in omega (arith, ints, le, past));
  }

  pub connect-bound : (p : Phase) (q : Ask) → RestsOn s (after lines).zxid x.request p → asked_in_phase x p ≡ Some q → IsBoundAs s lines (kind_of_connect c x p) q
  connect-bound Unasked q r e = absurd r
  connect-bound Looking q r e = subst (IsBoundAs s lines None) (some_is e) (record { success = ranges-read (pos 0) (first_wants x.request); failure = refl })
  connect-bound Granting q r e = subst (IsBoundAs s lines None) (some_is e) tt
  connect-bound Creating q (anew, past) e = subst (IsBoundAs s lines (Some (NewSession x.fresh.id c))) (some_is e) (
    record {
      request = x.request;
      connected = is-unattached past;
      anew = anew;
      fresh = x.fresh;
      own = refl;
      least = ((k.untouched).offer).least;
      most = ((k.untouched).offer).most;
      long = ((k.untouched).offer).long;
      offered = (k.untouched).offered;
      txn = refl;
    },
    ranges-read (pos 0) (session_wants x.fresh.id),
  )
  connect-bound (Keeping seen life) q r e = subst (IsBoundAs s lines None) (some_is e) tt
  connect-bound LookingAgain q r e = subst (IsBoundAs s lines None) (some_is e) (record { success = ranges-read (pos 0) (attach_wants x.request.session); failure = refl })
  connect-bound (Attaching seen life) q (saw, past) e = subst (IsBoundAs s lines (Some (Attach x.request.session c))) (some_is e) (
    record {
      request = x.request;
      connected = is-unattached past;
      own = refl;
      least = saw.session;
      seen = seen;
      life = life;
      put = saw.put;
      within = saw.within;
      passwd = saw.passwd;
      was = saw.was;
      txn = refl;
    },
    ranges-read (pos 0) (attach_wants x.request.session),
  )
  connect-bound Over q r e = absurd r

-- ---- it is carried out

-- the line that attaches a session
pub record IsAttachLine (c : ℕ) (z id : ℤ) (kind : UpdateKind) : Type 0 where
  pub attaches : attach_in c z kind ≡ Some (record { zxid = z; session = id })
  pub no_index : index_in c kind ≡ None

new-attaches : (c : ℕ) (z id : ℤ) → IsAttachLine c z id (NewSession id c)
new-attaches c z id = record { attaches = ap (λ b. when b (record { zxid = z; session = id })) (same-nat c); no_index = refl }

anew-attaches : (c : ℕ) (z id : ℤ) → IsAttachLine c z id (Attach id c)
anew-attaches c z id = record { attaches = ap (λ b. when b (record { zxid = z; session = id })) (same-nat c); no_index = refl }

module _ (s u : Store) (lines : List TranscriptLine) (c : ℕ) (core : Core) (x : Connect) (a : Asking) (b : Answer) (w : StoreServes s lines) (h : carry s a.ask ≡ Some (u, b)) (k : IsConnecting s lines c core x (Some (Out a)))
    (small : HasSmallFrames lines c) where
  out : IsConnectOut s lines c x a
  out = k.flies

  awaiting : IsAwaiting s lines c x
  awaiting =
      let f = first_shown-place (frame_shown c 0) 0 lines (k.place, k.bytes) k.framed in
      record { untouched = k.untouched; unattached = out.unattached; bytes = k.bytes; framed = f; small = small 0 k.bytes f; reads = k.reads; serves = w }

  bound-at : (p : Phase) → x.phase ≡ p → IsBoundAs s lines (kind_of_connect c x p) a.ask
  bound-at p e = connect-bound s lines c x awaiting p a.ask (subst (RestsOn s (after lines).zxid x.request) e out.rests) (ap (asked_in_phase x) (sym e) ∙ out.asked)

  -- the connection after that
  abbrev Carries_to : List TranscriptLine → Type 0
  Carries_to ls = IsConnecting u ls c core x (Some (Carried b))

  answer-in : (more : List TranscriptLine) → StoreServes u (lines ++ more) → Precedes s u → HasOwnLine (lines ++ more) c x x.phase b → IsConnectAnswer u (lines ++ more) c k.place x b
  answer-in more v p own =
      let whole : state_at (lines ++ more) (length (lines ++ more)) ≡ after (lines ++ more) = ap after (take-length (lines ++ more)) in
      let up = zxid-rises lines more w.legal v.legal in
      let place = first_place-bound (frame_shown c 0) 0 lines (k.place, k.bytes) k.framed in
      record {
        asked = a.ask;
        out = out.asked;
        before = s;
        then_store = u;
        carried_out = h;
        is = precedes-self u;
        looked = length (lines ++ more);
        passed = omega (arith, place, length-append lines more);
        within = omega arith;
        risen = (let same = ap (λ (t : State). t.zxid) whole in omega (arith, ints, same));
        stands = subst (StandsFor (present u)) (sym whole) (stands-now u (lines ++ more) v);
        sound = subst IsSound (sym whole) (legal-sound (lines ++ more) v.legal);
        rests = subst (λ (t : State). RestsOn u t.zxid x.request x.phase) (sym whole) (rests-push s u (after lines).zxid (after (lines ++ more)).zxid x.request x.phase p up out.rests);
        own = own;
      }

  -- no line
  none-added : u.revisions ≡ s.revisions → update_lines s u a.kind ≡ [] → HasOwnLine lines c x x.phase b → Carries_to (lines ++ update_lines s u a.kind)
  none-added same no_line own =
      let v : StoreServes u lines = serves-same s u lines same w in
      let nil : lines ++ [] ≡ lines = append-nil lines in
      subst (λ l. Carries_to (lines ++ l)) (sym no_line) (subst Carries_to (sym nil) (record {
        untouched = k.untouched;
        next = k.next;
        waiting = k.waiting;
        place = k.place;
        bytes = k.bytes;
        framed = k.framed;
        reads = k.reads;
        flies = subst (λ l. IsConnectAnswer u l c k.place x b) nil (answer-in [] (subst (StoreServes u) (sym nil) v) (same-precedes s u same) (subst (λ l. HasOwnLine l c x x.phase b) (sym nil) own));
      }))

  read-out : (p : Phase) → x.phase ≡ p → kind_of_connect c x p ≡ None → HasOwnLine lines c x x.phase b → Carries_to (lines ++ update_lines s u a.kind)
  read-out p e none own =
      let no_kind : a.kind ≡ None = out.kind ∙ ap (kind_of_connect c x) e ∙ none in
      let bound : IsBoundAsk s lines a = subst (λ o. IsBoundAs s lines o a.ask) (sym (out.kind ∙ ap (kind_of_connect c x) e)) (bound-at p e) in
      elim (outcome s u lines a b w (λ kind f. absurd (none_some (sym no_kind ∙ f))) bound h) [
        | inl q ↦ none-added q.revisions q.lines own
        | inr q ↦ absurd (none_some (sym no_kind ∙ q.is))
      ]

  -- the connection's own line
  module _ (kind : UpdateKind) (id : ℤ) (line : (z : ℤ) → IsAttachLine c z id kind) (of_kind : a.kind ≡ Some kind) where
    l : TranscriptLine
    l = line_of s kind

    line-added : Committed s u lines kind → Precedes s u → HasOwnLine (lines ++ line_of s kind ∷ []) c x x.phase b → Carries_to (lines ++ update_lines s u a.kind)
    line-added done p own =
        let same : update_lines s u a.kind ≡ line_of s kind ∷ [] = ap (update_lines s u) of_kind ∙ done.line in
        subst (λ m. Carries_to (lines ++ m)) (sym same) (record {
          untouched = record {
            silent = packets-append c lines (line_of s kind ∷ []) ∙ append-nil (packets c lines) ∙ (k.untouched).silent;
            turn = ahead-push lines (line_of s kind) c 1 (ap (is_below_place 1) (line (next_revision s)).no_index) (k.untouched).turn;
            offered = first_shown-push (open_shown c) lines (line_of s kind ∷ []) x.fresh (k.untouched).offered;
            offer = (k.untouched).offer;
          };
          next = k.next;
          waiting = frames-longer lines (line_of s kind ∷ []) c 1 core.waiting k.waiting;
          place = k.place;
          bytes = k.bytes;
          framed = first_place-push (frame_shown c 0) 0 lines (line_of s kind ∷ []) (k.place, k.bytes) k.framed;
          reads = k.reads;
          flies = answer-in (line_of s kind ∷ []) done.serves p own;
        })

    -- by that line
    session-in : pos 1 ≤ℤ id → (timeout : ℤ) (passwd : List ℕ) (number : ℤ) (sess : Session) → Committed s u lines kind → session_at id (updated lines (after lines) (next_revision s) kind) ≡ Some sess → sess.timeout ≡ timeout → sess.passwd ≡ passwd
        → number ≡ pos (after (lines ++ line_of s kind ∷ [])).updates → IsOwnSession (lines ++ line_of s kind ∷ []) c id timeout passwd (revision u) number
    session-in least timeout passwd number sess done there t p n =
        let z : revision u ≡ next_revision s = (let g = done.grown in omega (arith, ints, g)) in
        let end : state_at (lines ++ line_of s kind ∷ []) (length lines + 1) ≡ after (lines ++ line_of s kind ∷ []) = whole lines (line_of s kind) in
        let first = first-there (lines ++ line_of s kind ∷ []) (length lines) (record { zxid = next_revision s; kind = kind }) (get-last lines (line_of s kind)) in
        let range = (legal-bounded (lines ++ line_of s kind ∷ []) first.0 (done.serves).legal first.1).sessions id sess (ap (session_at id) (after-push lines (line_of s kind)) ∙ there) in
        record {
          least = least;
          most = range.most;
          rises = (let g = done.grown in omega (arith, ints, z, g));
          place = length lines;
          attached = attach_of-new lines (line_of s kind) c (record { zxid = next_revision s; session = id }) out.unattached (line (next_revision s)).attaches ∙ ap (λ y. Some (length lines, record { zxid = y; session = id })) (sym z);
          update = record { zxid = next_revision s; kind = kind };
          shown = get-last lines (line_of s kind);
          same = sym z;
          counted = n ∙ ap (λ (st : State). pos st.updates) (sym end);
          session = sess;
          there = ap (session_at id) (end ∙ after-push lines (line_of s kind)) ∙ there;
          timeout_is = t;
          passwd_is = p;
        }

  module _ (t : TxnReq) (of_txn : a.ask ≡ ask.Txn t) where
    ht : carry s (ask.Txn t) ≡ Some (u, b)
    ht = ap (carry s) (sym of_txn) ∙ h

    -- a guard failed: it only read
    guards-fail : only_reads t.failure ≡ true → succeeds s t ≡ false → ((r : ℤ) (parts : List ActAns) → HasOwnLine lines c x x.phase (answer.Txn r false parts)) → Carries_to (lines ++ update_lines s u a.kind)
    guards-fail reads e own =
        let same : u ≡ s = txn-reads s u t b false ht e reads in
        let ans = txn-answered s u t b ht in
        let q = still s u a.kind (ap (λ (v : Store). v.revisions) same) in
        none-added q.revisions q.lines (subst (HasOwnLine lines c x x.phase) (sym (ans.1 ∙ ap (λ p. answer.Txn (revision u) p ans.0) e)) (own (revision u) ans.0))

    succeeded : succeeds s t ≡ true → (parts : List ActAns) × (b ≡ answer.Txn (revision u) true parts)
    succeeded e = let ans = txn-answered s u t b ht in (ans.0, ans.1 ∙ ap (λ p. answer.Txn (revision u) p ans.0) e)

    carried-so : (parts : List ActAns) → b ≡ answer.Txn (revision u) true parts → carry s (ask.Txn t) ≡ Some (u, answer.Txn (revision u) true parts)
    carried-so parts e = ht ∙ ap (λ y. Some (u, y)) e

  creating : x.phase ≡ Creating → Carries_to (lines ++ update_lines s u a.kind)
  creating e = go (succeeds s (new_session_txn x.fresh (timeout_in x))) refl
    where
      kind : UpdateKind
      kind = NewSession x.fresh.id c

      t : TxnReq
      t = new_session_txn x.fresh (timeout_in x)

      of_kind : a.kind ≡ Some (NewSession x.fresh.id c)
      of_kind = out.kind ∙ ap (kind_of_connect c x) e

      of_txn : a.ask ≡ ask.Txn (new_session_txn x.fresh (timeout_in x))
      of_txn = some_is (sym out.asked ∙ ap (asked_in_phase x) e)

      bound : IsBound s lines (NewSession x.fresh.id c) (new_session_txn x.fresh (timeout_in x)) × (only_reads (new_session_txn x.fresh (timeout_in x)).failure ≡ true)
      bound = subst (IsBoundAs s lines (Some (NewSession x.fresh.id c))) of_txn (bound-at Creating e)

      rests : (x.request.session ≡ pos 0) × (x.request.last_zxid ≤ℤ (after lines).zxid)
      rests = subst (RestsOn s (after lines).zxid x.request) e out.rests

      go : (p : Bool) → succeeds s (new_session_txn x.fresh (timeout_in x)) ≡ p → Carries_to (lines ++ update_lines s u a.kind)
      go false f = guards-fail (new_session_txn x.fresh (timeout_in x)) of_txn bound.1 f (λ r parts. subst (λ p. HasOwnLine lines c x p (answer.Txn r false parts)) (sym e) out.unattached)
      go true f =
          let ans = succeeded (new_session_txn x.fresh (timeout_in x)) of_txn f in
          let room = update-room s u (new_session_guards x.fresh.id) (new_session_changes x.fresh (timeout_in x)) [] (ranges_of (pos 0) (session_wants x.fresh.id)) ans.0 (carried-so (new_session_txn x.fresh (timeout_in x)) of_txn ans.0 ans.1) in
          let done = plan-commits s u lines (NewSession x.fresh.id c) (new_session_txn x.fresh (timeout_in x)) b w room (λ d i r. absurd (none_some r)) bound.0 f (ht (new_session_txn x.fresh (timeout_in x)) of_txn) in
          let number = number-welcomed (new_session_guards x.fresh.id) (new_session_changes x.fresh (timeout_in x)) (session_wants x.fresh.id) s u (revision u) ans.0 (after (lines ++ line_of s (NewSession x.fresh.id c) ∷ []))
          (carried-so (new_session_txn x.fresh (timeout_in x)) of_txn ans.0 ans.1) (stands-now u (lines ++ line_of s (NewSession x.fresh.id c) ∷ []) (done.0).serves) in
          let sess = new_session (opening c lines) (connect c lines) c (next_revision s) in
          let own : IsOwnSession (lines ++ line_of s (NewSession x.fresh.id c) ∷ []) c x.fresh.id (timeout_in x) x.fresh.passwd (revision u) (number_shown ans.0) = session-in (NewSession x.fresh.id c) x.fresh.id (λ z. new-attaches c z x.fresh.id) of_kind ((k.untouched).offer).least (timeout_in x) x.fresh.passwd (number_shown ans.0) sess done.0 (session-new lines (after lines) (next_revision s) x.fresh.id c)
          (ap (λ o. granted_timeout (or_nothing (pos 0) (option_map (λ (r : ConnectRequest). r.timeout) o))) (connect-is lines c k.bytes x.request (first_shown-place (frame_shown c 0) 0 lines (k.place, k.bytes) k.framed) k.reads))
          (ap (λ o. or_nothing [] (option_map (λ (y : Fresh). y.passwd) o)) (k.untouched).offered) number in
          line-added (NewSession x.fresh.id c) x.fresh.id (λ z. new-attaches c z x.fresh.id) of_kind done.0 done.1
          (subst (λ y. HasOwnLine (lines ++ line_of s (NewSession x.fresh.id c) ∷ []) c x x.phase y) (sym ans.1)
          (subst (λ p. HasOwnLine (lines ++ line_of s (NewSession x.fresh.id c) ∷ []) c x p (answer.Txn (revision u) true ans.0)) (sym e) own))

  attaching : (seen : ℤ) (life : LeaseRec) → x.phase ≡ Attaching seen life → Carries_to (lines ++ update_lines s u a.kind)
  attaching seen life e = go (succeeds s (attach_txn x.request.session seen life)) refl
    where
      id : ℤ
      id = x.request.session

      of_kind : a.kind ≡ Some (Attach x.request.session c)
      of_kind = out.kind ∙ ap (kind_of_connect c x) e

      of_txn : a.ask ≡ ask.Txn (attach_txn x.request.session seen life)
      of_txn = some_is (sym out.asked ∙ ap (asked_in_phase x) e)

      bound : IsBound s lines (Attach x.request.session c) (attach_txn x.request.session seen life) × (only_reads (attach_txn x.request.session seen life).failure ≡ true)
      bound = subst (IsBoundAs s lines (Some (Attach x.request.session c))) of_txn (bound-at (Attaching seen life) e)

      saw : IsSeenLife s x.request seen life × (x.request.last_zxid ≤ℤ (after lines).zxid)
      saw = subst (RestsOn s (after lines).zxid x.request) e out.rests

      go : (p : Bool) → succeeds s (attach_txn x.request.session seen life) ≡ p → Carries_to (lines ++ update_lines s u a.kind)
      go false f = guards-fail (attach_txn x.request.session seen life) of_txn bound.1 f (λ r parts. subst (λ p. HasOwnLine lines c x p (answer.Txn r false parts)) (sym e) out.unattached)
      go true f =
          let ans = succeeded (attach_txn x.request.session seen life) of_txn f in
          let room = update-room s u (attach_guards x.request.session seen) (attach_changes x.request.session life) [] (ranges_of (pos 0) (attach_wants x.request.session)) ans.0 (carried-so (attach_txn x.request.session seen life) of_txn ans.0 ans.1) in
          let done = plan-commits s u lines (Attach x.request.session c) (attach_txn x.request.session seen life) b w room (λ d i r. absurd (none_some r)) bound.0 f (ht (attach_txn x.request.session seen life) of_txn) in
          let number = number-welcomed (attach_guards x.request.session seen) (attach_changes x.request.session life) (attach_wants x.request.session) s u (revision u) ans.0 (after (lines ++ line_of s (Attach x.request.session c) ∷ []))
          (carried-so (attach_txn x.request.session seen life) of_txn ans.0 ans.1) (stands-now u (lines ++ line_of s (Attach x.request.session c) ∷ []) (done.0).serves) in
          let d = session-attached x.request.session seen life lines c (present s) (after lines) (next_revision s) (saw.0).session (saw.0).put (saw.0).within (stands-now s lines w) (was-seen s x.request.session seen life (saw.0).was) f (zxid-next s lines w) (next-room s room) in
          let sess : Session = record (d.session) { connection = c; attached = next_revision s } in
          let own = session-in (Attach x.request.session c) x.request.session (λ z. anew-attaches c z x.request.session) of_kind (saw.0).session life.timeout life.passwd (number_shown ans.0) sess done.0 (session-anew lines (after lines) (next_revision s) x.request.session c d.session d.there)
          d.timeout d.passwd number in
          line-added (Attach x.request.session c) x.request.session (λ z. anew-attaches c z x.request.session) of_kind done.0 done.1
          (subst (λ y. HasOwnLine (lines ++ line_of s (Attach x.request.session c) ∷ []) c x x.phase y) (sym ans.1)
          (subst (λ p. HasOwnLine (lines ++ line_of s (Attach x.request.session c) ∷ []) c x p (answer.Txn (revision u) true ans.0)) (sym e) own))

  by-phase : (p : Phase) → x.phase ≡ p → RestsOn s (after lines).zxid x.request p → Carries_to (lines ++ update_lines s u a.kind)
  by-phase Unasked e r = absurd r
  by-phase Looking e r = read-out Looking e refl (subst (λ p. HasOwnLine lines c x p b) (sym e) out.unattached)
  by-phase Granting e r = read-out Granting e refl (subst (λ p. HasOwnLine lines c x p b) (sym e) out.unattached)
  by-phase Creating e r = creating e
  by-phase (Keeping seen life) e r = read-out (Keeping seen life) e refl (subst (λ p. HasOwnLine lines c x p b) (sym e) out.unattached)
  by-phase LookingAgain e r = read-out LookingAgain e refl (subst (λ p. HasOwnLine lines c x p b) (sym e) out.unattached)
  by-phase (Attaching seen life) e r = attaching seen life e
  by-phase Over e r = absurd r

  pub connect-carried : IsConnecting u (lines ++ update_lines s u a.kind) c core x (Some (Carried b))
  connect-carried = by-phase x.phase refl out.rests

pub connect-denied : (s : Store) (lines : List TranscriptLine) (c : ℕ) (core : Core) (x : Connect) (a : Asking) → IsConnecting s lines c core x (Some (Out a)) → IsConnecting s lines c core x (Some Denied)
connect-denied s lines c core x a k = record { untouched = k.untouched; next = k.next; waiting = k.waiting; place = k.place; bytes = k.bytes; framed = k.framed; reads = k.reads; flies = (k.flies).unattached }
