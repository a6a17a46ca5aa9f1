-- The transaction of a session's begin or attachment, and of a reaper's plan, may be carried out whenever its guards hold.
use Rattle.std.proofs.Common.{◌≡◌, ℕ, ◌≤◌, List, length, refl, sym, ap, ◌∙◌, subst, arith, Bool, true, false, ℤ, pos}
use Rattle.std.specs.Prelude.{Option, Some, not, ◌≤ℤ◌, ◌&&◌, nat_le, is_none, bytes_eq, int_lt}
use Rattle.std.specs.FinMap.{get}
use Rattle.std.specs.Ordering.{int_eq}
use Rattle.std.specs.List.{list_all}
use Rattle.std.proofs.lemmas.Bool.Decides.{nat_tests}
use Rattle.std.proofs.lemmas.Int.{ints}
use Rattle.std.proofs.lemmas.Slice.Eq.{bytes_eq-Decides}
use Rattle.ev_types.specs.Store.{Store, acts_applied, holds, last_revision, mod_of, present, revision, store_at}
use Rattle.ev_types.specs.declared.answer.Kv.{Kv}
use Rattle.ev_types.specs.declared.ask.TxnReq.{TxnReq}
use Rattle.zk_model.specs.Limits.{max_frame}
use Rattle.zk_model.specs.declared.connect.ConnectRequest.{ConnectRequest}
use Rattle.zk_transcript.proofs.SoundHistories.{legal-sound}
use Rattle.zk_service.specs.States.{Session, granted_timeout, session_at, session_ended}
use Rattle.zk_transcript.specs.History.{after, connect, frame, updated}
use Rattle.zk_transcript.specs.Legal.{asks_anew, attach_of, is_id, is_lapsed, is_resumed_by, is_small_frame, may_attach, may_update, offers}
use Rattle.zk_transcript.specs.declared.transcript.TranscriptLine.{TranscriptLine}
use Rattle.zk_service.specs.declared.update.UpdateKind.TheVariants.{Session as NewSession, Attach, Reaped}
use Rattle.zn_layout.specs.Keys.{key_bytes}
use Rattle.zn_layout.specs.Records.{lease_value}
use Rattle.zn_layout.specs.StandsFor.{StandsFor, at}
use Rattle.zn_layout.specs.declared.record.LeaseRec.{LeaseRec}
use Rattle.zp_laws.proofs.Revisions.{agrees-found, may-commit}
use Rattle.ev_types.proofs.Revisions.{later_as_it_was}
use Rattle.zp_laws.proofs.Attachments.{session-attached}
use Rattle.zp_laws.proofs.NewSessions.{new_session-commits}
use Rattle.zs_session.specs.Sessions.{attach_guards, life_key, new_session_txn}
use Rattle.zx_base.proofs.Options.{some_is}
use Rattle.zp_world_laws.proofs.Commits.{stands-now, zxid-next}
use Rattle.zp_world_laws.proofs.Plans.{number-is}
use Rattle.zp_world_laws.specs.Bounds.{IsBoundAttach, IsBoundNew, IsBoundReap, IsUnattached, WasLifeOf}
use Rattle.zp_world_laws.specs.Serving.{Commits, GuardsHold, StoreServes, next_revision}
use Rattle.zx_base.proofs.Booleans.{and-both as both-true, same-int}

small-is : (n : ℕ) → n ≤ max_frame → nat_le n max_frame ≡ true
small-is n le = grind (arith, nat_tests)

below-next : (s : Store) (z : ℤ) → z ≤ℤ revision s → int_lt z (next_revision s) ≡ true
below-next s z h = grind (arith, ints, h)

-- a connection without a session, whose client has seen no update that is to come
attachable : (s : Store) (lines : List TranscriptLine) (c : ℕ) (r : ConnectRequest) → IsUnattached s lines c r → may_attach lines c (next_revision s) (connect c lines) ≡ true
attachable s lines c r u =
    ap (may_attach lines c (next_revision s)) u.connected
    ∙ both-true (is_none (attach_of c lines) && is_small_frame (frame c 0 lines)) (int_lt r.last_zxid (next_revision s))
    (both-true (is_none (attach_of c lines)) (is_small_frame (frame c 0 lines)) (ap is_none u.unattached) (ap is_small_frame u.framed ∙ small-is (length u.bytes) u.small))
    (below-next s r.last_zxid u.past)

four : (a b c d e : Bool) → a ≡ true → b ≡ true → c ≡ true → d ≡ true → e ≡ true → (a && b && c && d && e) ≡ true
four a b c d e x y z u v = both-true (a && b && c && d) e (both-true (a && b && c) d (both-true (a && b) c (both-true a b x y) z) u) v

-- ---- a new session

pub new-commits : (s : Store) (lines : List TranscriptLine) (c : ℕ) (id : ℤ) (t : TxnReq) → StoreServes s lines → next_revision s ≤ℤ last_revision → IsBoundNew s lines c id t → GuardsHold s t → Commits s lines (NewSession id c) t
unfolding may_update updated
new-commits s lines c id t w room b h =
    let z = next_revision s in
    let f = b.fresh in
    let guards : list_all (holds (present s)) (new_session_txn f (granted_timeout (b.request).timeout)).guards ≡ true = subst (λ (p : TxnReq). list_all (holds (present s)) p.guards ≡ true) b.txn h in
    let d = new_session-commits f b.request lines c (present s) (after lines) z b.least b.long b.offered (b.connected).connected (legal-sound lines w.legal) (stands-now s lines w) guards (zxid-next s lines w) room in
    let none : is_none (session_at id (after lines)) ≡ true = ap (λ (n : ℤ). is_none (session_at n (after lines))) (sym b.own) ∙ ap is_none d.closed in
    record {
      may = four _ _ _ _ _ none (ap is_id (sym b.own) ∙ number-is f.id b.least b.most) (ap (offers id) b.offered ∙ same-int id f.id (sym b.own)) (ap asks_anew (b.connected).connected ∙ same-int (b.request).session (pos 0) b.anew) (attachable s lines c b.request b.connected);
      ordered = refl;
      stands = subst (λ (p : TxnReq). StandsFor (acts_applied z (present s) p.success) (updated lines (after lines) z (NewSession id c))) (sym b.txn)
          (subst (λ (n : ℤ). StandsFor (acts_applied z (present s) (new_session_txn f (granted_timeout (b.request).timeout)).success) (updated lines (after lines) z (NewSession n c))) b.own d.stands);
      zxid = refl;
    }

-- ---- an attachment

-- what is kept at the revision that was seen is the record that was seen
pub was-seen : (s : Store) (id seen : ℤ) (life : LeaseRec) → WasLifeOf s id seen life → (kv : Kv) → at (present s) (life_key id) ≡ Some kv → kv.mod_revision ≡ seen → kv.value ≡ lease_value life
was-seen s id seen life w kv there e =
    let k = key_bytes (life_key id) in
    let mods : mod_of (get (present s) k) ≡ mod_of (get (store_at s w.number) k) = ap mod_of there ∙ e ∙ sym w.put ∙ sym (ap mod_of w.there) in
    let same : get (present s) k ≡ get (store_at s w.number) k = later_as_it_was s w.number (length s.revisions) k w.known mods in
    ap (λ (x : Kv). x.value) (some_is (sym there ∙ same ∙ w.there)) ∙ w.value

resumed : (r : ConnectRequest) (id : ℤ) (x : Session) (p : List ℕ) → r.session ≡ id → x.lapsed ≡ false → x.passwd ≡ p → p ≡ r.passwd → is_resumed_by id (Some r) (Some x) ≡ true
resumed r id x p own alive a b =
    both-true (int_eq id r.session && bytes_eq r.passwd x.passwd) (not x.lapsed)
    (both-true (int_eq id r.session) (bytes_eq r.passwd x.passwd) (same-int id r.session (sym own)) ((bytes_eq-Decides r.passwd x.passwd).1 (sym (a ∙ b))))
    (ap not alive)

pub attach-commits : (s : Store) (lines : List TranscriptLine) (c : ℕ) (id : ℤ) (t : TxnReq) → StoreServes s lines → next_revision s ≤ℤ last_revision → IsBoundAttach s lines c id t → GuardsHold s t → Commits s lines (Attach id c) t
unfolding may_update updated
attach-commits s lines c id t w room b h =
    let z = next_revision s in
    let guards : list_all (holds (present s)) (attach_guards id b.seen) ≡ true = subst (λ (p : TxnReq). list_all (holds (present s)) p.guards ≡ true) b.txn h in
    let d = session-attached id b.seen b.life lines c (present s) (after lines) z b.least b.put b.within (stands-now s lines w) (was-seen s id b.seen b.life b.was) guards (zxid-next s lines w) room in
    record {
      may = both-true _ _
          (ap (λ (o : Option ConnectRequest). is_resumed_by id o (session_at id (after lines))) (b.connected).connected ∙ ap (is_resumed_by id (Some b.request)) d.there ∙ resumed b.request id d.session (b.life).passwd b.own d.live d.passwd b.passwd)
          (attachable s lines c b.request b.connected);
      ordered = refl;
      stands = subst (λ (p : TxnReq). StandsFor (acts_applied z (present s) p.success) (updated lines (after lines) z (Attach id c))) (sym b.txn) d.stands;
      zxid = refl;
    }

-- ---- the end of a session that has lapsed

pub reap-commits : (s : Store) (lines : List TranscriptLine) (id : ℤ) (t : TxnReq) → StoreServes s lines → next_revision s ≤ℤ last_revision → IsBoundReap s id t → GuardsHold s t → Commits s lines (Reaped id) t
unfolding may_update updated
reap-commits s lines id t w room b h =
    let z = next_revision s in
    let guards : list_all (holds (present s)) (b.plan).guards ≡ true = subst (λ (p : TxnReq). list_all (holds (present s)) p.guards ≡ true) b.txn h in
    let found = agrees-found b.view (store_at s b.number) b.agrees in
    let may = may-commit s b.view b.plan b.number (length s.revisions) ((b.reaps).reads).keys b.known found ((stands-now s lines w).layout).least b.put ((b.reaps).reads).guards guards in
    let r = (b.reaps).ends (present s) (after lines) z (legal-sound lines w.legal) (stands-now s lines w) may (zxid-next s lines w) room in
    record {
      may = ap is_lapsed r.is_open ∙ r.lapsed;
      ordered = refl;
      stands = subst (λ (p : TxnReq). StandsFor (acts_applied z (present s) p.success) (session_ended (after lines) z id)) (sym b.txn) r.keys;
      zxid = refl;
    }
