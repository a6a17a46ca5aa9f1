-- What the line of a session's update says of the connection and of the state before it.
use Rattle.std.proofs.Common.{◌≡◌, ℕ, List, Option, Some, None, refl, sym, true, false, ℤ, pos}
use Rattle.std.specs.Prelude.{◌&&◌, ◌<ℤ◌, not, bytes_eq, is_none, int_lt, slice_get, take}
use Rattle.std.specs.Ordering.{int_eq}
use Rattle.std.proofs.lemmas.Bool.{and_parts}
use Rattle.std.proofs.lemmas.Bool.Decides.{Decides-int_eq}
use Rattle.std.proofs.lemmas.Int.{ints}
use Rattle.std.proofs.Common.{arith}
use Rattle.std.proofs.lemmas.Slice.Eq.{bytes_eq-Decides}
use Rattle.zk_model.specs.declared.connect.ConnectRequest.{ConnectRequest}
use Rattle.zk_service.specs.declared.fresh.Fresh.{Fresh}
use Rattle.zk_service.specs.declared.update.UpdateKind.TheVariants.{Session as NewSession, Attach, Reaped}
use Rattle.zk_transcript.specs.declared.transcript.TranscriptLine.{TranscriptLine}
use Rattle.zk_transcript.specs.declared.transcript.TranscriptLine.TheVariants.{Update}
use Rattle.zk_service.specs.States.{Session, session_at}
use Rattle.zk_transcript.specs.History.{opening, connect, frame, state_at}
use Rattle.zk_transcript.specs.Legal.{attach_of, asks_anew, is_id, is_legal, is_lapsed, is_next_zxid, is_resumed_by, is_small_frame, may_attach, may_update, offers}
use Rattle.zk_transcript.proofs.Placed.{is_legal-at}
use Rattle.zx_base.proofs.Booleans.{not-true}
use Rattle.zx_base.proofs.Options.{none-from_is_none}

resumed : (id : ℤ) (o : Option ConnectRequest) (p : Option Session) → is_resumed_by id o p ≡ true
    → (r : ConnectRequest) × (x : Session) × (o ≡ Some r) × (p ≡ Some x) × (r.session ≡ id) × (r.passwd ≡ x.passwd) × (x.lapsed ≡ false)
resumed id None p h = absurd (cc)
resumed id (Some r) None h = absurd (cc)
resumed id (Some r) (Some x) h =
    let a = and_parts (int_eq id r.session && bytes_eq r.passwd x.passwd) (not x.lapsed) h in
    let b = and_parts (int_eq id r.session) (bytes_eq r.passwd x.passwd) a.0 in
    (r, x, refl, refl, sym ((Decides-int_eq id r.session).0 b.0), (bytes_eq-Decides r.passwd x.passwd).0 b.1, not-true x.lapsed a.1)

pub attach-shows : (lines : List TranscriptLine) (k c : ℕ) (z id : ℤ) → is_legal lines ≡ true → slice_get lines k ≡ Some (Update (record { zxid = z; kind = Attach id c }))
    → (r : ConnectRequest) × (x : Session) × (connect c (take k lines) ≡ Some r) × (session_at id (state_at lines k) ≡ Some x) × (r.session ≡ id) × (r.passwd ≡ x.passwd) × (x.lapsed ≡ false)
unfolding may_update
attach-shows lines k c z id h g =
    let may = (and_parts (may_update (take k lines) (state_at lines k) z (Attach id c)) (is_next_zxid (state_at lines k) z) (is_legal-at lines k _ h g)).0 in
    resumed id (connect c (take k lines)) (session_at id (state_at lines k)) (and_parts _ (may_attach (take k lines) c z (connect c (take k lines))) may).0

lapsed : (o : Option Session) → is_lapsed o ≡ true → (x : Session) × (o ≡ Some x) × (x.lapsed ≡ true)
lapsed None h = absurd (cc)
lapsed (Some x) h = (x, refl, h)

pub reaped-lapsed : (lines : List TranscriptLine) (k : ℕ) (z id : ℤ) → is_legal lines ≡ true → slice_get lines k ≡ Some (Update (record { zxid = z; kind = Reaped id }))
    → (x : Session) × (session_at id (state_at lines k) ≡ Some x) × (x.lapsed ≡ true)
unfolding may_update
reaped-lapsed lines k z id h g =
    lapsed (session_at id (state_at lines k)) (and_parts (may_update (take k lines) (state_at lines k) z (Reaped id)) (is_next_zxid (state_at lines k) z) (is_legal-at lines k _ h g)).0

offered : (id : ℤ) (o : Option Fresh) → offers id o ≡ true → (f : Fresh) × (o ≡ Some f) × (f.id ≡ id)
offered id None h = absurd (cc)
offered id (Some f) h = (f, refl, sym ((Decides-int_eq id f.id).0 h))

anew : (o : Option ConnectRequest) → asks_anew o ≡ true → (r : ConnectRequest) × (o ≡ Some r) × (r.session ≡ pos 0)
anew None h = absurd (cc)
anew (Some r) h = (r, refl, (Decides-int_eq r.session (pos 0)).0 h)

pub session-offered : (lines : List TranscriptLine) (k c : ℕ) (z id : ℤ) → is_legal lines ≡ true → slice_get lines k ≡ Some (Update (record { zxid = z; kind = NewSession id c }))
    → (f : Fresh) × (r : ConnectRequest) × (opening c (take k lines) ≡ Some f) × (connect c (take k lines) ≡ Some r) × (f.id ≡ id) × (r.session ≡ pos 0) × (session_at id (state_at lines k) ≡ None)
unfolding may_update
session-offered lines k c z id h g =
    let may = (and_parts (may_update (take k lines) (state_at lines k) z (NewSession id c)) (is_next_zxid (state_at lines k) z) (is_legal-at lines k _ h g)).0 in
    let a = and_parts _ (may_attach (take k lines) c z (connect c (take k lines))) may in
    let b = and_parts _ (asks_anew (connect c (take k lines))) a.0 in
    let d = and_parts _ (offers id (opening c (take k lines))) b.0 in
    let e = and_parts (is_none (session_at id (state_at lines k))) (is_id id) d.0 in
    let o = offered id (opening c (take k lines)) d.1 in
    let r = anew (connect c (take k lines)) b.1 in
    (o.0, r.0, o.1, r.1, o.2, r.2, none-from_is_none (session_at id (state_at lines k)) e.0)

seen-less : (before : List TranscriptLine) (c : ℕ) (z : ℤ) (o : Option ConnectRequest) (r : ConnectRequest) → o ≡ Some r → may_attach before c z o ≡ true → r.last_zxid <ℤ z
seen-less before c z None r is h = absurd (cc)
seen-less before c z (Some q) r is h =
    let same : q ≡ r = cc in
    let up = (and_parts (is_none (attach_of c before) && is_small_frame (frame c 0 before)) (int_lt q.last_zxid z) h).1 in
    let less : q.last_zxid <ℤ z = grind (arith, ints, up) in
    rw (sym same) less

pub attach-after : (lines : List TranscriptLine) (k c : ℕ) (z id : ℤ) (r : ConnectRequest) → is_legal lines ≡ true → slice_get lines k ≡ Some (Update (record { zxid = z; kind = Attach id c })) → connect c (take k lines) ≡ Some r → r.last_zxid <ℤ z
unfolding may_update
attach-after lines k c z id r h g is =
    let may = (and_parts (may_update (take k lines) (state_at lines k) z (Attach id c)) (is_next_zxid (state_at lines k) z) (is_legal-at lines k _ h g)).0 in
    seen-less (take k lines) c z (connect c (take k lines)) r is (and_parts (is_resumed_by id (connect c (take k lines)) (session_at id (state_at lines k))) _ may).1
