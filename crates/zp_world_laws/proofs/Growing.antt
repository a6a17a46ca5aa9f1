-- What goes on serving, and what stays bound, while the store and the transcript grow.
use Rattle.std.proofs.Common.{◌≡◌, ℕ, suc, zero, ◌+◌, ◌≤◌, ◌<◌, List, [], ◌∷◌, ◌++◌, length, take, refl, sym, ap, ◌∙◌, subst, arith, true, false, ℤ, pos, inl, inr}
use Rattle.std.specs.Prelude.{Option, Some, None, ◌⊎◌, ◌≤ℤ◌, option_and_then, int_le, slice_get}
use Rattle.std.specs.FinMap.{empty}
use Rattle.zk_jute.specs.Connects.{read_connect}
use Rattle.std.proofs.Math.Seq.{take-length}
use Rattle.std.proofs.lemmas.Bool.Decides.{nat_tests}
use Rattle.std.proofs.lemmas.Int.{ints}
use Rattle.std.proofs.lemmas.List.{length-append}
use Rattle.std.proofs.lemmas.Option.{slice_get_within}
use Rattle.ev_types.proofs.Grown.{earlier-grown}
use Rattle.ev_types.specs.Store.{Change, Store, grown, keys_from, present, revision, store_at}
use Rattle.ev_types.specs.declared.ask.Ask.{Ask}
use Rattle.ev_types.specs.declared.ask.Ask.TheVariants as ask
use Rattle.ev_types.specs.declared.ask.TxnReq.{TxnReq}
use Rattle.zk_model.specs.declared.connect.ConnectRequest.{ConnectRequest}
use Rattle.zk_transcript.proofs.Appending.{after-push, first_place-push, is_legal-push, is_ordered-push}
use Rattle.zk_transcript.proofs.Attachments.{attach_of-push}
use Rattle.zk_transcript.proofs.Histories.{first_shown-push}
use Rattle.zk_transcript.proofs.Walks.{state_at-push}
use Rattle.zk_transcript.specs.Conversations.{IsShownFresh}
use Rattle.zk_service.specs.States.{State}
use Rattle.zk_transcript.specs.History.{after, change, connect, frame, frame_shown, open_shown, state_at}
use Rattle.zk_transcript.specs.Legal.{attach_of, is_in_order, is_legal_line}
use Rattle.zk_transcript.specs.Walks.{packets}
use Rattle.zk_transcript.specs.declared.transcript.TranscriptLine.{TranscriptLine}
use Rattle.zk_transcript.specs.declared.transcript.TranscriptLine.TheVariants.{Update, Frame as FrameLine, Lapse}
use Rattle.zk_service.specs.declared.update.UpdateKind.{UpdateKind}
use Rattle.zk_service.specs.declared.update.UpdateKind.TheVariants.{Begin, Session as NewSession, Attach, Asked, Closed, Reaped}
use Rattle.zn_layout.specs.StandsFor.{StandsFor, at}
use Rattle.zn_view.specs.Views.{Agrees}
use Rattle.zp_laws.specs.Inputs.{Precedes}
use Rattle.zp_laws.specs.Standing.{IsMadeOf}
use Rattle.zs_session.specs.Sessions.{life_key}
use Rattle.zn_layout.specs.declared.record.LeaseRec.{LeaseRec}
use Rattle.zp_script.specs.declared.flight.Asking.{Asking}
use Rattle.zp_world_laws.proofs.Moments.{below-or-last, le-or-next, newer, older}
use Rattle.zp_world_laws.proofs.Talking.{is_quiet}
use Rattle.zp_world_laws.specs.Bounds.{IsBound, IsBoundAs, IsBoundAsk, IsBoundAttach, IsBoundNew, IsBoundReap, IsBoundRequest, IsUnattached, WasLifeOf, attachment}
use Rattle.zp_world_laws.specs.Holding.{attaches}
use Rattle.zp_world_laws.specs.Serving.{StoreServes, is_up_to, line_revision, moment_of}

-- ---- an older store, and perhaps further revisions

longer-grown : (s : Store) (cs : List Change) → length s.revisions ≤ length (grown s cs).revisions
longer-grown s [] = omega arith
longer-grown s (c ∷ cs) = let e = length-append s.revisions ((c ∷ cs) ∷ []) in omega (arith, e)

pub grown-precedes : (s : Store) (cs : List Change) → Precedes s (grown s cs)
grown-precedes s cs = record { longer = longer-grown s cs; same = earlier-grown s cs }

pub store_at-same : (s u : Store) (r : ℕ) → u.revisions ≡ s.revisions → store_at u r ≡ store_at s r
unfolding store_at
store_at-same s u r e = ap (λ l. keys_from 1 empty (take r l)) e

pub present-same : (s u : Store) → u.revisions ≡ s.revisions → present u ≡ present s
present-same s u e = ap (λ l. store_at u (length l)) e ∙ store_at-same s u (length s.revisions) e

pub same-precedes : (s u : Store) → u.revisions ≡ s.revisions → Precedes s u
same-precedes s u e = record { longer = omega (arith, ap length e); same = λ r h. store_at-same s u r e }

pub precedes-trans : (s u v : Store) → Precedes s u → Precedes u v → Precedes s v
precedes-trans s u v a b = record { longer = omega (arith, a.longer, b.longer); same = λ r h. b.same r (omega (arith, h, a.longer)) ∙ a.same r h }

-- ---- what is out stays bound

request-kept : (s u : Store) (lines more : List TranscriptLine) (c i : ℕ) (kind : UpdateKind) (t : TxnReq) → Precedes s u → IsBoundRequest s lines c i kind t → IsBoundRequest u (lines ++ more) c i kind t
request-kept s u lines more c i kind t x b =
    let f = (b.framed).frame in
    let p = b.bound in
    record {
      who = b.who;
      place = b.place;
      attached = attach_of-push lines more c (b.place, attachment b.who) b.attached;
      least = b.least;
      most = b.most;
      rises = b.rises;
      index = b.index;
      xid = b.xid;
      request = b.request;
      framed = record {
        bytes = (b.framed).bytes;
        frame = record { place = f.place; framed = first_place-push (frame_shown c i) 0 lines more (f.place, (b.framed).bytes) f.framed; header = f.header; small = f.small };
        reads = (b.framed).reads;
      };
      small = b.small;
      tree = b.tree;
      time = b.time;
      of_kind = b.of_kind;
      view = b.view;
      plan = b.plan;
      bound = record {
        number = p.number;
        revision = p.revision;
        known = omega (arith, p.known, x.longer);
        made_of = subst (IsMadeOf b.request b.view b.plan) (sym (x.same p.number p.known)) p.made_of;
        put = p.put;
        good = p.good;
        keepable = p.keepable;
      };
      txn = b.txn;
    }

pub reap-kept : (s u : Store) (id : ℤ) (t : TxnReq) → Precedes s u → IsBoundReap s id t → IsBoundReap u id t
reap-kept s u id t x b = record {
  view = b.view;
  plan = b.plan;
  reaps = b.reaps;
  number = b.number;
  known = omega (arith, b.known, x.longer);
  agrees = subst (Agrees b.view) (sym (x.same b.number b.known)) b.agrees;
  put = b.put;
  txn = b.txn;
}

later-past : (z : ℤ) (a b : ℕ) → z ≤ℤ pos a → a ≤ b → z ≤ℤ pos b
later-past z a b h le = omega (arith, ints, h, le)

connect-push : (lines more : List TranscriptLine) (c : ℕ) (bytes : List ℕ) → frame c 0 lines ≡ Some bytes → connect c (lines ++ more) ≡ connect c lines
connect-push lines more c bytes h = ap (option_and_then read_connect) (first_shown-push (frame_shown c 0) lines more bytes h ∙ sym h)

unattached-kept : (s u : Store) (lines more : List TranscriptLine) (c : ℕ) (r : ConnectRequest) → Precedes s u → attach_of c (lines ++ more) ≡ None → packets c (lines ++ more) ≡ [] → IsUnattached s lines c r → IsUnattached u (lines ++ more) c r
unattached-kept s u lines more c r x none silent b = record {
  unattached = none;
  silent = silent;
  bytes = b.bytes;
  framed = first_shown-push (frame_shown c 0) lines more b.bytes b.framed;
  small = b.small;
  connected = connect-push lines more c b.bytes b.framed ∙ b.connected;
  past = later-past r.last_zxid (length s.revisions) (length u.revisions) b.past x.longer;
}

new-kept : (s u : Store) (lines more : List TranscriptLine) (c : ℕ) (id : ℤ) (t : TxnReq) → Precedes s u → attach_of c (lines ++ more) ≡ None → packets c (lines ++ more) ≡ [] → IsBoundNew s lines c id t → IsBoundNew u (lines ++ more) c id t
new-kept s u lines more c id t x none silent b = record {
  request = b.request;
  connected = unattached-kept s u lines more c b.request x none silent b.connected;
  anew = b.anew;
  fresh = b.fresh;
  own = b.own;
  least = b.least;
  most = b.most;
  long = b.long;
  offered = first_shown-push (open_shown c) lines more b.fresh b.offered;
  txn = b.txn;
}

pub was-kept : (s u : Store) (id seen : ℤ) (life : LeaseRec) → Precedes s u → WasLifeOf s id seen life → WasLifeOf u id seen life
was-kept s u id seen life x w = record { number = w.number; known = omega (arith, w.known, x.longer); kv = w.kv; there = subst (λ m. at m (life_key id) ≡ Some w.kv) (sym (x.same w.number w.known)) w.there; put = w.put; value = w.value }

attach-kept : (s u : Store) (lines more : List TranscriptLine) (c : ℕ) (id : ℤ) (t : TxnReq) → Precedes s u → attach_of c (lines ++ more) ≡ None → packets c (lines ++ more) ≡ [] → IsBoundAttach s lines c id t → IsBoundAttach u (lines ++ more) c id t
attach-kept s u lines more c id t x none silent b = record {
  request = b.request;
  connected = unattached-kept s u lines more c b.request x none silent b.connected;
  own = b.own;
  least = b.least;
  seen = b.seen;
  life = b.life;
  put = b.put;
  within = b.within;
  passwd = b.passwd;
  was = was-kept s u id b.seen b.life x b.was;
  txn = b.txn;
}

-- the further lines neither attach nor send to a connection that this update attaches
abbrev pub Apart : List TranscriptLine → List TranscriptLine → UpdateKind → Type 0
Apart lines more kind = (c : ℕ) → attaches kind ≡ Some c → (attach_of c (lines ++ more) ≡ attach_of c lines) × (packets c (lines ++ more) ≡ packets c lines)

bound-kept : (s u : Store) (lines more : List TranscriptLine) (kind : UpdateKind) (t : TxnReq) → Precedes s u → Apart lines more kind → IsBound s lines kind t → IsBound u (lines ++ more) kind t
bound-kept s u lines more (Begin n) t x p b = b
bound-kept s u lines more (NewSession id c) t x p b = let a = p c refl in new-kept s u lines more c id t x (a.0 ∙ (b.connected).unattached) (a.1 ∙ (b.connected).silent) b
bound-kept s u lines more (Attach id c) t x p b = let a = p c refl in attach-kept s u lines more c id t x (a.0 ∙ (b.connected).unattached) (a.1 ∙ (b.connected).silent) b
bound-kept s u lines more (Asked c i now) t x p b = request-kept s u lines more c i (Asked c i now) t x b
bound-kept s u lines more (Closed sid c i) t x p b = request-kept s u lines more c i (Closed sid c i) t x b
bound-kept s u lines more (Reaped id) t x p b = reap-kept s u id t x b

abbrev pub ApartIn : List TranscriptLine → List TranscriptLine → Option UpdateKind → Type 0
ApartIn lines more None = Unit {0}
ApartIn lines more (Some kind) = Apart lines more kind

bound-as-kept : (s u : Store) (lines more : List TranscriptLine) (kind : Option UpdateKind) (a : Ask) → Precedes s u → ApartIn lines more kind → IsBoundAs s lines kind a → IsBoundAs u (lines ++ more) kind a
bound-as-kept s u lines more (Some kind) (ask.Txn t) x p b = (bound-kept s u lines more kind t x p b.0, b.1)
bound-as-kept s u lines more (Some kind) (ask.Range q) x p b = b
bound-as-kept s u lines more (Some kind) (ask.Grant id ttl) x p b = b
bound-as-kept s u lines more (Some kind) (ask.Alive id) x p b = b
bound-as-kept s u lines more None (ask.Txn t) x p b = b
bound-as-kept s u lines more None (ask.Range q) x p b = b
bound-as-kept s u lines more None (ask.Grant id ttl) x p b = b
bound-as-kept s u lines more None (ask.Alive id) x p b = b

pub ask-kept : (s u : Store) (lines more : List TranscriptLine) (a : Asking) → Precedes s u → ApartIn lines more a.kind → IsBoundAsk s lines a → IsBoundAsk u (lines ++ more) a
ask-kept s u lines more a x p b = bound-as-kept s u lines more a.kind a.ask x p b

-- ---- the store serves the lines

pub quiet-change : (lines : List TranscriptLine) (l : TranscriptLine) (s : State) → is_quiet l ≡ true → change lines s l ≡ s
quiet-change lines (Update u) s h = absurd (cc)
quiet-change lines (Lapse r id) s h = absurd (cc)
quiet-change lines _ s h = refl

quiet-legal : (lines : List TranscriptLine) (l : TranscriptLine) (s : State) → is_quiet l ≡ true → is_legal_line lines s l ≡ true
quiet-legal lines (Update u) s h = absurd (cc)
quiet-legal lines _ s h = refl

quiet-in-order : (lines : List TranscriptLine) (l : TranscriptLine) → is_quiet l ≡ true → is_in_order lines l ≡ true
quiet-in-order lines (Update u) h = absurd (cc)
quiet-in-order lines _ h = refl

quiet-revision : (r : ℤ) (l : TranscriptLine) → is_quiet l ≡ true → is_up_to r (line_revision l) ≡ false
quiet-revision r (Update u) h = absurd (cc)
quiet-revision r (Lapse z id) h = absurd (cc)
quiet-revision r _ h = refl

pub serves-quiet : (s : Store) (lines : List TranscriptLine) (l : TranscriptLine) → is_quiet l ≡ true → StoreServes s lines → StoreServes s (lines ++ l ∷ [])
serves-quiet s lines l q w = record {
  legal = is_legal-push lines l w.legal (quiet-legal lines l (after lines) q);
  ordered = is_ordered-push lines l w.ordered (quiet-in-order lines l q);
  begun = w.begun;
  stands = λ r lo hi. subst (StandsFor (store_at s r)) (sym (older lines l r (quiet-revision (pos r) l q))) (w.stands r lo hi);
  settled = λ r h. older lines l r (quiet-revision (pos r) l q) ∙ w.settled r h ∙ sym (after-push lines l ∙ quiet-change lines l (after lines) q);
}

pub serves-same : (s u : Store) (lines : List TranscriptLine) → u.revisions ≡ s.revisions → StoreServes s lines → StoreServes u lines
serves-same s u lines e w = record {
  legal = w.legal;
  ordered = w.ordered;
  begun = omega (arith, w.begun, ap length e);
  stands = λ r lo hi. subst (λ m. StandsFor m (state_at lines (moment_of lines (pos r)))) (sym (store_at-same s u r e)) (w.stands r lo (omega (arith, hi, ap length e)));
  settled = λ r h. w.settled r (omega (arith, h, ap length e));
}

-- a revision without a line: what others write
pub serves-silent : (s u : Store) (lines : List TranscriptLine) → Precedes s u → length u.revisions ≡ length s.revisions + 1 → StandsFor (present u) (after lines) → StoreServes s lines → StoreServes u lines
serves-silent s u lines x one now w = record {
  legal = w.legal;
  ordered = w.ordered;
  begun = omega (arith, w.begun, one);
  stands = λ r lo hi. elim (le-or-next r (length s.revisions) (omega (arith, hi, one))) [
    | inl old ↦ subst (λ m. StandsFor m (state_at lines (moment_of lines (pos r)))) (sym (x.same r old)) (w.stands r lo old)
    | inr new ↦ subst (λ m. StandsFor m (state_at lines (moment_of lines (pos r)))) (ap (store_at u) (one ∙ sym new)) (subst (StandsFor (present u)) (sym (w.settled r (omega (arith, new)))) now)
  ];
  settled = λ r h. w.settled r (omega (arith, h, one));
}

-- a lapse: the keys of its lease go at one revision, or there are none and no revision is made
lapse-up : (r len : ℕ) → len ≤ r → int_le (pos len) (pos r) ≡ true
lapse-up r len h = grind (arith, nat_tests, ints)

lapse-older : (r len : ℕ) → r < len → int_le (pos len) (pos r) ≡ false
lapse-older r len h = grind (arith, nat_tests, ints)

pub serves-lapse : (s u : Store) (lines : List TranscriptLine) (id : ℤ) → Precedes s u → length u.revisions ≤ length s.revisions + 1 → StandsFor (present u) (after (lines ++ Lapse (revision u) id ∷ [])) → StoreServes s lines
    → StoreServes u (lines ++ Lapse (revision u) id ∷ [])
serves-lapse s u lines id x one now w = record {
  legal = is_legal-push lines (Lapse (revision u) id) w.legal refl;
  ordered = is_ordered-push lines (Lapse (revision u) id) w.ordered refl;
  begun = omega (arith, w.begun, x.longer);
  stands = λ r lo hi. elim (below-or-last r (length u.revisions) hi) [
    | inl old ↦
        subst (λ m. StandsFor m (state_at (lines ++ Lapse (revision u) id ∷ []) (moment_of (lines ++ Lapse (revision u) id ∷ []) (pos r)))) (sym (x.same r (omega (arith, old, one))))
        (subst (StandsFor (store_at s r)) (sym (older lines (Lapse (revision u) id) r (lapse-older r (length u.revisions) old))) (w.stands r lo (omega (arith, old, one))))
    | inr last ↦
        subst (λ m. StandsFor m (state_at (lines ++ Lapse (revision u) id ∷ []) (moment_of (lines ++ Lapse (revision u) id ∷ []) (pos r)))) (ap (store_at u) (sym last))
        (subst (StandsFor (present u)) (sym (newer lines (Lapse (revision u) id) r (lapse-up r (length u.revisions) (omega (arith, last))))) now)
  ];
  settled = λ r h. newer lines (Lapse (revision u) id) r (lapse-up r (length u.revisions) h);
}

-- ---- frames' lines are fresh

pub slice_get-one : {A : Type 0} (xs : List A) (x y : A) (k : ℕ) → slice_get (xs ++ x ∷ []) k ≡ Some y → (slice_get xs k ≡ Some y) ⊎ ((k ≡ length xs) × (x ≡ y))
slice_get-one [] x y zero h = inr (refl, cc)
slice_get-one [] x y (suc k) h = absurd (cc)
slice_get-one (z ∷ xs) x y zero h = inl h
slice_get-one (z ∷ xs) x y (suc k) h = elim (slice_get-one xs x y k h) [ inl e ↦ inl e | inr e ↦ inr (omega (arith, e.0), e.1) ]

-- one line more: a frame's, which shows the last zxid, or one of another kind
pub shown-push : (lines : List TranscriptLine) (l : TranscriptLine) → ((c i : ℕ) (z : ℤ) (bytes : List ℕ) → l ≡ FrameLine c i z bytes → z ≡ (after lines).zxid) → IsShownFresh lines → IsShownFresh (lines ++ l ∷ [])
shown-push lines l new f = λ k c i z bytes h. elim (slice_get-one lines l (FrameLine c i z bytes) k h) [
  | inl e ↦ f k c i z bytes e ∙ ap (λ (s : State). s.zxid) (sym (state_at-push lines (l ∷ []) k (omega (arith, slice_get_within lines k (FrameLine c i z bytes) e))))
  | inr e ↦ new c i z bytes e.1 ∙ ap (λ (s : State). s.zxid) (sym (ap (state_at (lines ++ l ∷ [])) e.0 ∙ state_at-push lines (l ∷ []) (length lines) (omega arith) ∙ ap after (take-length lines)))
]
