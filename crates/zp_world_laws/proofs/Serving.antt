-- Lines of others leave what is known of a connection with a session.
use Rattle.std.proofs.Common.{◌≡◌, ℕ, ◌+◌, List, [], ◌∷◌, ◌++◌, length, refl, sym, ap, ◌∙◌, subst, arith, true, false, ℤ, append-nil}
use Rattle.std.specs.Prelude.{Option, Some, None}
use Rattle.std.proofs.lemmas.Option.{slice_get_within}
use Rattle.ev_types.specs.Store.{Store, present}
use Rattle.ev_types.specs.declared.answer.Answer.{Answer}
use Rattle.ev_types.specs.declared.answer.Answer.TheVariants as answer
use Rattle.zk_transcript.proofs.Attachments.{attach_of-push}
use Rattle.zk_transcript.proofs.Lookups.{first_place-skip, slice_get-front}
use Rattle.zk_transcript.proofs.Walks.{state_at-push}
use Rattle.zk_transcript.specs.Legal.{Attachment, is_below_place, is_legal}
use Rattle.zk_transcript.specs.Walks.{Walker, own_update, own_update_shown, packets}
use Rattle.zk_transcript.specs.declared.transcript.TranscriptLine.{TranscriptLine}
use Rattle.zk_transcript.specs.declared.transcript.TranscriptLine.TheVariants.{Update}
use Rattle.zk_service.specs.declared.update.UpdateKind.{UpdateKind}
use Rattle.zn_layout.specs.StandsFor.{StandsFor}
use Rattle.zp_step.specs.Stages.{Core, Stage, Unconnected, Connecting, Ready, KeepingAlive, Checking, Reading, Committing, Waiting, Shut}
use Rattle.zp_laws.proofs.Growing.{look-push, moment-push, past-push, stands-push}
use Rattle.zp_laws.specs.Frames.{IsAtWork}
use Rattle.zp_laws.specs.Inputs.{IsOwn, IsTrueAnswer, Precedes}
use Rattle.zp_laws.specs.Standing.{Knows, Stands, is_ahead}
use Rattle.zp_script.specs.declared.flight.Flight.{Flight}
use Rattle.zp_script.specs.declared.flight.Flight.TheVariants.{Out, Carried, Denied}
use Rattle.zp_world_laws.proofs.Carrying.{no-index, one, requested-for}
use Rattle.zp_world_laws.proofs.Growing.{precedes-trans}
use Rattle.zp_world_laws.proofs.Lines.{is_plain, packets-plain, plain-index, plain-own, plain-packets}
use Rattle.zp_world_laws.proofs.Packets.{packets-append}
use Rattle.zp_world_laws.proofs.Talking.{ahead-push, own-none, talks-push}
use Rattle.zp_world_laws.specs.Bounds.{attachment}
use Rattle.zp_world_laws.specs.Connections.{IsFlying, IsServingConn, is_carried}
use Rattle.zp_world_laws.specs.Holding.{Talks, made_for}

-- ---- lines more that aren't a connection's own

pub record Elsewhere (lines more : List TranscriptLine) (c : ℕ) : Type 0 where
  pub below : (i : ℕ) → is_ahead lines c i ≡ true → is_ahead (lines ++ more) c i ≡ true
  pub same : (i : ℕ) → own_update c i (lines ++ more) ≡ own_update c i lines
  pub packets : packets c (lines ++ more) ≡ packets c lines
  pub talks : (k : ℕ) (a : Attachment) (w : Walker) → Talks lines c k a w → Talks (lines ++ more) c k a w

pub elsewhere-none : (lines : List TranscriptLine) (c : ℕ) → Elsewhere lines [] c
elsewhere-none lines c = record { below = λ i f. subst (λ l. is_ahead l c i ≡ true) (sym (append-nil lines)) f; same = λ i. ap (own_update c i) (append-nil lines); packets = ap (packets c) (append-nil lines); talks = λ k a w t. subst (λ l. Talks l c k a w) (sym (append-nil lines)) t }

-- an update of another connection, or of none
pub elsewhere-update : (lines : List TranscriptLine) (c : ℕ) (z : ℤ) (kind : UpdateKind) → (made_for kind ≡ one c → ⊥) → Elsewhere lines (Update (record { zxid = z; kind = kind }) ∷ []) c
elsewhere-update lines c z kind h = record {
  below = λ i f. ahead-push lines (Update (record { zxid = z; kind = kind })) c i (ap (is_below_place i) (no-index c z kind h)) f;
  same = λ i. first_place-skip (own_update_shown c i) 0 lines (Update (record { zxid = z; kind = kind })) (own-none c i (i + 1) z kind (λ j r. absurd (h (requested-for kind c j r))) (omega arith));
  packets = packets-append c lines (Update (record { zxid = z; kind = kind }) ∷ []) ∙ append-nil (packets c lines);
  talks = λ k a w t. talks-push lines (Update (record { zxid = z; kind = kind })) c k a w (λ j small. own-none c j (j + 1) z kind (λ i r. absurd (h (requested-for kind c i r))) (omega arith)) refl t;
}

-- a line that is neither update nor packet
pub elsewhere-plain : (lines : List TranscriptLine) (c : ℕ) (l : TranscriptLine) → is_plain l ≡ true → Elsewhere lines (l ∷ []) c
elsewhere-plain lines c l h = record {
  below = λ i f. ahead-push lines l c i (ap (is_below_place i) (plain-index c l h)) f;
  same = λ i. first_place-skip (own_update_shown c i) 0 lines l (plain-own c i l h);
  packets = packets-plain c lines l h;
  talks = λ k a w t. talks-push lines l c k a w (λ j small. plain-own c j l h) (plain-packets c (length lines) l h) t;
}

-- ---- an answer that waits to be delivered

own-push : (lines more : List TranscriptLine) (c : ℕ) (core : Core) (w : Walker) (before : Store) (looked : ℕ) (st : Stage) (a : Answer) → own_update c core.next (lines ++ more) ≡ own_update c core.next lines
    → IsAtWork lines c core.next st → IsOwn lines c core w before looked st a → IsOwn (lines ++ more) c core w before looked st a
own-push lines more c core w before looked (Committing xid q v p m) (answer.Txn r true parts) same work o =
    let within = (o.planned).past in
    record {
      place = o.place;
      update = o.update;
      line = same ∙ o.line;
      there = slice_get-front lines more o.place (slice_get_within lines o.place (Update o.update) o.there) ∙ o.there;
      right = o.right;
      zxid = o.zxid;
      kind = o.kind;
      stood = subst (StandsFor (present before)) (sym (state_at-push lines more o.place within)) o.stood;
      planned = moment-push lines more c core.who w o.place o.planned;
      asked = past-push lines more c core.next o.place (work.frame).place work.bytes (work.frame).framed o.asked;
    }
own-push lines more c core w before looked (Committing xid q v p m) (answer.Txn r false parts) same work o = same ∙ o
own-push lines more c core w before looked (Committing xid q v p m) (answer.Range r x) same work o = same ∙ o
own-push lines more c core w before looked (Committing xid q v p m) (answer.Granted r x y) same work o = same ∙ o
own-push lines more c core w before looked (Committing xid q v p m) (answer.Alive r x y) same work o = same ∙ o
own-push lines more c core w before looked Ready a same work o = same ∙ o
own-push lines more c core w before looked (Unconnected f) a same work o = same ∙ o
own-push lines more c core w before looked (Connecting ph) a same work o = same ∙ o
own-push lines more c core w before looked (KeepingAlive f) a same work o = same ∙ o
own-push lines more c core w before looked (Checking f) a same work o = same ∙ o
own-push lines more c core w before looked (Reading xid q v ws) a same work o = same ∙ o
own-push lines more c core w before looked (Waiting p) a same work o = same ∙ o
own-push lines more c core w before looked Shut a same work o = same ∙ o

pub answer-push : (s u : Store) (lines more : List TranscriptLine) (c : ℕ) (core : Core) (w : Walker) (looked : ℕ) (a : Answer) → Precedes s u → Elsewhere lines more c → Stands s lines c core w looked
    → IsTrueAnswer s lines c core w looked a → IsTrueAnswer u (lines ++ more) c core w looked a
answer-push s u lines more c core w looked a x e k t = record {
  asked = t.asked;
  out = t.out;
  before = t.before;
  then_store = t.then_store;
  carried_out = t.carried_out;
  begun = t.begun;
  was = precedes-trans t.before s u t.was x;
  is = precedes-trans t.then_store s u t.is x;
  earlier = t.earlier;
  shown = λ f. (let sh = t.shown f in record {
    stands = subst (StandsFor (present t.then_store)) (sym (state_at-push lines more looked (sh.moment).past)) sh.stands;
    moment = moment-push lines more c core.who w looked sh.moment;
  });
  own = own-push lines more c core w t.before looked core.stage a (e.same core.next) k.work t.own;
}

flies-push : (s u : Store) (lines more : List TranscriptLine) (c : ℕ) (core : Core) (w : Walker) (looked : ℕ) (f : Option Flight) → Precedes s u → Elsewhere lines more c → Stands s lines c core w looked
    → IsFlying s lines c core w looked f → IsFlying u (lines ++ more) c core w looked f
flies-push s u lines more c core w looked None x e k h = h
flies-push s u lines more c core w looked (Some (Out a)) x e k h = record { asked = h.asked; kind = h.kind; ahead = e.below core.next h.ahead }
flies-push s u lines more c core w looked (Some (Carried b)) x e k h = answer-push s u lines more c core w looked b x e k h
flies-push s u lines more c core w looked (Some Denied) x e k h = h

-- ---- the whole record

ready-ahead : (s : Store) (lines : List TranscriptLine) (c : ℕ) (core : Core) (w : Walker) (looked : ℕ) → core.stage ≡ Ready → Knows s lines c core w looked core.stage → is_ahead lines c core.next ≡ true
ready-ahead s lines c core w looked r k = let q : Knows s lines c core w looked Ready = subst (Knows s lines c core w looked) r k in q

pub serving-push : (s u : Store) (lines more : List TranscriptLine) (c : ℕ) (core : Core) (f : Option Flight) → is_legal lines ≡ true → is_legal (lines ++ more) ≡ true → Precedes s u → Elsewhere lines more c
    → IsServingConn s lines c core f → IsServingConn u (lines ++ more) c core f
serving-push s u lines more c core f legal still x e k = record {
  place = k.place;
  attached = attach_of-push lines more c (k.place, attachment core.who) k.attached;
  least = k.least;
  most = k.most;
  rises = k.rises;
  walker = k.walker;
  talks = e.talks k.place (attachment core.who) k.walker k.talks;
  looked = k.looked;
  stands = stands-push s u lines more c core k.walker k.looked (record {
    legal = legal;
    still_legal = still;
    before = x;
    own = λ p q. e.same core.next;
    turn = e.below (core.next + 1) (k.stands).turn;
    ahead = λ r. e.below core.next (ready-ahead s lines c core k.walker k.looked r (k.stands).knows);
  }) k.stands;
  flies = flies-push s u lines more c core k.walker k.looked f x e k.stands k.flies;
  fresh = look-push s lines more c (is_carried f) core k.walker k.looked k.stands k.fresh;
  first = k.first;
  packets_were = k.packets_were;
  welcomed = e.packets ∙ k.welcomed;
}
