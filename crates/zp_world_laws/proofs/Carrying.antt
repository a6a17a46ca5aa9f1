-- Whatever may still be carried out may be carried out at any time: what holds of the world still holds.
use Rattle.ev_types.specs.Denials.{carry}
use Rattle.ev_types.specs.Store.{Store}
use Rattle.ev_types.specs.declared.answer.Answer.{Answer}
use Rattle.ev_types.specs.declared.ask.Ask.TheVariants as ask
use Rattle.ev_types.specs.declared.ask.Ask.{Ask}
use Rattle.ev_types.specs.declared.ask.TxnReq.{TxnReq}
use Rattle.std.proofs.Common.{Bool, List, [], ap, append-nil, arith, false, inl, inr, refl, subst, sym, true, ℕ, ℤ, ◌++◌, ◌+◌, ◌∙◌, ◌∷◌, ◌≡◌}
use Rattle.std.proofs.lemmas.Bool.Decides.{nat_tests}
use Rattle.std.specs.Option.{option_and_then}
use Rattle.std.specs.Prelude.{None, Option, Some, ◌==◌, ◌⊎◌}
use Rattle.zk_transcript.proofs.Attachments.{attach_of-push, attach_of-skip}
use Rattle.zk_transcript.specs.Conversations.{IsShownFresh}
use Rattle.zk_transcript.specs.History.{when}
use Rattle.zk_transcript.specs.Legal.{Attachment, attach_of, attach_shown, index_shown, is_below_place}
use Rattle.zk_transcript.specs.Walks.{Walker, at_start, packets}
use Rattle.zk_transcript.specs.declared.transcript.TranscriptLine.TheVariants.{Update}
use Rattle.zk_transcript.specs.declared.transcript.TranscriptLine.{TranscriptLine}
use Rattle.zk_service.specs.declared.update.UpdateKind.TheVariants.{Asked, Attach, Begin, Closed, Reaped, Session as NewSession}
use Rattle.zk_service.specs.declared.update.UpdateKind.{UpdateKind}
use Rattle.zp_script.specs.Worlds.{World}
use Rattle.zp_script.specs.declared.flight.Asking.{Asking}
use Rattle.zp_laws.specs.Inputs.{Precedes}
use Rattle.zp_laws.specs.Standing.{is_ahead}
use Rattle.zp_world_laws.proofs.Commits.{Committed, line_of}
use Rattle.zp_world_laws.proofs.Growing.{Apart, ApartIn, ask-kept, same-precedes, serves-same, shown-push}
use Rattle.zp_world_laws.proofs.Outcomes.{IsNext, Still, Updated, outcome}
use Rattle.zp_world_laws.proofs.Packets.{packets-append}
use Rattle.zp_world_laws.proofs.Talking.{ahead-push, own-none, talks-push, talks-start}
use Rattle.zp_world_laws.specs.Bounds.{IsBound, IsBoundAs, IsBoundAsk, attachment}
use Rattle.zp_world_laws.specs.Holding.{Carries, Holds, IsAhead, IsSpoken, Source, Talks, air, asker_in, attaches, made_for, request_in, requested_by}
use Rattle.zp_world_laws.specs.Serving.{StoreServes, next_revision, update_lines}
use Rattle.zx_base.proofs.Options.{none_some, some_is}

-- ---- what a request's transaction tells of its connection

pub record HasAttachment (lines : List TranscriptLine) (c : ℕ) : Type 0 where
  pub place : ℕ
  pub own : Attachment
  pub is : attach_of c lines ≡ Some (place, own)

connection-same : (c i d j : ℕ) → requested_by (Asked c i 0) ≡ Some (record { connection = d; index = j }) → c ≡ d
connection-same c i d j h = ap (λ o. elim o [ None ↦ c | Some p ↦ p.connection ]) h

bound-attached : (s : Store) (lines : List TranscriptLine) (kind : UpdateKind) (t : TxnReq) (c i : ℕ) → IsBound s lines kind t → requested_by kind ≡ Some (record { connection = c; index = i }) → HasAttachment lines c
bound-attached s lines (Begin n) t c i b h = absurd (none_some h)
bound-attached s lines (NewSession id d) t c i b h = absurd (none_some h)
bound-attached s lines (Attach id d) t c i b h = absurd (none_some h)
bound-attached s lines (Asked d j now) t c i b h = subst (HasAttachment lines) (connection-same d j c i h) (record { place = b.place; own = attachment b.who; is = b.attached })
bound-attached s lines (Closed sid d j) t c i b h = subst (HasAttachment lines) (connection-same d j c i h) (record { place = b.place; own = attachment b.who; is = b.attached })
bound-attached s lines (Reaped id) t c i b h = absurd (none_some h)

pub requested-for : (kind : UpdateKind) (c i : ℕ) → requested_by kind ≡ Some (record { connection = c; index = i }) → made_for kind ≡ Some c
requested-for (Begin n) c i h = absurd (none_some h)
requested-for (NewSession id d) c i h = absurd (none_some h)
requested-for (Attach id d) c i h = absurd (none_some h)
requested-for (Asked d j now) c i h = ap (λ n. Some n) (connection-same d j c i h)
requested-for (Closed sid d j) c i h = ap (λ n. Some n) (connection-same d j c i h)
requested-for (Reaped id) c i h = absurd (none_some h)

pub request-asker : (x : Asking) (c i : ℕ) → request_in x ≡ Some (record { connection = c; index = i }) → asker_in x ≡ Some c
request-asker x c i h = go x.kind h
  where
    go : (o : Option UpdateKind) → option_and_then requested_by o ≡ Some (record { connection = c; index = i }) → option_and_then made_for o ≡ Some c
    go None e = absurd (none_some e)
    go (Some kind) e = requested-for kind c i e

pub attaches-for : (kind : UpdateKind) (c : ℕ) → attaches kind ≡ Some c → made_for kind ≡ Some c
attaches-for (Begin n) c h = absurd (none_some h)
attaches-for (NewSession id d) c h = h
attaches-for (Attach id d) c h = h
attaches-for (Asked d i now) c h = absurd (none_some h)
attaches-for (Closed id d i) c h = absurd (none_some h)
attaches-for (Reaped id) c h = absurd (none_some h)

-- ---- a line of another connection

abbrev pub one : ℕ → Option ℕ
one c = Some c

pub unlike : (c d : ℕ) → (one d ≡ one c → ⊥) → (c == d) ≡ false
unlike c d h = go (c == d) refl
  where
    go : (b : Bool) → (c == d) ≡ b → b ≡ false
    go true e = let same : c ≡ d = grind (arith, nat_tests) in absurd (h (ap one (sym same)))
    go false e = refl

pub no-attach : (c : ℕ) (z : ℤ) (kind : UpdateKind) → (made_for kind ≡ one c → ⊥) → attach_shown c (Update (record { zxid = z; kind = kind })) ≡ None
no-attach c z (Begin n) h = refl
no-attach c z (NewSession id d) h = ap (λ b. when b (record { zxid = z; session = id })) (unlike c d h)
no-attach c z (Attach id d) h = ap (λ b. when b (record { zxid = z; session = id })) (unlike c d h)
no-attach c z (Asked d j now) h = refl
no-attach c z (Closed sid d j) h = refl
no-attach c z (Reaped id) h = refl

pub no-index : (c : ℕ) (z : ℤ) (kind : UpdateKind) → (made_for kind ≡ one c → ⊥) → index_shown c (Update (record { zxid = z; kind = kind })) ≡ None
no-index c z (Begin n) h = refl
no-index c z (NewSession id d) h = refl
no-index c z (Attach id d) h = refl
no-index c z (Asked d j now) h = ap (λ b. when b j) (unlike c d h)
no-index c z (Closed sid d j) h = ap (λ b. when b j) (unlike c d h)
no-index c z (Reaped id) h = refl

-- ---- what holds of an update's kind holds of the ask that has it

pub apart-in : (lines more : List TranscriptLine) (o : Option UpdateKind) → ((kind : UpdateKind) → o ≡ Some kind → Apart lines more kind) → ApartIn lines more o
apart-in lines more None h = tt
apart-in lines more (Some kind) h = h kind refl

pub asker-of : (x : Asking) (kind : UpdateKind) (c : ℕ) → x.kind ≡ Some kind → made_for kind ≡ one c → asker_in x ≡ one c
asker-of x kind c e h = ap (option_and_then made_for) e ∙ h

pub request-of : (x : Asking) (kind : UpdateKind) (c i : ℕ) → x.kind ≡ Some kind → requested_by kind ≡ Some (record { connection = c; index = i }) → request_in x ≡ Some (record { connection = c; index = i })
request-of x kind c i e h = ap (option_and_then requested_by) e ∙ h

-- no line at all
pub apart-none : (lines : List TranscriptLine) (kind : UpdateKind) → Apart lines [] kind
apart-none lines kind = λ c of. (ap (attach_of c) (append-nil lines), ap (packets c) (append-nil lines))

pub kept-still : (s u : Store) (lines lines' : List TranscriptLine) (x : Asking) → Precedes s u → lines' ≡ lines → IsBoundAsk s lines x → IsBoundAsk u lines' x
kept-still s u lines lines' x p same b = subst (λ l. IsBoundAsk u l x) (append-nil lines ∙ sym same) (ask-kept s u lines [] x p (apart-in lines [] x.kind (λ kind e. apart-none lines kind)) b)

-- ---- the step

-- the lines are as they were, and so is the store at its revisions
still-holds : (w w' : World) (src : Source) → Holds w → (cr : Carries w src w') → Still w.store cr.store (cr.what).kind → Holds w'
still-holds w w' src h cr q =
    let same : w'.lines ≡ w.lines = cr.lines ∙ ap (λ l. w.lines ++ l) q.lines ∙ append-nil w.lines in
    record {
      serves = subst (λ u. StoreServes u w'.lines) (sym cr.now) (subst (λ l. StoreServes cr.store l) (sym same) (serves-same w.store cr.store w.lines q.revisions h.serves));
      fresh = subst IsShownFresh (sym same) h.fresh;
      bound = λ o x e. subst (λ u. IsBoundAsk u w'.lines x) (sym cr.now) (kept-still w.store cr.store w.lines w'.lines x (same-precedes w.store cr.store q.revisions) same (h.bound o x ((cr.others o x e).1)));
      alone = λ a b x y c ea eb. h.alone a b x y c ((cr.others a x ea).1) ((cr.others b y eb).1);
      spoken = λ c k a e.
          let sp = h.spoken c k a (ap (attach_of c) (sym same) ∙ e) in
          record {
            walker = sp.walker;
            talks = subst (λ l. Talks l c k a sp.walker) (sym same) sp.talks;
            ahead = λ o x i eo r. subst (λ l. IsAhead l c sp.walker i) (sym same) (sp.ahead o x i ((cr.others o x eo).1) r);
          };
    }

like : (c d : ℕ) (o : Option Attachment) (x : Attachment) → (when (c == d) x ≡ None → ⊥) → c ≡ d
like c d o x h = go (c == d) refl
  where
    go : (b : Bool) → (c == d) ≡ b → c ≡ d
    go true e = grind (arith, nat_tests)
    go false e = absurd (h (ap (λ b. when b x) e))

-- the line that attaches a connection is its session's transaction, to which nothing was sent
pub new-silent : (s : Store) (lines : List TranscriptLine) (kind : UpdateKind) (t : TxnReq) (c : ℕ) (z : ℤ) → IsBound s lines kind t → (attach_shown c (Update (record { zxid = z; kind = kind })) ≡ None → ⊥) → (made_for kind ≡ one c) × (packets c lines ≡ [])
new-silent s lines (Begin n) t c z b h = absurd b
new-silent s lines (NewSession id d) t c z b h = let e = like c d None (record { zxid = z; session = id }) h in (ap one (sym e), subst (λ n. packets n lines ≡ []) (sym e) (b.connected).silent)
new-silent s lines (Attach id d) t c z b h = let e = like c d None (record { zxid = z; session = id }) h in (ap one (sym e), subst (λ n. packets n lines ≡ []) (sym e) (b.connected).silent)
new-silent s lines (Asked d j now) t c z b h = absurd (h refl)
new-silent s lines (Closed sid d j) t c z b h = absurd (h refl)
new-silent s lines (Reaped id) t c z b h = absurd (h refl)

some-apart : {A : Type 0} (x : A) → Some x ≡ None → ⊥
some-apart x e = none_some (sym e)

module _ (w w' : World) (src : Source) (h : Holds w) (cr : Carries w src w') (kind : UpdateKind) (is : (cr.what).kind ≡ Some kind) (same : w'.lines ≡ w.lines ++ line_of w.store kind ∷ []) where
  -- of the connection for which it was made nothing else may be carried out
  away : (o : Source) (x : Asking) (c : ℕ) → air w' o ≡ Some x → asker_in x ≡ one c → made_for kind ≡ one c → ⊥
  away o x c e of_c of_kind = (cr.others o x e).0 (h.alone o src x cr.what c ((cr.others o x e).1) cr.was of_c (asker-of cr.what kind c is of_kind))

  no-packet : (c : ℕ) → packets c (w.lines ++ line_of w.store kind ∷ []) ≡ packets c w.lines
  no-packet c = packets-append c w.lines (line_of w.store kind ∷ []) ∙ append-nil (packets c w.lines)

  ahead-of : (c i : ℕ) (o : Source) (x : Asking) (walker : Walker) → air w' o ≡ Some x → request_in x ≡ Some (record { connection = c; index = i }) → IsAhead w.lines c walker i → IsAhead w'.lines c walker i
  ahead-of c i o x walker eo r a = record {
    unanswered = a.unanswered;
    follows = subst (λ l. is_ahead l c i ≡ true) (sym same) (ahead-push w.lines (line_of w.store kind) c i
        (ap (is_below_place i) (no-index c (next_revision w.store) kind (away o x c eo (request-asker x c i r)))) a.follows);
  }

  spoken-update : (t : TxnReq) → IsBound w.store w.lines kind t → (c k : ℕ) (a : Attachment) → attach_of c (w.lines ++ line_of w.store kind ∷ []) ≡ Some (k, a) → IsSpoken w' c k a
  spoken-update t b c k a e = go (attach_of c w.lines) refl
    where
      go : (o : Option (ℕ × Attachment)) → attach_of c w.lines ≡ o → IsSpoken w' c k a
      go (Some y) f =
          let here : attach_of c w.lines ≡ Some (k, a) = f ∙ sym (attach_of-push w.lines (line_of w.store kind ∷ []) c y f) ∙ e in
          let sp = h.spoken c k a here in
          record {
            walker = sp.walker;
            talks = subst (λ l. Talks l c k a sp.walker) (sym same)
                (talks-push w.lines (line_of w.store kind) c k a sp.walker
                (λ j small. own-none c j sp.walker.next (next_revision w.store) kind (λ i r. (sp.ahead src cr.what i cr.was (request-of cr.what kind c i is r)).unanswered) small) refl sp.talks);
            ahead = λ o x i eo r. ahead-of c i o x sp.walker eo r (sp.ahead o x i ((cr.others o x eo).1) r);
          }
      go None f =
          let new = new-silent w.store w.lines kind t c (next_revision w.store) b (λ n. some-apart (k, a) (sym e ∙ attach_of-skip w.lines (line_of w.store kind) c n ∙ f)) in
          record {
            walker = at_start a.zxid (k + 1);
            talks = subst (λ l. Talks l c k a (at_start a.zxid (k + 1))) (sym same) (talks-start (w.lines ++ line_of w.store kind ∷ []) c k a (no-packet c ∙ new.1));
            ahead = λ o x i eo r. absurd (away o x c eo (request-asker x c i r) new.0);
          }

  update-holds : Committed w.store cr.store w.lines kind → Precedes w.store cr.store → (t : TxnReq) → IsBound w.store w.lines kind t → Holds w'
  update-holds done x t b = record {
    serves = subst (λ u. StoreServes u w'.lines) (sym cr.now) (subst (λ l. StoreServes cr.store l) (sym same) done.serves);
    fresh = subst IsShownFresh (sym same) (shown-push w.lines (line_of w.store kind) (λ c i z bytes e. absurd (cc)) h.fresh);
    bound = λ o y e. subst (λ u. IsBoundAsk u w'.lines y) (sym cr.now) (subst (λ l. IsBoundAsk cr.store l y) (sym same)
        (ask-kept w.store cr.store w.lines (line_of w.store kind ∷ []) y x
        (apart-in w.lines (line_of w.store kind ∷ []) y.kind (λ k is_k c of_c.
        (attach_of-skip w.lines (line_of w.store kind) c (no-attach c (next_revision w.store) kind (away o y c e (asker-of y k c is_k (attaches-for k c of_c)))), no-packet c)))
        (h.bound o y ((cr.others o y e).1))));
    alone = λ a b' p q c ea eb. h.alone a b' p q c ((cr.others a p ea).1) ((cr.others b' q eb).1);
    spoken = λ c k a e. spoken-update t b c k a (ap (attach_of c) (sym same) ∙ e);
  }

updated-holds : (w w' : World) (src : Source) → Holds w → (cr : Carries w src w') → Updated w.store cr.store w.lines (cr.what).kind → Holds w'
updated-holds w w' src h cr q =
    let same : w'.lines ≡ w.lines ++ line_of w.store q.kind ∷ [] = cr.lines ∙ ap (λ l. w.lines ++ l) (ap (λ o. update_lines w.store cr.store o) q.is ∙ (q.done).line) in
    update-holds w w' src h cr q.kind q.is same q.done q.precedes q.txn q.bound

bound-next : (s : Store) (lines : List TranscriptLine) (x : Asking) (kind : UpdateKind) (c i : ℕ) → x.kind ≡ Some kind → IsBoundAsk s lines x → requested_by kind ≡ Some (record { connection = c; index = i }) → HasAttachment lines c
bound-next s lines x kind c i e b r = go x.kind x.ask e b
  where
    go : (o : Option UpdateKind) (q : Ask) → o ≡ Some kind → IsBoundAs s lines o q → HasAttachment lines c
    go None q f b' = absurd (none_some f)
    go (Some k) (ask.Txn t) f b' = bound-attached s lines k t c i b'.0 (ap requested_by (some_is f) ∙ r)
    go (Some k) (ask.Range q) f b' = absurd b'
    go (Some k) (ask.Grant id ttl) f b' = absurd b'
    go (Some k) (ask.Alive id) f b' = absurd b'

-- what is carried out is the next request of its connection, if one
carried-next : (w : World) (src : Source) (x : Asking) → Holds w → air w src ≡ Some x → (kind : UpdateKind) → x.kind ≡ Some kind → IsNext w.lines kind
carried-next w src x h was kind e c i r =
    let a = bound-next w.store w.lines x kind c i e (h.bound src x was) r in
    ((h.spoken c a.place a.own a.is).ahead src x i was (request-of x kind c i e r)).follows

pub air-outcome : (w : World) (src : Source) (x : Asking) (u : Store) (a : Answer) → Holds w → air w src ≡ Some x → carry w.store x.ask ≡ Some (u, a) → Still w.store u x.kind ⊎ Updated w.store u w.lines x.kind
air-outcome w src x u a h was carried = outcome w.store u w.lines x a h.serves (carried-next w src x h was) (h.bound src x was) carried

pub carries-holds : (w w' : World) (src : Source) → Holds w → Carries w src w' → Holds w'
carries-holds w w' src h cr = elim (air-outcome w src cr.what cr.store cr.answer h cr.was cr.carried) [
  | inl q ↦ still-holds w w' src h cr q
  | inr q ↦ updated-holds w w' src h cr q
]
