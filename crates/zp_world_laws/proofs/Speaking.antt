-- An attached connection of which nothing may still be carried out is sent packets: they are its walk's, and leave all else.
use Rattle.ev_types.specs.Store.{Store}
use Rattle.std.proofs.Common.{List, [], ap, append-nil, append_assoc, inl, inr, length, refl, subst, sym, true, ℕ, ℤ, ◌++◌, ◌+◌, ◌∙◌, ◌∷◌, ◌≡◌}
use Rattle.std.proofs.lemmas.Bool.{and_parts}
use Rattle.std.specs.List.{list_all}
use Rattle.std.specs.Prelude.{None, Some, if◌then◌else◌, ◌==◌}
use Rattle.zk_transcript.proofs.Appending.{after-push}
use Rattle.zk_transcript.specs.Conversations.{IsShownFresh}
use Rattle.zk_service.specs.States.{State}
use Rattle.zk_transcript.specs.History.{after, first_place}
use Rattle.zk_transcript.specs.Legal.{Attachment, attach_of, attach_shown, index_shown, is_below_place}
use Rattle.zk_transcript.specs.Walks.{Walker, own_update, own_update_shown, packets, packets_from}
use Rattle.zk_transcript.specs.declared.transcript.TranscriptLine.TheVariants.{Close, Frame as FrameLine, Lapse as LapseLine, Open, Send, Update}
use Rattle.zk_transcript.specs.declared.transcript.TranscriptLine.{TranscriptLine}
use Rattle.zp_script.specs.Worlds.{World}
use Rattle.zp_script.specs.declared.flight.Asking.{Asking}
use Rattle.zp_laws.specs.Standing.{is_ahead}
use Rattle.zp_world_laws.proofs.Actions.{is_speech}
use Rattle.zp_world_laws.proofs.Carrying.{apart-in, asker-of, attaches-for, one, request-asker, unlike}
use Rattle.zp_world_laws.proofs.Closing.{But, with_lines}
use Rattle.zp_world_laws.proofs.Executing.{precedes-self}
use Rattle.zp_world_laws.proofs.Growing.{ask-kept, serves-quiet, shown-push}
use Rattle.zp_world_laws.proofs.Kept.{Frameless, closed-same, small-more}
use Rattle.zp_world_laws.proofs.Numbers.{either-number, number-same}
use Rattle.zp_world_laws.proofs.Packets.{packets-append}
use Rattle.zp_world_laws.proofs.Serving.{Elsewhere, serving-push}
use Rattle.zp_world_laws.proofs.Talking.{ahead-push, first_place-front, is_quiet, talks-push}
use Rattle.zp_world_laws.specs.Holding.{Holds, IsSpoken, Left, Of, Source, Talks, air, asker_in}
use Rattle.zp_world_laws.specs.Serving.{StoreServes}
use Rattle.zx_base.proofs.Options.{some_is}
use Rattle.zx_base.proofs.Booleans.{and-both as both-true}

speech-quiet : (c : ℕ) (l : TranscriptLine) → is_speech c l ≡ true → is_quiet l ≡ true
speech-quiet c (Send d bytes) h = refl
speech-quiet c _ h = absurd (cc)

pub all-quiet : (c : ℕ) (ls : List TranscriptLine) → list_all (is_speech c) ls ≡ true → list_all is_quiet ls ≡ true
all-quiet c [] h = refl
all-quiet c (l ∷ ls) h = let q = and_parts (is_speech c l) (list_all (is_speech c) ls) h in both-true (is_quiet l) (list_all is_quiet ls) (speech-quiet c l q.0) (all-quiet c ls q.1)

speech-frame : (c : ℕ) (l : TranscriptLine) → is_speech c l ≡ true → (d i : ℕ) (z : ℤ) (bytes : List ℕ) → l ≡ FrameLine d i z bytes → ⊥
speech-frame c (Send e bytes) h d i z b f = cc
speech-frame c _ h d i z b f = absurd (cc)

serves-speech : (c : ℕ) (s : Store) (lines ls : List TranscriptLine) → list_all (is_speech c) ls ≡ true → StoreServes s lines → StoreServes s (lines ++ ls)
serves-speech c s lines [] h w = subst (λ l. StoreServes s l) (sym (append-nil lines)) w
serves-speech c s lines (l ∷ ls) h w =
    let q = and_parts (is_speech c l) (list_all (is_speech c) ls) h in
    subst (λ k. StoreServes s k) (append_assoc lines (l ∷ []) ls) (serves-speech c s (lines ++ l ∷ []) ls q.1 (serves-quiet s lines l (speech-quiet c l q.0) w))

fresh-speech : (c : ℕ) (lines ls : List TranscriptLine) → list_all (is_speech c) ls ≡ true → IsShownFresh lines → IsShownFresh (lines ++ ls)
fresh-speech c lines [] h w = subst IsShownFresh (sym (append-nil lines)) w
fresh-speech c lines (l ∷ ls) h w =
    let q = and_parts (is_speech c l) (list_all (is_speech c) ls) h in
    subst IsShownFresh (append_assoc lines (l ∷ []) ls) (fresh-speech c (lines ++ l ∷ []) ls q.1 (shown-push lines l (λ d i z bytes e. absurd (speech-frame c l q.0 d i z bytes e)) w))

no-place : (c d k : ℕ) (ls : List TranscriptLine) → list_all (is_speech c) ls ≡ true → first_place (attach_shown d) k ls ≡ None
no-place c d k [] h = refl
no-place c d k (Send e bytes ∷ ls) h = no-place c d (k + 1) ls ((and_parts (c == e) (list_all (is_speech c) ls) h).1)
no-place c d k (Close e why ∷ ls) h = absurd (cc)
no-place c d k (Update u ∷ ls) h = absurd (cc)
no-place c d k (Open p q r s layout ∷ ls) h = absurd (cc)
no-place c d k (FrameLine p q r s ∷ ls) h = absurd (cc)
no-place c d k (LapseLine p q ∷ ls) h = absurd (cc)

pub attach-speech : (c d : ℕ) (lines ls : List TranscriptLine) → list_all (is_speech c) ls ≡ true → attach_of d (lines ++ ls) ≡ attach_of d lines
attach-speech c d lines ls h = first_place-front (attach_shown d) 0 lines ls (λ k. no-place c d k ls h)

no-own : (c d i k : ℕ) (ls : List TranscriptLine) → list_all (is_speech c) ls ≡ true → first_place (own_update_shown d i) k ls ≡ None
no-own c d i k [] h = refl
no-own c d i k (Send e bytes ∷ ls) h = no-own c d i (k + 1) ls ((and_parts (c == e) (list_all (is_speech c) ls) h).1)
no-own c d i k (Close e why ∷ ls) h = absurd (cc)
no-own c d i k (Update u ∷ ls) h = absurd (cc)
no-own c d i k (Open p q r s layout ∷ ls) h = absurd (cc)
no-own c d i k (FrameLine p q r s ∷ ls) h = absurd (cc)
no-own c d i k (LapseLine p q ∷ ls) h = absurd (cc)

pub own-speech : (c d i : ℕ) (lines ls : List TranscriptLine) → list_all (is_speech c) ls ≡ true → own_update d i (lines ++ ls) ≡ own_update d i lines
own-speech c d i lines ls h = first_place-front (own_update_shown d i) 0 lines ls (λ k. no-own c d i k ls h)

no-packets : (c d k : ℕ) (ls : List TranscriptLine) → (one c ≡ one d → ⊥) → list_all (is_speech c) ls ≡ true → packets_from d k ls ≡ []
no-packets c d k [] n h = refl
no-packets c d k (Send e bytes ∷ ls) n h =
    let q = and_parts (c == e) (list_all (is_speech c) ls) h in
    let same : c ≡ e = number-same c e q.0 in
    ap (λ b. if b then (k, bytes) ∷ packets_from d (k + 1) ls else packets_from d (k + 1) ls) (unlike d e (λ f. n (ap one same ∙ f))) ∙ no-packets c d (k + 1) ls n q.1
no-packets c d k (Close e why ∷ ls) n h = absurd (cc)
no-packets c d k (Update u ∷ ls) n h = absurd (cc)
no-packets c d k (Open p q r s layout ∷ ls) n h = absurd (cc)
no-packets c d k (FrameLine p q r s ∷ ls) n h = absurd (cc)
no-packets c d k (LapseLine p q ∷ ls) n h = absurd (cc)

packets-speech : (c d : ℕ) (lines ls : List TranscriptLine) → (one c ≡ one d → ⊥) → list_all (is_speech c) ls ≡ true → packets d (lines ++ ls) ≡ packets d lines
packets-speech c d lines ls n h = packets-append d lines ls ∙ ap (λ p. packets d lines ++ p) (no-packets c d (length lines) ls n h) ∙ append-nil (packets d lines)

speech-index : (c d : ℕ) (l : TranscriptLine) → is_speech c l ≡ true → index_shown d l ≡ None
speech-index c d (Send e bytes) h = refl
speech-index c d _ h = absurd (cc)

pub ahead-speech : (c d i : ℕ) (lines ls : List TranscriptLine) → list_all (is_speech c) ls ≡ true → is_ahead lines d i ≡ true → is_ahead (lines ++ ls) d i ≡ true
ahead-speech c d i lines [] h f = subst (λ l. is_ahead l d i ≡ true) (sym (append-nil lines)) f
ahead-speech c d i lines (l ∷ ls) h f =
    let q = and_parts (is_speech c l) (list_all (is_speech c) ls) h in
    subst (λ k. is_ahead k d i ≡ true) (append_assoc lines (l ∷ []) ls) (ahead-speech c d i (lines ++ l ∷ []) ls q.1 (ahead-push lines l d i (ap (is_below_place i) (speech-index c d l q.0)) f))

pub speech-zxid : (c : ℕ) (lines ls : List TranscriptLine) → list_all (is_speech c) ls ≡ true → (after (lines ++ ls)).zxid ≡ (after lines).zxid
speech-zxid c lines [] h = ap (λ l. (after l).zxid) (append-nil lines)
speech-zxid c lines (Send e bytes ∷ ls) h =
    ap (λ l. (after l).zxid) (sym (append_assoc lines (Send e bytes ∷ []) ls))
    ∙ speech-zxid c (lines ++ Send e bytes ∷ []) ls ((and_parts (c == e) (list_all (is_speech c) ls) h).1)
    ∙ ap (λ (s : State). s.zxid) (after-push lines (Send e bytes))
speech-zxid c lines (Close e why ∷ ls) h = absurd (cc)
speech-zxid c lines (Update u ∷ ls) h = absurd (cc)
speech-zxid c lines (Open p q r s layout ∷ ls) h = absurd (cc)
speech-zxid c lines (FrameLine p q r s ∷ ls) h = absurd (cc)
speech-zxid c lines (LapseLine p q ∷ ls) h = absurd (cc)

frameless-speech : (c : ℕ) (ls : List TranscriptLine) → list_all (is_speech c) ls ≡ true → Frameless ls
frameless-speech c [] h d i = refl
frameless-speech c (Send e bytes ∷ ls) h d i = frameless-speech c ls ((and_parts (c == e) (list_all (is_speech c) ls) h).1) d i
frameless-speech c (Close e why ∷ ls) h d i = absurd (cc)
frameless-speech c (Update u ∷ ls) h d i = absurd (cc)
frameless-speech c (Open p q r s layout ∷ ls) h d i = absurd (cc)
frameless-speech c (FrameLine p q r s ∷ ls) h d i = absurd (cc)
frameless-speech c (LapseLine p q ∷ ls) h d i = absurd (cc)

talks-speech : (lines ls : List TranscriptLine) (c d k : ℕ) (a : Attachment) (w : Walker) → (one c ≡ one d → ⊥) → list_all (is_speech c) ls ≡ true → Talks lines d k a w → Talks (lines ++ ls) d k a w
talks-speech lines [] c d k a w n h t = subst (λ l. Talks l d k a w) (sym (append-nil lines)) t
talks-speech lines (l ∷ ls) c d k a w n h t =
    let q = and_parts (is_speech c l) (list_all (is_speech c) ls) h in
    subst (λ m. Talks m d k a w) (append_assoc lines (l ∷ []) ls)
    (talks-speech (lines ++ l ∷ []) ls c d k a w n q.1 (talks-push lines l d k a w (λ j small. shows j l q.0) (no-packets c d (length lines) (l ∷ []) n (both-true (is_speech c l) true q.0 refl)) t))
  where
    shows : (j : ℕ) (m : TranscriptLine) → is_speech c m ≡ true → own_update_shown d j m ≡ None
    shows j (Send e bytes) g = refl
    shows j _ g = absurd (cc)

pub elsewhere-speech : (lines ls : List TranscriptLine) (c d : ℕ) → (one c ≡ one d → ⊥) → list_all (is_speech c) ls ≡ true → Elsewhere lines ls d
elsewhere-speech lines ls c d apart h = record {
  below = λ i f. ahead-speech c d i lines ls h f;
  same = λ i. own-speech c d i lines ls h;
  packets = packets-speech c d lines ls apart h;
  talks = λ k a w t. talks-speech lines ls c d k a w apart h t;
}

-- ---- the step

-- where the connection's conversation has come with these packets
pub record HasTalked (lines : List TranscriptLine) (c k : ℕ) (a : Attachment) : Type 0 where
  pub walker : Walker
  pub talks : Talks lines c k a walker

-- nothing of c may still be carried out; and with these packets its conversation goes on, where it has begun
pub record Speaks (w : World) (c : ℕ) (ls : List TranscriptLine) : Type 0 where
  pub speech : list_all (is_speech c) ls ≡ true
  pub talked : (k : ℕ) (a : Attachment) → attach_of c w.lines ≡ Some (k, a) → HasTalked (w.lines ++ ls) c k a
  pub free : (o : Source) (x : Asking) → air w o ≡ Some x → asker_in x ≡ one c → ⊥

lines-only : (w : World) (ls : List TranscriptLine) (o : Source) (x : Asking) → air (with_lines w ls) o ≡ Some x → air w o ≡ Some x
lines-only w ls (Of c) x e = e
lines-only w ls (Left k) x e = e

one-same : (a b : ℕ) → one a ≡ one b → a ≡ b
one-same a b e = some_is e

pub speaks-holds : (w : World) (c : ℕ) (ls : List TranscriptLine) → Holds w → Speaks w c ls → Holds (with_lines w ls)
speaks-holds w c ls h sp = record {
  serves = serves-speech c w.store w.lines ls sp.speech h.serves;
  fresh = fresh-speech c w.lines ls sp.speech h.fresh;
  bound = λ o x e. let old = lines-only w ls o x e in
      ask-kept w.store w.store w.lines ls x (precedes-self w.store)
      (apart-in w.lines ls x.kind (λ kind is d of. (attach-speech c d w.lines ls sp.speech, packets-speech c d w.lines ls (λ same. sp.free o x old (asker-of x kind c is (attaches-for kind d of ∙ sym same))) sp.speech)))
      (h.bound o x old);
  alone = λ p q x y d ea eb ca cb. h.alone p q x y d (lines-only w ls p x ea) (lines-only w ls q y eb) ca cb;
  spoken = λ d m b e. spoken d m b (sym (attach-speech c d w.lines ls sp.speech) ∙ e);
}
  where
    own_spoken : (k : ℕ) (a : Attachment) → attach_of c w.lines ≡ Some (k, a) → IsSpoken (with_lines w ls) c k a
    own_spoken k a e = let t = sp.talked k a e in record { walker = t.walker; talks = t.talks; ahead = λ o x i eo r. absurd (sp.free o x (lines-only w ls o x eo) (request-asker x c i r)) }

    spoken : (d m : ℕ) (b : Attachment) → attach_of d w.lines ≡ Some (m, b) → IsSpoken (with_lines w ls) d m b
    spoken d m b e = elim (either-number d c) [
      | inl same ↦ subst (λ n. IsSpoken (with_lines w ls) n m b) (sym same) (own_spoken m b (ap (λ n. attach_of n w.lines) (sym same) ∙ e))
      | inr apart ↦ (let old = h.spoken d m b e in record {
        walker = old.walker;
        talks = talks-speech w.lines ls c d m b old.walker (λ f. apart (sym (one-same c d f))) sp.speech old.talks;
        ahead = λ o x i eo r. let g = old.ahead o x i (lines-only w ls o x eo) r in record { unanswered = g.unanswered; follows = ahead-speech c d i w.lines ls sp.speech g.follows };
      })
    ]

pub speaks-but : (w : World) (c : ℕ) (ls : List TranscriptLine) → But w c → Speaks w c ls → But (with_lines w ls) c
speaks-but w c ls h sp =
    let holds = speaks-holds w c ls h.holds sp in
    record {
      holds = holds;
      serving = λ d x core apart e b s. serving-push w.store w.store w.lines ls d core x.flight ((h.holds).serves).legal (holds.serves).legal (precedes-self w.store)
          (elsewhere-speech w.lines ls c d (λ f. apart (sym (one-same c d f))) sp.speech) (h.serving d x core apart e b s);
      unshut = h.unshut;
      own = h.own;
      left = λ j d x e r. closed-same w (with_lines w ls) d refl (h.left j d x (lines-only w ls (Left j) x e) r);
      small = small-more w.lines (w.lines ++ ls) ls refl (frameless-speech c ls sp.speech) h.small;
    }
