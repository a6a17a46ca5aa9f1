-- What holds of a world still holds after a line that is no update and no packet, and where no line is added.
use Rattle.std.proofs.Common.{◌≡◌, ℕ, List, [], ◌∷◌, ◌++◌, length, refl, sym, ap, ◌∙◌, subst, Bool, true, false, ℤ, append-nil}
use Rattle.std.specs.Prelude.{Some, None}
use Rattle.ev_types.specs.Store.{Store}
use Rattle.zk_transcript.proofs.Attachments.{attach_of-skip}
use Rattle.zk_transcript.specs.Conversations.{IsShownFresh}
use Rattle.zk_transcript.specs.History.{after}
use Rattle.zk_transcript.specs.Legal.{attach_of, attach_shown, index_shown, is_below_place}
use Rattle.zk_transcript.specs.Walks.{own_update_shown, packets, packets_from}
use Rattle.zk_transcript.specs.declared.transcript.TranscriptLine.{TranscriptLine}
use Rattle.zk_transcript.specs.declared.transcript.TranscriptLine.TheVariants.{Update, Frame as FrameLine, Send}
use Rattle.zp_laws.specs.Inputs.{Precedes}
use Rattle.zp_laws.specs.Standing.{is_ahead}
use Rattle.zp_script.specs.declared.flight.Asking.{Asking}
use Rattle.zp_script.specs.Worlds.{World}
use Rattle.zp_world_laws.proofs.Carrying.{apart-in, kept-still}
use Rattle.zp_world_laws.proofs.Growing.{ask-kept, same-precedes, serves-quiet, shown-push}
use Rattle.zp_world_laws.proofs.Packets.{packets-append}
use Rattle.zp_world_laws.proofs.Talking.{ahead-push, is_quiet, talks-push}
use Rattle.zp_world_laws.specs.Bounds.{IsBoundAsk}
use Rattle.zp_world_laws.specs.Holding.{Holds, IsAhead, Source, Talks, air}
use Rattle.zp_world_laws.specs.Serving.{StoreServes}

-- ---- what may still be carried out could be carried out before, perhaps under another number

pub record Renamed (w w' : World) : Type 0 where
  pub before : Source → Source
  pub was : (o : Source) (x : Asking) → air w' o ≡ Some x → air w (before o) ≡ Some x
  pub apart : (a b : Source) (x y : Asking) → air w' a ≡ Some x → air w' b ≡ Some y → before a ≡ before b → a ≡ b

pub same-air : (w w' : World) → ((o : Source) (x : Asking) → air w' o ≡ Some x → air w o ≡ Some x) → Renamed w w'
same-air w w' h = record { before = λ o. o; was = h; apart = λ a b x y ea eb e. e }

-- ---- no line

pub silent-holds : (w w' : World) → Precedes w.store w'.store → StoreServes w'.store w.lines → w'.lines ≡ w.lines → Renamed w w' → Holds w → Holds w'
silent-holds w w' x serves same r h = record {
  serves = subst (λ l. StoreServes w'.store l) (sym same) serves;
  fresh = subst IsShownFresh (sym same) h.fresh;
  bound = λ o a e. kept-still w.store w'.store w.lines w'.lines a x same (h.bound (r.before o) a (r.was o a e));
  alone = λ a b p q c ea eb ca cb. r.apart a b p q ea eb (h.alone (r.before a) (r.before b) p q c (r.was a p ea) (r.was b q eb) ca cb);
  spoken = λ c k a e.
      let sp = h.spoken c k a (ap (attach_of c) (sym same) ∙ e) in
      record {
        walker = sp.walker;
        talks = subst (λ l. Talks l c k a sp.walker) (sym same) sp.talks;
        ahead = λ o p i eo q. subst (λ l. IsAhead l c sp.walker i) (sym same) (sp.ahead (r.before o) p i (r.was o p eo) q);
      };
}

-- ---- a line that is no update and no packet

abbrev pub is_plain : TranscriptLine → Bool
is_plain (Update u) = false
is_plain (Send c bytes) = false
is_plain _ = true

pub plain-attach : (c : ℕ) (l : TranscriptLine) → is_plain l ≡ true → attach_shown c l ≡ None
plain-attach c (Update u) h = absurd (cc)
plain-attach c _ h = refl

pub plain-index : (c : ℕ) (l : TranscriptLine) → is_plain l ≡ true → index_shown c l ≡ None
plain-index c (Update u) h = absurd (cc)
plain-index c _ h = refl

pub plain-own : (c j : ℕ) (l : TranscriptLine) → is_plain l ≡ true → own_update_shown c j l ≡ None
plain-own c j (Update u) h = absurd (cc)
plain-own c j _ h = refl

pub plain-packets : (c n : ℕ) (l : TranscriptLine) → is_plain l ≡ true → packets_from c n (l ∷ []) ≡ []
plain-packets c n (Send d bytes) h = absurd (cc)
plain-packets c n _ h = refl

pub packets-plain : (c : ℕ) (lines : List TranscriptLine) (l : TranscriptLine) → is_plain l ≡ true → packets c (lines ++ l ∷ []) ≡ packets c lines
packets-plain c lines l plain = packets-append c lines (l ∷ []) ∙ ap (λ p. packets c lines ++ p) (plain-packets c (length lines) l plain) ∙ append-nil (packets c lines)

-- a line of a frame shows the last zxid
abbrev pub ShowsLast : List TranscriptLine → TranscriptLine → Type 0
ShowsLast lines l = (c i : ℕ) (z : ℤ) (bytes : List ℕ) → l ≡ FrameLine c i z bytes → z ≡ (after lines).zxid

pub line-holds : (w w' : World) (l : TranscriptLine) → is_plain l ≡ true → Precedes w.store w'.store → StoreServes w'.store (w.lines ++ l ∷ []) → w'.lines ≡ w.lines ++ l ∷ [] → ShowsLast w.lines l → Renamed w w' → Holds w → Holds w'
line-holds w w' l plain x serves same new r h = record {
  serves = subst (λ k. StoreServes w'.store k) (sym same) serves;
  fresh = subst IsShownFresh (sym same) (shown-push w.lines l new h.fresh);
  bound = λ o a e. subst (λ k. IsBoundAsk w'.store k a) (sym same)
      (ask-kept w.store w'.store w.lines (l ∷ []) a x
      (apart-in w.lines (l ∷ []) a.kind (λ kind is c of. (attach_of-skip w.lines l c (plain-attach c l plain), packets-plain c w.lines l plain)))
      (h.bound (r.before o) a (r.was o a e)));
  alone = λ a b p q c ea eb ca cb. r.apart a b p q ea eb (h.alone (r.before a) (r.before b) p q c (r.was a p ea) (r.was b q eb) ca cb);
  spoken = λ c k a e.
      let sp = h.spoken c k a (sym (attach_of-skip w.lines l c (plain-attach c l plain)) ∙ ap (attach_of c) (sym same) ∙ e) in
      record {
        walker = sp.walker;
        talks = subst (λ m. Talks m c k a sp.walker) (sym same)
            (talks-push w.lines l c k a sp.walker (λ j small. plain-own c j l plain) (plain-packets c (length w.lines) l plain) sp.talks);
        ahead = λ o p i eo q.
            let b = sp.ahead (r.before o) p i (r.was o p eo) q in
            record { unanswered = b.unanswered; follows = subst (λ m. is_ahead m c i ≡ true) (sym same) (ahead-push w.lines l c i (ap (is_below_place i) (plain-index c l plain)) b.follows) };
      };
}

pub quiet-holds : (w w' : World) (l : TranscriptLine) → is_plain l ≡ true → is_quiet l ≡ true → w'.store ≡ w.store → w'.lines ≡ w.lines ++ l ∷ [] → ShowsLast w.lines l → Renamed w w' → Holds w → Holds w'
quiet-holds w w' l plain quiet store same new r h =
    line-holds w w' l plain (same-precedes w.store w'.store (ap (λ (s : Store). s.revisions) store)) (subst (λ s. StoreServes s (w.lines ++ l ∷ [])) (sym store) (serves-quiet w.store w.lines l quiet h.serves)) same new r h
