-- While a session is attached to a connection, no line after the connection's own line changed it; nor did one lapse it, where it
-- lives.
use Rattle.std.proofs.Common.{◌≡◌, ℕ, suc, ◌+◌, ◌<◌, List, [], ◌∷◌, take, drop, Option, Some, None, refl, sym, ap, ◌∙◌, subst, arith, true, false, ℤ}
use Rattle.std.specs.Prelude.{slice_get}
use Rattle.std.proofs.lemmas.List.{take-append-drop}
use Rattle.zk_service.specs.declared.update.UpdateRec.{UpdateRec}
use Rattle.zk_transcript.specs.declared.transcript.TranscriptLine.{TranscriptLine}
use Rattle.zk_transcript.specs.declared.transcript.TranscriptLine.TheVariants.{Update, Open, Frame as FrameLine, Send, Lapse, Close}
use Rattle.zk_service.specs.States.{Session, attached_session}
use Rattle.zk_transcript.specs.History.{first_place, state_at}
use Rattle.zk_transcript.specs.Legal.{Attachment, attach_of, attach_shown, is_legal, changes_session, lapses_session}
use Rattle.zk_transcript.proofs.Attachments.{attach_of-push, attached-by_own_line, attached-unmoved, attached-alive}
use Rattle.zx_base.proofs.Lists.{slice_get-take}
use Rattle.zk_transcript.proofs.Prefixes.{begins-take, is_legal-take, is_legal-begins}

updates_by : (c : ℕ) (a : Attachment) (l : TranscriptLine) → attach_shown c l ≡ Some a → (u : UpdateRec) × (l ≡ Update u)
updates_by c a (Update u) h = (u, refl)
updates_by c a (Lapse revision id) h = absurd (cc)
updates_by c a (Open d proxy id passwd layout) h = absurd (cc)
updates_by c a (FrameLine d i z bytes) h = absurd (cc)
updates_by c a (Send d bytes) h = absurd (cc)
updates_by c a (Close d end) h = absurd (cc)

-- the line at the first place shows what was found
first_place-found : {A : Type 0} (show : TranscriptLine → Option A) (n : ℕ) (ls : List TranscriptLine) (k : ℕ) (x : A) → first_place show n ls ≡ Some (k, x)
    → (j : ℕ) × (l : TranscriptLine) × (k ≡ n + j) × (slice_get ls j ≡ Some l) × (show l ≡ Some x)
first_place-found show n [] k x h = absurd (cc)
first_place-found {A} show n (l ∷ ls) k x h = by_shown (show l) refl h (first_place-found show (n + 1) ls k x)
  where
    by_shown : (o : Option A) → show l ≡ o → ◌≡◌ {A = Option (ℕ × A)} (elim o [ Some y ↦ Some (n, y) | None ↦ first_place show (n + 1) ls ]) (Some (k, x))
        → (first_place show (n + 1) ls ≡ Some (k, x) → (j : ℕ) × (m : TranscriptLine) × (k ≡ (n + 1) + j) × (slice_get ls j ≡ Some m) × (show m ≡ Some x))
        → (j : ℕ) × (m : TranscriptLine) × (k ≡ n + j) × (slice_get (l ∷ ls) j ≡ Some m) × (show m ≡ Some x)
    by_shown (Some y) is e later =
        let same : ◌≡◌ {A = ℕ × A} (n, y) (k, x) = cc in
        let at = ap (λ (p : ℕ × A). p.0) same in
        (0, l, omega (arith, at), refl, is ∙ ap (λ (p : ℕ × A). Some p.1) same)
    by_shown None is e later = let p = later e in let at = p.2 in (suc p.0, p.1, omega (arith, at), p.3, p.4)

-- the lines before a moment that comes after a connection's own line
module _ (lines : List TranscriptLine) (c k m : ℕ) (a : Attachment) (legal : is_legal lines ≡ true) (own : attach_of c lines ≡ Some (k, a)) (lt : k < m) where
  front-legal : is_legal (take m lines) ≡ true
  front-legal =
      let found = first_place-found (attach_shown c) 0 lines k a own in
      let u = updates_by c a found.1 found.4 in
      let at = found.2 in
      is_legal-take lines m (begins-take lines m found.0 u.0 (omega (arith, at)) (found.3 ∙ ap Some u.1) (is_legal-begins lines legal)) legal

  module _ (id : ℤ) (x : Session) (at : attached_session c (state_at lines m) ≡ Some (id, x)) where
    own_line-front : attach_of c (take m lines) ≡ Some (k, a)
    own_line-front =
        let by = attached-by_own_line (take m lines) c id x front-legal at in
        let pushed = attach_of-push (take m lines) (drop m lines) c _ by.1 in
        by.1 ∙ sym (subst (λ (ls : List TranscriptLine). attach_of c ls ≡ Some (by.0, record { zxid = x.attached; session = id })) (take-append-drop m lines) pushed) ∙ own

    pub unmoved-until : (j : ℕ) (l : TranscriptLine) → k < j → j < m → slice_get lines j ≡ Some l → changes_session id l ≡ false
    unmoved-until j l after before g = attached-unmoved (take m lines) c id x k a front-legal at own_line-front j l after (slice_get-take lines m j before ∙ g)

    pub alive-until : x.lapsed ≡ false → (j : ℕ) (l : TranscriptLine) → k < j → j < m → slice_get lines j ≡ Some l → lapses_session id l ≡ false
    alive-until lives j l after before g = attached-alive (take m lines) c id x k a front-legal at own_line-front lives j l after (slice_get-take lines m j before ∙ g)
