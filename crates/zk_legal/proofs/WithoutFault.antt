-- What the lines of a transcript show whose history has no fault: zxids from 0 on, frames with the last zxid before them, and no
-- packet to a connection that was not opened.
use Rattle.std.proofs.Common.{◌≡◌, ℕ, zero, suc, ℤ, pos, ◌+◌, Bool, true, false, ◌==◌, List, [], ◌∷◌, ◌++◌, take, Option, Some, None, refl, ap, sym, ◌∙◌, subst, append_assoc, append-nil, eqb-true, arith}
use Rattle.std.specs.Prelude.{◌≤ℤ◌, int_le, is_some, slice_get, if◌then◌else◌}
use Rattle.std.specs.Ordering.{int_eq}
use Rattle.std.proofs.lemmas.Bool.{and_parts}
use Rattle.std.proofs.lemmas.Bool.Decides.{nat_tests}
use Rattle.std.proofs.lemmas.Int.{ints}
use Rattle.std.proofs.lemmas.Grind.{common_steps}
use Rattle.zk_service.specs.declared.update.UpdateRec.{UpdateRec}
use Rattle.zk_service.specs.declared.fresh.Fresh.{Fresh}
use Rattle.zk_transcript.specs.declared.transcript.TranscriptLine.{TranscriptLine}
use Rattle.zk_transcript.specs.declared.transcript.TranscriptLine.TheVariants as line
use Rattle.zk_transcript.specs.Conversations.{IsShownFresh, IsSilentUnopened}
use Rattle.zk_service.specs.States.{State, nothing_yet}
use Rattle.zk_transcript.specs.History.{after, change, opening, open_shown}
use Rattle.zk_transcript.specs.Walks.{Due, packets_from}
use Rattle.zk_transcript.proofs.Appending.{after-push}
use Rattle.zk_transcript.proofs.Histories.{first_shown-push}
use Rattle.zk_legal.specs.Formed.{is_formed_line, is_opened}
use Rattle.zk_legal.specs.Faults.{history_fault, history_fault_from, is_history_line, is_in_range, is_timely}
use Rattle.zk_legal.proofs.NoFault.{first, no_fault}
use Rattle.zx_base.proofs.Booleans.{same-from_int_eq}

pub formed-line : (before : List TranscriptLine) (s : State) (l : TranscriptLine) → is_history_line before s l ≡ true → is_formed_line before s l ≡ true
unfolding is_history_line
formed-line before s l holds = grind (arith, common_steps)

pub range-line : (before : List TranscriptLine) (s : State) (l : TranscriptLine) → is_history_line before s l ≡ true → is_in_range l ≡ true
unfolding is_history_line
range-line before s l holds = grind (arith, common_steps)

-- ---- zxids

not-below : (z : ℤ) → int_le (pos 0) z ≡ true → pos 0 ≤ℤ z
not-below z h = grind (arith, nat_tests, ints)

least-zxid : (u : UpdateRec) → is_in_range (line.Update u) ≡ true → pos 0 ≤ℤ u.zxid
least-zxid u h = not-below u.zxid (and_parts (int_le (pos 0) u.zxid) (is_timely u.kind) h).0

zxids-from : (before : List TranscriptLine) (s : State) (ls : List TranscriptLine) → history_fault_from before s ls ≡ None → (k : ℕ) (u : UpdateRec) → slice_get ls k ≡ Some (line.Update u) → pos 0 ≤ℤ u.zxid
zxids-from before s [] none k u at = absurd (cc)
zxids-from before s (l ∷ ls) none zero u at =
    let same : l ≡ line.Update u = cc in
    least-zxid u (subst (λ (x : TranscriptLine). is_in_range x ≡ true) same (range-line before s l (first before s l ls none).0))
zxids-from before s (l ∷ ls) none (suc k) u at = zxids-from (before ++ l ∷ []) (change before s l) ls (first before s l ls none).1 k u at

pub zxids-range : (lines : List TranscriptLine) → history_fault lines ≡ None → (k : ℕ) (u : UpdateRec) → slice_get lines k ≡ Some (line.Update u) → pos 0 ≤ℤ u.zxid
zxids-range lines none k u at = zxids-from [] nothing_yet lines (no_fault lines none).1 k u at

-- ---- frames

frame-zxid : (before : List TranscriptLine) (s : State) (c i : ℕ) (z : ℤ) (bytes : List ℕ) → is_formed_line before s (line.Frame c i z bytes) ≡ true → z ≡ s.zxid
unfolding is_formed_line
frame-zxid before s c i z bytes h = same-from_int_eq z s.zxid (and_parts _ (int_eq z s.zxid) h).1

fresh-from : (before ls : List TranscriptLine) → history_fault_from before (after before) ls ≡ None
    → (k c i : ℕ) (z : ℤ) (bytes : List ℕ) → slice_get ls k ≡ Some (line.Frame c i z bytes) → z ≡ (after (before ++ take k ls)).zxid
fresh-from before [] none k c i z bytes at = absurd (cc)
fresh-from before (l ∷ ls) none zero c i z bytes at =
    let same : l ≡ line.Frame c i z bytes = cc in
    let formed = formed-line before (after before) l (first before (after before) l ls none).0 in
    frame-zxid before (after before) c i z bytes (subst (λ (x : TranscriptLine). is_formed_line before (after before) x ≡ true) same formed)
    ∙ ap (λ (b : List TranscriptLine). (after b).zxid) (sym (append-nil before))
fresh-from before (l ∷ ls) none (suc k) c i z bytes at =
    let later = (first before (after before) l ls none).1 in
    let rest = subst (λ (s : State). history_fault_from (before ++ l ∷ []) s ls ≡ None) (sym (after-push before l)) later in
    fresh-from (before ++ l ∷ []) ls rest k c i z bytes at
    ∙ ap (λ (b : List TranscriptLine). (after b).zxid) (append_assoc before (l ∷ []) (take k ls))

pub frames-fresh : (lines : List TranscriptLine) → history_fault lines ≡ None → IsShownFresh lines
unfolding after
frames-fresh lines none k c i z bytes at = fresh-from [] lines (no_fault lines none).1 k c i z bytes at

-- ---- packets

is_opened-send : (before : List TranscriptLine) (s : State) (c : ℕ) (bytes : List ℕ) → is_formed_line before s (line.Send c bytes) ≡ true → is_some (opening c before) ≡ true
unfolding is_formed_line is_opened
is_opened-send before s c bytes h = (and_parts (is_some (opening c before)) _ h).0

not-opened : (c : ℕ) (before more : List TranscriptLine) → opening c (before ++ more) ≡ None → is_some (opening c before) ≡ false
not-opened c before more none = by (opening c before) refl
  where
    by : (o : Option Fresh) → opening c before ≡ o → is_some o ≡ false
    by None e = refl
    by (Some x) e = let later = first_shown-push (open_shown c) before more x e in absurd (cc)

silent-from : (c j : ℕ) (before : List TranscriptLine) (s : State) (ls : List TranscriptLine) → history_fault_from before s ls ≡ None → opening c (before ++ ls) ≡ None → packets_from c j ls ≡ []
silent-from c j before s [] none unopened = refl
silent-from c j before s (l ∷ ls) none unopened =
    by (silent-from c (j + 1) (before ++ l ∷ []) (change before s l) ls (first before s l ls none).1 (ap (opening c) (append_assoc before (l ∷ []) ls) ∙ unopened)) l refl
  where
    other : packets_from c (j + 1) ls ≡ [] → (d : ℕ) (bytes : List ℕ) → l ≡ line.Send d bytes → (b : Bool) → (c == d) ≡ b
        → ◌≡◌ {A = List Due} (if b then (j, bytes) ∷ packets_from c (j + 1) ls else packets_from c (j + 1) ls) []
    other later d bytes is false e = later
    other later d bytes is true e =
        let same : c ≡ d = eqb-true c d e in
        let formed = formed-line before s l (first before s l ls none).0 in
        let opened : is_some (opening d before) ≡ true = is_opened-send before s d bytes (subst (λ (x : TranscriptLine). is_formed_line before s x ≡ true) is formed) in
        let not : is_some (opening c before) ≡ false = not-opened c before (l ∷ ls) unopened in
        let mine : is_some (opening c before) ≡ true = ap (λ n. is_some (opening n before)) same ∙ opened in
        absurd (cc)

    by : packets_from c (j + 1) ls ≡ [] → (x : TranscriptLine) → l ≡ x → packets_from c j (x ∷ ls) ≡ []
    by later (line.Send d bytes) is = other later d bytes is (c == d) refl
    by later (line.Update u) is = later
    by later (line.Open d p id pw layout) is = later
    by later (line.Frame d i z bytes) is = later
    by later (line.Lapse revision id) is = later
    by later (line.Close d end) is = later

pub unopened-silent : (lines : List TranscriptLine) (c : ℕ) → history_fault lines ≡ None → IsSilentUnopened lines c
unopened-silent lines c none unopened = silent-from c 0 [] nothing_yet lines (no_fault lines none).1 unopened
