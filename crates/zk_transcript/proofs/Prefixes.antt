-- The front of a legal history is legal, and that of an ordered one is in order.
use Rattle.std.proofs.Common.{◌≡◌, ℕ, zero, suc, ◌<◌, List, [], ◌∷◌, ◌++◌, take, refl, arith, true, Some}
use Rattle.std.proofs.lemmas.Bool.{and_parts, and_from}
use Rattle.std.specs.Prelude.{slice_get}
use Rattle.zk_service.specs.declared.update.UpdateRec.{UpdateRec}
use Rattle.zk_transcript.specs.declared.transcript.TranscriptLine.{TranscriptLine}
use Rattle.zk_transcript.specs.declared.transcript.TranscriptLine.TheVariants.{Update, Open, Frame as FrameLine, Send, Lapse, Close}
use Rattle.zk_service.specs.States.{State, nothing_yet}
use Rattle.zk_transcript.specs.History.{change}
use Rattle.zk_transcript.specs.Legal.{begins, is_legal, is_legal_from, is_legal_line, is_in_order, is_ordered_from}

legal_from-take : (before : List TranscriptLine) (s : State) (ls : List TranscriptLine) (k : ℕ) → is_legal_from before s ls ≡ true → is_legal_from before s (take k ls) ≡ true
legal_from-take before s [] zero h = refl
legal_from-take before s [] (suc k) h = refl
legal_from-take before s (l ∷ ls) zero h = refl
legal_from-take before s (l ∷ ls) (suc k) h =
    let both = and_parts (is_legal_line before s l) (is_legal_from (before ++ l ∷ []) (change before s l) ls) h in
    and_from (is_legal_line before s l) (is_legal_from (before ++ l ∷ []) (change before s l) (take k ls)) both.0 (legal_from-take (before ++ l ∷ []) (change before s l) ls k both.1)

-- the place of the update is after a line that is none
at_later : (l : TranscriptLine) (ls : List TranscriptLine) (k j : ℕ) (u : UpdateRec) → j < suc k → slice_get (l ∷ ls) j ≡ Some (Update u) → ((i : ℕ) → i < k → slice_get ls i ≡ Some (Update u) → begins (take k ls) ≡ true)
    → (l ≡ Update u → ⊥) → begins (take k ls) ≡ true
at_later l ls k zero u lt at later apart = absurd (apart (let same : l ≡ Update u = cc in same))
at_later l ls k (suc i) u lt at later apart = later i (omega arith) at

-- the front that has an update has Begin
pub begins-take : (ls : List TranscriptLine) (k j : ℕ) (u : UpdateRec) → j < k → slice_get ls j ≡ Some (Update u) → begins ls ≡ true → begins (take k ls) ≡ true
begins-take ls zero j u lt at h = absurd (omega arith)
begins-take [] (suc k) j u lt at h = absurd (cc)
begins-take (Update v ∷ ls) (suc k) j u lt at h = h
begins-take (Lapse revision id ∷ ls) (suc k) j u lt at h = absurd (cc)
begins-take (Open c proxy id passwd layout ∷ ls) (suc k) j u lt at h = at_later (Open c proxy id passwd layout) ls k j u lt at (λ i below is. begins-take ls k i u below is h) (λ e. cc)
begins-take (FrameLine c i z bytes ∷ ls) (suc k) j u lt at h = at_later (FrameLine c i z bytes) ls k j u lt at (λ i below is. begins-take ls k i u below is h) (λ e. cc)
begins-take (Send c bytes ∷ ls) (suc k) j u lt at h = at_later (Send c bytes) ls k j u lt at (λ i below is. begins-take ls k i u below is h) (λ e. cc)
begins-take (Close c end ∷ ls) (suc k) j u lt at h = at_later (Close c end) ls k j u lt at (λ i below is. begins-take ls k i u below is h) (λ e. cc)

pub is_legal-take : (lines : List TranscriptLine) (k : ℕ) → begins (take k lines) ≡ true → is_legal lines ≡ true → is_legal (take k lines) ≡ true
unfolding is_legal
is_legal-take lines k begin h =
    let both = and_parts (begins lines) (is_legal_from [] nothing_yet lines) h in
    and_from (begins (take k lines)) (is_legal_from [] nothing_yet (take k lines)) begin (legal_from-take [] nothing_yet lines k both.1)

pub is_legal-begins : (lines : List TranscriptLine) → is_legal lines ≡ true → begins lines ≡ true
unfolding is_legal
is_legal-begins lines h = (and_parts (begins lines) (is_legal_from [] nothing_yet lines) h).0

ordered_from-take : (before ls : List TranscriptLine) (k : ℕ) → is_ordered_from before ls ≡ true → is_ordered_from before (take k ls) ≡ true
ordered_from-take before [] zero h = refl
ordered_from-take before [] (suc k) h = refl
ordered_from-take before (l ∷ ls) zero h = refl
ordered_from-take before (l ∷ ls) (suc k) h =
    let both = and_parts (is_in_order before l) (is_ordered_from (before ++ l ∷ []) ls) h in
    and_from (is_in_order before l) (is_ordered_from (before ++ l ∷ []) (take k ls)) both.0 (ordered_from-take (before ++ l ∷ []) ls k both.1)
