-- Each line of a legal history was legal where it stands; and what was carried out has its frame before it.
use Rattle.std.proofs.Common.{◌≡◌, ℕ, zero, suc, ◌+◌, List, [], ◌∷◌, ◌++◌, take, drop, refl, ap, subst, append_assoc, append-nil, true, ℤ}
use Rattle.std.specs.Prelude.{Option, Some, None, is_some, slice_get}
use Rattle.std.proofs.lemmas.Bool.{and_parts}
use Rattle.std.proofs.lemmas.List.{take-append-drop}
use Rattle.zk_transcript.specs.declared.transcript.TranscriptLine.{TranscriptLine}
use Rattle.zk_transcript.specs.declared.transcript.TranscriptLine.TheVariants.{Update}
use Rattle.zk_service.specs.declared.update.UpdateKind.TheVariants.{Asked}
use Rattle.zk_service.specs.States.{State, nothing_yet}
use Rattle.zk_transcript.specs.History.{after, after_from, change, state_at, first_place, first_shown, frame_shown, frame, request, asked_commit}
use Rattle.zk_transcript.specs.Legal.{begins, is_legal, is_legal_from, is_legal_line, is_small_frame, may_update, is_within_parts}
use Rattle.zk_transcript.proofs.Appending.{first_place-push}

is_legal_from-at : (before : List TranscriptLine) (s : State) (ls : List TranscriptLine) (k : ℕ) (l : TranscriptLine)
    → is_legal_from before s ls ≡ true → slice_get ls k ≡ Some l → is_legal_line (before ++ take k ls) (after_from before s (take k ls)) l ≡ true
is_legal_from-at before s [] k l h g = absurd (cc)
is_legal_from-at before s (x ∷ ls) zero l h g =
    let same : x ≡ l = cc in
    rw (append-nil before) (subst (λ (y : TranscriptLine). is_legal_line before s y ≡ true) same (and_parts (is_legal_line before s x) (is_legal_from (before ++ x ∷ []) (change before s x) ls) h).0)
is_legal_from-at before s (x ∷ ls) (suc k) l h g =
    let at = is_legal_from-at (before ++ x ∷ []) (change before s x) ls k l (and_parts (is_legal_line before s x) (is_legal_from (before ++ x ∷ []) (change before s x) ls) h).1 g in
    subst (λ (b : List TranscriptLine). is_legal_line b (after_from (before ++ x ∷ []) (change before s x) (take k ls)) l ≡ true) (append_assoc before (x ∷ []) (take k ls)) at

-- a line was legal in the state before it
pub is_legal-at : (lines : List TranscriptLine) (k : ℕ) (l : TranscriptLine)
    → is_legal lines ≡ true → slice_get lines k ≡ Some l → is_legal_line (take k lines) (state_at lines k) l ≡ true
unfolding is_legal after
is_legal-at lines k l h g = is_legal_from-at [] nothing_yet lines k l (and_parts (begins lines) (is_legal_from [] nothing_yet lines) h).1 g

-- what is shown has a first place
pub first_place-shown : {A : Type 0} (show : TranscriptLine → Option A) (k : ℕ) (ls : List TranscriptLine) (x : A)
    → first_shown show ls ≡ Some x → (place : ℕ) × (first_place show k ls ≡ Some (place, x))
first_place-shown show k [] x h = absurd (cc)
first_place-shown {A} show k (l ∷ ls) x h =
    elim (show l) as (λ o. ◌≡◌ {A = Option A} (elim o [ Some y ↦ Some y | None ↦ first_shown show ls ]) (Some x) → (place : ℕ) × (◌≡◌ {A = Option (ℕ × A)} (elim o [ Some y ↦ Some (k, y) | None ↦ first_place show (k + 1) ls ]) (Some (place, x)))) [
      | Some y ↦ λ e. let same : y ≡ x = cc in (k, ap (λ (z : A). Some (k, z)) same)
      | None ↦ λ e. first_place-shown show (k + 1) ls x e
    ] h

small_frame : (o : Option (List ℕ)) → is_small_frame o ≡ true → (bytes : List ℕ) × (o ≡ Some bytes)
small_frame None h = absurd (cc)
small_frame (Some bytes) h = (bytes, refl)

asked_frame : (before : List TranscriptLine) (s : State) (zxid : ℤ) (c i now : ℕ)
    → is_legal_line before s (Update (record { zxid = zxid; kind = Asked c i now })) ≡ true → is_small_frame (frame c i before) ≡ true
unfolding may_update
asked_frame before s zxid c i now h =
    let may = (and_parts (may_update before s zxid (Asked c i now)) _ h).0 in
    let most = (and_parts _ (is_some (asked_commit before s zxid c i now)) may).0 in
    (and_parts _ (is_small_frame (frame c i before)) (and_parts _ (is_within_parts (request c i before)) most).0).1

-- an update that was asked has the frame that asked it
pub asked-framed : (lines : List TranscriptLine) (k : ℕ) (zxid : ℤ) (c i now : ℕ)
    → is_legal lines ≡ true → slice_get lines k ≡ Some (Update (record { zxid = zxid; kind = Asked c i now }))
    → (first : ℕ) × (bytes : List ℕ) × (first_place (frame_shown c i) 0 lines ≡ Some (first, bytes))
asked-framed lines k zxid c i now h g =
    let small = small_frame (frame c i (take k lines)) (asked_frame (take k lines) (state_at lines k) zxid c i now (is_legal-at lines k _ h g)) in
    let at = first_place-shown (frame_shown c i) 0 (take k lines) small.0 small.1 in
    let still = first_place-push (frame_shown c i) 0 (take k lines) (drop k lines) (at.0, small.0) at.1 in
    (at.0, small.0, subst (λ (ls : List TranscriptLine). first_place (frame_shown c i) 0 ls ≡ Some (at.0, small.0)) (take-append-drop k lines) still)
