-- Lines without a fault are a legal history, in order.
use Rattle.std.proofs.Common.{◌≡◌, ◌+◌, true, false, inl, inr, List, [], ◌∷◌, ◌++◌, length, Some, None, refl, sym, ◌∙◌, arith}
use Rattle.std.proofs.lemmas.Bool.{and_from, cases_Bool}
use Rattle.std.proofs.lemmas.Grind.{common_steps}
use Rattle.zk_transcript.specs.declared.transcript.TranscriptLine.{TranscriptLine}
use Rattle.zk_transcript.specs.declared.transcript.TranscriptLine.TheVariants as line
use Rattle.zk_service.specs.States.{State, nothing_yet}
use Rattle.zk_transcript.specs.History.{change}
use Rattle.zk_transcript.specs.Legal.{begins, is_begin, is_in_order, is_legal, is_legal_from, is_legal_line, is_ordered, is_ordered_from}
use Rattle.zk_legal.specs.Formed.{has_begun}
use Rattle.zk_legal.specs.Faults.{comes_after_begin, has_event, history_fault, history_fault_from, is_history_line, or_empty, order_fault, order_fault_from}
use Rattle.zx_base.proofs.Booleans.{or-other}

pub legal-line : (before : List TranscriptLine) (s : State) (l : TranscriptLine) → is_history_line before s l ≡ true → is_legal_line before s l ≡ true
unfolding is_history_line
legal-line before s l holds = grind (arith, common_steps)

after_begin-line : (before : List TranscriptLine) (s : State) (l : TranscriptLine) → is_history_line before s l ≡ true → comes_after_begin s l ≡ true
unfolding is_history_line
after_begin-line before s l holds = grind (arith, common_steps)

-- where lines have no fault, the first has none, and neither have those after it
pub first : (before : List TranscriptLine) (s : State) (l : TranscriptLine) (ls : List TranscriptLine) → history_fault_from before s (l ∷ ls) ≡ None →
    (is_history_line before s l ≡ true) × (history_fault_from (before ++ l ∷ []) (change before s l) ls ≡ None)
first before s l ls none = elim (cases_Bool (is_history_line before s l)) [
  | inl holds ↦ (holds, rw holds at none)
  | inr fails ↦ let some : Some (length before + 1) ≡ None = rw fails at none in absurd (cc)
]

legal-from : (before : List TranscriptLine) (s : State) (ls : List TranscriptLine) → history_fault_from before s ls ≡ None → is_legal_from before s ls ≡ true
legal-from before s [] none = refl
legal-from before s (l ∷ ls) none =
    let parts = first before s l ls none in
    and_from _ _ (legal-line before s l parts.0) (legal-from (before ++ l ∷ []) (change before s l) ls parts.1)

-- the first of the updates and lapses is Begin
begins-from : (before : List TranscriptLine) (s : State) (ls : List TranscriptLine) → has_begun s ≡ false → has_event ls ≡ true → history_fault_from before s ls ≡ None → begins ls ≡ true
begins-from before s [] new event none = event
begins-from before s (line.Update u ∷ ls) new event none =
    let parts = first before s (line.Update u) ls none in
    or-other (has_begun s) (is_begin u.kind) new (after_begin-line before s (line.Update u) parts.0)
begins-from before s (line.Lapse revision id ∷ ls) new event none =
    let parts = first before s (line.Lapse revision id) ls none in
    let begun : has_begun s ≡ true = after_begin-line before s (line.Lapse revision id) parts.0 in
    let both : true ≡ false = sym begun ∙ new in absurd (cc)
begins-from before s (line.Open c p id pw layout ∷ ls) new event none = begins-from (before ++ line.Open c p id pw layout ∷ []) s ls new event (first before s (line.Open c p id pw layout) ls none).1
begins-from before s (line.Frame c i z bytes ∷ ls) new event none = begins-from (before ++ line.Frame c i z bytes ∷ []) s ls new event (first before s (line.Frame c i z bytes) ls none).1
begins-from before s (line.Send c bytes ∷ ls) new event none = begins-from (before ++ line.Send c bytes ∷ []) s ls new event (first before s (line.Send c bytes) ls none).1
begins-from before s (line.Close c end ∷ ls) new event none = begins-from (before ++ line.Close c end ∷ []) s ls new event (first before s (line.Close c end) ls none).1

-- no fault, and an update or a lapse
pub no_fault : (lines : List TranscriptLine) → history_fault lines ≡ None → (has_event lines ≡ true) × (history_fault_from [] nothing_yet lines ≡ None)
unfolding history_fault
no_fault lines none =
    elim (history_fault_from [] nothing_yet lines) as (λ o. or_empty lines o ≡ None → (has_event lines ≡ true) × (o ≡ None)) [
      | Some n ↦ λ is. absurd (cc)
      | None ↦ λ is. elim (cases_Bool (has_event lines)) [
        | inl holds ↦ (holds, refl)
        | inr fails ↦ let some : Some (length lines + 1) ≡ None = rw fails at is in absurd (cc)
      ]
    ] none

pub history_fault-none : (lines : List TranscriptLine) → history_fault lines ≡ None → is_legal lines ≡ true
unfolding is_legal
history_fault-none lines none =
    let parts = no_fault lines none in
    and_from _ _ (begins-from [] nothing_yet lines refl parts.0 parts.1) (legal-from [] nothing_yet lines parts.1)

ordered-from : (before ls : List TranscriptLine) → order_fault_from before ls ≡ None → is_ordered_from before ls ≡ true
ordered-from before [] none = refl
ordered-from before (l ∷ ls) none = elim (cases_Bool (is_in_order before l)) [
  | inl holds ↦ and_from _ _ holds (ordered-from (before ++ l ∷ []) ls (rw holds at none))
  | inr fails ↦ let some : Some (length before + 1) ≡ None = rw fails at none in absurd (cc)
]

pub order_fault-none : (lines : List TranscriptLine) → order_fault lines ≡ None → is_ordered lines ≡ true
unfolding order_fault is_ordered
order_fault-none lines none = ordered-from [] lines none
