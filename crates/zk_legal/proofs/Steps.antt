-- Faults as a loop comes to them, line by line.
use Rattle.std.proofs.Common.{◌≡◌, ℕ, ◌+◌, ◌<◌, true, false, List, [], ◌∷◌, ◌++◌, length, get_or, take, drop, refl, sym, ap, ◌∙◌, arith, length-take}
use Rattle.std.specs.Prelude.{Some, if◌then◌else◌}
use Rattle.std.proofs.lemmas.List.{drop_more, take_more}
use Rattle.zk_transcript.specs.declared.transcript.TranscriptLine.{TranscriptLine}
use Rattle.zk_service.specs.States.{State}
use Rattle.zk_transcript.specs.History.{change}
use Rattle.zk_transcript.specs.Legal.{is_in_order}
use Rattle.zk_legal.specs.Faults.{history_fault_from, is_history_line, order_fault, order_fault_from}

module _ (lines : List TranscriptLine) (k : ℕ) (l : TranscriptLine) (h : k < length lines) (is : l ≡ get_or lines k l) where
  pub taken : take k lines ++ l ∷ [] ≡ take (k + 1) lines
  taken = ap (λ (x : TranscriptLine). take k lines ++ x ∷ []) is ∙ sym (take_more lines k l h)

  pub dropped : drop k lines ≡ l ∷ drop (k + 1) lines
  dropped = drop_more lines k l h ∙ ap (λ (x : TranscriptLine). x ∷ drop (k + 1) lines) (sym is)

  number : length (take k lines) + 1 ≡ k + 1
  number = grind (arith, length-take)

  -- ---- the order

  pub order-on : is_in_order (take k lines) l ≡ true → order_fault_from (take k lines) (drop k lines) ≡ order_fault_from (take (k + 1) lines) (drop (k + 1) lines)
  order-on holds =
      ap (order_fault_from (take k lines)) dropped
      ∙ ap (λ b. if b then order_fault_from (take k lines ++ l ∷ []) (drop (k + 1) lines) else Some (length (take k lines) + 1)) holds
      ∙ ap (λ (b : List TranscriptLine). order_fault_from b (drop (k + 1) lines)) taken

  pub order-off : is_in_order (take k lines) l ≡ false → order_fault_from (take k lines) (drop k lines) ≡ Some (k + 1)
  order-off fails =
      ap (order_fault_from (take k lines)) dropped
      ∙ ap (λ b. if b then order_fault_from (take k lines ++ l ∷ []) (drop (k + 1) lines) else Some (length (take k lines) + 1)) fails
      ∙ ap (λ (n : ℕ). Some n) number

  -- ---- the history

  pub history-on : (s t : State) → is_history_line (take k lines) s l ≡ true → t ≡ change (take k lines) s l
      → history_fault_from (take k lines) s (drop k lines) ≡ history_fault_from (take (k + 1) lines) t (drop (k + 1) lines)
  history-on s t holds changes =
      ap (history_fault_from (take k lines) s) dropped
      ∙ ap (λ b. if b then history_fault_from (take k lines ++ l ∷ []) (change (take k lines) s l) (drop (k + 1) lines) else Some (length (take k lines) + 1)) holds
      ∙ ap (λ (x : State). history_fault_from (take k lines ++ l ∷ []) x (drop (k + 1) lines)) (sym changes)
      ∙ ap (λ (b : List TranscriptLine). history_fault_from b t (drop (k + 1) lines)) taken

  pub history-off : (s : State) → is_history_line (take k lines) s l ≡ false → history_fault_from (take k lines) s (drop k lines) ≡ Some (k + 1)
  history-off s fails =
      ap (history_fault_from (take k lines) s) dropped
      ∙ ap (λ b. if b then history_fault_from (take k lines ++ l ∷ []) (change (take k lines) s l) (drop (k + 1) lines) else Some (length (take k lines) + 1)) fails
      ∙ ap (λ (n : ℕ). Some n) number

pub order_fault-from : (lines : List TranscriptLine) → order_fault lines ≡ order_fault_from [] lines
unfolding order_fault
order_fault-from lines = refl
