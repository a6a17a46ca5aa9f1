-- Lines whose numbers are within their fields.
use Rattle.std.proofs.Common.{◌≡◌, ◌<◌, ◌∷◌, ◌++◌, List, sym, subst}
use Rattle.zk_transcript.specs.declared.transcript.TranscriptLine.{TranscriptLine}
use Rattle.zk_service.specs.States.{State}
use Rattle.zk_transcript.specs.History.{after}
use Rattle.zk_history.specs.Fits.{AllFit, Fits, IsCountable}

-- where all lines fit, a line fits in the state that the lines before it lead to
pub line-fits : (lines before : List TranscriptLine) (l : TranscriptLine) (rest : List TranscriptLine) (s : State) → s.updates < 18446744073709551615 → s ≡ after before → lines ≡ before ++ l ∷ rest
    → AllFit lines → IsCountable s × Fits before s l
line-fits lines before l rest s few reached split all = (few, subst (λ (x : State). Fits before x l) (sym reached) (all before l rest split))
