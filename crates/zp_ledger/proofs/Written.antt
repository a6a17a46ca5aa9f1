-- One line more leaves the list of updates and the form of the lines right.
use Rattle.std.proofs.Common.{◌≡◌, List, [], ◌∷◌, ◌++◌, sym, ap, ◌∙◌, append-nil}
use Rattle.std.specs.Prelude.{None}
use Rattle.std.specs.List.{AllByRecursion, filter_map}
use Rattle.std.proofs.lemmas.List.Elements.{filter_map-append}
use Rattle.zk_transcript.specs.declared.transcript.TranscriptLine.{TranscriptLine}
use Rattle.zk_transcript.specs.declared.transcript.TranscriptLine.TheVariants.{Update}
use Rattle.zk_service.specs.declared.update.UpdateRec.{UpdateRec}
use Rattle.zk_transcript.specs.History.{update_in, updates}
use Rattle.zt_text.specs.Transcripts.{IsWellFormed}
use Rattle.zp_ledger.specs.Writing.{IsWritten}

all-push : (lines : List TranscriptLine) (l : TranscriptLine) → AllByRecursion IsWellFormed lines → IsWellFormed l → AllByRecursion IsWellFormed (lines ++ l ∷ [])
all-push [] l h f = (f, tt)
all-push (x ∷ lines) l h f = (h.0, all-push lines l h.1 f)

pub written-push : (lines : List TranscriptLine) (us : List UpdateRec) (l : TranscriptLine) → IsWritten lines us → update_in l ≡ None → IsWellFormed l → IsWritten (lines ++ l ∷ []) us
written-push lines us l h other formed =
    let none : filter_map update_in (l ∷ []) ≡ [] = rw other in
    record {
      updates_are = h.updates_are ∙ sym (filter_map-append update_in lines (l ∷ []) ∙ ap (λ xs. updates lines ++ xs) none ∙ append-nil (updates lines));
      formed = all-push lines l h.formed formed;
    }

pub written-update : (lines : List TranscriptLine) (us : List UpdateRec) (u : UpdateRec) → IsWritten lines us → IsWellFormed (Update u) → IsWritten (lines ++ Update u ∷ []) (us ++ u ∷ [])
written-update lines us u h formed = record {
  updates_are = ap (λ xs. xs ++ u ∷ []) h.updates_are ∙ sym (filter_map-append update_in lines (Update u ∷ []));
  formed = all-push lines (Update u) h.formed formed;
}
