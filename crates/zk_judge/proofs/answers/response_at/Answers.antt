use Rattle.std.proofs.Common.{◌≡◌, ℕ, ℤ, List, ap, sym, ◌∙◌, take}
use Rattle.std.specs.Prelude.{Option, Some, option_map}
use Rattle.zk_model.specs.declared.reply.Body.{Body}
use Rattle.zk_service.specs.declared.update.UpdateKind.{UpdateKind}
use Rattle.zk_service.specs.declared.update.UpdateKind.TheVariants.{Asked}
use Rattle.zk_transcript.specs.declared.transcript.TranscriptLine.{TranscriptLine}
use Rattle.zk_transcript.specs.History.{state_at}
use Rattle.zk_transcript.specs.Walks.{response_at}
use Rattle.zk_history.specs.Commits.{response_in}
use Rattle.zk_judge.proofs.answers.response_at.Goals as goal
use denote.Ref.{Bor}

asked-response : (lines : List TranscriptLine) (place : ℕ) (zxid : ℤ) (kind : UpdateKind) (c i now : ℕ) (o : Option Body) → kind ≡ Asked c i now → o ≡ response_in (take place lines) (state_at lines place) zxid kind
    → o ≡ response_at lines place zxid kind
asked-response lines place zxid kind c i now o is h = h ∙ ap (λ (k : UpdateKind). response_in (take place lines) (state_at lines place) zxid k) is ∙ sym (ap (λ (k : UpdateKind). response_at lines place zxid k) is)

pub returns-in_ok-copy_of_body-in-Some : goal.returns-in_ok-copy_of_body-in-Some
returns-in_ok-copy_of_body-in-Some c =
    asked-response c.args.index.now.lines.now c.args.place c.args.update.zxid c.args.update.kind c.in-Asked.connection c.in-Asked.index c.in-Asked.now (Some c.in_ok-copy_of_body-in-Some.field-0) c.in-Asked.is
    (ap (λ (b : Body). Some b) c.in_ok-copy_of_body-in-Some.ensures ∙ ap (λ (o : Option (Bor Body)). option_map {U = Body} (λ b. b.now) o) (sym c.in-Some.is) ∙ c.response.ensures c.args.update c.requires.update)

pub returns-in-None : goal.returns-in-None
returns-in-None c =
    asked-response c.args.index.now.lines.now c.args.place c.args.update.zxid c.args.update.kind c.in-Asked.connection c.in-Asked.index c.in-Asked.now _ c.in-Asked.is
    (ap (λ (o : Option (Bor Body)). option_map {U = Body} (λ b. b.now) o) (sym c.in-None.is) ∙ c.response.ensures c.args.update c.requires.update)
