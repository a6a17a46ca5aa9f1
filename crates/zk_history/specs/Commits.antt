-- What the program answers, as the definitions' data.
use Rattle.std.specs.Prelude.{ℤ, List, Option, None, option_map}
use Rattle.zk_model.specs.declared.reply.Body.{Body}
use Rattle.zk_model.specs.Znodes.{Tree}
use Rattle.zk_machine.specs.Edits.{edited_if}
use Rattle.zk_machine.specs.Writes.{written_all}
use Rattle.zk_history.specs.declared.outcome.Change.{Change}
use Rattle.zk_history.specs.declared.outcome.Change.TheVariants.{Edited, Written}
use Rattle.zk_history.specs.declared.outcome.Commit.{Commit as Answer}
use Rattle.zk_service.specs.declared.update.UpdateKind.{UpdateKind}
use Rattle.zk_service.specs.declared.update.UpdateKind.TheVariants.{Asked}
use Rattle.zk_transcript.specs.declared.transcript.TranscriptLine.{TranscriptLine}
use Rattle.zk_transcript.specs.declared.transcript.TranscriptLine.TheVariants.{Update}
use Rattle.zk_service.specs.States.{Commit, State}
use Rattle.zk_transcript.specs.History.{asked_commit}

abbrev pub changed : Tree → Change → Tree
changed t (Edited e) = edited_if t e
changed t (Written ws) = written_all t ws

-- what a request does that was planned on this tree
abbrev pub commit_of : Tree → Answer → Commit
commit_of t c = record { response = c.response; tree = changed t c.change; triggers = c.triggers }

-- the body of the reply to the create, create2, delete, setData or multi that an update carries out, where it is not refused
abbrev pub response_in : List TranscriptLine → State → ℤ → UpdateKind → Option Body
response_in before s zxid (Asked c i now) = option_map (λ x. x.response) (asked_commit before s zxid c i now)
response_in before s zxid _ = None

abbrev pub response_to : List TranscriptLine → State → TranscriptLine → Option Body
response_to before s (Update u) = response_in before s u.zxid u.kind
response_to before s _ = None
