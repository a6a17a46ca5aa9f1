-- What the program answers, as the definitions' data.
use Rattle.std.specs.Prelude.{ℕ, ◌<◌, ⊤}
use Rattle.zk_machine.specs.declared.outcome.Outcome.{Outcome as Answer}
use Rattle.zk_machine.specs.declared.outcome.Outcome.TheVariants as answer
use Rattle.zk_model.specs.Single.{Outcome, Refused, Done}
use Rattle.zk_model.specs.Multi.{Parts, Stopped, Passed, Several, Denied, Codes, All as AllDone}
use Rattle.zk_machine.specs.declared.multi.Parts.{Parts as Chain}
use Rattle.zk_machine.specs.declared.multi.Parts.TheVariants as chain
use Rattle.zk_machine.specs.declared.multi.Transaction.{Transaction}
use Rattle.zk_machine.specs.declared.multi.Transaction.TheVariants as answers
use Rattle.zk_model.specs.Znodes.{Tree}
use Rattle.zk_machine.specs.Edits.{edited_if}
use Rattle.zk_machine.specs.Writes.{written_all}

-- what came of a request that was planned on this tree
abbrev pub outcome_of : Tree → Answer → Outcome
outcome_of t (answer.Refused code) = Refused code
outcome_of t (answer.Done result edit triggers) = Done result (edited_if t edit) triggers

-- what came of the parts of a transaction, whose writes are to be made in this tree
abbrev pub parts_as : Tree → Chain → Parts
parts_as t (chain.Stopped place code) = Stopped place code
parts_as t (chain.Passed results writes triggers touched) = Passed results.items (written_all t writes.items) triggers.items touched.items

abbrev pub IsPlacedBelow : Chain → ℕ → Type 0
IsPlacedBelow (chain.Stopped place code) n = place < n
IsPlacedBelow (chain.Passed results writes triggers touched) n = ⊤

abbrev pub several_as : Tree → Transaction → Several
several_as t (answers.Denied code) = Denied code
several_as t (answers.Codes row) = Codes row
several_as t (answers.All results writes triggers) = AllDone results (written_all t writes) triggers
