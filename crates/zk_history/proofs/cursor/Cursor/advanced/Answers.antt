use Rattle.std.proofs.Common.{◌≡◌, ◌+◌, ◌≤◌, ◌<◌, ◌∷◌, [], ◌++◌, take, drop, ap, sym, ◌∙◌, subst, arith, List}
use Rattle.std.proofs.lemmas.Grind.{common_steps}
use Rattle.std.proofs.lemmas.List.{drop_more, take_more, take-append-drop}
use Rattle.std.proofs.lemmas.Option.{get_or_from_slice_get}
use Rattle.zk_transcript.specs.declared.transcript.TranscriptLine.{TranscriptLine}
use Rattle.zk_service.specs.States.{State}
use Rattle.zk_transcript.specs.History.{after, change}
use Rattle.zk_transcript.proofs.Appending.{after-push}
use Rattle.zk_machine.proofs.FaultLaws.{beyond-weaker}
use Rattle.zk_history.specs.Commits.{response_to}
use Rattle.zk_history.proofs.Counts.{change-updates}
use Rattle.zk_history.proofs.Fitting.{line-fits}
use Rattle.zk_history.proofs.Looking.{front}
use Rattle.zk_history.proofs.cursor.Cursor.advanced.Goals as goal

pub at-requires-clause-reached : goal.at-requires-clause-reached
at-requires-clause-reached c =
    let all : List TranscriptLine = c.args.self.past.all.now in
    let k = c.args.self.past.len in
    let line : TranscriptLine = c.line_at-line.result.now in
    let next = ap (λ (x : TranscriptLine). take k all ++ x ∷ []) c.line_at-line.ensures ∙ sym (take_more all k line c.requires) in
    let moved = front c.in_ok-advanced.field-0.len (k + 1) c.in_ok-advanced.field-0.all.now all c.in_ok-advanced.ensures.len c.in_ok-advanced.ensures.all in
    c.in_ok-state.ensures.ok ∙ ap (λ (s : State). change (take k all) s line) c.args.self.reached ∙ sym (after-push (take k all) line) ∙ ap after next ∙ ap after (sym moved)

pub at-requires-clause-few : goal.at-requires-clause-few
at-requires-clause-few c =
    let more = change-updates (take c.args.self.past.len c.args.self.past.all.now) c.args.self.state c.line_at-line.result.now in
    let bound : c.in_ok-state.field-0.state.updates ≤ c.args.self.state.updates + 1 = subst (λ (s : State). s.updates ≤ c.args.self.state.updates + 1) (sym c.in_ok-state.ensures.ok) more in
    omega (arith, bound, c.args.self.few, c.in_ok-advanced.ensures.len)

pub returns-clause-response : goal.returns-clause-response
returns-clause-response c = λ l h.
    let before : List TranscriptLine = take c.args.self.past.len c.args.self.past.all.now in
    let line : TranscriptLine = c.line_at-line.result.now in
    c.in_ok-state.ensures.response ∙ ap (λ (s : State). response_to before s line) c.args.self.reached
    ∙ ap (λ (x : TranscriptLine). response_to before (after before) x) (c.line_at-line.ensures ∙ get_or_from_slice_get c.args.self.past.all.now c.args.self.past.len l line h)

pub returns-in_err-state-clause-beyond : goal.returns-in_err-state-clause-beyond
returns-in_err-state-clause-beyond c =
    let all : List TranscriptLine = c.args.self.past.all.now in
    let k = c.args.self.past.len in
    let line : TranscriptLine = c.line_at-line.result.now in
    let split : all ≡ take k all ++ line ∷ drop (k + 1) all =
    sym (take-append-drop k all) ∙ ap (λ (x : List TranscriptLine). take k all ++ x) (drop_more all k line c.requires ∙ ap (λ (x : TranscriptLine). x ∷ drop (k + 1) all) (sym c.line_at-line.ensures)) in
    let few : c.args.self.state.updates < 18446744073709551615 = grind (arith, c.args.self.few, c.requires) in
    let weaker = beyond-weaker _ _ c.in_err-state.field-0.0 (line-fits all (take k all) line (drop (k + 1) all) c.args.self.state few c.args.self.reached split) c.in_err-state.ensures.beyond in
    grind (arith, common_steps)
