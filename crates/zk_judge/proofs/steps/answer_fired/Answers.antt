use Rattle.std.proofs.Common.{◌≡◌, List, Some, None, ap, sym, ◌∙◌}
use Rattle.std.specs.Prelude.{option_map}
use Rattle.zk_service.specs.Answers.{xid_of}
use Rattle.zk_transcript.specs.Walks.{Due, Walker, reply_step_if, told_as_of}
use Rattle.zk_judge.specs.NextFrames.{before_frame}
use Rattle.zk_judge.specs.Seen.{IsShortFrame, ending_of, frame_as}
use Rattle.zk_judge.proofs.Telling.{ending-fits}
use Rattle.zk_judge.proofs.steps.answer_fired.Goals as goal

pub reply_step-requires-clause-told : goal.reply_step-requires-clause-told
reply_step-requires-clause-told c =
    let asked = c.args.asked.now in
    let x = frame_as asked.read in
    let is = c.requires.asked in
    let frame : IsShortFrame x = record { bytes = is.bytes; short = is.short; reads = sym is.reads } in
    ending-fits c.args.index.now.lines.now c.args.past.now c.args.party.connection c.args.party.session x c.args.fired.watches asked.own (Some c.in-Some.ending) c.args.index.now.run c.requires.front is.stands frame
    (sym (ap (option_map ending_of) c.in-Some.is) ∙ c.in_ok-ending.ensures)

pub returns-in_ok-step-in-Some : goal.returns-in_ok-step-in-Some
returns-in_ok-step-in-Some c =
    let asked = c.args.asked.now in
    let x = frame_as asked.read in
    let told : Some (ending_of c.in-Some.ending) ≡ told_as_of c.args.past.now c.args.party.connection c.args.party.session x c.args.fired.watches asked.own =
    sym (ap (option_map ending_of) c.in-Some.is) ∙ c.in_ok-ending.ensures in
    ap (λ (y : Walker × List Due). Some y) c.in_ok-step-in-Some.ensures
    ∙ ap (reply_step_if c.args.past.now (before_frame asked.index) asked.place (xid_of x) c.args.fired.due.items) told

pub returns-in-None : goal.returns-in-None
returns-in-None c =
    let asked = c.args.asked.now in
    let x = frame_as asked.read in
    let told : None ≡ told_as_of c.args.past.now c.args.party.connection c.args.party.session x c.args.fired.watches asked.own =
    sym (ap (option_map ending_of) c.in-None.is) ∙ c.in_ok-ending.ensures in
    ap (reply_step_if c.args.past.now (before_frame asked.index) asked.place (xid_of x) c.args.fired.due.items) told
