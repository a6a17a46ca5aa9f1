use Rattle.std.proofs.Common.{◌≡◌, ℕ, ◌+◌, ◌<◌, true, false, List, [], length, take, sym, ap, ◌∙◌, subst, arith, length-take}
use Rattle.zk_transcript.specs.declared.transcript.TranscriptLine.{TranscriptLine}
use Rattle.zk_service.specs.States.{State}
use Rattle.zk_transcript.specs.History.{change}
use Rattle.zk_history.specs.Fits.{Fits}
use Rattle.zk_history.proofs.Looking.{front}
use Rattle.zk_legal.specs.Counted.{AreCounts}
use Rattle.zk_legal.specs.Faults.{IsRunTo, history_fault_from, is_history_line}
use Rattle.zk_legal.specs.Formed.{frames_of}
use Rattle.zk_legal.proofs.Fitting.{line-fits, no-lines-run, run-few, run-more}
use Rattle.zk_legal.proofs.Steps.{history-off, history-on, taken}
use Rattle.zk_legal.proofs.history.first_fault.Goals as goal

pub loop-place-init : goal.loop-place-init
loop-place-init c = record {
  fault = sym (ap (λ (s : State). history_fault_from [] s c.args.lines.now) c.new-state.ensures);
  run = no-lines-run c.new-state.result c.new-state.ensures;
  counts = c.new-counts.ensures;
  place = c.new-past.ensures.len;
  over = c.new-past.ensures.all;
}

pub is_history_line-requires-clause-run : goal.is_history_line-requires-clause-run
is_history_line-requires-clause-run c =
    let before = front c.loop-place.past.len c.loop-place.place c.loop-place.past.all.now c.args.lines.now c.loop-place.invariant.place c.loop-place.invariant.over in
    subst (λ (b : List TranscriptLine). IsRunTo b c.loop-place.state) (sym before) c.loop-place.invariant.run

pub changed-requires : goal.changed-requires
changed-requires c =
    let lines : List TranscriptLine = c.args.lines.now in
    let k : ℕ = c.loop-place.place in
    let line : TranscriptLine = c.index-lines-place.result in
    let before = front c.loop-place.past.len k c.loop-place.past.all.now lines c.loop-place.invariant.place c.loop-place.invariant.over in
    let holds : is_history_line (take k lines) c.loop-place.state line ≡ true =
    ap (λ (b : List TranscriptLine). is_history_line b c.loop-place.state line) (sym before) ∙ sym c.in_ok-is_history_line.ensures ∙ c.if-not-branch.false in
    let run = c.loop-place.invariant.run in
    let few : length (take k lines) < 18446744073709551615 = grind (arith, length-take, c.loop-place-test.true) in
    (omega (arith, few, run-few (take k lines) c.loop-place.state run), subst (λ (b : List TranscriptLine). Fits b c.loop-place.state line) (sym before) (line-fits (take k lines) c.loop-place.state line run holds))

pub is_history_line-requires-clause-counts : goal.is_history_line-requires-clause-counts
is_history_line-requires-clause-counts c = λ d.
    c.loop-place.invariant.counts d
    ∙ ap (frames_of d) (sym (front c.loop-place.past.len c.loop-place.place c.loop-place.past.all.now c.args.lines.now c.loop-place.invariant.place c.loop-place.invariant.over))

pub advanced-requires : goal.advanced-requires
advanced-requires c =
    let same : length c.loop-place.past.all.now ≡ length c.args.lines.now = ap (λ (ls : List TranscriptLine). length ls) c.loop-place.invariant.over in
    omega (arith, same, c.loop-place.invariant.place, c.loop-place-test.true)

pub loop-place-preserved : goal.loop-place-preserved
loop-place-preserved c =
    let lines : List TranscriptLine = c.args.lines.now in
    let k : ℕ = c.loop-place.place in
    let line : TranscriptLine = c.index-lines-place.result in
    let before = front c.loop-place.past.len k c.loop-place.past.all.now lines c.loop-place.invariant.place c.loop-place.invariant.over in
    let holds : is_history_line (take k lines) c.loop-place.state line ≡ true =
    ap (λ (b : List TranscriptLine). is_history_line b c.loop-place.state line) (sym before) ∙ sym c.in_ok-is_history_line.ensures ∙ c.if-not-branch.false in
    let changes : c.in_ok-state.state ≡ change (take k lines) c.loop-place.state line = c.in_ok-state.ensures ∙ ap (λ (b : List TranscriptLine). change b c.loop-place.state line) before in
    let few : length (take k lines) < 18446744073709551615 = grind (arith, length-take, c.loop-place-test.true) in
    record {
      fault = c.loop-place.invariant.fault ∙ history-on lines k line c.loop-place-test.true c.index-lines-place.is c.loop-place.state c.in_ok-state.state holds changes;
      run = subst (λ (b : List TranscriptLine). IsRunTo b c.in_ok-state.state) (taken lines k line c.loop-place-test.true c.index-lines-place.is)
          (run-more (take k lines) c.loop-place.state c.in_ok-state.state line c.loop-place.invariant.run holds changes);
      counts = subst (λ (b : List TranscriptLine). AreCounts b c.in_ok-counts.counts) (taken lines k line c.loop-place-test.true c.index-lines-place.is)
          (c.in_ok-counts.ensures (take k lines) few c.loop-place.invariant.counts);
      place = c.in_ok-past.ensures.len ∙ ap (λ (n : ℕ). n + 1) c.loop-place.invariant.place;
      over = c.in_ok-past.ensures.all ∙ c.loop-place.invariant.over;
    }

pub returns-then-not-branch : goal.returns-then-not-branch
returns-then-not-branch c =
    let lines : List TranscriptLine = c.args.lines.now in
    let k : ℕ = c.loop-place.place in
    let line : TranscriptLine = c.index-lines-place.result in
    let before = front c.loop-place.past.len k c.loop-place.past.all.now lines c.loop-place.invariant.place c.loop-place.invariant.over in
    let fails : is_history_line (take k lines) c.loop-place.state line ≡ false =
    ap (λ (b : List TranscriptLine). is_history_line b c.loop-place.state line) (sym before) ∙ sym c.in_ok-is_history_line.ensures ∙ c.if-not-branch.true in
    sym (c.loop-place.invariant.fault ∙ history-off lines k line c.loop-place-test.true c.index-lines-place.is c.loop-place.state fails)
