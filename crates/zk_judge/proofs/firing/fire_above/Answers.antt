use Rattle.std.proofs.Common.{◌≡◌, ◌≤◌, ℤ, true, List, length, ap, sym, ◌∙◌, subst, rules, arith, w64, to_z, of_z}
use Rattle.std.proofs.lemmas.Int.{to_z-of_z}
use Rattle.zk_model.specs.Watches.{Watches, is_unarmed}
use Rattle.zk_transcript.specs.declared.transcript.TranscriptLine.{TranscriptLine}
use Rattle.zk_transcript.specs.Walks.{Due, fired_above, is_above, then_fired}
use Rattle.zk_judge.specs.Seen.{fired_of, walker_of}
use Rattle.zk_judge.proofs.Fronts.{fired-end, fired-next, fired-start, fired-unarmed, front-get, line-at}
use Rattle.zk_judge.proofs.Opened.{take-end}
use Rattle.zk_judge.proofs.firing.fire_above.Goals as goal
use Rattle.zk_judge.proofs.firing.fire_above.Goals.{then-updates-test+else-not-is_unarmed, else-updates-test}

pub updates-init : goal.updates-init
updates-init c = rw c.new.ensures.items (fired-start c.args.past.now c.args.index.now.lines.now (walker_of c.args.walker) c.requires.front c.requires.told)

pub returns-then-past-place : goal.returns-then-past-place
returns-then-past-place c =
    let place = c.next_update-place.ensures in
    c.updates.invariant
    ∙ fired-end c.args.past.now c.args.walker.zxid c.args.walker.watches c.updates.at (omega (arith, c.updates-test.true))
    (λ k u low high at. place.none k u low (omega (arith, high, c.if-past-place.true)) (front-get c.args.past.now c.args.index.now.lines.now k _ c.requires.front at))

pub updates-preserved : goal.updates-preserved
updates-preserved c =
    let past = c.args.past.now in
    let lines = c.args.index.now.lines.now in
    let place = c.next_update-place.ensures in
    let here = line-at past c.next_update-place.result c.if-past-place.false in
    let zxid : to_z w64 (of_z w64 c.args.walker.zxid) ≡ c.args.walker.zxid = to_z-of_z w64 c.args.walker.zxid (search rules) in
    let fires =
    subst (λ (z : ℤ). fired_of c.in_ok-fired.fired ≡ then_fired lines c.next_update-place.result (is_above z here.0) (fired_of c.updates.fired)) zxid
    (c.in_ok-fired.ensures here.0 (front-get past lines c.next_update-place.result here.0 c.requires.front here.1)) in
    fired-next past lines c.args.walker.zxid c.args.walker.watches c.updates.at c.next_update-place.result here.0 _ _ c.requires.front place.from c.if-past-place.false
    (λ k u low high at. place.none k u low high (front-get past lines k _ c.requires.front at))
    here.1 c.updates.invariant fires

pub returns : goal.returns
returns c =
    let past = c.args.past.now in
    let zxid = c.args.walker.zxid in
    let watches = c.args.walker.watches in
    let at = c.updates.at in
    elim c.updates-test.branch [
      | then-updates-test+else-not-is_unarmed w ↦
          let here : is_unarmed c.updates.fired.watches ≡ true = cc in
          c.updates.invariant ∙ fired-unarmed past zxid watches at (ap (λ (x : Watches × List Due). is_unarmed x.0) (sym c.updates.invariant) ∙ here)
      | else-updates-test w ↦
          let over : length past ≤ at = omega arith in
          c.updates.invariant ∙ ap (λ (ls : List TranscriptLine). fired_above ls zxid watches) (take-end past at over)
    ]
