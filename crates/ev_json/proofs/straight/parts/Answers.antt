use Rattle.std.proofs.Common.{◌≡◌, ◌++◌, ◌∷◌, [], ◌+◌, rules}
use Rattle.ev_json.specs.Answers.{part_in, parts_in}
use Rattle.ev_json.proofs.Spellings.{leads_on, leads_last, parts_from, parts-more, parts-none}
use Rattle.ev_json.proofs.straight.parts.Goals as goal

pub loop-act-preserved : goal.loop-act-preserved
loop-act-preserved c =
    let acts = c.args.acts.now in
    let i = c.loop-act.act-index in
    let pushed : c.push.new.self.items ≡ c.loop-act.list.items ++ c.in_ok-answer.answer ∷ [] = search rules in
    rw pushed (leads_on (part_in c.act-item.result) (parts_in acts) (parts_from acts i) (parts_from acts (i + 1)) 5 c.args.bytes.now c.loop-act.later c.loop-act.rest.now c.in_ok-comma_if.field-0.now c.in_ok-answer.next.now c.loop-act.list.items
    c.in_ok-answer.answer c.in_ok-comma_if.ensures c.in_ok-answer.ensures (parts-more acts i c.act-item.result c.loop-act-test.true c.act-item.is c.in_ok-answer.answer) c.loop-act.invariant)

pub returns : goal.returns
returns c =
    let acts = c.args.acts.now in
    let i = c.loop-act.act-index in
    leads_last (parts_in acts) (parts_from acts i) 5 c.args.bytes.now c.loop-act.later c.loop-act.rest.now c.in_ok-rest.rest.now c.loop-act.list.items c.in_ok-rest.ensures (parts-none acts i c.loop-act-test.false) c.loop-act.invariant
