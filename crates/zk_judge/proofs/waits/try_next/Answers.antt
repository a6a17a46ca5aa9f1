use Rattle.std.proofs.Common.{◌≡◌, ◌+◌, Bool, inl, inr, ap, ◌∙◌, length, subst, rules, IfOk, arith}
use Rattle.zk_judge.specs.Sent.{packets_in}
use Rattle.zk_judge.specs.Seen.{walker_of}
use Rattle.zk_judge.specs.Waiting.{gives_rest, is_walked}
use Rattle.zk_judge.proofs.Replied.{if-ok}
use Rattle.zk_judge.proofs.Trying.{still-waits, tried-answers, tried-misses}
use Rattle.zk_judge.proofs.waits.try_next.Goals as goal

pub settle-requires-clause-early : goal.settle-requires-clause-early
settle-requires-clause-early c =
    let a = tried-answers c.args.index.now.lines.now c.args.wait (packets_in c.packets_left-left.result) _ c.in-Some.field-0 c.requires.run c.requires.stands c.packets_left-left.ensures c.in-Some.is c.in_ok-tried.ensures.step c.in_ok-tried.ensures.within in
    a.earliest

pub settle-requires-clause-above : goal.settle-requires-clause-above
settle-requires-clause-above c =
    let a = tried-answers c.args.index.now.lines.now c.args.wait (packets_in c.packets_left-left.result) _ c.in-Some.field-0 c.requires.run c.requires.stands c.packets_left-left.ensures c.in-Some.is c.in_ok-tried.ensures.step c.in_ok-tried.ensures.within in
    a.above

pub settle-requires-clause-told : goal.settle-requires-clause-told
settle-requires-clause-told c =
    let a = tried-answers c.args.index.now.lines.now c.args.wait (packets_in c.packets_left-left.result) _ c.in-Some.field-0 c.requires.run c.requires.stands c.packets_left-left.ensures c.in-Some.is c.in_ok-tried.ensures.step c.in_ok-tried.ensures.within in
    a.told

pub settle-requires-clause-within : goal.settle-requires-clause-within
settle-requires-clause-within c =
    let a = tried-answers c.args.index.now.lines.now c.args.wait (packets_in c.packets_left-left.result) _ c.in-Some.field-0 c.requires.run c.requires.stands c.packets_left-left.ensures c.in-Some.is c.in_ok-tried.ensures.step c.in_ok-tried.ensures.within in
    let within = a.within in
    let len : c.len.result ≡ length c.in-Some.field-0.due.items = search rules in
    omega (arith, within, len)

pub returns-in-Some-clause-walked : goal.returns-in-Some-clause-walked
returns-in-Some-clause-walked c =
    let lines = c.args.index.now.lines.now in
    let a = tried-answers c.args.index.now.lines.now c.args.wait (packets_in c.packets_left-left.result) _ c.in-Some.field-0 c.requires.run c.requires.stands c.packets_left-left.ensures c.in-Some.is c.in_ok-tried.ensures.step c.in_ok-tried.ensures.within in
    let len : c.len.result ≡ length c.in-Some.field-0.due.items = search rules in
    let same = ap (λ n. gives_rest lines c.args.wait.party (walker_of c.in-Some.field-0.walker) (c.args.wait.taken + n)) len ∙ a.walked in
    subst (λ (b : Bool). IfOk c.settle.result (λ r. is_walked lines r ≡ b)) same c.settle.ensures.walked

pub returns-in-Some-clause-fewer : goal.returns-in-Some-clause-fewer
returns-in-Some-clause-fewer c =
    let a = tried-answers c.args.index.now.lines.now c.args.wait (packets_in c.packets_left-left.result) _ c.in-Some.field-0 c.requires.run c.requires.stands c.packets_left-left.ensures c.in-Some.is c.in_ok-tried.ensures.step c.in_ok-tried.ensures.within in
    let fewer = a.fewer in
    let len : c.len.result ≡ length c.in-Some.field-0.due.items = search rules in
    if-ok c.settle.result (λ r most. inr (omega (arith, most, fewer, len))) c.settle.ensures.fewer

pub returns-in-None-clause-walked : goal.returns-in-None-clause-walked
returns-in-None-clause-walked c =
    c.in_ok-failed.ensures.walked (tried-misses c.args.index.now.lines.now c.args.wait (packets_in c.packets_left-left.result) _ c.packets_left-left.ensures c.in-None.is c.in_ok-tried.ensures.step)

pub returns-in-None-clause-waits : goal.returns-in-None-clause-waits
returns-in-None-clause-waits c = still-waits c.args.index.now.lines.now c.args.wait.first c.in_ok-failed.failed c.in_ok-failed.ensures.waits

pub returns-in-None-clause-fewer : goal.returns-in-None-clause-fewer
returns-in-None-clause-fewer c = inl c.in_ok-failed.ensures.waits
