use Rattle.std.proofs.Common.{◌≡◌, [], sym, ◌∙◌, length, refl, rules, arith}
use Rattle.std.proofs.lemmas.Result.{IfOk-weaker}
use Rattle.zk_transcript.specs.History.{connect}
use Rattle.zk_transcript.specs.Walks.{Due, packets, placed_frame}
use Rattle.zk_transcript.specs.Conversations.{IsLawfulAndFresh, IsRefused}
use Rattle.zk_judge.specs.Sent.{packets_in}
use Rattle.zk_judge.specs.Staged.{IsDeciding}
use Rattle.zk_judge.proofs.Lawful.{silent-lawful}
use Rattle.zk_judge.proofs.Stages.{deciding, first-sent, none-sent, one-sent, packets-within, refused-lawful}
use Rattle.zk_judge.proofs.conversations.unattached.Goals as goal

pub returns-in_default : goal.returns-in_default
returns-in_default c =
    let lines = c.args.index.now.lines.now in
    let silent : packets c.args.connection lines ≡ [] = sym c.packets_of-packets.ensures ∙ none-sent _ c.in_default.ensures in
    ((λ e. silent-lawful lines c.args.connection c.requires.run silent, λ l. refl), tt)

pub refusal-requires : goal.refusal-requires
refusal-requires c =
    let lines = c.args.index.now.lines.now in
    let first : Due = (c.in-Some.place, c.in-Some.bytes.now) in
    let sent = sym c.packets_of-packets.ensures ∙ first-sent _ first c.in-Some.ensures in
    omega (arith, packets-within c.args.connection 0 lines first _ sent)

pub returns : goal.returns
returns c =
    let lines = c.args.index.now.lines.now in
    let first : Due = (c.in-Some.place, c.in-Some.bytes.now) in
    let size : length (packets_in c.packets_of-packets.result) ≡ 1 = search rules in
    let sent = sym c.packets_of-packets.ensures ∙ one-sent _ first c.in-Some.ensures size in
    let in_time = sym c.are_before_close.ensures ∙ c.if-not-are_before_close.false in
    let same = refused-lawful lines c.args.connection first c.requires.run c.requires.unattached in_time sent in
    IfOk-weaker c.refusal.result
    (IsDeciding lines 0 (IsRefused lines c.args.connection first (placed_frame c.args.connection 0 lines) (connect c.args.connection lines)))
    (IsDeciding lines 0 (IsLawfulAndFresh lines c.args.connection))
    (λ s d. deciding lines 0 _ (IsLawfulAndFresh lines c.args.connection) s same d)
    c.refusal.ensures
