use Rattle.std.proofs.Common.{◌≡◌, ◌+◌, Bool, [], pos, ap, sym, ◌∙◌, drop, subst, rules, refl}
use Rattle.std.specs.Prelude.{◌<ℤ◌, ◌↔◌, IsTrue}
use Rattle.std.proofs.lemmas.Result.{IfOk-weaker}
use Rattle.zk_service.specs.States.{State, session_at}
use Rattle.zk_transcript.specs.History.{connect}
use Rattle.zk_transcript.specs.Walks.{Due, Walker, at_start, packets}
use Rattle.zk_transcript.specs.Conversations.{IsLawfulAndFresh, IsWelcomed}
use Rattle.zk_least.specs.LeastSteps.{is_least}
use Rattle.zk_judge.specs.Fronts.{IsTold}
use Rattle.zk_judge.specs.Seen.{walker_of}
use Rattle.zk_judge.specs.Waiting.{IsEarliest, is_walked}
use Rattle.zk_judge.proofs.Lawful.{silent-lawful}
use Rattle.zk_judge.proofs.Stages.{IsAttached, first-sent, none-sent, start-above, start-earliest, start-told, welcome-lawful}
use Rattle.zk_judge.proofs.conversations.welcomed.Goals as goal

pub settle-requires-clause-early : goal.settle-requires-clause-early
settle-requires-clause-early c =
    let lines = c.args.index.now.lines.now in
    let conn = c.args.party.connection in
    let id = c.args.party.session in
    let at : IsAttached lines conn c.args.place c.args.zxid id = record { run = c.requires.run; line = c.requires.attached } in
    let start : walker_of c.new-walker.result ≡ at_start c.args.zxid (c.args.place + 1) = search rules in
    subst (λ (w : Walker). IsEarliest lines w (c.args.place + 1)) (sym start) (start-earliest lines conn c.args.place c.args.zxid id at)

pub settle-requires-clause-above : goal.settle-requires-clause-above
settle-requires-clause-above c =
    let lines = c.args.index.now.lines.now in
    let conn = c.args.party.connection in
    let id = c.args.party.session in
    let at : IsAttached lines conn c.args.place c.args.zxid id = record { run = c.requires.run; line = c.requires.attached } in
    let start : walker_of c.new-walker.result ≡ at_start c.args.zxid (c.args.place + 1) = search rules in
    subst (λ (w : Walker). pos 0 <ℤ w.zxid) (sym start) (start-above lines conn c.args.place c.args.zxid id at)

pub settle-requires-clause-told : goal.settle-requires-clause-told
settle-requires-clause-told c =
    let lines = c.args.index.now.lines.now in
    let conn = c.args.party.connection in
    let id = c.args.party.session in
    let at : IsAttached lines conn c.args.place c.args.zxid id = record { run = c.requires.run; line = c.requires.attached } in
    let start : walker_of c.new-walker.result ≡ at_start c.args.zxid (c.args.place + 1) = search rules in
    subst (λ (w : Walker). IsTold lines w) (sym start) (start-told lines conn c.args.place c.args.zxid id at)

pub returns-in_default-clause-walked : goal.returns-in_default-clause-walked
returns-in_default-clause-walked c =
    let lines = c.args.index.now.lines.now in
    let conn = c.args.party.connection in
    let silent : packets conn lines ≡ [] = sym c.packets_of-packets.ensures ∙ none-sent _ c.in_default.ensures in
    (λ e. silent-lawful lines conn c.requires.run silent, λ l. refl)

pub returns-clause-walked : goal.returns-clause-walked
returns-clause-walked c =
    let lines = c.args.index.now.lines.now in
    let conn = c.args.party.connection in
    let id = c.args.party.session in
    let at : IsAttached lines conn c.args.place c.args.zxid id = record { run = c.requires.run; line = c.requires.attached } in
    let start : walker_of c.new-walker.result ≡ at_start c.args.zxid (c.args.place + 1) = search rules in
    let first : Due = (c.in-Some.first, c.in-Some.bytes.now) in
    let sent = sym c.packets_of-packets.ensures ∙ first-sent _ first c.in-Some.ensures in
    let in_time = sym c.are_before_close.ensures ∙ c.if-not-are_before_close.false in
    let welcome = subst (λ (s : State). IsWelcomed lines conn c.args.place id first (connect conn lines) (session_at id s)) c.requires.state (c.in_ok-is_welcomed.ensures.0 c.if-not-branch.false) in
    let lawful = welcome-lawful lines conn c.args.place c.args.zxid id first _ at in_time sent welcome in
    let same = ap (λ (w : Walker). is_least lines conn id w (drop 1 (packets conn lines))) start in
    IfOk-weaker c.settle.result
    (λ r. is_walked lines r ≡ is_least lines conn id (walker_of c.new-walker.result) (drop 1 (packets conn lines)))
    (λ r. IsTrue (is_walked lines r) ↔ IsLawfulAndFresh lines conn)
    (λ r walked. subst (λ (b : Bool). IsTrue b ↔ IsLawfulAndFresh lines conn) (sym (walked ∙ same)) lawful)
    c.settle.ensures.walked
