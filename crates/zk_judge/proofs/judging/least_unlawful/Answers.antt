use Rattle.std.proofs.Common.{◌+◌, ℕ, List, ◌++◌, ◌∷◌, [], ap, sym, ◌∙◌, length, subst, take}
use Rattle.std.proofs.lemmas.List.{take_more}
use Rattle.std.proofs.lemmas.List.Elements.{All-get_or}
use Rattle.zk_transcript.specs.Conversations.{IsLawfulAndFresh}
use Rattle.zk_judge.specs.Staged.{IsLeastOf, IsStanding, connections}
use Rattle.zk_judge.specs.declared.conversations.Conversation.{Conversation}
use Rattle.zk_judge.proofs.Opened.{connections-push, take-end}
use Rattle.zk_judge.proofs.judging.least_unlawful.Goals as goal

pub loop-conversation-preserved : goal.loop-conversation-preserved
loop-conversation-preserved c = λ lines stand.
    let xs = c.args.conversations.now in
    let k = c.loop-conversation.conversation-index in
    let x = c.conversation-item.result in
    let next = ap (λ (y : Conversation). take k xs ++ y ∷ []) c.conversation-item.is ∙ sym (take_more xs k x c.loop-conversation-test.true) in
    let stands = subst (λ (y : Conversation). IsStanding lines (length lines + 1) y) (sym c.conversation-item.is) (All-get_or (IsStanding lines (length lines + 1)) xs k x c.loop-conversation-test.true stand) in
    subst (λ (cs : List ℕ). IsLeastOf (IsLawfulAndFresh lines) cs c.with_verdict-found.result) (sym (connections-push (take k xs) x) ∙ ap connections next)
    (c.with_verdict-found.ensures lines (connections (take k xs)) stands (c.loop-conversation.invariant lines stand))

pub returns : goal.returns
returns c = λ lines stand.
    subst (λ (ys : List Conversation). IsLeastOf (IsLawfulAndFresh lines) (connections ys) c.loop-conversation.found)
    (take-end c.args.conversations.now c.loop-conversation.conversation-index c.loop-conversation-test.false)
    (c.loop-conversation.invariant lines stand)
