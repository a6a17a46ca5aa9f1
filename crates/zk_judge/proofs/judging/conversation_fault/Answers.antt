use Rattle.std.proofs.Common.{◌+◌, List, ap, sym, ◌∙◌, length, subst}
use Rattle.std.specs.List.{All, Contains}
use Rattle.zk_transcript.specs.declared.transcript.TranscriptLine.{TranscriptLine}
use Rattle.zk_transcript.specs.Conversations.{IsLawfulAndFresh}
use Rattle.zk_legal.specs.Faults.{history_fault}
use Rattle.zk_judge.specs.Faults.{IsLeastFault}
use Rattle.zk_judge.specs.Staged.{AreOpened, IsStanding, connections}
use Rattle.zk_judge.specs.declared.conversations.Conversation.{Conversation}
use Rattle.zk_judge.proofs.Opened.{least-of-opened}
use Rattle.zk_judge.proofs.judging.conversation_fault.Goals as goal

pub returns : goal.returns
returns c =
    let lines = c.in_ok-index.index.lines.now in
    let value = sym c.deref.ensures.value in
    let stand = subst (λ (xs : List Conversation). All (IsStanding lines (length lines + 1)) xs) value c.in_ok-conversations.ensures.stand in
    let opened = subst (λ (xs : List Conversation). AreOpened lines (Contains (connections xs))) value c.in_ok-conversations.ensures.opened in
    subst (λ (ls : List TranscriptLine). IsLeastFault (IsLawfulAndFresh ls) c.least_unlawful.result) c.in_ok-index.ensures
    (least-of-opened lines c.deref.result.now c.least_unlawful.result (ap history_fault c.in_ok-index.ensures ∙ c.requires) opened (c.least_unlawful.ensures lines stand))
