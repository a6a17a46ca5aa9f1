use Rattle.std.proofs.Common.{List, ◌++◌, ◌∷◌, [], ap, sym, ◌∙◌, subst, take}
use Rattle.std.proofs.lemmas.List.{take_more}
use Rattle.zk_transcript.specs.declared.transcript.TranscriptLine.{TranscriptLine}
use Rattle.zk_legal.specs.Passwords.{OfferPasswords}
use Rattle.zk_judge.proofs.Opened.{take-end}
use Rattle.zk_judge.proofs.Running.{offered-more}
use Rattle.zk_judge.proofs.index.see_passwords.Goals as goal

pub loop-line-preserved : goal.loop-line-preserved
loop-line-preserved c =
    let lines = c.args.lines.now in
    let k = c.loop-line.line-index in
    let line = c.line-item.result in
    let next = ap (λ (l : TranscriptLine). take k lines ++ l ∷ []) c.line-item.is ∙ sym (take_more lines k line c.loop-line-test.true) in
    subst (λ (ls : List TranscriptLine). OfferPasswords ls) next (offered-more (take k lines) line c.see_password.ensures c.loop-line.invariant)

pub returns : goal.returns
returns c = subst (λ (ls : List TranscriptLine). OfferPasswords ls) (take-end c.args.lines.now c.loop-line.line-index c.loop-line-test.false) c.loop-line.invariant
