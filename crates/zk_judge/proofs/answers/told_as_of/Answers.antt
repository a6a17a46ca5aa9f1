use Rattle.std.proofs.Common.{◌≡◌, ℕ, Option, Some, sym, ap, ◌∙◌, subst}
use Rattle.std.specs.Prelude.{Result, slice_get, IfOk, IfSome}
use Rattle.zk_service.specs.declared.update.UpdateRec.{UpdateRec}
use Rattle.zk_transcript.specs.declared.transcript.TranscriptLine.TheVariants.{Update}
use Rattle.zk_transcript.specs.Walks.{told_as_of}
use Rattle.zk_judge.specs.Seen.{frame_as}
use Rattle.zk_judge.proofs.Replied.{if-ok}
use Rattle.zk_judge.proofs.Running.{front-whole}
use Rattle.zk_judge.proofs.answers.told_as_of.Goals as goal

ok-then : {A E : Type 0} {P Q : A → Type 0} (r : Result A E) → IfOk r P → ((x : A) → P x → Q x) → IfOk r Q
ok-then r p f = if-ok r f p

pub told_by_state-requires-clause-whole : goal.told_by_state-requires-clause-whole
told_by_state-requires-clause-whole c = front-whole c.args.past.now c.args.index.now.lines.now c.args.state.now c.args.index.now.run c.requires.front c.requires.state

pub told_by_state-requires-clause-short : goal.told_by_state-requires-clause-short
told_by_state-requires-clause-short c = record { bytes = c.requires.asked.bytes; short = c.requires.asked.short; reads = sym c.requires.asked.reads }

pub told_of_own-requires-clause-update : goal.told_of_own-requires-clause-update
told_of_own-requires-clause-update c =
    subst (λ (o : Option (ℕ × UpdateRec)). IfSome o (λ u. slice_get c.args.index.now.lines.now u.0 ≡ Some (Update u.1))) c.in-Some.is c.requires.asked.stands

pub returns-in-Some : goal.returns-in-Some
returns-in-Some c =
    let x = frame_as c.args.asked.now.read in
    ok-then c.told_of_own.result c.told_of_own.ensures
    (λ o told. told c.args.party.connection c.args.party.session x ∙ ap (told_as_of c.args.past.now c.args.party.connection c.args.party.session x c.args.watches) (sym c.in-Some.is))
