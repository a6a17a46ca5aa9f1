use Rattle.std.proofs.Common.{◌≡◌, ℕ, List, None, subst}
use Rattle.std.specs.Prelude.{IfErr, IfOk}
use Rattle.zt_lines.specs.Outcomes.{IsFaultOf}
use Rattle.zt_lines.specs.Transcripts.{transcript}
use Rattle.zetcd_cmd.proofs.judge.lines_of.Goals as goal

pub returns-clause-ok : goal.returns-clause-ok
returns-clause-ok g c = subst (λ (t : List ℕ). IfOk c.read_transcript-lines.result (λ v. transcript t ≡ (v.items, None))) c.deref.ensures.value c.read_transcript-lines.ensures.ok

pub returns-clause-err : goal.returns-clause-err
returns-clause-err g c = subst (λ (t : List ℕ). IfErr c.read_transcript-lines.result (IsFaultOf (transcript t))) c.deref.ensures.value c.read_transcript-lines.ensures.err
