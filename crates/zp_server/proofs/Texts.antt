-- The cause in a transcript's line is that of a server's.
use Rattle.std.proofs.Common.{◌≡◌, ℕ, ◌-◌, ◌≤◌, List, ◌++◌, refl, ap, ◌∙◌, length, take, drop, arith, append_assoc, codes}
use Rattle.std.specs.Prelude.{decimal}
use Rattle.std.proofs.lemmas.Fmt.{decimal_digit}
use Rattle.std.proofs.lemmas.List.{length-drop, take_all}
use Rattle.zk_service.specs.declared.cause.Cause.{Cause}
use Rattle.zk_service.specs.declared.cause.Ended.TheVariants as ended
use Rattle.zk_transcript.specs.declared.transcript.TranscriptLine.TheVariants as line
use Rattle.zt_text.specs.Transcripts.{line_text}
use Rattle.zp_server.specs.Lines.{cause_text, closed_text}

pub long_enough : (why : Cause) → 7 ≤ length (line_text (line.Close 0 (ended.Cause why)))
unfolding line_text
long_enough why = rw (decimal_digit 0 (omega arith)) (omega arith)

pub after_number : (why : Cause) → drop 7 (line_text (line.Close 0 (ended.Cause why))) ≡ cause_text why
unfolding line_text cause_text
after_number why = rw (decimal_digit 0 (omega arith)) refl

-- a line that is put together of these pieces
pub closed_is : (number : ℕ) (why : Cause) (head numbered all text rest : List ℕ) → head ≡ codes "closed " → numbered ≡ head ++ decimal number → text ≡ line_text (line.Close 0 (ended.Cause why))
    → rest ≡ take (length text - 7) (drop 7 text) → all ≡ numbered ++ rest → all ≡ closed_text number why
unfolding closed_text
closed_is number why head numbered all text rest begins counts is cut joins =
    let whole : take (length text - 7) (drop 7 text) ≡ drop 7 text = take_all _ _ (omega (arith, length-drop 7 text)) in
    joins ∙ ap (λ (x : List ℕ). numbered ++ x) (cut ∙ whole ∙ ap (λ (x : List ℕ). drop 7 x) is ∙ after_number why) ∙ ap (λ (x : List ℕ). x ++ cause_text why) (counts ∙ ap (λ (x : List ℕ). x ++ decimal number) begins)
    ∙ append_assoc (codes "closed ") (decimal number) (cause_text why)
