-- The transcript of a run is only added to.
use Rattle.std.proofs.Common.{◌≡◌, ℕ, ◌+◌, ◌-◌, ◌<◌, List, [], ◌++◌, length, take, take_all, drop, length-drop, refl, sym, ap, ◌∙◌, subst, arith, append-nil, append_assoc, length-append}
use Rattle.std.specs.Prelude.{Option}
use Rattle.std.proofs.Math.Seq.{take-append_seam}
use Rattle.std.proofs.lemmas.List.{take-append-drop}
use Rattle.std.proofs.lemmas.List.Elements.{All-append, All-nil}
use Rattle.zk_transcript.specs.declared.transcript.TranscriptLine.{TranscriptLine}
use Rattle.zt_text.specs.Transcripts.{transcript_text}
use Rattle.zt_text.specs.declared.script.Happening.{Happening}
use Rattle.zt_text.specs.declared.script.Happening.TheVariants as line
use Rattle.zp_script.specs.Happens.{Happens, max_settling}
use Rattle.zp_script.specs.Worlds.{World}
use Rattle.zp_verdict_laws.specs.Written.{AreTyped, IsTyped}
use Rattle.zp_step.specs.Stages.{max_count}
use Rattle.zp_world_laws.proofs.Since.{Since, does-since, settles-since}
use Rattle.zx_outside.specs.Writing.{Takes}
use Rattle.zx_outside.proofs.Streams.{Takes-append}
use Rattle.zetcd_cmd.specs.Outcomes.{TakesSome}
use Rattle.zetcd_cmd.specs.Reporting.{HasWritten}
use Rattle.zetcd_cmd.specs.Scripting.{Appends, ScriptHalts}
use Rattle.zetcd_cmd.specs.declared.script.Stop.{Stop}
use Rattle.zetcd_cmd.specs.declared.script.Stop.TheVariants as stop
use Rattle.zetcd_cmd.proofs.Fronts.{TakesSome-after}
use Rattle.zetcd_cmd.proofs.Reaching.{AreHeld}
use Rattle.zetcd_cmd.proofs.Reports.{transcript_text-nil, transcript_text-parts}

pub Appends-same : (w w' : World) → w' ≡ w → Appends w w'
Appends-same w w' e = ([], ap (λ (v : World). v.lines) e ∙ sym (append-nil w.lines))

pub Appends-then : (u v w : World) → Appends u v → Appends v w → Appends u w
Appends-then u v w a b = (a.0 ++ b.0, b.1 ∙ ap (λ (ls : List TranscriptLine). ls ++ b.0) a.1 ∙ append_assoc u.lines a.0 b.0)

-- ---- each line of a script

appended : (w w' : World) → Since w w' → Appends w w'
appended w w' s = (s.more, s.lines)

pub happens-appends : (w w' : World) (h : Happening) → Happens w h w' → Appends w w'
happens-appends w w' (line.Settle c) h = appended w w' (settles-since (max_settling c w) c w w' h.effect)
happens-appends w w' (line.Tick n) h = ([], ap (λ (v : World). v.lines) h.effect ∙ sym (append-nil w.lines))
happens-appends w w' (line.Open c p id passwd layout) h = appended w w' (does-since w w' (line.Open c p id passwd layout) (λ x. x) h.possible h.effect)
happens-appends w w' (line.Frame c bytes) h = appended w w' (does-since w w' (line.Frame c bytes) (λ x. x) h.possible h.effect)
happens-appends w w' (line.Arrive c bytes) h = appended w w' (does-since w w' (line.Arrive c bytes) (λ x. x) h.possible h.effect)
happens-appends w w' (line.Exec c) h = appended w w' (does-since w w' (line.Exec c) (λ x. x) h.possible h.effect)
happens-appends w w' (line.Answer c) h = appended w w' (does-since w w' (line.Answer c) (λ x. x) h.possible h.effect)
happens-appends w w' (line.Cut c) h = appended w w' (does-since w w' (line.Cut c) (λ x. x) h.possible h.effect)
happens-appends w w' (line.Refuse c) h = appended w w' (does-since w w' (line.Refuse c) (λ x. x) h.possible h.effect)
happens-appends w w' (line.Stray n) h = appended w w' (does-since w w' (line.Stray n) (λ x. x) h.possible h.effect)
happens-appends w w' (line.Entry c) h = appended w w' (does-since w w' (line.Entry c) (λ x. x) h.possible h.effect)
happens-appends w w' (line.Lag c) h = appended w w' (does-since w w' (line.Lag c) (λ x. x) h.possible h.effect)
happens-appends w w' (line.End c) h = appended w w' (does-since w w' (line.End c) (λ x. x) h.possible h.effect)
happens-appends w w' (line.Restart p) h = appended w w' (does-since w w' (line.Restart p) (λ x. x) h.possible h.effect)
happens-appends w w' (line.Lapse id) h = appended w w' (does-since w w' (line.Lapse id) (λ x. x) h.possible h.effect)
happens-appends w w' (line.Foreign key v) h = appended w w' (does-since w w' (line.Foreign key v) (λ x. x) h.possible h.effect)
happens-appends w w' (line.Reap c p id) h = appended w w' (does-since w w' (line.Reap c p id) (λ x. x) h.possible h.effect)

-- a line that was not applied, for another cause than out of memory, adds nothing
pub Halts-appends : (text : List ℕ) (w : World) (why : Stop) (w' : World) → ScriptHalts text w why w' → (why ≡ stop.Memory → ⊥) → Appends w w'
Halts-appends text w (stop.Unread why) w' halts not = Appends-same w w' halts.2
Halts-appends text w (stop.Refused why) w' halts not = Appends-same w w' halts.3
Halts-appends text w stop.Memory w' halts not = absurd (not refl)

-- ---- what of it was written

pub HasWritten-none : (lines : List TranscriptLine) (taken : Option (List ℕ)) → Takes [] taken taken → HasWritten 0 lines taken taken
HasWritten-none lines taken takes = (omega arith, subst (λ (t : List ℕ). Takes t taken taken) (sym transcript_text-nil) takes)

-- the rest of the lines were written too
pub HasWritten-rest : (count : ℕ) (lines : List TranscriptLine) (taken taken' taken'' : Option (List ℕ)) → HasWritten count lines taken taken' → Takes (transcript_text (drop count lines)) taken' taken'' →
    Takes (transcript_text lines) taken taken''
HasWritten-rest count lines taken taken' taken'' has rest =
    subst (λ (t : List ℕ). Takes t taken taken'') (sym (transcript_text-parts lines count))
    (Takes-append (transcript_text (take count lines)) (transcript_text (drop count lines)) taken taken' taken'' has.1 rest)

-- and what stands after them
pub HasWritten-all : (count : ℕ) (lines : List TranscriptLine) (more : List ℕ) (taken taken' taken'' : Option (List ℕ)) → HasWritten count lines taken taken' →
    Takes (transcript_text (drop count lines) ++ more) taken' taken'' → Takes (transcript_text lines ++ more) taken taken''
HasWritten-all count lines more taken taken' taken'' has rest =
    subst (λ (t : List ℕ). Takes t taken taken'')
    (sym (append_assoc (transcript_text (take count lines)) (transcript_text (drop count lines)) more) ∙ ap (λ t. t ++ more) (sym (transcript_text-parts lines count)))
    (Takes-append (transcript_text (take count lines)) (transcript_text (drop count lines) ++ more) taken taken' taken'' has.1 rest)

-- or a front of these
pub HasWritten-front : (count : ℕ) (lines : List TranscriptLine) (more : List ℕ) (taken taken' taken'' : Option (List ℕ)) → HasWritten count lines taken taken' →
    TakesSome (transcript_text (drop count lines) ++ more) taken' taken'' → TakesSome (transcript_text lines ++ more) taken taken''
HasWritten-front count lines more taken taken' taken'' has some =
    subst (λ (t : List ℕ). TakesSome t taken taken'')
    (sym (append_assoc (transcript_text (take count lines)) (transcript_text (drop count lines)) more) ∙ ap (λ t. t ++ more) (sym (transcript_text-parts lines count)))
    (TakesSome-after (transcript_text (take count lines)) (transcript_text (drop count lines) ++ more) taken taken' taken'' has.1 some)

-- the lines before are a front of the lines after
lines-front : (w w' : World) (count : ℕ) → Appends w w' → count ≡ length w.lines → take count w'.lines ≡ w.lines
lines-front w w' count more all =
    ap (λ (n : ℕ). take n w'.lines) all ∙ ap (λ (ls : List TranscriptLine). take (length w.lines) ls) more.1 ∙ take-append_seam w.lines more.0

-- and lines were added
pub HasWritten-more : (w w' : World) (count : ℕ) (taken taken' : Option (List ℕ)) → Appends w w' → count ≡ length w.lines → Takes (transcript_text w.lines) taken taken' → HasWritten count w'.lines taken taken'
HasWritten-more w w' count taken taken' more all takes =
    let size : length w'.lines ≡ length w.lines + length more.0 = ap length more.1 ∙ length-append w.lines more.0 in
    (omega arith, subst (λ (ls : List TranscriptLine). Takes (transcript_text ls) taken taken') (sym (lines-front w w' count more all)) takes)

-- so many of these lines were written, and their fields are of their types
pub record IsOut (count : ℕ) (lines : List TranscriptLine) (taken taken' : Option (List ℕ)) : Type 0 where
  pub has : HasWritten count lines taken taken'
  pub typed : AreTyped (take count lines)

pub IsOut-none : (lines : List TranscriptLine) (taken : Option (List ℕ)) → Takes [] taken taken → IsOut 0 lines taken taken
IsOut-none lines taken takes = record { has = HasWritten-none lines taken takes; typed = All-nil IsTyped }

-- a slice from a place on is all that stands there
pub left : (count : ℕ) (lines : List TranscriptLine) → take (length lines - count) (drop count lines) ≡ drop count lines
left count lines = take_all _ _ (omega (arith, length-drop count lines))

-- the rest are of their types too
pub IsOut-held : (count : ℕ) (lines : List TranscriptLine) (taken taken' : Option (List ℕ)) → IsOut count lines taken taken' → length lines < max_count → AreTyped (drop count lines) → AreHeld lines
IsOut-held count lines taken taken' out few typed = record {
  few = few;
  typed = subst AreTyped (take-append-drop count lines) (All-append IsTyped (take count lines) (drop count lines) out.typed typed);
}

-- all were written, and lines were added
pub IsOut-more : (w w' : World) (count : ℕ) (taken taken' : Option (List ℕ)) → Appends w w' → count ≡ length w.lines → AreTyped w.lines → Takes (transcript_text w.lines) taken taken' →
    IsOut count w'.lines taken taken'
IsOut-more w w' count taken taken' more all typed takes = record {
  has = HasWritten-more w w' count taken taken' more all takes;
  typed = subst AreTyped (sym (lines-front w w' count more all)) typed;
}
