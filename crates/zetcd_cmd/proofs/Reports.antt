-- What goes through the buffer of a report.
use Rattle.std.proofs.Common.{◌≡◌, ℕ, ◌+◌, ◌<◌, List, [], ◌∷◌, ◌++◌, length, take, drop, get_or, refl, sym, ap, ◌∙◌, subst, append_assoc, append-nil}
use Rattle.std.specs.Prelude.{Option}
use Rattle.std.proofs.lemmas.Grind.{flat_map-append}
use Rattle.std.proofs.lemmas.List.{take_more, take-append-drop}
use Rattle.std.specs.Io.KnownBytes.{append_known}
use Rattle.zk_transcript.specs.declared.transcript.TranscriptLine.{TranscriptLine}
use Rattle.zt_text.specs.Transcripts.{line_text, transcript_text}
use Rattle.zx_outside.specs.Writing.{Takes}
use Rattle.zx_outside.proofs.Streams.{append_known-nil, Takes-append}
use Rattle.zetcd_cmd.specs.Outcomes.{TakesSome}
use Rattle.zetcd_cmd.specs.Reporting.{ReportPasses}
use Rattle.zetcd_cmd.proofs.Fronts.{TakesSome-after, TakesSome-more}

pub Passes-nil : (buffer : List ℕ) (taken : Option (List ℕ)) → ReportPasses [] buffer buffer taken taken
Passes-nil buffer taken = ([], sym (append-nil buffer), sym (append_known-nil taken))

pub Passes-append : (first second buffer buffer' buffer'' : List ℕ) (taken taken' taken'' : Option (List ℕ)) → ReportPasses first buffer buffer' taken taken' → ReportPasses second buffer' buffer'' taken' taken'' →
    ReportPasses (first ++ second) buffer buffer'' taken taken''
Passes-append first second buffer buffer' buffer'' taken taken' taken'' early late = (
  early.0 ++ late.0,
  append_assoc early.0 late.0 buffer'' ∙ ap (λ t. early.0 ++ t) late.1 ∙ sym (append_assoc early.0 buffer' second) ∙ ap (λ t. t ++ second) early.1 ∙ append_assoc buffer first second,
  Takes-append early.0 late.0 taken taken' taken'' early.2 late.2,
)

pub transcript_text-nil : transcript_text [] ≡ []
unfolding transcript_text
transcript_text-nil = refl

pub transcript_text-more : (lines : List TranscriptLine) (i : ℕ) (line : TranscriptLine) → i < length lines → transcript_text (take (i + 1) lines) ≡ transcript_text (take i lines) ++ line_text (get_or lines i line)
unfolding transcript_text
transcript_text-more lines i line within =
    ap transcript_text (take_more lines i line within) ∙ flat_map-append line_text (take i lines) (get_or lines i line ∷ [])
    ∙ ap (λ t. transcript_text (take i lines) ++ t) (append-nil (line_text (get_or lines i line)))

-- what passed, and what is written after it
pub Passes-out : (bytes last buffer' : List ℕ) (taken taken' taken'' : Option (List ℕ)) → ReportPasses bytes [] buffer' taken taken' → Takes (buffer' ++ last) taken' taken'' → Takes (bytes ++ last) taken taken''
Passes-out bytes last buffer' taken taken' taken'' early late =
    Takes-append early.0 (buffer' ++ last) taken taken' taken'' early.2 late ∙ ap (append_known taken) (sym (append_assoc early.0 buffer' last) ∙ ap (λ t. t ++ last) early.1)

-- a front of what passes a buffer after what passed before
pub TakesSome-passed : (first second buffer buffer' : List ℕ) (taken taken' taken'' : Option (List ℕ)) → ReportPasses first buffer buffer' taken taken' → TakesSome (buffer' ++ second) taken' taken'' →
    TakesSome (buffer ++ (first ++ second)) taken taken''
TakesSome-passed first second buffer buffer' taken taken' taken'' early some =
    subst (λ (t : List ℕ). TakesSome t taken taken'')
    (sym (append_assoc early.0 buffer' second) ∙ ap (λ t. t ++ second) early.1 ∙ append_assoc buffer first second)
    (TakesSome-after early.0 (buffer' ++ second) taken taken' taken'' early.2 some)

-- the lines up to one are the front of them all
pub transcript_text-parts : (lines : List TranscriptLine) (i : ℕ) → transcript_text lines ≡ transcript_text (take i lines) ++ transcript_text (drop i lines)
unfolding transcript_text
transcript_text-parts lines i = ap transcript_text (sym (take-append-drop i lines)) ∙ flat_map-append line_text (take i lines) (drop i lines)

pub TakesSome-lines : (buffer : List ℕ) (lines : List TranscriptLine) (i : ℕ) (taken taken' : Option (List ℕ)) → TakesSome (buffer ++ transcript_text (take i lines)) taken taken' →
    TakesSome (buffer ++ transcript_text lines) taken taken'
TakesSome-lines buffer lines i taken taken' some =
    subst (λ (t : List ℕ). TakesSome t taken taken')
    (append_assoc buffer (transcript_text (take i lines)) (transcript_text (drop i lines)) ∙ ap (λ t. buffer ++ t) (sym (transcript_text-parts lines i)))
    (TakesSome-more (buffer ++ transcript_text (take i lines)) (transcript_text (drop i lines)) taken taken' some)

-- what passed through an empty buffer is a front of what was to be written
pub TakesSome-begun : (first second buffer' : List ℕ) (taken taken' : Option (List ℕ)) → ReportPasses first [] buffer' taken taken' → TakesSome (first ++ second) taken taken'
TakesSome-begun first second buffer' taken taken' early =
    (early.0, buffer' ++ second, ap (λ t. t ++ second) (sym early.1) ∙ append_assoc early.0 buffer' second, early.2)

-- all that passed through an empty buffer, and then the buffer
pub Passes-whole : (bytes buffer' : List ℕ) (taken taken' taken'' : Option (List ℕ)) → ReportPasses bytes [] buffer' taken taken' → Takes buffer' taken' taken'' → Takes bytes taken taken''
Passes-whole bytes buffer' taken taken' taken'' early late =
    subst (λ (t : List ℕ). Takes t taken taken'') early.1 (Takes-append early.0 buffer' taken taken' taken'' early.2 late)

-- or a front of the buffer
pub Passes-front : (bytes buffer' : List ℕ) (taken taken' taken'' : Option (List ℕ)) → ReportPasses bytes [] buffer' taken taken' → TakesSome buffer' taken' taken'' → TakesSome bytes taken taken''
Passes-front bytes buffer' taken taken' taken'' early some =
    subst (λ (t : List ℕ). TakesSome t taken taken'') early.1 (TakesSome-after early.0 buffer' taken taken' taken'' early.2 some)
