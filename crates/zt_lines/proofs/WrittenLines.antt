-- A line of a transcript is read back as it was written.
use Rattle.std.proofs.Common.{◌≡◌, ℕ, ◌≤◌, List, ℤ, pos, negsuc, Some, None, length, refl, ap, ◌∙◌, arith}
use Rattle.std.specs.Prelude.{codes}
use Rattle.std.specs.Fmt.{signed_decimal}
use Rattle.std.proofs.lemmas.Bool.{le-ltb}
use Rattle.std.proofs.lemmas.Int.{ints}
use Rattle.zk_model.specs.declared.layout.Layout.TheVariants.{One, Two}
use Rattle.zk_service.specs.declared.cause.Cause.{Cause}
use Rattle.zk_service.specs.declared.cause.Cause.TheVariants as cause
use Rattle.zk_service.specs.declared.cause.Ended.{Ended}
use Rattle.zk_service.specs.declared.cause.Ended.TheVariants as ended
use Rattle.zk_service.specs.declared.update.UpdateKind.{UpdateKind}
use Rattle.zk_service.specs.declared.update.UpdateKind.TheVariants as kind
use Rattle.zk_transcript.specs.declared.transcript.TranscriptLine.{TranscriptLine}
use Rattle.zk_transcript.specs.declared.transcript.TranscriptLine.TheVariants as line
use Rattle.zt_text.specs.Scripts.{max_line, pieces}
use Rattle.zt_text.specs.Transcripts.{cause_words, end_words, kind_words, line_words, spaced}
use Rattle.zt_text.proofs.ReadWords.{password-hex_text, session_id-id_text}
use Rattle.zt_text.proofs.TranscriptLaws.{pieces-line_words}
use Rattle.zt_text.proofs.WrittenWords.{hex-hex_text}
use Rattle.zt_lines.specs.Lines.{asked_words, attach_words, bad_length_end, begin_words, close_line, closed_words, damaged, end_of_one, end_of_pair, end_of_place, end_of_revision, end_of_two, end_read, frame_line, kind_of_form, kind_read, lapse_line, line_of_form, line_read, of_words, open_line, pair_cause, place_cause, plain_cause, reaped_words, revision_end, send_line, session_words, update_line}
use Rattle.zt_lines.specs.Readable.{FitsCause, FitsEnd, FitsKind, FitsLine, FitsLong, IsReadable}
use Rattle.zt_lines.proofs.WrittenNumbers.{length_word-signed_decimal, long-signed_decimal, number-decimal, place-decimal}

-- ---- what an update was

kind_read-kind_words : (k : UpdateKind) → FitsKind k → kind_read (kind_words k) ≡ Some k
unfolding kind_of_form begin_words session_words attach_words asked_words closed_words reaped_words
kind_read-kind_words (kind.Begin now) h = rw (place-decimal now h) refl
kind_read-kind_words (kind.Session id c) h = rw (session_id-id_text id h.0.0 h.0.1, number-decimal c h.1) refl
kind_read-kind_words (kind.Attach id c) h = rw (session_id-id_text id h.0.0 h.0.1, number-decimal c h.1) refl
kind_read-kind_words (kind.Asked c i now) h = rw (number-decimal c h.0, place-decimal i h.1, place-decimal now h.2) refl
kind_read-kind_words (kind.Closed id c i) h = rw (session_id-id_text id h.0.0 h.0.1, number-decimal c h.1, place-decimal i h.2) refl
kind_read-kind_words (kind.Reaped id) h = rw (session_id-id_text id h.0 h.1) refl

-- ---- how a connection or a reaper ended

-- a form that names no place in a stream
end_of_one-revision : (form : List ℕ) (z : ℤ) → ((n : ℕ) → place_cause form n ≡ None) → FitsLong z → end_of_one form (signed_decimal z) ≡ revision_end form z
unfolding end_of_one end_of_place end_of_revision
end_of_one-revision form (pos n) none fits =
    let most = fits.1 in
    let here = place-decimal n (omega (arith, ints)) in
    let no_place = none n in
    let value = long-signed_decimal (pos n) fits in
    rw (here, no_place, value) refl
end_of_one-revision form (negsuc n) none fits = let least = fits.0 in absurd (omega (arith, ints))

end_read-cause_words : (x : Cause) → FitsCause x → end_read (cause_words x) ≡ Some (ended.Cause x)
unfolding plain_cause place_cause revision_end pair_cause end_of_one end_of_place end_of_two bad_length_end damaged end_of_pair
end_read-cause_words cause.Closed h = refl
end_read-cause_words (cause.ClientEnd n) h = rw (place-decimal n h) refl
end_read-cause_words cause.ReadFault h = refl
end_read-cause_words cause.WriteFault h = refl
end_read-cause_words (cause.BadLength n size) h = rw (place-decimal n h.0, length_word-signed_decimal size h.1) refl
end_read-cause_words (cause.NoHeader n) h = rw (place-decimal n h) refl
end_read-cause_words cause.AuthRefused h = refl
end_read-cause_words cause.Unknown h = refl
end_read-cause_words (cause.ZxidAhead client head) h = rw (long-signed_decimal client h.0, long-signed_decimal head h.1) refl
end_read-cause_words (cause.Taken rev) h = end_of_one-revision (codes "taken") rev (λ n. refl) h
end_read-cause_words (cause.Expired rev) h = end_of_one-revision (codes "expired") rev (λ n. refl) h
end_read-cause_words (cause.Moved mine found) h = rw (long-signed_decimal mine h.0, long-signed_decimal found h.1) refl
end_read-cause_words cause.LinkFault h = refl
end_read-cause_words (cause.Lagged cursor floor) h = rw (long-signed_decimal cursor h.0, long-signed_decimal floor h.1) refl
end_read-cause_words cause.FeedClosed h = refl
end_read-cause_words (cause.Damaged key value) h = rw (hex-hex_text key h.0, hex-hex_text value h.1) refl
end_read-cause_words cause.Restart h = refl
end_read-cause_words cause.Memory h = refl

end_read-end_words : (e : Ended) → FitsEnd e → end_read (end_words e) ≡ Some e
unfolding place_cause revision_end
end_read-end_words (ended.Cause x) h = end_read-cause_words x h
end_read-end_words (ended.Reaped z) h = end_of_one-revision (codes "reaped") z (λ n. refl) h
end_read-end_words (ended.Kept rev) h = end_of_one-revision (codes "kept") rev (λ n. refl) h
end_read-end_words (ended.Gone rev) h = end_of_one-revision (codes "gone") rev (λ n. refl) h

-- ---- a line

of_words-line_words : (l : TranscriptLine) → FitsLine l → of_words (line_words l) ≡ Some l
unfolding line_of_form update_line open_line frame_line send_line lapse_line close_line
of_words-line_words (line.Update u) h = rw (long-signed_decimal u.zxid h.0, kind_read-kind_words u.kind h.1) refl
of_words-line_words (line.Open c p id pw One) h =
    rw (number-decimal c h.0, number-decimal p h.1, session_id-id_text id h.2.0 h.2.1, password-hex_text pw h.3.0 h.3.1) refl
of_words-line_words (line.Open c p id pw Two) h =
    rw (number-decimal c h.0, number-decimal p h.1, session_id-id_text id h.2.0 h.2.1, password-hex_text pw h.3.0 h.3.1) refl
of_words-line_words (line.Frame c i z bytes) h = rw (number-decimal c h.0, place-decimal i h.1, long-signed_decimal z h.2, hex-hex_text bytes h.3) refl
of_words-line_words (line.Send c bytes) h = rw (number-decimal c h.0, hex-hex_text bytes h.1) refl
of_words-line_words (line.Lapse rev id) h = rw (long-signed_decimal rev h.0, session_id-id_text id h.1.0 h.1.1) refl
of_words-line_words (line.Close c end) h = rw (number-decimal c h.0, end_read-end_words end h.1) refl

line_read-short : (bytes : List ℕ) → length bytes ≤ max_line → line_read bytes ≡ of_words (pieces 32 bytes)
unfolding line_read
line_read-short bytes short = let within = le-ltb max_line (length bytes) short in rw within refl

pub line_read-line_words : (l : TranscriptLine) → IsReadable l → line_read (spaced (line_words l)) ≡ Some l
line_read-line_words l h = line_read-short (spaced (line_words l)) h.short ∙ ap of_words (pieces-line_words l) ∙ of_words-line_words l h.fits
