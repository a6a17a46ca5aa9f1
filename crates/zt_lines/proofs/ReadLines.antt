-- A line that is read is written in one way, and its fields are in range.
use Rattle.std.proofs.Common.{◌≡◌, ℕ, ℤ, ◌≤◌, List, [], ◌∷◌, ◌++◌, length, Option, Some, None, refl, sym, ap, subst, ◌∙◌}
use Rattle.std.specs.Prelude.{IfSome, codes, decimal, nat_lt}
use Rattle.std.specs.Fmt.{signed_decimal}
use Rattle.std.specs.List.{join_with_byte}
use Rattle.std.proofs.lemmas.Bool.{cond_both, ltb-false}
use Rattle.std.proofs.lemmas.List.{append-nil}
use Rattle.std.proofs.lemmas.List.Splits.{join_with_byte-slice_split}
use Rattle.std.proofs.lemmas.Option.{IfSome_then}
use Rattle.zk_model.specs.declared.layout.Layout.TheVariants.{One, Two}
use Rattle.zk_model.specs.declared.layout.Layout.{Layout}
use Rattle.zk_service.specs.declared.cause.Cause.{Cause}
use Rattle.zk_service.specs.declared.cause.Cause.TheVariants as cause
use Rattle.zk_service.specs.declared.cause.Ended.{Ended}
use Rattle.zk_service.specs.declared.cause.Ended.TheVariants as ended
use Rattle.zk_service.specs.declared.update.UpdateKind.{UpdateKind}
use Rattle.zk_transcript.specs.declared.transcript.TranscriptLine.{TranscriptLine}
use Rattle.zt_text.specs.Scripts.{hex, max_line, number, password, pieces, session_id}
use Rattle.zt_text.specs.Transcripts.{cause_words, end_words, id_text, kind_words, line_words, spaced, open_word}
use Rattle.zt_lines.specs.Lines.{Words, asked_words, attach_words, bad_length_end, begin_words, close_line, closed_words, damaged, end_of_one, end_of_pair, end_of_place, end_of_revision, end_of_two, end_read, frame_line, id_and_connection, kind_of_form, kind_read, lapse_line, line_of_form, line_read, of_words, open_line, or_end, pair_cause, place_cause, plain_cause, reaped_words, revision_end, send_line, session_words, update_line}
use Rattle.zt_lines.specs.Readable.{FitsCause, FitsEnd, FitsKind, FitsLine, FitsLong, FitsNumber, FitsPlace, FitsSession, IsReadable}
use Rattle.zt_lines.specs.Words.{length_word, long, place}
use Rattle.zt_lines.proofs.ReadHex.{hex-written, password-written, session_id-written}
use Rattle.zt_lines.proofs.ReadNumbers.{length_word-written, long-written, number-written, place-written}
use Rattle.zt_lines.proofs.Steps.{by_form, in_steps}

-- ---- what an update was

abbrev IsKindOf : Words → List ℕ → UpdateKind → Type 0
IsKindOf words form k = (form ∷ words ≡ kind_words k) × FitsKind k

begin_words-written : (words : Words) → IfSome (begin_words words) (IsKindOf words (codes "begin"))
unfolding begin_words
begin_words-written (a ∷ []) = in_steps _ (place a) _ (place-written a) (λ now v. ((λ i. codes "begin" ∷ v.0 i ∷ []), v.1))
begin_words-written _ = tt

id_and_connection-written : (words : Words) → IfSome (id_and_connection words) (λ x. (words ≡ id_text x.0 ∷ decimal x.1 ∷ []) × FitsSession x.0 × FitsNumber x.1)
id_and_connection-written (a ∷ b ∷ []) =
    in_steps _ (session_id a) _ (session_id-written a) (λ id v. in_steps _ (number b) _ (number-written b) (λ c w. ((λ i. v.0 i ∷ w.0 i ∷ []), v.1, w.1)))
id_and_connection-written _ = tt

session_words-written : (words : Words) → IfSome (session_words words) (IsKindOf words (codes "session"))
unfolding session_words
session_words-written words = in_steps _ (id_and_connection words) _ (id_and_connection-written words) (λ x h. ((λ i. codes "session" ∷ h.0 i), (h.1, h.2)))

attach_words-written : (words : Words) → IfSome (attach_words words) (IsKindOf words (codes "attach"))
unfolding attach_words
attach_words-written words = in_steps _ (id_and_connection words) _ (id_and_connection-written words) (λ x h. ((λ i. codes "attach" ∷ h.0 i), (h.1, h.2)))

asked_words-written : (words : Words) → IfSome (asked_words words) (IsKindOf words (codes "asked"))
unfolding asked_words
asked_words-written (a ∷ b ∷ c ∷ []) =
    in_steps _ (number a) _ (number-written a) (λ connection u.
    in_steps _ (place b) _ (place-written b) (λ index v.
    in_steps _ (place c) _ (place-written c) (λ now w. ((λ i. codes "asked" ∷ u.0 i ∷ v.0 i ∷ w.0 i ∷ []), (u.1, v.1, w.1)))))
asked_words-written _ = tt

closed_words-written : (words : Words) → IfSome (closed_words words) (IsKindOf words (codes "closed"))
unfolding closed_words
closed_words-written (a ∷ b ∷ c ∷ []) =
    in_steps _ (session_id a) _ (session_id-written a) (λ id u.
    in_steps _ (number b) _ (number-written b) (λ connection v.
    in_steps _ (place c) _ (place-written c) (λ index w. ((λ i. codes "closed" ∷ u.0 i ∷ v.0 i ∷ w.0 i ∷ []), (u.1, v.1, w.1)))))
closed_words-written _ = tt

reaped_words-written : (words : Words) → IfSome (reaped_words words) (IsKindOf words (codes "reaped"))
unfolding reaped_words
reaped_words-written (a ∷ []) = in_steps _ (session_id a) _ (session_id-written a) (λ id v. ((λ i. codes "reaped" ∷ v.0 i ∷ []), v.1))
reaped_words-written _ = tt

kind_of_form-written : (form : List ℕ) (words : Words) → IfSome (kind_of_form form words) (IsKindOf words form)
unfolding kind_of_form
kind_of_form-written form words =
    by_form (IsKindOf words) form (codes "begin") (begin_words words) _ (begin_words-written words)
    (by_form (IsKindOf words) form (codes "session") (session_words words) _ (session_words-written words)
    (by_form (IsKindOf words) form (codes "attach") (attach_words words) _ (attach_words-written words)
    (by_form (IsKindOf words) form (codes "asked") (asked_words words) _ (asked_words-written words)
    (by_form (IsKindOf words) form (codes "closed") (closed_words words) _ (closed_words-written words)
    (by_form (IsKindOf words) form (codes "reaped") (reaped_words words) None (reaped_words-written words) tt)))))

kind_read-written : (words : Words) → IfSome (kind_read words) (λ k. (words ≡ kind_words k) × FitsKind k)
kind_read-written [] = tt
kind_read-written (form ∷ words) = kind_of_form-written form words

-- ---- how a connection or a reaper ended

abbrev IsCauseOf : Words → List ℕ → Cause → Type 0
IsCauseOf words form x = (form ∷ words ≡ cause_words x) × FitsCause x

abbrev IsEndOf : Words → List ℕ → Ended → Type 0
IsEndOf words form e = (form ∷ words ≡ end_words e) × FitsEnd e

plain_cause-written : (form : List ℕ) → IfSome (plain_cause form) (IsCauseOf [] form)
unfolding plain_cause
plain_cause-written form =
    by_form (IsCauseOf []) form (codes "closed") (Some cause.Closed) _ (refl, tt)
    (by_form (IsCauseOf []) form (codes "read") (Some cause.ReadFault) _ (refl, tt)
    (by_form (IsCauseOf []) form (codes "write") (Some cause.WriteFault) _ (refl, tt)
    (by_form (IsCauseOf []) form (codes "auth") (Some cause.AuthRefused) _ (refl, tt)
    (by_form (IsCauseOf []) form (codes "unknown") (Some cause.Unknown) _ (refl, tt)
    (by_form (IsCauseOf []) form (codes "link") (Some cause.LinkFault) _ (refl, tt)
    (by_form (IsCauseOf []) form (codes "feed") (Some cause.FeedClosed) _ (refl, tt)
    (by_form (IsCauseOf []) form (codes "restart") (Some cause.Restart) _ (refl, tt)
    (by_form (IsCauseOf []) form (codes "memory") (Some cause.Memory) None (refl, tt) tt))))))))

place_cause-written : (form : List ℕ) (n : ℕ) → FitsPlace n → IfSome (place_cause form n) (IsCauseOf (decimal n ∷ []) form)
unfolding place_cause
place_cause-written form n fits =
    by_form (IsCauseOf (decimal n ∷ [])) form (codes "client") (Some (cause.ClientEnd n)) _ (refl, fits)
    (by_form (IsCauseOf (decimal n ∷ [])) form (codes "noheader") (Some (cause.NoHeader n)) None (refl, fits) tt)

revision_end-written : (form : List ℕ) (z : ℤ) → FitsLong z → IfSome (revision_end form z) (IsEndOf (signed_decimal z ∷ []) form)
unfolding revision_end
revision_end-written form z fits =
    by_form (IsEndOf (signed_decimal z ∷ [])) form (codes "taken") (Some (ended.Cause (cause.Taken z))) _ (refl, fits)
    (by_form (IsEndOf (signed_decimal z ∷ [])) form (codes "expired") (Some (ended.Cause (cause.Expired z))) _ (refl, fits)
    (by_form (IsEndOf (signed_decimal z ∷ [])) form (codes "reaped") (Some (ended.Reaped z)) _ (refl, fits)
    (by_form (IsEndOf (signed_decimal z ∷ [])) form (codes "kept") (Some (ended.Kept z)) _ (refl, fits)
    (by_form (IsEndOf (signed_decimal z ∷ [])) form (codes "gone") (Some (ended.Gone z)) None (refl, fits) tt))))

pair_cause-written : (form : List ℕ) (a b : ℤ) → FitsLong a → FitsLong b → IfSome (pair_cause form a b) (IsCauseOf (signed_decimal a ∷ signed_decimal b ∷ []) form)
unfolding pair_cause
pair_cause-written form a b a_fits b_fits =
    let words : Words = signed_decimal a ∷ signed_decimal b ∷ [] in
    by_form (IsCauseOf words) form (codes "ahead") (Some (cause.ZxidAhead a b)) _ (refl, (a_fits, b_fits))
    (by_form (IsCauseOf words) form (codes "moved") (Some (cause.Moved a b)) _ (refl, (a_fits, b_fits))
    (by_form (IsCauseOf words) form (codes "lagged") (Some (cause.Lagged a b)) None (refl, (a_fits, b_fits)) tt))

end_of_place-written : (form a : List ℕ) → IfSome (end_of_place form a) (IsEndOf (a ∷ []) form)
unfolding end_of_place
end_of_place-written form a =
    in_steps _ (place a) _ (place-written a) (λ n v.
    in_steps _ (place_cause form n) _ (place_cause-written form n v.1) (λ x w. ((λ i. form ∷ v.0 i ∷ []) ∙ w.0, w.1)))

end_of_revision-written : (form a : List ℕ) → IfSome (end_of_revision form a) (IsEndOf (a ∷ []) form)
unfolding end_of_revision
end_of_revision-written form a =
    in_steps _ (long a) _ (long-written a) (λ z v.
    IfSome_then (revision_end form z) (revision_end-written form z v.1) (λ e w. ((λ i. form ∷ v.0 i ∷ []) ∙ w.0, w.1)))

or_end-written : (P : Ended → Type 0) (first later : Option Ended) → IfSome first P → IfSome later P → IfSome (or_end first later) P
or_end-written P None later p q = q
or_end-written P (Some e) later p q = p

end_of_one-written : (form a : List ℕ) → IfSome (end_of_one form a) (IsEndOf (a ∷ []) form)
unfolding end_of_one
end_of_one-written form a = or_end-written (IsEndOf (a ∷ []) form) (end_of_place form a) (end_of_revision form a) (end_of_place-written form a) (end_of_revision-written form a)

bad_length-written : (a b : List ℕ) → IfSome (bad_length_end a b) (IsEndOf (a ∷ b ∷ []) (codes "length"))
unfolding bad_length_end
bad_length-written a b =
    in_steps _ (place a) _ (place-written a) (λ n v. in_steps _ (length_word b) _ (length_word-written b) (λ size w. ((λ i. codes "length" ∷ v.0 i ∷ w.0 i ∷ []), (v.1, w.1))))

damaged-written : (a b : List ℕ) → IfSome (damaged a b) (IsEndOf (a ∷ b ∷ []) (codes "damaged"))
unfolding damaged
damaged-written a b =
    in_steps _ (hex a) _ (hex-written a) (λ key v. in_steps _ (hex b) _ (hex-written b) (λ value w. ((λ i. codes "damaged" ∷ v.0 i ∷ w.0 i ∷ []), (v.1, w.1))))

end_of_pair-written : (form a b : List ℕ) → IfSome (end_of_pair form a b) (IsEndOf (a ∷ b ∷ []) form)
unfolding end_of_pair
end_of_pair-written form a b =
    in_steps _ (long a) _ (long-written a) (λ x v.
    in_steps _ (long b) _ (long-written b) (λ y w.
    in_steps _ (pair_cause form x y) _ (pair_cause-written form x y v.1 w.1) (λ end h. ((λ i. form ∷ v.0 i ∷ w.0 i ∷ []) ∙ h.0, h.1))))

end_of_two-written : (form a b : List ℕ) → IfSome (end_of_two form a b) (IsEndOf (a ∷ b ∷ []) form)
unfolding end_of_two
end_of_two-written form a b =
    by_form (IsEndOf (a ∷ b ∷ [])) form (codes "length") (bad_length_end a b) _ (bad_length-written a b)
    (by_form (IsEndOf (a ∷ b ∷ [])) form (codes "damaged") (damaged a b) (end_of_pair form a b) (damaged-written a b) (end_of_pair-written form a b))

end_read-written : (words : Words) → IfSome (end_read words) (λ e. (words ≡ end_words e) × FitsEnd e)
end_read-written (form ∷ []) = in_steps _ (plain_cause form) _ (plain_cause-written form) (λ x h. h)
end_read-written (form ∷ a ∷ []) = end_of_one-written form a
end_read-written (form ∷ a ∷ b ∷ []) = end_of_two-written form a b
end_read-written _ = tt

-- ---- a line

abbrev IsLineOf : Words → List ℕ → TranscriptLine → Type 0
IsLineOf words form l = (form ∷ words ≡ line_words l) × FitsLine l

update_line-written : (words : Words) → IfSome (update_line words) (IsLineOf words (codes "update"))
unfolding update_line
update_line-written [] = tt
update_line-written (z ∷ words) =
    in_steps _ (long z) _ (long-written z) (λ zxid v. in_steps _ (kind_read words) _ (kind_read-written words) (λ k w. ((λ i. codes "update" ∷ v.0 i ∷ w.0 i), (v.1, w.1))))

close_line-written : (words : Words) → IfSome (close_line words) (IsLineOf words (codes "close"))
unfolding close_line
close_line-written [] = tt
close_line-written (c ∷ words) =
    in_steps _ (number c) _ (number-written c) (λ connection v. in_steps _ (end_read words) _ (end_read-written words) (λ end w. ((λ i. codes "close" ∷ v.0 i ∷ w.0 i), (v.1, w.1))))

open_line-written : (layout : Layout) (words : Words) → IfSome (open_line layout words) (IsLineOf words (open_word layout))
unfolding open_line
open_line-written layout (a ∷ b ∷ c ∷ d ∷ []) =
    in_steps _ (number a) _ (number-written a) (λ connection t.
    in_steps _ (number b) _ (number-written b) (λ proxy u.
    in_steps _ (session_id c) _ (session_id-written c) (λ id v.
    in_steps _ (password d) _ (password-written d) (λ passwd w. ((λ i. open_word layout ∷ t.0 i ∷ u.0 i ∷ v.0 i ∷ w.0 i ∷ []), (t.1, u.1, v.1, w.1))))))
open_line-written layout _ = tt

frame_line-written : (words : Words) → IfSome (frame_line words) (IsLineOf words (codes "frame"))
unfolding frame_line
frame_line-written (a ∷ b ∷ c ∷ d ∷ []) =
    in_steps _ (number a) _ (number-written a) (λ connection t.
    in_steps _ (place b) _ (place-written b) (λ index u.
    in_steps _ (long c) _ (long-written c) (λ zxid v.
    in_steps _ (hex d) _ (hex-written d) (λ bytes w. ((λ i. codes "frame" ∷ t.0 i ∷ u.0 i ∷ v.0 i ∷ w.0 i ∷ []), (t.1, u.1, v.1, w.1))))))
frame_line-written _ = tt

send_line-written : (words : Words) → IfSome (send_line words) (IsLineOf words (codes "send"))
unfolding send_line
send_line-written (a ∷ b ∷ []) =
    in_steps _ (number a) _ (number-written a) (λ connection v. in_steps _ (hex b) _ (hex-written b) (λ bytes w. ((λ i. codes "send" ∷ v.0 i ∷ w.0 i ∷ []), (v.1, w.1))))
send_line-written _ = tt

lapse_line-written : (words : Words) → IfSome (lapse_line words) (IsLineOf words (codes "lapse"))
unfolding lapse_line
lapse_line-written (a ∷ b ∷ []) =
    in_steps _ (long a) _ (long-written a) (λ revision v. in_steps _ (session_id b) _ (session_id-written b) (λ id w. ((λ i. codes "lapse" ∷ v.0 i ∷ w.0 i ∷ []), (v.1, w.1))))
lapse_line-written _ = tt

line_of_form-written : (form : List ℕ) (words : Words) → IfSome (line_of_form form words) (IsLineOf words form)
unfolding line_of_form
line_of_form-written form words =
    by_form (IsLineOf words) form (codes "update") (update_line words) _ (update_line-written words)
    (by_form (IsLineOf words) form (codes "open") (open_line Two words) _ (open_line-written Two words)
    (by_form (IsLineOf words) form (codes "open1") (open_line One words) _ (open_line-written One words)
    (by_form (IsLineOf words) form (codes "frame") (frame_line words) _ (frame_line-written words)
    (by_form (IsLineOf words) form (codes "send") (send_line words) _ (send_line-written words)
    (by_form (IsLineOf words) form (codes "lapse") (lapse_line words) _ (lapse_line-written words)
    (by_form (IsLineOf words) form (codes "close") (close_line words) None (close_line-written words) tt))))))

of_words-written : (words : Words) → IfSome (of_words words) (λ l. (words ≡ line_words l) × FitsLine l)
of_words-written [] = tt
of_words-written (form ∷ words) = line_of_form-written form words

spaced-join : (words : Words) → spaced words ≡ join_with_byte 32 words
spaced-join [] = refl
spaced-join (w ∷ []) = append-nil w
spaced-join (w ∷ v ∷ words) = ap (λ (bytes : List ℕ). w ++ 32 ∷ bytes) (spaced-join (v ∷ words))

spaced-pieces : (bytes : List ℕ) → spaced (pieces 32 bytes) ≡ bytes
spaced-pieces bytes = spaced-join (pieces 32 bytes) ∙ join_with_byte-slice_split 32 bytes

abbrev pub IsLineText : List ℕ → TranscriptLine → Type 0
IsLineText bytes l = (bytes ≡ spaced (line_words l)) × IsReadable l

pub line_read-written : (bytes : List ℕ) → IfSome (line_read bytes) (IsLineText bytes)
unfolding line_read
line_read-written bytes =
    cond_both (nat_lt max_line (length bytes)) None (of_words (pieces 32 bytes)) (λ o. IfSome o (IsLineText bytes)) (λ long. tt) (λ within.
    IfSome_then (of_words (pieces 32 bytes)) (of_words-written (pieces 32 bytes)) (λ l h.
    let text : bytes ≡ spaced (line_words l) = sym (spaced-pieces bytes) ∙ ap spaced h.0 in
    (text, record { fits = h.1; short = subst (λ (b : List ℕ). length b ≤ max_line) text (ltb-false max_line (length bytes) within) })))

pub line_read-spaced : (bytes : List ℕ) (l : TranscriptLine) → line_read bytes ≡ Some l → (bytes ≡ spaced (line_words l)) × IsReadable l
line_read-spaced bytes l read = subst (λ o. IfSome o (IsLineText bytes)) read (line_read-written bytes)
