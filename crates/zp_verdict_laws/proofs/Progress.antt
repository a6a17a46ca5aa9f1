-- How far the lines of one number have come.
use Rattle.std.proofs.Common.{◌≡◌, ℕ, ◌+◌, List, [], ◌∷◌, ◌++◌, length, refl, ap, ◌∙◌, arith, Bool, true, false}
use Rattle.std.proofs.lemmas.Bool.{and_parts}
use Rattle.std.specs.Prelude.{if◌then◌else◌, not, nat_le, ◌&&◌, ◌==◌}
use Rattle.zk_legal.specs.Formed.{frames_of, is_frame_of}
use Rattle.zk_model.specs.Limits.{max_frame}
use Rattle.zk_transcript.specs.declared.transcript.TranscriptLine.TheVariants.{Close, Frame as FrameLine, Lapse, Open, Send, Update}
use Rattle.zk_transcript.specs.declared.transcript.TranscriptLine.{TranscriptLine}
use Rattle.zp_world_laws.specs.Naming.{is_unnamed, names_conn}

-- no line is its own yet; it is open, and so many frames came; it has ended; or a line stands where none of its kind may
pub data Progress : Type 0 where
  Unused : Progress
  Opened : (frames : ℕ) → Progress
  Ended : Progress
  Broken : Progress

abbrev pub opens : Progress → Progress
opens Unused = Opened 0
opens (Opened n) = Broken
opens Ended = Broken
opens Broken = Broken

abbrev pub takes : ℕ → List ℕ → Progress → Progress
takes i bytes Unused = Broken
takes i bytes (Opened n) = if (i == n) && nat_le (length bytes) max_frame then Opened (n + 1) else Broken
takes i bytes Ended = Broken
takes i bytes Broken = Broken

abbrev pub sends : Progress → Progress
sends Unused = Broken
sends (Opened n) = Opened n
sends Ended = Broken
sends Broken = Broken

-- a close without an open is a reaper's
abbrev pub closes : Progress → Progress
closes Unused = Ended
closes (Opened n) = Ended
closes Ended = Broken
closes Broken = Broken

abbrev pub progressed : ℕ → Progress → TranscriptLine → Progress
progressed c p (Open d proxy id passwd layout) = if c == d then opens p else p
progressed c p (FrameLine d i zxid bytes) = if c == d then takes i bytes p else p
progressed c p (Send d bytes) = if c == d then sends p else p
progressed c p (Close d end) = if c == d then closes p else p
progressed c p (Update u) = p
progressed c p (Lapse revision id) = p

abbrev pub progress_from : ℕ → Progress → List TranscriptLine → Progress
progress_from c p [] = p
progress_from c p (l ∷ ls) = progress_from c (progressed c p l) ls

abbrev pub progress : ℕ → List TranscriptLine → Progress
progress c lines = progress_from c Unused lines

-- ---- lines after lines

progress_from-append : (c : ℕ) (p : Progress) (xs ys : List TranscriptLine) → progress_from c p (xs ++ ys) ≡ progress_from c (progress_from c p xs) ys
progress_from-append c p [] ys = refl
progress_from-append c p (x ∷ xs) ys = progress_from-append c (progressed c p x) xs ys

pub progress-append : (c : ℕ) (xs ys : List TranscriptLine) → progress c (xs ++ ys) ≡ progress_from c (progress c xs) ys
progress-append c xs ys = progress_from-append c Unused xs ys

-- ---- what is broken stays so

pub either-same : (b : Bool) (p : Progress) → (if b then p else p) ≡ p
either-same true p = refl
either-same false p = refl

broken-line : (c : ℕ) (l : TranscriptLine) → progressed c Broken l ≡ Broken
broken-line c (Open d proxy id passwd layout) = either-same (c == d) Broken
broken-line c (FrameLine d i zxid bytes) = either-same (c == d) Broken
broken-line c (Send d bytes) = either-same (c == d) Broken
broken-line c (Close d end) = either-same (c == d) Broken
broken-line c (Update u) = refl
broken-line c (Lapse revision id) = refl

broken-stays : (c : ℕ) (ls : List TranscriptLine) → progress_from c Broken ls ≡ Broken
broken-stays c [] = refl
broken-stays c (l ∷ ls) = ap (λ p. progress_from c p ls) (broken-line c l) ∙ broken-stays c ls

pub broken-later : (c : ℕ) (xs ys : List TranscriptLine) → progress c xs ≡ Broken → progress c (xs ++ ys) ≡ Broken
broken-later c xs ys e = progress-append c xs ys ∙ ap (λ p. progress_from c p ys) e ∙ broken-stays c ys

-- ---- lines that are aside

-- these lines are none of its own
abbrev pub LeaveAlone : ℕ → List TranscriptLine → Type 0
LeaveAlone c ls = (p : Progress) → progress_from c p ls ≡ p

skipped : (b : Bool) (p q : Progress) → not b ≡ true → (if b then p else q) ≡ q
skipped true p q h = absurd (cc)
skipped false p q h = refl

unnamed-line : (c : ℕ) (p : Progress) (l : TranscriptLine) → not (names_conn c l) ≡ true → progressed c p l ≡ p
unnamed-line c p (Open d proxy id passwd layout) h = skipped (c == d) (opens p) p h
unnamed-line c p (FrameLine d i zxid bytes) h = skipped (c == d) (takes i bytes p) p h
unnamed-line c p (Send d bytes) h = skipped (c == d) (sends p) p h
unnamed-line c p (Close d end) h = skipped (c == d) (closes p) p h
unnamed-line c p (Update u) h = refl
unnamed-line c p (Lapse revision id) h = refl

pub unnamed-aside : (c : ℕ) (ls : List TranscriptLine) → is_unnamed c ls ≡ true → LeaveAlone c ls
unnamed-aside c [] h p = refl
unnamed-aside c (l ∷ ls) h p =
    let q = and_parts (not (names_conn c l)) (is_unnamed c ls) h in
    ap (λ r. progress_from c r ls) (unnamed-line c p l q.0) ∙ unnamed-aside c ls q.1 p

pub progress-aside : (c : ℕ) (xs ys : List TranscriptLine) → LeaveAlone c ys → progress c (xs ++ ys) ≡ progress c xs
progress-aside c xs ys h = progress-append c xs ys ∙ h (progress c xs)

-- ---- how many frames

counted-either : (b : Bool) (m n : ℕ) → (if b then m + n + 1 else m + n) ≡ (if b then m + 1 else m) + n
counted-either true m n = omega arith
counted-either false m n = refl

pub frames_of-append : (c : ℕ) (xs ys : List TranscriptLine) → frames_of c (xs ++ ys) ≡ frames_of c xs + frames_of c ys
frames_of-append c [] ys = omega arith
frames_of-append c (x ∷ xs) ys =
    ap (λ n. if is_frame_of c x then n + 1 else n) (frames_of-append c xs ys) ∙ counted-either (is_frame_of c x) (frames_of c xs) (frames_of c ys)
