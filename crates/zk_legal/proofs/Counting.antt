-- How one more line changes the tables of the lines before it.
use Rattle.std.proofs.Common.{◌≡◌, ℕ, ◌+◌, ◌≤◌, Bool, true, false, List, [], ◌∷◌, ◌++◌, length, Ok, Err, refl, sym, ap, ◌∙◌, inl, inr, eqb-true, arith}
use Rattle.std.specs.Prelude.{Some, None, Result, if◌then◌else◌, ◌==◌}
use Rattle.std.specs.Result.{IfOk}
use Rattle.std.proofs.lemmas.Bool.{cases_Bool}
use Rattle.zk_transcript.specs.declared.transcript.TranscriptLine.{TranscriptLine}
use Rattle.zk_transcript.specs.declared.transcript.TranscriptLine.TheVariants.{Update, Open, Frame, Send, Lapse, Close}
use Rattle.zk_history.proofs.Looking.{eq-sym}
use Rattle.zk_legal.specs.Formed.{frames_of, is_frame_of}
use Rattle.zk_legal.specs.Counted.{AreCounts, count_in, sender}
use Rattle.zk_legal.specs.declared.counts.Counts.{Counts}

pub if_ok : {A E : Type 0} {P Q : A → Type 0} (r : Result A E) → ((x : A) → P x → Q x) → IfOk r P → IfOk r Q
if_ok (Ok x) f h = f x h
if_ok (Err e) f h = tt

one_more : (b : Bool) (n : ℕ) → ((if b then n + 1 else n) + 1) ≡ (if b then (n + 1) + 1 else (n + 1))
one_more true n = refl
one_more false n = refl

frames_of-push : (c : ℕ) (ls : List TranscriptLine) (l : TranscriptLine) → frames_of c (ls ++ l ∷ []) ≡ if is_frame_of c l then frames_of c ls + 1 else frames_of c ls
frames_of-push c [] l = refl
frames_of-push c (x ∷ ls) l =
    elim (is_frame_of c x) as (λ b. (if b then frames_of c (ls ++ l ∷ []) + 1 else frames_of c (ls ++ l ∷ []))
    ≡ (if is_frame_of c l then (if b then frames_of c ls + 1 else frames_of c ls) + 1 else (if b then frames_of c ls + 1 else frames_of c ls))) [
      | true ↦ ap (λ n. n + 1) (frames_of-push c ls l) ∙ one_more (is_frame_of c l) (frames_of c ls)
      | false ↦ frames_of-push c ls l
    ]

pub frames-few : (c : ℕ) (ls : List TranscriptLine) → frames_of c ls ≤ length ls
frames-few c [] = omega arith
frames-few c (x ∷ ls) = elim (is_frame_of c x) as (λ b. (if b then frames_of c ls + 1 else frames_of c ls) ≤ length (x ∷ ls)) [
  | true ↦ omega (arith, frames-few c ls)
  | false ↦ omega (arith, frames-few c ls)
]

no_frame : (c : ℕ) (l : TranscriptLine) → sender l ≡ None → is_frame_of c l ≡ false
no_frame c (Frame d i z bytes) h = absurd (cc)
no_frame c (Update u) h = refl
no_frame c (Open d p id pw layout) h = refl
no_frame c (Send d bytes) h = refl
no_frame c (Lapse r id) h = refl
no_frame c (Close d e) h = refl

a_frame : (c d : ℕ) (l : TranscriptLine) → sender l ≡ Some d → is_frame_of c l ≡ (d == c)
a_frame c d (Frame e i z bytes) h = let same : e ≡ d = cc in eq-sym c e ∙ ap (λ x. x == c) same
a_frame c d (Update u) h = absurd (cc)
a_frame c d (Open e p id pw layout) h = absurd (cc)
a_frame c d (Send e bytes) h = absurd (cc)
a_frame c d (Lapse r id) h = absurd (cc)
a_frame c d (Close e end) h = absurd (cc)

pub counts-same : (before : List TranscriptLine) (l : TranscriptLine) (m : Counts) → sender l ≡ None → AreCounts before m → AreCounts (before ++ l ∷ []) m
counts-same before l m none counts = λ c.
    counts c ∙ sym (frames_of-push c before l ∙ ap (λ b. if b then frames_of c before + 1 else frames_of c before) (no_frame c l none))

pub counts-few : (before : List TranscriptLine) (m : Counts) (d : ℕ) → AreCounts before m → count_in m d ≤ length before
counts-few before m d counts = omega (arith, counts d, frames-few d before)

pub counts-more : (before : List TranscriptLine) (l : TranscriptLine) (m n : Counts) (d count : ℕ) → sender l ≡ Some d → AreCounts before m → count ≡ count_in m d + 1
    → ((c : ℕ) → count_in n c ≡ (if d == c then count else count_in m c)) → AreCounts (before ++ l ∷ []) n
counts-more before l m n d count some counts one notes = λ c.
    let pushed = frames_of-push c before l ∙ ap (λ b. if b then frames_of c before + 1 else frames_of c before) (a_frame c d l some) in
    elim (cases_Bool (d == c)) [
      | inl is ↦
          let same : d ≡ c = eqb-true d c is in
          notes c ∙ ap (λ b. if b then count else count_in m c) is ∙ one ∙ ap (λ k. k + 1) (counts d ∙ ap (λ x. frames_of x before) same)
          ∙ sym (pushed ∙ ap (λ b. if b then frames_of c before + 1 else frames_of c before) is)
      | inr other ↦
          notes c ∙ ap (λ b. if b then count else count_in m c) other ∙ counts c
          ∙ sym (pushed ∙ ap (λ b. if b then frames_of c before + 1 else frames_of c before) other)
    ]
