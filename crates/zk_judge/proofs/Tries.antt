-- The moments that are tried for a reply.
use Rattle.std.proofs.Common.{◌≡◌, ℕ, ℤ, ◌+◌, ◌<◌, ◌≤◌, Bool, true, false, ◌&&◌, List, [], ◌∷◌, Option, Some, None, refl, arith}
use Rattle.std.specs.Prelude.{is_some, nat_lt, if◌then◌else◌}
use Rattle.std.specs.Ordering.{int_eq}
use Rattle.std.proofs.lemmas.Bool.Decides.{nat_tests}
use Rattle.zk_transcript.specs.declared.transcript.TranscriptLine.{TranscriptLine}
use Rattle.zk_model.specs.Codes.{session_expired}
use Rattle.zk_transcript.specs.Walks.{Walker, Answer, Due, after_update, is_fresh, later_of, move, placed_frame}
use Rattle.zk_least.specs.LeastWalk.{given, is_allowed, zxid_in}
use Rattle.zk_least.specs.LeastMoments.{code_in, first_of, lapsed_from, moments_to_try}
use Rattle.zk_least.specs.LeastReplies.{given_at}
use Rattle.zk_judge.specs.Waiting.{tried}

-- ---- one moment

some-or-none : (o : Option (Walker × List Due)) → (if is_some o then o else None) ≡ o
some-or-none None = refl
some-or-none (Some x) = refl

when-late : (b : Bool) (o : Option (Walker × List Due)) → b ≡ true → (if b && is_some o then o else None) ≡ o
when-late true o late = some-or-none o
when-late false o late = absurd (cc)

when-early : (b : Bool) (o : Option (Walker × List Due)) → b ≡ false → (if b && is_some o then o else None) ≡ None
when-early true o early = absurd (cc)
when-early false o early = refl

pub tried-late : (lines : List TranscriptLine) (c : ℕ) (id : ℤ) (w : Walker) (ps : List Due) (m : ℕ) (f : ℕ × List ℕ)
    → placed_frame c w.next lines ≡ Some f → f.0 < m → tried lines c id w ps m ≡ given ps (move lines c id w (Answer m))
tried-late lines c id w ps m f framed late =
    let is : nat_lt f.0 m ≡ true = grind (arith, nat_tests) in
    rw framed (when-late (nat_lt f.0 m) (given ps (move lines c id w (Answer m))) is)

pub tried-early : (lines : List TranscriptLine) (c : ℕ) (id : ℤ) (w : Walker) (ps : List Due) (m : ℕ) (f : ℕ × List ℕ)
    → placed_frame c w.next lines ≡ Some f → m ≤ f.0 → tried lines c id w ps m ≡ None
tried-early lines c id w ps m f framed early =
    let is : nat_lt f.0 m ≡ false = grind (arith, nat_tests) in
    rw framed (when-early (nat_lt f.0 m) (given ps (move lines c id w (Answer m))) is)

pub tried-unframed : (lines : List TranscriptLine) (c : ℕ) (id : ℤ) (w : Walker) (ps : List Due) (m : ℕ) → placed_frame c w.next lines ≡ None → tried lines c id w ps m ≡ None
tried-unframed lines c id w ps m none = rw none refl

-- ---- one after the other

pub first-passes : (lines : List TranscriptLine) (c : ℕ) (id : ℤ) (w : Walker) (ps : List Due) (m : ℕ) (ms : List ℕ) (x : Walker × List Due)
    → tried lines c id w ps m ≡ Some x → given_at lines c id w ps (first_of (is_allowed lines c id w ps) (m ∷ ms)) ≡ Some x
first-passes lines c id w ps m ms x is = by (is_allowed lines c id w ps m) is
  where
    by : (b : Bool) → ◌≡◌ {A = Option (Walker × List Due)} (if b then given ps (move lines c id w (Answer m)) else None) (Some x)
        → given_at lines c id w ps (if b then Some m else first_of (is_allowed lines c id w ps) ms) ≡ Some x
    by true e = e
    by false e = absurd (cc)

no-both : (a b : Bool) (o : Option (Walker × List Due)) → b ≡ is_some o → (a && b) ≡ true → o ≡ None → ⊥
no-both true true None is both none = absurd (cc)
no-both true true (Some x) is both none = absurd (cc)
no-both true false o is both none = absurd (cc)
no-both false b o is both none = absurd (cc)

pub first-fails : (lines : List TranscriptLine) (c : ℕ) (id : ℤ) (w : Walker) (ps : List Due) (m : ℕ) (ms : List ℕ)
    → tried lines c id w ps m ≡ None → given_at lines c id w ps (first_of (is_allowed lines c id w ps) (m ∷ ms)) ≡ given_at lines c id w ps (first_of (is_allowed lines c id w ps) ms)
first-fails lines c id w ps m ms is = by (is_allowed lines c id w ps m) refl is
  where
    by : (b : Bool) → is_allowed lines c id w ps m ≡ b → ◌≡◌ {A = Option (Walker × List Due)} (if b then given ps (move lines c id w (Answer m)) else None) None
        → given_at lines c id w ps (if b then Some m else first_of (is_allowed lines c id w ps) ms) ≡ given_at lines c id w ps (first_of (is_allowed lines c id w ps) ms)
    by true e none = absurd (no-both (is_fresh lines c w.next (Answer m)) (is_some (given ps (move lines c id w (Answer m)))) (given ps (move lines c id w (Answer m))) refl e none)
    by false e none = refl

-- the moments to try for a request that has no update of its own
pub open-moments : (lines : List TranscriptLine) (id : ℤ) (w : Walker) (place : ℕ) (bytes : List ℕ) (m u a : ℕ) (ms : List ℕ)
    → u ≡ after_update (zxid_in bytes) lines → m ≡ later_of w.moment (place + 1) → a ≡ later_of m u
    → ms ≡ (if int_eq (code_in bytes) session_expired then later_of a (lapsed_from id u lines) ∷ [] else []) → (a ∷ ms) ≡ moments_to_try lines id w place bytes None
open-moments lines id w place bytes m u a ms update earlier first second = rw (second, first, earlier, update) refl
