-- The connections that are opened, and the least of them whose conversation fails.
use Rattle.std.proofs.Common.{◌≡◌, ℕ, zero, suc, length, take, ◌<◌, ◌≤◌, Bool, true, false, List, [], ◌∷◌, ◌++◌, Option, Some, None, inl, inr, refl, ap, sym, ◌∙◌, subst, arith}
use Rattle.std.specs.Prelude.{◌⊎◌, if◌then◌else◌, is_some, nat_le}
use Rattle.std.specs.List.{Contains}
use Rattle.std.proofs.lemmas.Bool.Decides.{nat_tests}
use Rattle.std.proofs.lemmas.List.{map-append}
use Rattle.std.proofs.lemmas.List.Elements.{Contains-push_cases}
use Rattle.zk_transcript.specs.declared.transcript.TranscriptLine.{TranscriptLine}
use Rattle.zk_transcript.specs.declared.transcript.TranscriptLine.TheVariants.{Update, Open, Frame as FrameLine, Send, Lapse, Close}
use Rattle.zk_transcript.specs.Conversations.{IsLawfulAndFresh}
use Rattle.zk_transcript.specs.History.{open_shown, opening}
use Rattle.zk_transcript.proofs.Lookups.{first_shown-skip}
use Rattle.zk_legal.specs.Faults.{history_fault}
use Rattle.zk_judge.specs.Faults.{IsLeastFault}
use Rattle.zk_judge.specs.Staged.{AreOpened, IsLeastOf, connections, lesser_of, opened_by}
use Rattle.zk_judge.specs.declared.conversations.Conversation.{Conversation}
use Rattle.zk_judge.proofs.LeastFaults.{least-fault, opened-by}

-- ---- one more line

skips : (d : ℕ) (before : List TranscriptLine) (l : TranscriptLine) → open_shown d l ≡ None → is_some (opening d (before ++ l ∷ [])) ≡ true → is_some (opening d before) ≡ true
skips d before l none opened = ap is_some (sym (first_shown-skip (open_shown d) before l none)) ∙ opened

opened-as : (d : ℕ) (before : List TranscriptLine) (l : TranscriptLine) → is_some (opening d (before ++ l ∷ [])) ≡ true → (is_some (opening d before) ≡ true) ⊎ (opened_by l ≡ Some d)
opened-as d before (Open c p id pw layout) opened = elim (opened-by d c p id pw layout before opened) [ inl e ↦ inl e | inr e ↦ inr (ap Some (sym e)) ]
opened-as d before (Update u) opened = inl (skips d before (Update u) refl opened)
opened-as d before (FrameLine c i z bytes) opened = inl (skips d before (FrameLine c i z bytes) refl opened)
opened-as d before (Send c bytes) opened = inl (skips d before (Send c bytes) refl opened)
opened-as d before (Lapse r id) opened = inl (skips d before (Lapse r id) refl opened)
opened-as d before (Close c e) opened = inl (skips d before (Close c e) refl opened)

pub connections-push : (xs : List Conversation) (x : Conversation) → connections (xs ++ x ∷ []) ≡ connections xs ++ x.connection ∷ []
connections-push xs x = map-append (λ (y : Conversation). y.connection) xs (x ∷ [])

pub none-more : (before : List TranscriptLine) (l : TranscriptLine) (IsThere : ℕ → Type 0) → opened_by l ≡ None → AreOpened before IsThere → AreOpened (before ++ l ∷ []) IsThere
none-more before l IsThere none all d opened = elim (opened-as d before l opened) [ inl e ↦ all d e | inr e ↦ absurd (cc) ]

pub one-more : (before : List TranscriptLine) (l : TranscriptLine) (IsThere WillBe : ℕ → Type 0) (c : ℕ) → opened_by l ≡ Some c → ((d : ℕ) → IsThere d → WillBe d) → WillBe c → AreOpened before IsThere → AreOpened (before ++ l ∷ []) WillBe
one-more before l IsThere WillBe c some kept has all d opened =
    elim (opened-as d before l opened) [
      | inl e ↦ kept d (all d e)
      | inr e ↦ let same : c ≡ d = cc in subst WillBe same has
    ]

-- ---- the least that fails

pub least-lawful : (P : ℕ → Type 0) (cs : List ℕ) (c : ℕ) (found : Option ℕ) → P c → IsLeastOf P cs found → IsLeastOf P (cs ++ c ∷ []) found
least-lawful P cs c found lawful least = record {
  fails = least.fails;
  passes = λ d in' below. elim (Contains-push_cases cs c d in') [ inl earlier ↦ least.passes d earlier below | inr same ↦ subst P same lawful ];
}

pub least-unlawful : (P : ℕ → Type 0) (cs : List ℕ) (c : ℕ) (found : Option ℕ) → (P c → ⊥) → IsLeastOf P cs found → IsLeastOf P (cs ++ c ∷ []) (lesser_of found c)
least-unlawful P cs c None not least = record {
  fails = not;
  passes = λ d in' below. elim (Contains-push_cases cs c d in') [ inl earlier ↦ least.passes d earlier tt | inr same ↦ absurd (omega (arith, below, same)) ];
}
least-unlawful P cs c (Some n) not least = by (nat_le n c) refl
  where
    by : (b : Bool) → nat_le n c ≡ b → IsLeastOf P (cs ++ c ∷ []) (if b then Some n else Some c)
    by true e =
        let le : n ≤ c = grind (arith, nat_tests, e) in
        record {
          fails = least.fails;
          passes = λ d in' below. elim (Contains-push_cases cs c d in') [ inl earlier ↦ least.passes d earlier below | inr same ↦ absurd (omega (arith, below, same, le)) ];
        }
    by false e =
        let less : c < n = grind (arith, nat_tests, e) in
        record {
          fails = not;
          passes = λ d in' below. elim (Contains-push_cases cs c d in') [ inl earlier ↦ least.passes d earlier (omega (arith, below, less)) | inr same ↦ absurd (omega (arith, below, same)) ];
        }

pub least-of-opened : (lines : List TranscriptLine) (xs : List Conversation) (found : Option ℕ) → history_fault lines ≡ None → AreOpened lines (Contains (connections xs)) → IsLeastOf (IsLawfulAndFresh lines) (connections xs) found
    → IsLeastFault (IsLawfulAndFresh lines) found
least-of-opened lines xs found run opened least =
    least-fault lines found run (record { fails = least.fails; passes = λ d is below. least.passes d (opened d is) below })

-- ---- small facts of the loops

pub not-both : (b : Bool) → b ≡ true → b ≡ false → ⊥
not-both true h e = absurd (cc)
not-both false h e = absurd (cc)

pub take-end : {A : Type 0} (xs : List A) (k : ℕ) → length xs ≤ k → take k xs ≡ xs
take-end [] zero le = refl
take-end [] (suc k) le = refl
take-end (x ∷ xs) zero le = absurd (omega (arith, le))
take-end (x ∷ xs) (suc k) le = ap (λ ys. x ∷ ys) (take-end xs k (omega (arith, le)))

pub none-contained : (xs : List Conversation) (c : ℕ) → length xs ≡ 0 → Contains (connections xs) c → ⊥
none-contained [] c none in' = omega (arith, in'.1)
none-contained (x ∷ xs) c none in' = omega (arith, none)
