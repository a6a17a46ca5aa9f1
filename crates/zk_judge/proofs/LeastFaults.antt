-- The least connection that fails, after one more opening.
use Rattle.std.proofs.Common.{◌≡◌, ℕ, Bool, true, false, ◌==◌, List, [], ◌∷◌, ◌++◌, Option, Some, None, inl, inr, refl, ap, sym, subst, ◌∙◌, eqb-true}
use Rattle.std.specs.Prelude.{is_some, ◌⊎◌, ℤ}
use Rattle.zk_service.specs.declared.fresh.Fresh.{Fresh}
use Rattle.zk_model.specs.declared.layout.Layout.{Layout}
use Rattle.zk_transcript.specs.declared.transcript.TranscriptLine.{TranscriptLine}
use Rattle.zk_transcript.specs.declared.transcript.TranscriptLine.TheVariants.{Open}
use Rattle.zk_transcript.specs.Conversations.{IsLawfulAndFresh}
use Rattle.zk_transcript.specs.History.{open_shown, opening, when}
use Rattle.zk_transcript.proofs.Lookups.{first_shown-skip, first_shown-new}
use Rattle.zk_legal.specs.Faults.{history_fault}
use Rattle.zk_judge.specs.Faults.{IsBelow, IsLeastFault, IsLeastOpened, IsLesser}
use Rattle.zk_judge.proofs.Lawful.{unopened-lawful}

-- a line that opens nothing
pub opened-skip : (P : ℕ → Type 0) (before : List TranscriptLine) (l : TranscriptLine) (found : Option ℕ) → ((d : ℕ) → open_shown d l ≡ None) → IsLeastOpened P before found → IsLeastOpened P (before ++ l ∷ []) found
opened-skip P before l found none least = record {
  fails = least.fails;
  passes = λ d opened below. least.passes d (ap is_some (sym (first_shown-skip (open_shown d) before l (none d))) ∙ opened) below;
}

when-other : (b : Bool) (x : Fresh) → is_some (when b x) ≡ true → b ≡ true
when-other true x h = refl
when-other false x h = absurd (cc)

-- a number was opened before, or it is the one that this line opens
pub opened-by : (d c p : ℕ) (id : ℤ) (pw : List ℕ) (layout : Layout) (before : List TranscriptLine) → is_some (opening d (before ++ Open c p id pw layout ∷ [])) ≡ true → (is_some (opening d before) ≡ true) ⊎ (d ≡ c)
opened-by d c p id pw layout before opened = by (opening d before) refl
  where
    by : (o : Option Fresh) → opening d before ≡ o → (is_some (opening d before) ≡ true) ⊎ (d ≡ c)
    by (Some x) e = inl (ap is_some e)
    by None e = inr (eqb-true d c (when-other (d == c) (record { id = id; passwd = pw; layout = layout }) (ap is_some (sym (first_shown-new (open_shown d) before (Open c p id pw layout) e)) ∙ opened)))

pub opened-more : (P : ℕ → Type 0) (before : List TranscriptLine) (c p : ℕ) (id : ℤ) (pw : List ℕ) (layout : Layout) (found least : Option ℕ)
    → IsLesser P c found least → IsLeastOpened P before found → IsLeastOpened P (before ++ Open c p id pw layout ∷ []) least
opened-more P before c p id pw layout found least lesser so_far = record {
  fails = lesser.fails so_far.fails;
  passes = λ d opened below. elim (opened-by d c p id pw layout before opened) [
    | inl earlier ↦ so_far.passes d earlier (lesser.before d below)
    | inr same ↦ subst P (sym same) (lesser.passes (subst (λ (n : ℕ). IsBelow n least) same below))
  ];
}

-- at the end

at-end : (lines : List TranscriptLine) (found : Option ℕ) → history_fault lines ≡ None → IsLeastOpened (IsLawfulAndFresh lines) lines found → (d : ℕ) → IsBelow d found → IsLawfulAndFresh lines d
at-end lines found none least d below = by (opening d lines) refl
  where
    by : (o : Option Fresh) → opening d lines ≡ o → IsLawfulAndFresh lines d
    by None e = unopened-lawful lines d none e
    by (Some x) e = least.passes d (ap is_some e) below

pub least-fault : (lines : List TranscriptLine) (found : Option ℕ) → history_fault lines ≡ None → IsLeastOpened (IsLawfulAndFresh lines) lines found → IsLeastFault (IsLawfulAndFresh lines) found
least-fault lines None none least = λ d. at-end lines None none least d tt
least-fault lines (Some c) none least = (least.fails, λ d less. at-end lines (Some c) none least d less)
