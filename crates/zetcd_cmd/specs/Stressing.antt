-- The words `stress NUMBER CONNECTIONS STEPS`, and what the command came to.
use Rattle.std.specs.Prelude.{◌≡◌, ℕ, List, [], ◌∷◌, length, codes, if◌then◌else◌, nat_le, Option, Some, None}
use denote.Ref.{Bor}
use Rattle.zp_stress.specs.Stressed.{IsStressed}
use Rattle.zp_clients.specs.Summaries.{summary_text}
use Rattle.zp_clients.specs.declared.summary.Summary.{Summary}
use Rattle.zt_text.specs.Scripts.{◌>>=◌, not_above}
use Rattle.zx_outside.specs.Writing.{Takes}
use Rattle.zetcd_cmd.specs.Outcomes.{TakesSome}
use Rattle.zetcd_cmd.specs.Serving.{digits_number, limit_in}
use Rattle.zetcd_cmd.specs.declared.status.Status.{Status}
use Rattle.zetcd_cmd.specs.declared.status.Status.TheVariants as status

-- ---- the words

-- a number from 0 to 4294967295 in one to ten digits, without a sign
abbrev pub number_in : List ℕ → Option ℕ
number_in [] = None
number_in (b ∷ bs) = if nat_le (length (b ∷ bs)) 10 then digits_number (b ∷ bs) else None

-- a number from 1 to this one, so written
abbrev pub count_in : ℕ → List ℕ → Option ℕ
count_in most word = limit_in word >>= not_above most

abbrev pub max_connections : ℕ
max_connections = 256

abbrev pub max_steps : ℕ
max_steps = 200000

-- the words are `stress`, this number, so many connections and so many steps
abbrev pub IsStress : List (Bor (List ℕ)) → ℕ → ℕ → ℕ → Type 0
IsStress [] number connections steps = ⊥
IsStress (word ∷ []) number connections steps = ⊥
IsStress (word ∷ first ∷ []) number connections steps = ⊥
IsStress (word ∷ first ∷ second ∷ []) number connections steps = ⊥
IsStress (word ∷ first ∷ second ∷ third ∷ []) number connections steps =
    (word.now ≡ codes "stress") × (number_in first.now ≡ Some number) × (count_in max_connections second.now ≡ Some connections) × (count_in max_steps third.now ≡ Some steps)
IsStress (word ∷ first ∷ second ∷ third ∷ fourth ∷ words) number connections steps = ⊥

abbrev pub NamesStress : List (Bor (List ℕ)) → Type 0
NamesStress words = (number : ℕ) × (connections : ℕ) × (steps : ℕ) × IsStress words number connections steps

-- ---- the outcome

-- the summary of the run of the schedule that these numbers make
pub record IsSummary (number connections steps : ℕ) (output : List ℕ) : Type 0 where
  pub summary : Summary
  pub stressed : IsStressed number connections steps summary
  pub written : output ≡ summary_text summary

-- A stress with this status wrote this: the summary; a front of it where the output has a fault; nothing where memory was refused.
abbrev pub Stresses : Status → ℕ → ℕ → ℕ → Option (List ℕ) → Option (List ℕ) → Type 0
Stresses status.Done number connections steps taken taken' = (output : List ℕ) × IsSummary number connections steps output × Takes output taken taken'
Stresses status.WriteFault number connections steps taken taken' = (whole : List ℕ) × IsSummary number connections steps whole × TakesSome whole taken taken'
Stresses status.Memory number connections steps taken taken' = taken' ≡ taken
Stresses _ number connections steps taken taken' = ⊥
