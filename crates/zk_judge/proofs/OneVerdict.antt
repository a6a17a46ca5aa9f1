-- A transcript has at most one verdict.
use Rattle.std.proofs.Common.{◌≡◌, ◌<◌, ℕ, inl, inr, List, refl, ap, arith}
use Rattle.std.proofs.lemmas.Bool.{cases_lt}
use Rattle.zk_transcript.specs.declared.transcript.TranscriptLine.{TranscriptLine}
use Rattle.zk_judge.specs.declared.verdict.Verdict.{Verdict}
use Rattle.zk_judge.specs.declared.verdict.Verdict.TheVariants.{Lawful, History, Order, Conversation}
use Rattle.zk_transcript.specs.Conversations.{IsLawfulAndFresh}
use Rattle.zk_judge.specs.Verdicts.{IsVerdict}

-- two connections of which each is the least whose conversation fails
same_connection : (P : ℕ → Type 0) (c d : ℕ) → (P c → ⊥) → ((k : ℕ) → k < c → P k) → (P d → ⊥) → ((k : ℕ) → k < d → P k) → c ≡ d
same_connection P c d not_c before_c not_d before_d = elim (cases_lt c d) [
  | inl less ↦ absurd (not_c (before_d c less))
  | inr not_less ↦ elim (cases_lt d c) [
    | inl less ↦ absurd (not_d (before_c d less))
    | inr same ↦ omega arith
  ]
]

pub one_verdict : (lines : List TranscriptLine) (a b : Verdict) → IsVerdict lines a → IsVerdict lines b → a ≡ b
one_verdict lines Lawful Lawful x y = refl
one_verdict lines Lawful (History n) x y = let none = x.0.history in absurd (cc)
one_verdict lines Lawful (Order n) x y = let none = x.0.order in let some = y.1 in absurd (cc)
one_verdict lines Lawful (Conversation d) x y = absurd (y.1 (x.1 d))
one_verdict lines (History m) Lawful x y = let none = y.0.history in absurd (cc)
one_verdict lines (History m) (History n) x y = let same : m ≡ n = cc in ap History same
one_verdict lines (History m) (Order n) x y = let none = y.0 in absurd (cc)
one_verdict lines (History m) (Conversation d) x y = let none = y.0.history in absurd (cc)
one_verdict lines (Order m) Lawful x y = let none = y.0.order in let some = x.1 in absurd (cc)
one_verdict lines (Order m) (History n) x y = let none = x.0 in absurd (cc)
one_verdict lines (Order m) (Order n) x y = let first = x.1 in let second = y.1 in let same : m ≡ n = cc in ap Order same
one_verdict lines (Order m) (Conversation d) x y = let none = y.0.order in let some = x.1 in absurd (cc)
one_verdict lines (Conversation c) Lawful x y = absurd (x.1 (y.1 c))
one_verdict lines (Conversation c) (History n) x y = let none = x.0.history in absurd (cc)
one_verdict lines (Conversation c) (Order n) x y = let none = x.0.order in let some = y.1 in absurd (cc)
one_verdict lines (Conversation c) (Conversation d) x y = ap Conversation (same_connection (IsLawfulAndFresh lines) c d x.1 x.2 y.1 y.2)
