-- Each transcript has a verdict: its conversations are decided one by one.
use Rattle.std.proofs.Common.{◌≡◌, ℕ, zero, suc, ℤ, ◌+◌, ◌<◌, ◌≤◌, Bool, true, false, List, [], ◌∷◌, ◌++◌, Option, Some, None, inl, inr, refl, ap, sym, ◌∙◌, subst, append_assoc, append-nil, arith}
use Rattle.std.specs.Prelude.{◌⊎◌, is_some, bytes_eq, IsTrue}
use Rattle.std.proofs.lemmas.Bool.{cases_Bool, cases_lt}
use Rattle.std.proofs.lemmas.Slice.Eq.{bytes_eq-Decides}
use Rattle.zk_jute.specs.Packets.{connect_packet}
use Rattle.zk_model.specs.declared.connect.ConnectRequest.{ConnectRequest}
use Rattle.zk_transcript.specs.declared.transcript.TranscriptLine.{TranscriptLine}
use Rattle.zk_transcript.specs.declared.transcript.TranscriptLine.TheVariants as line
use Rattle.zk_service.specs.States.{Session, session_at}
use Rattle.zk_transcript.specs.History.{connect, state_at}
use Rattle.zk_transcript.specs.Legal.{Attachment, attach_of}
use Rattle.zk_transcript.specs.Walks.{Due, packets, placed_frame}
use Rattle.zk_transcript.specs.Conversations.{IsConnectAnswered, IsLawfulAndFresh, IsRefused, IsWelcomed, are_before_close, later_packets}
use Rattle.zk_service.specs.Answers.{may_refuse, refusal, welcome}
use Rattle.zk_least.specs.LeastWalk.{least_walk}
use Rattle.zk_legal.specs.Faults.{history_fault, order_fault}
use Rattle.zk_judge.specs.declared.verdict.Verdict.{Verdict}
use Rattle.zk_judge.specs.declared.verdict.Verdict.TheVariants.{Lawful, History, Order, Conversation}
use Rattle.zk_judge.specs.Faults.{IsLeastFault, IsLeastOpened, IsLesser}
use Rattle.zk_judge.specs.Verdicts.{IsRun, IsVerdict}
use Rattle.zk_judge.proofs.Lawful.{judged-when, lawful-when}
use Rattle.zk_judge.proofs.LeastFaults.{least-fault, opened-more, opened-skip}

both : {P Q : Type 0} → P ⊎ (P → ⊥) → Q ⊎ (Q → ⊥) → (P × Q) ⊎ (P × Q → ⊥)
both (inl p) (inl q) = inl (p, q)
both (inl p) (inr not) = inr (λ x. not x.1)
both (inr not) q = inr (λ x. not x.0)

test-is : (b : Bool) → (b ≡ true) ⊎ (b ≡ true → ⊥)
test-is true = inl refl
test-is false = inr (λ e. cc)

same-bytes : (xs ys : List ℕ) → (xs ≡ ys) ⊎ (xs ≡ ys → ⊥)
same-bytes xs ys = elim (cases_Bool (bytes_eq xs ys)) [
  | inl e ↦ inl ((bytes_eq-Decides xs ys).0 e)
  | inr e ↦ inr (λ h. let same : bytes_eq xs ys ≡ true = (bytes_eq-Decides xs ys).1 h in cc)
]

less-is : (m n : ℕ) → (m < n) ⊎ (m < n → ⊥)
less-is m n = elim (cases_lt m n) [ inl e ↦ inl e | inr e ↦ inr (λ h. omega arith) ]

none-is : {A : Type 0} (xs : List A) → (xs ≡ []) ⊎ (xs ≡ [] → ⊥)
none-is [] = inl refl
none-is (x ∷ xs) = inr (λ e. cc)

-- ---- the answer to the connect

pub record IsFound (test : ℕ → Bool) (a n : ℕ) : Type 0 where
  pub number : ℕ
  pub above : a < number
  pub most : number ≤ n
  pub passes : test number ≡ true

some-passes : (test : ℕ → Bool) (a n : ℕ) → IsFound test a n ⊎ (IsFound test a n → ⊥)
some-passes test a zero = inr (λ x. let low = x.above in let high = x.most in omega arith)
some-passes test a (suc n) = by (some-passes test a n) (cases_lt a (suc n)) (cases_Bool (test (suc n)))
  where
    by : IsFound test a n ⊎ (IsFound test a n → ⊥) → (a < suc n) ⊎ (suc n ≤ a) → (test (suc n) ≡ true) ⊎ (test (suc n) ≡ false) → IsFound test a (suc n) ⊎ (IsFound test a (suc n) → ⊥)
    by (inl x) within is = let most = x.most in inl (record { number = x.number; above = x.above; most = omega arith; passes = x.passes })
    by (inr none) (inl above) (inl is) = inl (record { number = suc n; above = above; most = omega arith; passes = is })
    by (inr none) (inr below) is = inr (λ x. let low = x.above in let high = x.most in omega arith)
    by (inr none) (inl above) (inr fails) = inr (λ x. elim (cases_lt x.number (suc n)) [
      | inl less ↦ none (record { number = x.number; above = x.above; most = omega arith; passes = x.passes })
      | inr more ↦
          let high = x.most in
          let last : x.number ≡ suc n = omega arith in
          let passes : test (suc n) ≡ true = ap test (sym last) ∙ x.passes in
          cc
    ])

refused-is : (lines : List TranscriptLine) (c : ℕ) (p : Due) (o : Option (ℕ × List ℕ)) (q : Option ConnectRequest) → IsRefused lines c p o q ⊎ (IsRefused lines c p o q → ⊥)
refused-is lines c p None q = inr (λ x. x)
refused-is lines c p (Some f) None = inr (λ x. x)
refused-is lines c p (Some f) (Some r) = by (some-passes (λ m. may_refuse r (state_at lines m)) f.0 p.0) (same-bytes p.1 (connect_packet (refusal r)))
  where
    by : IsFound (λ m. may_refuse r (state_at lines m)) f.0 p.0 ⊎ (IsFound (λ m. may_refuse r (state_at lines m)) f.0 p.0 → ⊥)
        → (p.1 ≡ connect_packet (refusal r)) ⊎ (p.1 ≡ connect_packet (refusal r) → ⊥) → IsRefused lines c p (Some f) (Some r) ⊎ (IsRefused lines c p (Some f) (Some r) → ⊥)
    by (inl x) (inl same) = inl (x.number, x.above, x.most, x.passes, same)
    by (inl x) (inr other) = inr (λ y. other y.4)
    by (inr none) same = inr (λ y. none (record { number = y.0; above = y.1; most = y.2; passes = y.3 }))

welcomed-is : (lines : List TranscriptLine) (c k : ℕ) (id : ℤ) (p : Due) (q : Option ConnectRequest) (o : Option Session) → IsWelcomed lines c k id p q o ⊎ (IsWelcomed lines c k id p q o → ⊥)
welcomed-is lines c k id p None o = inr (λ x. x)
welcomed-is lines c k id p (Some r) None = inr (λ x. x)
welcomed-is lines c k id p (Some r) (Some x) = both (less-is k p.0) (same-bytes p.1 (connect_packet (welcome r id x)))

connected-is : (lines : List TranscriptLine) (c : ℕ) (ps : List Due) (o : Option (ℕ × Attachment)) → IsConnectAnswered lines c ps o ⊎ (IsConnectAnswered lines c ps o → ⊥)
connected-is lines c [] o = inl tt
connected-is lines c (p ∷ ps) None = both (refused-is lines c p (placed_frame c 0 lines) (connect c lines)) (none-is ps)
connected-is lines c (p ∷ ps) (Some a) = welcomed-is lines c a.0 a.1.session p (connect c lines) (session_at a.1.session (state_at lines (a.0 + 1)))

-- ---- a conversation

abbrev AreWalked : List TranscriptLine → ℕ → Type 0
AreWalked lines c = (a : ℕ × Attachment) → attach_of c lines ≡ Some a → IsTrue (is_some (least_walk lines c a.1.session a.1.zxid (a.0 + 1) (later_packets c lines)))

walked-is : (lines : List TranscriptLine) (c : ℕ) → AreWalked lines c ⊎ (AreWalked lines c → ⊥)
walked-is lines c = by (attach_of c lines) refl
  where
    by : (o : Option (ℕ × Attachment)) → attach_of c lines ≡ o → AreWalked lines c ⊎ (AreWalked lines c → ⊥)
    by None none = inl (λ a at. absurd (cc))
    by (Some b) some = elim (test-is (is_some (least_walk lines c b.1.session b.1.zxid (b.0 + 1) (later_packets c lines)))) [
      | inl walks ↦ inl (λ a at. let same : b ≡ a = cc in subst (λ (x : ℕ × Attachment). IsTrue (is_some (least_walk lines c x.1.session x.1.zxid (x.0 + 1) (later_packets c lines)))) same walks)
      | inr not ↦ inr (λ all. not (all b some))
    ]

lawful-is : (lines : List TranscriptLine) (c : ℕ) → history_fault lines ≡ None → IsLawfulAndFresh lines c ⊎ (IsLawfulAndFresh lines c → ⊥)
lawful-is lines c none = by (test-is (are_before_close lines c)) (connected-is lines c (packets c lines) (attach_of c lines)) (walked-is lines c)
  where
    by : (are_before_close lines c ≡ true) ⊎ (are_before_close lines c ≡ true → ⊥)
        → IsConnectAnswered lines c (packets c lines) (attach_of c lines) ⊎ (IsConnectAnswered lines c (packets c lines) (attach_of c lines) → ⊥)
        → AreWalked lines c ⊎ (AreWalked lines c → ⊥) → IsLawfulAndFresh lines c ⊎ (IsLawfulAndFresh lines c → ⊥)
    by (inl a) (inl b) (inl w) = inl (lawful-when lines c none (record { in_time = a; connected = b; walks = w }))
    by (inr not) b w = inr (λ l. not (judged-when lines c none l).in_time)
    by (inl a) (inr not) w = inr (λ l. not (judged-when lines c none l).connected)
    by (inl a) (inl b) (inr not) = inr (λ l. not (judged-when lines c none l).walks)

-- ---- the least that fails

least-fault-of : (P : ℕ → Type 0) → ((c : ℕ) → P c ⊎ (P c → ⊥)) → (c : ℕ) (found : Option ℕ) → (o : Option ℕ) × IsLesser P c found o
least-fault-of P decide c found = by (decide c) found
  where
    earlier : (n : ℕ) → (P c → ⊥) → (c < n) ⊎ (n ≤ c) → (o : Option ℕ) × IsLesser P c (Some n) o
    earlier n not (inl less) = (Some c, record { fails = λ f. not; passes = λ same. absurd (omega (arith, same)); before = λ d below. omega (arith, below) })
    earlier n not (inr more) = (Some n, record { fails = λ f. f; passes = λ below. absurd (omega (arith, below)); before = λ d below. below })

    by : P c ⊎ (P c → ⊥) → (found : Option ℕ) → (o : Option ℕ) × IsLesser P c found o
    by (inl holds) found = (found, record { fails = λ f. f; passes = λ below. holds; before = λ d below. below })
    by (inr not) None = (Some c, record { fails = λ f. not; passes = λ same. absurd (omega (arith, same)); before = λ d below. tt })
    by (inr not) (Some n) = earlier n not (cases_lt c n)

line-more : (P : ℕ → Type 0) → ((c : ℕ) → P c ⊎ (P c → ⊥)) → (before : List TranscriptLine) (l : TranscriptLine) (found : Option ℕ) → IsLeastOpened P before found → (o : Option ℕ) × IsLeastOpened P (before ++ l ∷ []) o
line-more P decide before (line.Open c p id pw layout) found least = let x = least-fault-of P decide c found in (x.0, opened-more P before c p id pw layout found x.0 x.1 least)
line-more P decide before (line.Update u) found least = (found, opened-skip P before (line.Update u) found (λ d. refl) least)
line-more P decide before (line.Frame c i z bytes) found least = (found, opened-skip P before (line.Frame c i z bytes) found (λ d. refl) least)
line-more P decide before (line.Send c bytes) found least = (found, opened-skip P before (line.Send c bytes) found (λ d. refl) least)
line-more P decide before (line.Lapse revision id) found least = (found, opened-skip P before (line.Lapse revision id) found (λ d. refl) least)
line-more P decide before (line.Close c end) found least = (found, opened-skip P before (line.Close c end) found (λ d. refl) least)

lines-more : (P : ℕ → Type 0) → ((c : ℕ) → P c ⊎ (P c → ⊥)) → (before ls : List TranscriptLine) (found : Option ℕ) → IsLeastOpened P before found → (o : Option ℕ) × IsLeastOpened P (before ++ ls) o
lines-more P decide before [] found least = (found, subst (λ (b : List TranscriptLine). IsLeastOpened P b found) (sym (append-nil before)) least)
lines-more P decide before (l ∷ ls) found least =
    let x = line-more P decide before l found least in
    let y = lines-more P decide (before ++ l ∷ []) ls x.0 x.1 in
    (y.0, subst (λ (b : List TranscriptLine). IsLeastOpened P b y.0) (append_assoc before (l ∷ []) ls) y.1)

none-opened : (P : ℕ → Type 0) → IsLeastOpened P [] None
none-opened P = record { fails = tt; passes = λ d opened below. absurd (cc) }

-- ---- the verdict

conversations-judged : (lines : List TranscriptLine) → IsRun lines → (found : Option ℕ) → IsLeastFault (IsLawfulAndFresh lines) found → (v : Verdict) × IsVerdict lines v
conversations-judged lines run None all = (Lawful, (run, all))
conversations-judged lines run (Some c) least = (Conversation c, (run, least.0, least.1))

run-judged : (lines : List TranscriptLine) → IsRun lines → (v : Verdict) × IsVerdict lines v
run-judged lines run =
    let x = lines-more (IsLawfulAndFresh lines) (λ c. lawful-is lines c run.history) [] lines None (none-opened (IsLawfulAndFresh lines)) in
    conversations-judged lines run x.0 (least-fault lines x.0 run.history x.1)

pub each-verdict : (lines : List TranscriptLine) → (v : Verdict) × IsVerdict lines v
each-verdict lines = by (history_fault lines) (order_fault lines) refl refl
  where
    by : (h o : Option ℕ) → history_fault lines ≡ h → order_fault lines ≡ o → (v : Verdict) × IsVerdict lines v
    by (Some n) o history order = (History n, history)
    by None (Some n) history order = (Order n, (history, order))
    by None None history order = run-judged lines (record { history = history; order = order })
