-- Conversations, by the moments that they wait for.
use Rattle.std.proofs.Common.{◌≡◌, ℕ, ◌+◌, ◌<◌, ◌≤◌, Bool, true, false, List, [], ◌∷◌, ◌++◌, length, Some, None, inl, inr, refl, ap, sym, ◌∙◌, subst, eqb-true, arith}
use Rattle.std.specs.Prelude.{◌⊎◌, ◌==◌, if◌then◌else◌, nat_lt}
use Rattle.std.specs.Global.{Vec}
use Rattle.std.specs.List.{All, Contains}
use Rattle.std.proofs.lemmas.Bool.Decides.{nat_tests}
use Rattle.std.proofs.lemmas.List.Elements.{All-nil, All-push, Contains-append_left, Contains-push}
use Rattle.zk_transcript.specs.declared.transcript.TranscriptLine.{TranscriptLine}
use Rattle.zk_judge.specs.Agendas.{AreJudged, IsAgenda, waiting_at}
use Rattle.zk_judge.specs.Staged.{IsStaged, IsStanding, awaited, connections}
use Rattle.zk_judge.specs.Waiting.{IsWait}
use Rattle.zk_judge.specs.declared.agenda.Agenda.{Agenda}
use Rattle.zk_judge.specs.declared.agenda.Lists.{Lists}
use Rattle.zk_judge.specs.declared.conversations.Conversation.{Conversation}
use Rattle.zk_judge.specs.declared.conversations.Stage.{Stage}
use Rattle.zk_judge.specs.declared.conversations.Stage.TheVariants as stage
use Rattle.zk_judge.specs.declared.waits.Walked.TheVariants as walk
use Rattle.zk_judge.proofs.Opened.{connections-push, none-contained}
use Rattle.zk_judge.proofs.Stages.{attached-within}
use Rattle.zx_base.proofs.Booleans.{same-test}

-- ---- what is known of a stage stands up to the moment that it waits for, and for good where it waits for none

pub record IsAwaited (lines : List TranscriptLine) (from m c : ℕ) (s : Stage) : Type 0 where
  pub low : from ≤ m
  pub high : m ≤ length lines
  pub stands : IsStaged lines m c s

pub awaits : (lines : List TranscriptLine) (from m c : ℕ) (s : Stage) → IsStaged lines from c s → awaited s ≡ Some m → IsAwaited lines from m c s
awaits lines from m c (stage.Attached place zxid session) st e =
    let is : place + 1 ≡ m = cc in
    let last = attached-within lines c place _ st.0 in
    record { low = omega (arith, st.1, is); high = omega (arith, last, is); stands = (st.0, omega (arith, is)) }
awaits lines from m c (stage.Refused first last r) st e =
    let is : first ≡ m = cc in
    record { low = omega (arith, st.1, is); high = omega (arith, st.2, st.3, is); stands = (st.0, omega (arith, is), st.2, st.3) }
awaits lines from m c (stage.Walks (walk.Ends b)) st e = absurd (cc)
awaits lines from m c (stage.Walks (walk.Waits x)) st e =
    let is : x.first ≡ m = cc in
    let w : IsWait lines from x = st.1 in
    let low = w.first in
    let high = w.last in
    record {
      low = omega (arith, low, is);
      high = omega (arith, high, is);
      stands = (st.0, record { first = omega (arith, is); last = w.last; second = w.second; above = w.above; told = w.told; taken = w.taken });
    }

pub ended : (lines : List TranscriptLine) (from m c : ℕ) (s : Stage) → IsStaged lines from c s → awaited s ≡ None → IsStaged lines m c s
ended lines from m c (stage.Attached place zxid session) st e = absurd (cc)
ended lines from m c (stage.Refused first last r) st e = absurd (cc)
ended lines from m c (stage.Walks (walk.Ends b)) st e = (st.0, tt)
ended lines from m c (stage.Walks (walk.Waits x)) st e = absurd (cc)

-- ---- one more conversation in the list of a moment

abbrev put : Bool → List Conversation → Conversation → List Conversation
put b xs x = if b then xs ++ x ∷ [] else xs

abbrev pub IsPut : Lists → Lists → ℕ → Conversation → Type 0
IsPut before after m x = (k : ℕ) → waiting_at after k ≡ (if m == k then waiting_at before k ++ x ∷ [] else waiting_at before k)

put-has : (b : Bool) (xs : List Conversation) (x : Conversation) (c : ℕ) → Contains (connections xs) c → Contains (connections (put b xs x)) c
put-has true xs x c has = subst (λ (cs : List ℕ). Contains cs c) (sym (connections-push xs x)) (Contains-append_left (connections xs) (x.connection ∷ []) c has)
put-has false xs x c has = has

module _ (before after : Lists) (m : ℕ) (x : Conversation) (p : IsPut before after m x) where
  pub put-kept : (c k : ℕ) → Contains (connections (waiting_at before k)) c → Contains (connections (waiting_at after k)) c
  put-kept c k has = subst (λ (xs : List Conversation). Contains (connections xs) c) (sym (p k)) (put-has (m == k) (waiting_at before k) x c has)

  pub put-new : Contains (connections (waiting_at after m)) x.connection
  put-new =
      let own : waiting_at after m ≡ waiting_at before m ++ x ∷ [] = p m ∙ ap (λ b. put b (waiting_at before m) x) (same-test m) in
      subst (λ (cs : List ℕ). Contains cs x.connection) (sym (ap connections own ∙ connections-push (waiting_at before m) x)) (Contains-push (connections (waiting_at before m)) x.connection)

  put-empty : (k : ℕ) → (m ≡ k → ⊥) → waiting_at before k ≡ [] → waiting_at after k ≡ []
  put-empty k other none = p k ∙ by (m == k) refl ∙ none
    where
      by : (b : Bool) → (m == k) ≡ b → put b (waiting_at before k) x ≡ waiting_at before k
      by true e = absurd (other (eqb-true m k e))
      by false e = refl

  put-stands : (lines : List TranscriptLine) (k : ℕ) → IsStanding lines m x → All (IsStanding lines k) (waiting_at before k) → All (IsStanding lines k) (waiting_at after k)
  put-stands lines k stands all = subst (λ (xs : List Conversation). All (IsStanding lines k) xs) (sym (p k)) (by (m == k) refl)
    where
      by : (b : Bool) → (m == k) ≡ b → All (IsStanding lines k) (put b (waiting_at before k) x)
      by true e = All-push (IsStanding lines k) (waiting_at before k) x all (subst (λ (j : ℕ). IsStanding lines j x) (eqb-true m k e) stands)
      by false e = all

pub put-agenda : (lines : List TranscriptLine) (a b : Agenda) (m : ℕ) (x : Conversation) → IsPut a.waiting b.waiting m x → b.next ≡ a.next → b.judged ≡ a.judged → IsAgenda lines a → IsStanding lines a.next x
    → awaited x.stage ≡ Some m → IsAgenda lines b
put-agenda lines a b m x p next judged is stands waits =
    let at = awaits lines a.next m x.connection x.stage stands waits in
    let low = at.low in
    let high = at.high in
    record {
      next = subst (λ (n : ℕ). n ≤ length lines + 1) (sym next) is.next;
      past = λ k less. put-empty a.waiting b.waiting m x p k (λ same. omega (arith, low, same, less, next)) (is.past k (omega (arith, less, next)));
      over = λ k more. put-empty a.waiting b.waiting m x p k (λ same. omega (arith, high, same, more)) (is.over k more);
      waiting = λ k. put-stands a.waiting b.waiting m x p lines k at.stands (is.waiting k);
      judged = subst (λ (v : Vec Conversation). AreJudged lines v.items) (sym judged) is.judged;
    }

-- ---- the list of the next moment

abbrev pub IsTaken : Lists → Lists → ℕ → Type 0
IsTaken before after m = (k : ℕ) → waiting_at after k ≡ (if m == k then [] else waiting_at before k)

module _ (before after : Lists) (m : ℕ) (p : IsTaken before after m) where
  taken-own : (k : ℕ) → m ≡ k → waiting_at after k ≡ []
  taken-own k same = p k ∙ ap (λ b. if b then [] else waiting_at before k) (ap (λ j. m == j) (sym same) ∙ same-test m)

  taken-empty : (k : ℕ) → waiting_at before k ≡ [] → waiting_at after k ≡ []
  taken-empty k none = p k ∙ by (m == k)
    where
      by : (b : Bool) → (if b then [] else waiting_at before k) ≡ []
      by true = refl
      by false = none

  taken-stands : (lines : List TranscriptLine) (k : ℕ) → All (IsStanding lines k) (waiting_at before k) → All (IsStanding lines k) (waiting_at after k)
  taken-stands lines k all = subst (λ (xs : List Conversation). All (IsStanding lines k) xs) (sym (p k)) (by (m == k))
    where
      by : (b : Bool) → All (IsStanding lines k) (if b then [] else waiting_at before k)
      by true = All-nil (IsStanding lines k)
      by false = all

  pub taken-or-left : (c k : ℕ) → Contains (connections (waiting_at before k)) c → Contains (connections (waiting_at before m)) c ⊎ ((j : ℕ) × Contains (connections (waiting_at after j)) c)
  taken-or-left c k has = by (m == k) refl
    where
      by : (b : Bool) → (m == k) ≡ b → Contains (connections (waiting_at before m)) c ⊎ ((j : ℕ) × Contains (connections (waiting_at after j)) c)
      by true e = inl (subst (λ (j : ℕ). Contains (connections (waiting_at before j)) c) (sym (eqb-true m k e)) has)
      by false e = inr (k, subst (λ (xs : List Conversation). Contains (connections xs) c) (sym (p k ∙ ap (λ b. if b then [] else waiting_at before k) e)) has)

pub taken-agenda : (lines : List TranscriptLine) (a b : Agenda) → IsTaken a.waiting b.waiting a.next → b.next ≡ a.next + 1 → b.judged ≡ a.judged → IsAgenda lines a → a.next ≤ length lines → IsAgenda lines b
taken-agenda lines a b p next judged is within = record {
  next = omega (arith, next, within);
  past = λ k less. before k less (nat_lt k a.next) refl;
  over = λ k more. taken-empty a.waiting b.waiting a.next p k (is.over k more);
  waiting = λ k. taken-stands a.waiting b.waiting a.next p lines k (is.waiting k);
  judged = subst (λ (v : Vec Conversation). AreJudged lines v.items) (sym judged) is.judged;
}
  where
    before : (k : ℕ) → k < b.next → (t : Bool) → nat_lt k a.next ≡ t → waiting_at b.waiting k ≡ []
    before k less true e = let early : k < a.next = grind (arith, nat_tests, e) in taken-empty a.waiting b.waiting a.next p k (is.past k early)
    before k less false e = let late : a.next ≤ k = grind (arith, nat_tests, e) in taken-own a.waiting b.waiting a.next p k (omega (arith, less, next, late))

-- no conversation is left in a list once no moment is
pub none-listed : (lines : List TranscriptLine) (a : Agenda) (c m : ℕ) → IsAgenda lines a → a.next ≡ length lines + 1 → Contains (connections (waiting_at a.waiting m)) c → ⊥
none-listed lines a c m is last has = none-contained (waiting_at a.waiting m) c (ap (λ (xs : List Conversation). length xs) (empty (nat_lt m a.next) refl)) has
  where
    empty : (t : Bool) → nat_lt m a.next ≡ t → waiting_at a.waiting m ≡ []
    empty true e = let early : m < a.next = grind (arith, nat_tests, e) in is.past m early
    empty false e = let late : a.next ≤ m = grind (arith, nat_tests, e) in is.over m (omega (arith, late, last))

-- no conversation
pub new-agenda : (lines : List TranscriptLine) (a : Agenda) → a.next ≡ 0 → ((m : ℕ) → waiting_at a.waiting m ≡ []) → a.judged.items ≡ [] → IsAgenda lines a
new-agenda lines a first none judged = record {
  next = omega (arith, first);
  past = λ m less. none m;
  over = λ m more. none m;
  waiting = λ m. subst (λ (xs : List Conversation). All (IsStanding lines m) xs) (sym (none m)) (All-nil (IsStanding lines m));
  judged = subst (λ (xs : List Conversation). AreJudged lines xs) (sym judged) (All-nil (IsStanding lines (length lines + 1)));
}
