-- What follows from the tries of a call.
use Rattle.std.proofs.Common.{◌≡◌, ◌⊎◌, inl, inr, ℕ, suc, zero, ◌+◌, ◌<◌, ◌≤◌, Bool, true, false, List, [], ◌∷◌, ◌++◌, length, get_or, refl, sym, subst, ap, ◌∙◌, arith, ltb-true}
use Rattle.std.specs.Prelude.{All, Option, Result, Ok, Err, IfOk, nat_lt, if◌then◌else◌}
use Rattle.std.proofs.lemmas.List.{length-append}
use Rattle.std.proofs.lemmas.Bool.Decides.{nat_tests}
use Rattle.std.proofs.lemmas.List.Elements.{All-cons, All-head, All-nil, All-tail}
use Rattle.ev_types.specs.Store.{Store}
use Rattle.ev_types.specs.declared.answer.Answer.{Answer}
use Rattle.ev_types.specs.declared.ask.Ask.{Ask}
use Rattle.ev_call.specs.Honest.{CarriesCall}
use Rattle.ev_call.specs.declared.etcd.CallFault.{CallFault}
use Rattle.ev_call.specs.declared.etcd.CallFault.TheVariants as call
use Rattle.ev_failover.specs.Endpoints.{IsSentBy, Sent}
use Rattle.ev_failover.proofs.Repeating.{changes_nothing}
use Rattle.ev_failover.specs.Reading.{is_reading}
use Rattle.ev_failover.specs.Theorem.{CarriesEnd, FailsOnly, IsFault, NoneTwice, SendsOnce}
use Rattle.ev_failover.specs.Turns.{IsLast, Tries, answer_of, goes_on, next_of, place_after, places}
use Rattle.ev_failover.specs.declared.endpoints.EndFault.{EndFault}
use Rattle.ev_failover.specs.declared.endpoints.EndFault.TheVariants as fault

abbrev Came : Type 0
Came = Result Answer EndFault

abbrev WentOn : Ask → List Came → Type 0
WentOn q rs = All (λ (r : Came). goes_on q r ≡ true) rs

first_on : (q : Ask) (r : Came) (rs : List Came) → WentOn q (r ∷ rs) → goes_on q r ≡ true
first_on q r rs h = All-head (λ (x : Came). goes_on q x ≡ true) r rs h

others_on : (q : Ask) (r : Came) (rs : List Came) → WentOn q (r ∷ rs) → WentOn q rs
others_on q r rs h = All-tail (λ (x : Came). goes_on q x ≡ true) r rs h

-- ---- what is sent

last_sends : (q : Ask) (e : ℕ) (r : Came) (before after : Option (List Sent)) → IsSentBy r e q before after → SendsOnce q before after
last_sends q e (Ok a) before after h = inr (e, h)
last_sends q e (Err fault.NotSent) before after h = inl h
last_sends q e (Err fault.Failed) before after h = inr (e, h)
last_sends q e (Err fault.Memory) before after (inl h) = inl h
last_sends q e (Err fault.Memory) before after (inr h) = inr (e, h)

-- a call that goes on with an ask that does not only read has sent nothing
unsent : (q : Ask) (e : ℕ) (r : Came) (before after : Option (List Sent)) → is_reading q ≡ false → goes_on q r ≡ true → IsSentBy r e q before after → after ≡ before
unsent q e (Ok a) before after w on h = absurd (cc)
unsent q e (Err fault.NotSent) before after w on h = h
unsent q e (Err fault.Failed) before after w on h = absurd (cc)
unsent q e (Err fault.Memory) before after w on h = absurd (cc)

pub sends_once : {E : Type 0} (came : E → ℕ → Ask → Came → E → Type 0) (sent : E → Option (List Sent)) (q : Ask) (size e : ℕ) (a b : E) (rs : List Came) (last : Came)
    → is_reading q ≡ false → WentOn q rs → Tries came sent q size e a (rs ++ last ∷ []) b → SendsOnce q (sent a) (sent b)
sends_once {E} came sent q size e a b [] last w on (mid, h, by, is) = subst (λ (x : E). SendsOnce q (sent a) (sent x)) (sym is) (last_sends q e last (sent a) (sent mid) by)
sends_once came sent q size e a b (r ∷ rs) last w on (mid, h, by, more) =
    subst (λ (s : Option (List Sent)). SendsOnce q s (sent b)) (unsent q e r (sent a) (sent mid) w (first_on q r rs on) by)
    (sends_once came sent q size (place_after size e r) mid b rs last w (others_on q r rs on) more)

-- ---- when a call fails

is_fault : (q : Ask) (r : Came) → goes_on q r ≡ true → IsFault r
is_fault q (Ok a) on = absurd (cc)
is_fault q (Err fault.NotSent) on = tt
is_fault q (Err fault.Failed) on = tt
is_fault q (Err fault.Memory) on = absurd (cc)

all_faults : (q : Ask) (rs : List Came) (last : Came) → WentOn q rs → IsFault last → All IsFault (rs ++ last ∷ [])
all_faults q [] last on h = All-cons IsFault last [] h (All-nil IsFault)
all_faults q (r ∷ rs) last on h = All-cons IsFault r (rs ++ last ∷ []) (is_fault q r (first_on q r rs on)) (all_faults q rs last (others_on q r rs on) h)

none_answers : (q : Ask) (size : ℕ) (rs : List Came) (last : Came) → WentOn q rs → IsFault last → length rs + 1 ≡ size → FailsOnly q size (rs ++ last ∷ [])
none_answers q size rs last on h all = inr (let n = length-append rs (last ∷ []) in omega (arith, n), all_faults q rs last on h)

failed_last : (q : Ask) (size : ℕ) (rs : List Came) (b : Bool) → is_reading q ≡ b → IsLast q size rs (Err fault.Failed) → FailsOnly q size (rs ++ Err fault.Failed ∷ [])
failed_last q size rs true reads h = none_answers q size rs (Err fault.Failed) h.went_on tt (h.over reads)
failed_last q size rs false writes h = inl (writes, (rs, refl))

pub fails_only : (q : Ask) (size : ℕ) (rs : List Came) (last : Came) → IsLast q size rs last → answer_of last ≡ Err call.Failed → FailsOnly q size (rs ++ last ∷ [])
fails_only q size rs (Ok a) h failed = absurd (cc)
fails_only q size rs (Err fault.NotSent) h failed = none_answers q size rs (Err fault.NotSent) h.went_on tt (h.over refl)
fails_only q size rs (Err fault.Failed) h failed = failed_last q size rs (is_reading q) refl h
fails_only q size rs (Err fault.Memory) h failed = absurd (cc)

-- ---- which endpoints are tried

next_cases : (size e : ℕ) → ((e + 1 < size) × (next_of size e ≡ e + 1)) ⊎ ((size ≤ e + 1) × (next_of size e ≡ 0))
next_cases size e = go (nat_lt (e + 1) size) refl
  where
    go : (b : Bool) → nat_lt (e + 1) size ≡ b → ((e + 1 < size) × ((if b then e + 1 else 0) ≡ e + 1)) ⊎ ((size ≤ e + 1) × ((if b then e + 1 else 0) ≡ 0))
    go true h = inl (ltb-true (e + 1) size h, refl)
    go false h = inr (let le : size ≤ e + 1 = grind (arith, nat_tests, h) in le, refl)

goes_next : (q : Ask) (size e : ℕ) (r : Came) → goes_on q r ≡ true → place_after size e r ≡ next_of size e
goes_next q size e (Ok a) on = absurd (cc)
goes_next q size e (Err fault.NotSent) on = refl
goes_next q size e (Err fault.Failed) on = refl
goes_next q size e (Err fault.Memory) on = absurd (cc)

-- so many places after an endpoint, around the end
abbrev Wraps : ℕ → ℕ → ℕ → ℕ → Type 0
Wraps size e k v = ((v ≡ e + k) × (e + k < size)) ⊎ (v + size ≡ e + k)

next_wraps : (size e k v : ℕ) → e < size → suc k < size → Wraps size (next_of size e) k v → Wraps size e (suc k) v
next_wraps size e k v within small h = go (next_cases size e) h
  where
    go : ((e + 1 < size) × (next_of size e ≡ e + 1)) ⊎ ((size ≤ e + 1) × (next_of size e ≡ 0)) → Wraps size (next_of size e) k v → Wraps size e (suc k) v
    go (inl (lt, is)) (inl (at, below)) = inl (omega arith, omega arith)
    go (inl (lt, is)) (inr at) = inr (omega arith)
    go (inr (le, is)) (inl (at, below)) = inr (omega arith)
    go (inr (le, is)) (inr at) = absurd (omega arith)

next_within : (size e : ℕ) → e < size → next_of size e < size
next_within size e within = go (next_cases size e)
  where
    go : ((e + 1 < size) × (next_of size e ≡ e + 1)) ⊎ ((size ≤ e + 1) × (next_of size e ≡ 0)) → next_of size e < size
    go (inl (lt, is)) = omega arith
    go (inr (le, is)) = omega arith

place_at : (q : Ask) (size e : ℕ) (rs : List Came) (last : Came) (k : ℕ) → WentOn q rs → e < size → k ≤ length rs → length rs + 1 ≤ size → Wraps size e k (get_or (places size e (rs ++ last ∷ [])) k 0)
place_at q size e [] last zero on within le most = inl (omega arith, omega arith)
place_at q size e [] last (suc k) on within le most = absurd (omega arith)
place_at q size e (r ∷ rs) last zero on within le most = inl (omega arith, omega arith)
place_at q size e (r ∷ rs) last (suc k) on within le most =
    let is = goes_next q size e r (first_on q r rs on) in
    let rest : Wraps size (next_of size e) k (get_or (places size (next_of size e) (rs ++ last ∷ [])) k 0) = place_at q size (next_of size e) rs last k (others_on q r rs on) (next_within size e within) (omega arith) (omega arith) in
    next_wraps size e k _ within (omega arith) (subst (λ (n : ℕ). Wraps size (next_of size e) k (get_or (places size n (rs ++ last ∷ [])) k 0)) (sym is) rest)

places_length : (size e : ℕ) (rs : List Came) → length (places size e rs) ≡ length rs
places_length size e [] = refl
places_length size e (r ∷ rs) = ap (λ n. suc n) (places_length size (place_after size e r) rs)

apart : (size e i j v w : ℕ) → i < j → j < size → Wraps size e i v → Wraps size e j w → v ≡ w → ⊥
apart size e i j v w lt most (inl (at, below)) (inl (to, under)) same = omega arith
apart size e i j v w lt most (inl (at, below)) (inr to) same = omega arith
apart size e i j v w lt most (inr at) (inl (to, under)) same = omega arith
apart size e i j v w lt most (inr at) (inr to) same = omega arith

pub none_twice : (q : Ask) (size e : ℕ) (rs : List Came) (last : Came) → e < size → IsLast q size rs last → NoneTwice (places size e (rs ++ last ∷ []))
none_twice q size e rs last within h = λ i j lt short same.
    let n = places_length size e (rs ++ last ∷ []) in
    let m = length-append rs (last ∷ []) in
    let once = h.once in
    apart size e i j _ _ lt (omega arith) (place_at q size e rs last i h.went_on within (omega arith) once) (place_at q size e rs last j h.went_on within (omega arith) once) same

-- ---- whose answer it is

last_of : (P : Came → Type 0) (rs : List Came) (last : Came) → All P (rs ++ last ∷ []) → P last
last_of P [] last h = All-head P last [] h
last_of P (r ∷ rs) last h = last_of P rs last (All-tail P r (rs ++ last ∷ []) h)

pub answered : (P : Answer → Type 0) (last : Came) → IfOk last P → IfOk (answer_of last) P
answered P (Ok a) h = h
answered P (Err fault.NotSent) h = tt
answered P (Err fault.Failed) h = tt
answered P (Err fault.Memory) h = tt

pub as_honest : (P : Answer → Type 0) (rs : List Came) (last : Came) → All (λ (r : Came). IfOk r P) (rs ++ last ∷ []) → IfOk (answer_of last) P
as_honest P rs last h = answered P last (last_of (λ (r : Came). IfOk r P) rs last h)

last_carries : (s t : Store) (q : Ask) (last : Came) → CarriesEnd s q last t → CarriesCall s q (answer_of last) t
last_carries s t q (Ok a) h = h
last_carries s t q (Err fault.NotSent) h = inl h
last_carries s t q (Err fault.Failed) h = h
last_carries s t q (Err fault.Memory) h = h

unchanged : (s t : Store) (q : Ask) (r : Came) → goes_on q r ≡ true → CarriesEnd s q r t → t ≡ s
unchanged s t q (Ok a) on h = absurd (cc)
unchanged s t q (Err fault.NotSent) on h = h
unchanged s t q (Err fault.Failed) on (inl h) = h
unchanged s t q (Err fault.Failed) on (inr (a, h)) = changes_nothing s t q a on h
unchanged s t q (Err fault.Memory) on h = absurd (cc)

pub carries : {E : Type 0} (came : E → ℕ → Ask → Came → E → Type 0) (sent : E → Option (List Sent)) (store : E → Store) (q : Ask) (size e : ℕ) (a b : E) (rs : List Came) (last : Came)
    → ((x y : E) (n : ℕ) (r : Came) → came x n q r y → CarriesEnd (store x) q r (store y)) → WentOn q rs → Tries came sent q size e a (rs ++ last ∷ []) b → CarriesCall (store a) q (answer_of last) (store b)
carries {E} came sent store q size e a b [] last law on (mid, h, by, is) =
    subst (λ (x : E). CarriesCall (store a) q (answer_of last) (store x)) (sym is) (last_carries (store a) (store mid) q last (law a mid e last h))
carries came sent store q size e a b (r ∷ rs) last law on (mid, h, by, more) =
    subst (λ (s : Store). CarriesCall s q (answer_of last) (store b)) (unchanged (store a) (store mid) q r (first_on q r rs on) (law a mid e r h))
    (carries came sent store q size (place_after size e r) mid b rs last law (others_on q r rs on) more)

-- ---- the same, where the tries and the answer are known by equations

pub sends_once_in : {E : Type 0} (came : E → ℕ → Ask → Came → E → Type 0) (sent : E → Option (List Sent)) (q : Ask) (size e : ℕ) (a b : E) (rs : List Came) (last : Came)
    → WentOn q rs → Tries came sent q size e a (rs ++ last ∷ []) b → is_reading q ≡ false → SendsOnce q (sent a) (sent b)
sends_once_in came sent q size e a b rs last on tries writes = sends_once came sent q size e a b rs last writes on tries

pub fails_only_in : (q : Ask) (size : ℕ) (rs : List Came) (last : Came) (tries : List Came) (result : Result Answer CallFault)
    → tries ≡ rs ++ last ∷ [] → result ≡ answer_of last → IsLast q size rs last → result ≡ Err call.Failed → FailsOnly q size tries
fails_only_in q size rs last tries result is answers h failed = subst (λ (l : List Came). FailsOnly q size l) (sym is) (fails_only q size rs last h (sym answers ∙ failed))

pub none_twice_in : (q : Ask) (size e : ℕ) (rs : List Came) (last : Came) (tries : List Came) → tries ≡ rs ++ last ∷ [] → e < size → IsLast q size rs last → NoneTwice (places size e tries)
none_twice_in q size e rs last tries is within h = subst (λ (l : List Came). NoneTwice (places size e l)) (sym is) (none_twice q size e rs last within h)

pub as_honest_in : (P : Answer → Type 0) (rs : List Came) (last : Came) (tries : List Came) (result : Result Answer CallFault)
    → tries ≡ rs ++ last ∷ [] → result ≡ answer_of last → All (λ (r : Came). IfOk r P) tries → IfOk result P
as_honest_in P rs last tries result is answers h =
    subst (λ (r : Result Answer CallFault). IfOk r P) (sym answers) (as_honest P rs last (subst (λ (l : List Came). All (λ (r : Came). IfOk r P) l) is h))

pub answered_in : (P : Answer → Type 0) (last : Came) (result : Result Answer CallFault) → result ≡ answer_of last → IfOk last P → IfOk result P
answered_in P last result answers h = subst (λ (r : Result Answer CallFault). IfOk r P) (sym answers) (answered P last h)

pub carries_in : {E : Type 0} (came : E → ℕ → Ask → Came → E → Type 0) (sent : E → Option (List Sent)) (store : E → Store) (q : Ask) (size e : ℕ) (a b : E) (rs : List Came) (last : Came) (result : Result Answer CallFault)
    → result ≡ answer_of last → WentOn q rs → Tries came sent q size e a (rs ++ last ∷ []) b
    → ((x y : E) (n : ℕ) (r : Came) → came x n q r y → CarriesEnd (store x) q r (store y)) → CarriesCall (store a) q result (store b)
carries_in came sent store q size e a b rs last result answers on tries law =
    subst (λ (r : Result Answer CallFault). CarriesCall (store a) q r (store b)) (sym answers) (carries came sent store q size e a b rs last law on tries)
