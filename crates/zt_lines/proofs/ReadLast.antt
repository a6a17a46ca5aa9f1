-- A line that is read as a transcript's last is written in one way.
use Rattle.std.proofs.Common.{◌≡◌, ℕ, ◌<◌, ◌≤◌, ◌==◌, true, false, inl, inr, List, [], ◌∷◌, ◌++◌, Option, Some, None, refl, sym, ap, subst, ◌∙◌, append_assoc}
use Rattle.std.specs.Prelude.{IfSome, ◌&&◌, ◌||◌, bytes_eq, codes, decimal}
use Rattle.std.proofs.lemmas.Bool.{and_parts, cond_both, eqb-true, false≢true, ltb-true, or_cases}
use Rattle.std.proofs.lemmas.Slice.Eq.{bytes_eq-Decides}
use Rattle.zt_text.specs.declared.script.Unread.TheVariants as unread
use Rattle.zt_text.specs.declared.script.Why.TheVariants as why
use Rattle.zt_text.specs.Faults.{fault_text}
use Rattle.zt_lines.specs.Readable.{FitsPlace, IsLastLine, IsReason}
use Rattle.zt_lines.specs.Transcripts.{is_arrival_fault, is_connection_fault, is_entry_fault, is_fault_after, is_fault_line, is_fault_of, is_last_line, is_positive, is_reason, is_request_fault, is_store_fault, parted}
use Rattle.zt_lines.specs.Words.{max_place, place}
use Rattle.zt_lines.proofs.ReadNumbers.{place-written}

-- ---- why a line of a script stopped the run

one_name : (P : List ℕ → Type 0) (w a : List ℕ) → P a → bytes_eq w a ≡ true → P w
one_name P w a p same = subst P (sym ((bytes_eq-Decides w a).0 same)) p

one_of_two : (P : List ℕ → Type 0) (w a b : List ℕ) → P a → P b → (bytes_eq w a || bytes_eq w b) ≡ true → P w
one_of_two P w a b p q some = elim (or_cases (bytes_eq w a) (bytes_eq w b) some) [
  | inl first ↦ one_name P w a p first
  | inr second ↦ one_name P w b q second
]

one_of_four : (P : List ℕ → Type 0) (w a b c d : List ℕ) → P a → P b → P c → P d → (bytes_eq w a || bytes_eq w b || bytes_eq w c || bytes_eq w d) ≡ true → P w
one_of_four P w a b c d p q r s some = elim (or_cases (bytes_eq w a || bytes_eq w b || bytes_eq w c) (bytes_eq w d) some) [
  | inl front ↦ elim (or_cases (bytes_eq w a || bytes_eq w b) (bytes_eq w c) front) [
    | inl two ↦ one_of_two P w a b p q two
    | inr third ↦ one_name P w c r third
  ]
  | inr fourth ↦ one_name P w d s fourth
]

is_connection_fault-written : (w : List ℕ) → is_connection_fault w ≡ true → IsReason w
unfolding is_connection_fault
is_connection_fault-written w some =
    one_of_four IsReason w (codes "number in use") (codes "no such connection") (codes "connection is closed") (codes "not a connection")
    (inl (why.NumberInUse, refl)) (inl (why.NoSuchConnection, refl)) (inl (why.ConnectionClosed, refl)) (inl (why.NotAConnection, refl)) some

is_arrival_fault-written : (w : List ℕ) → is_arrival_fault w ≡ true → IsReason w
unfolding is_arrival_fault
is_arrival_fault-written w some =
    one_of_four IsReason w (codes "frame is open") (codes "too long") (codes "unreadable line") (codes "clock limit")
    (inl (why.FrameOpen, refl)) (inl (why.TooLong, refl)) (inr (unread.Unreadable, refl)) (inl (why.ClockLimit, refl)) some

is_request_fault-written : (w : List ℕ) → is_request_fault w ≡ true → IsReason w
unfolding is_request_fault
is_request_fault-written w some =
    one_of_four IsReason w (codes "no request is out") (codes "already carried out") (codes "not carried out") (codes "request is out")
    (inl (why.NoRequestOut, refl)) (inl (why.AlreadyCarriedOut, refl)) (inl (why.NotCarriedOut, refl)) (inl (why.RequestOut, refl)) some

is_entry_fault-written : (w : List ℕ) → is_entry_fault w ≡ true → IsReason w
unfolding is_entry_fault
is_entry_fault-written w some = one_of_two IsReason w (codes "no entry to take") (codes "no lag") (inl (why.NoEntry, refl)) (inl (why.NoLag, refl)) some

is_store_fault-written : (w : List ℕ) → is_store_fault w ≡ true → IsReason w
unfolding is_store_fault
is_store_fault-written w some =
    one_of_four IsReason w (codes "no such stray") (codes "no such lease") (codes "store is full") (codes "key is kept")
    (inl (why.NoSuchStray, refl)) (inl (why.NoSuchLease, refl)) (inl (why.StoreFull, refl)) (inl (why.KeyKept, refl)) some

is_reason-written : (w : List ℕ) → is_reason w ≡ true → IsReason w
unfolding is_reason
is_reason-written w some =
    let two = is_connection_fault w || is_arrival_fault w in
    let three = two || is_request_fault w in
    elim (or_cases (three || is_entry_fault w) (is_store_fault w) some) [
      | inl front ↦ elim (or_cases three (is_entry_fault w) front) [
        | inl more ↦ elim (or_cases two (is_request_fault w) more) [
          | inl first ↦ elim (or_cases (is_connection_fault w) (is_arrival_fault w) first) [
            | inl connection ↦ is_connection_fault-written w connection
            | inr arrival ↦ is_arrival_fault-written w arrival
          ]
          | inr request ↦ is_request_fault-written w request
        ]
        | inr entry ↦ is_entry_fault-written w entry
      ]
      | inr store ↦ is_store_fault-written w store
    ]

-- ---- a fault

abbrev IsPartedAt : ℕ → List ℕ → List ℕ × List ℕ → Type 0
IsPartedAt c bytes x = bytes ≡ x.0 ++ c ∷ x.1

parted-written : (c : ℕ) (bytes : List ℕ) → IfSome (parted c bytes) (IsPartedAt c bytes)
unfolding parted
parted-written c [] = tt
parted-written c (b ∷ bs) =
    cond_both (b == c) (Some ([], bs)) _ (λ o. IfSome o (IsPartedAt c (b ∷ bs)))
    (λ same. ap (λ (a : ℕ). a ∷ bs) (eqb-true b c same)) (λ other. further (parted c bs) (parted-written c bs))
  where
    further : (o : Option (List ℕ × List ℕ)) → IfSome o (IsPartedAt c bs) → IfSome (elim o [ None ↦ None | Some x ↦ Some (b ∷ x.0, x.1) ]) (IsPartedAt c (b ∷ bs))
    further None is = tt
    further (Some x) is = ap (λ (rest : List ℕ). b ∷ rest) is

is_positive-written : (w : List ℕ) (o : Option ℕ) → IfSome o (λ n. (w ≡ decimal n) × FitsPlace n) → is_positive o ≡ true → (n : ℕ) × (0 < n) × (n ≤ max_place) × (w ≡ decimal n)
is_positive-written w None is positive = absurd (false≢true positive)
is_positive-written w (Some n) is positive = (n, ltb-true 0 n positive, is.1, is.0)

is_fault_of-written : (form w reason : List ℕ) → is_fault_of form w reason ≡ true → IsLastLine ((form ++ 32 ∷ (w ++ 32 ∷ reason)) ++ 10 ∷ [])
is_fault_of-written form w reason fault =
    let last = and_parts (bytes_eq form (codes "fault") && is_positive (place w)) (is_reason reason) fault in
    let front = and_parts (bytes_eq form (codes "fault")) (is_positive (place w)) last.0 in
    let named : form ≡ codes "fault" = (bytes_eq-Decides form (codes "fault")).0 front.0 in
    let number = is_positive-written w (place w) (place-written w) front.1 in
    let text : (form ++ 32 ∷ (w ++ 32 ∷ reason)) ++ 10 ∷ [] ≡ fault_text number.0 reason =
    (λ i. (named i ++ 32 ∷ (number.3 i ++ 32 ∷ reason)) ++ 10 ∷ []) ∙ ap (λ (rest : List ℕ). codes "fault " ++ rest) (append_assoc (decimal number.0) (32 ∷ reason) (10 ∷ [])) in
    inr (number.0, reason, number.1, number.2, is_reason-written reason last.1, text)

is_fault_after-written : (form rest : List ℕ) (o : Option (List ℕ × List ℕ)) → IfSome o (IsPartedAt 32 rest) → is_fault_after form o ≡ true → IsLastLine ((form ++ 32 ∷ rest) ++ 10 ∷ [])
is_fault_after-written form rest None is fault = absurd (false≢true fault)
is_fault_after-written form rest (Some x) is fault =
    subst (λ (r : List ℕ). IsLastLine ((form ++ 32 ∷ r) ++ 10 ∷ [])) (sym is) (is_fault_of-written form x.0 x.1 fault)

is_fault_line-written : (bytes : List ℕ) → is_fault_line bytes ≡ true → IsLastLine (bytes ++ 10 ∷ [])
unfolding is_fault_line
is_fault_line-written bytes fault = by_parts (parted 32 bytes) (parted-written 32 bytes) fault
  where
    by_parts : (o : Option (List ℕ × List ℕ)) → IfSome o (IsPartedAt 32 bytes) → (elim o [ None ↦ false | Some x ↦ is_fault_after x.0 (parted 32 x.1) ]) ≡ true → IsLastLine (bytes ++ 10 ∷ [])
    by_parts None is fault = absurd (false≢true fault)
    by_parts (Some x) is fault =
        subst (λ (b : List ℕ). IsLastLine (b ++ 10 ∷ [])) (sym is) (is_fault_after-written x.0 x.1 (parted 32 x.1) (parted-written 32 x.1) fault)

-- ---- the last line

pub is_last_line-written : (bytes : List ℕ) → is_last_line bytes ≡ true → IsLastLine (bytes ++ 10 ∷ [])
unfolding is_last_line
is_last_line-written bytes last = elim (or_cases (bytes_eq bytes (codes "done")) (is_fault_line bytes) last) [
  | inl finished ↦ inl (ap (λ (b : List ℕ). b ++ 10 ∷ []) ((bytes_eq-Decides bytes (codes "done")).0 finished))
  | inr fault ↦ is_fault_line-written bytes fault
]
