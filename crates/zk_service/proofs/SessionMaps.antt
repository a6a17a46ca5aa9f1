-- Laws of the open sessions, as a map from their numbers.
use Rattle.std.proofs.Common.{◌≡◌, ◌≢◌, ℕ, ℤ, List, [], ◌∷◌, Bool, true, false, cond, Option, Some, None, refl, sym, ap, ◌∙◌, subst, ◌⊎◌, inl, inr, ⊎_elim}
use Rattle.std.specs.Prelude.{T, if◌then◌else◌}
use Rattle.std.specs.Ordering.{int_eq, int_cmp, eq_by_cmp, is_eq, is_lt}
use Rattle.std.proofs.lemmas.Bool.{and_parts}
use Rattle.std.proofs.lemmas.Bool.Decides.{Decides-int_eq}
use Rattle.std.proofs.lemmas.Cmp.{int_cmp_total, tied_itself}
use Rattle.std.proofs.lemmas.Map.Lookups.{exact_signed}
use Rattle.std.specs.FinMap.{get, insert, remove, entries, entries_sorted, get-entries, get-insert, get-remove, find, is_sorted}
use Rattle.std.specs.FinMap.Entries.{below_all}
use Rattle.zk_service.specs.States.{State, Session, Sessions, session_at, is_attached_to, attached_in, attached_session}
use Rattle.zx_base.proofs.Orders.{equal-from_is_eq, less-from_is_lt}

pub either_id : (a b : ℤ) → (a ≡ b) ⊎ (a ≢ b)
either_id a b = by_test (int_eq a b) refl
  where
    by_test : (t : Bool) → int_eq a b ≡ t → (a ≡ b) ⊎ (a ≢ b)
    by_test true h = inl ((Decides-int_eq a b).0 h)
    by_test false h = inr (λ e. let t = (Decides-int_eq a b).1 e in cc)

tied : ℤ → ℤ → Bool
tied = eq_by_cmp int_cmp

tied-refl : (a : ℤ) → tied a a ≡ true
unfolding tied
tied-refl a = ap is_eq (tied_itself int_cmp_total a)

tied-apart : (a b : ℤ) → a ≢ b → tied a b ≡ false
unfolding tied
tied-apart a b apart = by_test (is_eq (int_cmp a b)) refl
  where
    by_test : (t : Bool) → is_eq (int_cmp a b) ≡ t → t ≡ false
    by_test true h = absurd (apart (exact_signed a b (equal-from_is_eq (int_cmp a b) h)))
    by_test false h = refl

pub at-insert_same : (m : Sessions) (id : ℤ) (x : Session) → get (insert m id x) id ≡ Some x
unfolding tied
at-insert_same m id x = get-insert int_cmp_total m id x id ∙ ap (λ b. cond b (Some x) (get m id)) (tied-refl id)

pub at-insert_other : (m : Sessions) (id other : ℤ) (x : Session) → other ≢ id → get (insert m id x) other ≡ get m other
unfolding tied
at-insert_other m id other x h = get-insert int_cmp_total m id x other ∙ ap (λ b. cond b (Some x) (get m other)) (tied-apart other id h)

pub at-remove_same : (m : Sessions) (id : ℤ) → get (remove m id) id ≡ None
unfolding tied
at-remove_same m id = get-remove int_cmp_total m id id ∙ ap (λ b. cond b None (get m id)) (tied-refl id)

pub at-remove_other : (m : Sessions) (id other : ℤ) → other ≢ id → get (remove m id) other ≡ get m other
unfolding tied
at-remove_other m id other h = get-remove int_cmp_total m id other ∙ ap (λ b. cond b None (get m other)) (tied-apart other id h)

-- what holds of each open session
abbrev pub EachSession : (ℤ → Session → Type 0) → Sessions → Type 0
EachSession Q m = (id : ℤ) (x : Session) → get m id ≡ Some x → Q id x

-- where a session is put, the others stay
pub each_session-put_apart : (Q : ℤ → Session → Type 0) (m : Sessions) (id : ℤ) (x : Session) → ((other : ℤ) (y : Session) → other ≢ id → get m other ≡ Some y → Q other y) → Q id x → EachSession Q (insert m id x)
each_session-put_apart Q m id x all here other y is = ⊎_elim
    (λ e. let same : ◌≡◌ {A = Option Session} (Some x) (Some y) = sym (at-insert_same m id x) ∙ sym (ap (get (insert m id x)) e) ∙ is in
    let is_x : x ≡ y = cc in
    subst (λ (w : ℤ × Session). Q w.0 w.1) (λ i. (sym e i, is_x i)) here)
    (λ far. all other y far (sym (at-insert_other m id other x far) ∙ is))
    (either_id other id)

pub each_session-put : (Q : ℤ → Session → Type 0) (m : Sessions) (id : ℤ) (x : Session) → EachSession Q m → Q id x → EachSession Q (insert m id x)
each_session-put Q m id x all here = each_session-put_apart Q m id x (λ other y far is. all other y is) here

pub still_open : (m : Sessions) (id other : ℤ) (x : Session) → get (remove m id) other ≡ Some x → (other ≢ id) × (get m other ≡ Some x)
still_open m id other x is =
    let far : other ≢ id = λ e. let none : None ≡ Some x = sym (ap (get (remove m id)) e ∙ at-remove_same m id) ∙ is in cc in
    (far, sym (at-remove_other m id other far) ∙ is)

pub each_session-gone : (Q : ℤ → Session → Type 0) (m : Sessions) (id : ℤ) → EachSession Q m → EachSession Q (remove m id)
each_session-gone Q m id all other x is = all other x (still_open m id other x is).1

-- ---- the session that is attached to a connection is an open one

-- a number below all those of the entries is not among them
below_none : (id : ℤ) (es : List (ℤ × Session)) → below_all int_cmp id es ≡ true → find int_cmp id es ≡ None
below_none id [] h = refl
below_none id (e ∷ es) h =
    let both = and_parts (is_lt (int_cmp id e.0)) (below_all int_cmp id es) h in
    ap (λ o. cond (is_eq o) (Some e.1) (find int_cmp id es)) (less-from_is_lt (int_cmp id e.0) both.0) ∙ below_none id es both.1

attached_in-found : (c : ℕ) (es : List (ℤ × Session)) (e : ℤ × Session) → is_sorted int_cmp es ≡ true → attached_in c es ≡ Some e → find int_cmp e.0 es ≡ Some e.1
attached_in-found c [] e sorted h = absurd (cc)
attached_in-found c (d ∷ es) e sorted h = by_test (is_attached_to c d) h (attached_in-found c es e (and_parts (below_all int_cmp d.0 es) (is_sorted int_cmp es) sorted).1)
  where
    by_tie : (b : Bool) → is_eq (int_cmp e.0 d.0) ≡ b → find int_cmp e.0 es ≡ Some e.1 → cond b (Some d.1) (find int_cmp e.0 es) ≡ Some e.1
    by_tie false t later = later
    by_tie true t later =
        let same : e.0 ≡ d.0 = exact_signed e.0 d.0 (equal-from_is_eq (int_cmp e.0 d.0) t) in
        let none = below_none d.0 es (and_parts (below_all int_cmp d.0 es) (is_sorted int_cmp es) sorted).0 in
        let found : find int_cmp d.0 es ≡ Some e.1 = subst (λ (n : ℤ). find int_cmp n es ≡ Some e.1) same later in
        cc

    by_test : (b : Bool) → (if b then Some d else attached_in c es) ≡ Some e → (attached_in c es ≡ Some e → find int_cmp e.0 es ≡ Some e.1) → find int_cmp e.0 (d ∷ es) ≡ Some e.1
    by_test true g later =
        let same : d ≡ e = cc in
        subst (λ (x : ℤ × Session). find int_cmp x.0 (d ∷ es) ≡ Some x.1) same (ap (λ b. cond b (Some d.1) (find int_cmp d.0 es)) (ap is_eq (tied_itself int_cmp_total d.0)))
    by_test false g later = by_tie (is_eq (int_cmp e.0 d.0)) refl (later g)

pub attached_session-open : (c : ℕ) (s : State) (e : ℤ × Session) → attached_session c s ≡ Some e → session_at e.0 s ≡ Some e.1
attached_session-open c s e h = get-entries s.sessions e.0 ∙ attached_in-found c (entries s.sessions) e (is_true (is_sorted int_cmp (entries s.sessions)) (entries_sorted s.sessions)) h
  where
    is_true : (b : Bool) → T b → b ≡ true
    is_true true t = refl
    is_true false t = absurd t
