-- What a lapse does to a session, and to what the session test sees of it.
use Rattle.std.proofs.Common.{◌≡◌, ◌≢◌, ℕ, refl, sym, ap, ◌∙◌, true, ℤ, inl, inr}
use Rattle.std.specs.Prelude.{Option, Some, None, ◌⊎◌, ◌==◌, not, if◌then◌else◌}
use Rattle.zk_model.specs.declared.reply.Reply.TheVariants as reply
use Rattle.zk_model.specs.Codes.{session_expired, session_moved}
use Rattle.zk_service.specs.States.{State, Session, session_at, lapsed_in}
use Rattle.zk_service.specs.Answers.{session_refusal}
use Rattle.zk_service.proofs.SessionMaps.{either_id, at-insert_same, at-insert_other}

-- an open session that has lapsed
pub record IsLapsed (o : Option Session) : Type 0 where
  pub session : Session
  pub there : o ≡ Some session
  pub lapsed : session.lapsed ≡ true

-- a session is in t as it is in s, or it has lapsed
abbrev pub SameOrLapsed : State → State → ℤ → Type 0
SameOrLapsed s t id = (session_at id t ≡ session_at id s) ⊎ IsLapsed (session_at id t)

-- ---- a lapse

pub lapse-other : (s : State) (id d : ℤ) (o : Option Session) → id ≢ d → session_at id (lapsed_in s d o) ≡ session_at id s
lapse-other s id d None far = refl
lapse-other s id d (Some x) far = at-insert_other s.sessions d id (record x { lapsed = true }) far

lapse-own : (s : State) (id : ℤ) (o : Option Session) → SameOrLapsed s (lapsed_in s id o) id
lapse-own s id None = inl refl
lapse-own s id (Some x) = inr (record { session = record x { lapsed = true }; there = at-insert_same s.sessions id (record x { lapsed = true }); lapsed = refl })

pub lapse-leaves : (s : State) (id d : ℤ) (o : Option Session) → SameOrLapsed s (lapsed_in s d o) id
lapse-leaves s id d o = elim (either_id id d) [
  | inl same ↦ rw same (lapse-own s d o)
  | inr far ↦ inl (lapse-other s id d o far)
]

-- ---- a session that is not open, or has lapsed, stays what it is

abbrev pub IsGone : Option Session → Type 0
IsGone o = (o ≡ None) ⊎ IsLapsed o

same-lapsed : (x : Session) → x.lapsed ≡ true → record x { lapsed = true } ≡ x
same-lapsed x h = ap (λ b. record x { lapsed = b }) (sym h)

lapse-again : (s : State) (id : ℤ) (o : Option Session) → session_at id s ≡ o → IsGone o → session_at id (lapsed_in s id o) ≡ session_at id s
lapse-again s id None at gone = refl
lapse-again s id (Some x) at (inl none) = absurd (cc)
lapse-again s id (Some x) at (inr l) =
    let same : x ≡ l.session = (let e = l.there in cc) in
    at-insert_same s.sessions id (record x { lapsed = true }) ∙ ap Some (same-lapsed x (ap (λ (y : Session). y.lapsed) same ∙ l.lapsed)) ∙ sym at

pub gone-stays : (s : State) (id d : ℤ) → IsGone (session_at id s) → session_at id (lapsed_in s d (session_at d s)) ≡ session_at id s
gone-stays s id d gone = elim (either_id id d) [
  | inl same ↦ rw (sym same) (lapse-again s id (session_at id s) refl gone)
  | inr far ↦ lapse-other s id d (session_at d s) far
]

pub lapse-gone : (s : State) (id : ℤ) (o : Option Session) → session_at id s ≡ o → IsGone (session_at id (lapsed_in s id o))
lapse-gone s id None at = inl at
lapse-gone s id (Some x) at = inr (record { session = record x { lapsed = true }; there = at-insert_same s.sessions id (record x { lapsed = true }); lapsed = refl })

-- ---- the session test

abbrev pub SaysAs : State → State → ℕ → ℤ → Type 0
SaysAs s t c id = (session_at id t ≡ session_at id s) ⊎ (session_refusal c (session_at id t) ≡ Some (reply.Refused session_expired))

refused-lapsed : (c : ℕ) (x : Session) → x.lapsed ≡ true → session_refusal c (Some x) ≡ Some (reply.Refused session_expired)
refused-lapsed c x h = ap (λ b. if b then Some (reply.Refused session_expired) else if not (c == x.connection) then Some (reply.Refused session_moved) else None) h

pub says-as : (s t : State) (c : ℕ) (id : ℤ) → SameOrLapsed s t id → SaysAs s t c id
says-as s t c id (inl h) = inl h
says-as s t c id (inr l) = inr (ap (session_refusal c) l.there ∙ refused-lapsed c l.session l.lapsed)
