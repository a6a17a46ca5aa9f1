-- The keys of a session, and what they mean where the session changes and the tree stays.
use Rattle.std.proofs.Common.{◌≡◌, ◌≢◌, ℕ, ℤ, pos, Bool, true, false, cond, List, [], Option, Some, None, refl, sym, ap, ◌∙◌, subst, arith, eq-eqb, eqb-true}
use Rattle.std.specs.Prelude.{nat_abs, nat_eq, ◌≤ℤ◌}
use Rattle.std.proofs.lemmas.Int.{ints}
use Rattle.ev_types.specs.declared.answer.Kv.{Kv}
use Rattle.ev_types.specs.Ranges.{Keys}
use Rattle.ev_types.specs.Store.{mod_of}
use Rattle.zk_model.specs.declared.layout.Layout.{Layout}
use Rattle.zk_model.specs.Znodes.{owned}
use Rattle.zk_service.specs.States.{State, Session, advanced, session_at, with_session}
use Rattle.zk_service.proofs.SessionMaps.{at-insert_same, at-insert_other}
use Rattle.zx_base.specs.Maps.{Bytes}
use Rattle.zn_layout.specs.Changes.{Put, put_or_else}
use Rattle.zn_layout.specs.Fits.{KeyFits}
use Rattle.zn_layout.specs.Keys.{Key, SessionKey, LeaseKey, key_bytes}
use Rattle.zn_layout.specs.Records.{IsHeadRec}
use Rattle.zn_layout.specs.StandsFor.{Stored, at, IsNodes, nodes_record, NodesMean, IsLife, LifeMeans, StandsFor}

-- ---- small facts

pub no_triggers-within : IsHeadRec []
no_triggers-within = record { count = omega arith; valid = λ k d lt. absurd (omega arith) }

-- a key whose last put has no revision isn't there
absent_by : (o : Option Kv) → ((kv : Kv) → o ≡ Some kv → pos 1 ≤ℤ kv.mod_revision) → mod_of o ≡ pos 0 → o ≡ None
absent_by None least h = refl
absent_by (Some kv) least h = absurd (omega (arith, ints, least kv refl, h))

pub guarded-absent : (m : Keys) (s : State) (k : Key) → StandsFor m s → mod_of (at m k) ≡ pos 0 → at m k ≡ None
guarded-absent m s k stands h = absent_by (at m k) (λ kv e. (stands.layout).least (key_bytes k) kv e) h

-- a key that was last put at a revision is there
pub record IsThere (o : Option Kv) (revision : ℤ) : Type 0 where
  pub kv : Kv
  pub is : o ≡ Some kv
  pub revision_is : kv.mod_revision ≡ revision

pub guarded-there : (o : Option Kv) (revision : ℤ) → pos 1 ≤ℤ revision → mod_of o ≡ revision → IsThere o revision
guarded-there None revision low h = absurd (omega (arith, ints, low, h))
guarded-there (Some kv) revision low h = record { kv = kv; is = refl; revision_is = h }

-- ---- what a session's keys mean

pub nodes-none : (o : Option Session) (ps : List Bytes) → NodesMean o ps None → o ≡ None
nodes-none None ps h = refl
nodes-none (Some x) ps h = absurd h

-- a session that keeps its layout
nodes-any : (x y : Session) (ps : List Bytes) (o : Option Stored) → y.layout ≡ x.layout → NodesMean (Some x) ps o → NodesMean (Some y) ps o
nodes-any x y ps None e h = h
nodes-any x y ps (Some w) e h = subst (λ (l : Layout). IsNodes w (record { layout = l; paths = ps })) (sym e) h

pub record FoundLife (id : ℕ) (session : Option Session) (o : Stored) : Type 0 where
  pub old : Session
  pub there : session ≡ Some old
  pub is : IsLife o id old

pub life-found : (id : ℕ) (session : Option Session) (o : Stored) → LifeMeans id session (Some o) → FoundLife id session o
life-found id None o h = absurd h
life-found id (Some x) o h = record { old = x; there = refl; is = h }

-- ---- where session n becomes x

module _ (z : ℤ) (s : State) (n : ℕ) (x : Session) where
  abbrev pub opened : State
  opened = advanced s z s.tree [] (with_session s (pos n) x)

  session-own : session_at (pos n) opened ≡ Some x
  session-own = at-insert_same s.sessions (pos n) x

  apart : (m : ℕ) → nat_eq m n ≡ false → pos m ≢ pos n
  apart m e h = let t : nat_eq m n ≡ true = eq-eqb m n (ap nat_abs h) in cc

  session-other : (m : ℕ) → nat_eq m n ≡ false → session_at (pos m) opened ≡ session_at (pos m) s
  session-other m e = at-insert_other s.sessions (pos n) (pos m) x (apart m e)

  pub life-fits : (w : Put) (m : ℕ) (b : Bool) → nat_eq m n ≡ b → IsLife (record { value = w.value; revision = z; lease = w.lease }) n x → KeyFits z (cond b (Some (Some w)) None) (LeaseKey m) s opened
  life-fits w m true e life =
      let o : Option Stored = Some (record { value = w.value; revision = z; lease = w.lease }) in
      let own : LifeMeans n (session_at (pos n) opened) o = subst (λ (y : Option Session). LifeMeans n y o) (sym session-own) life in
      subst (λ (i : ℕ). LifeMeans i (session_at (pos i) opened) o) (sym (eqb-true m n e)) own
  life-fits w m false e life = λ o h. subst (λ (y : Option Session). LifeMeans m y o) (sym (session-other m e)) h

  pub nodes-fit : (w : Put) (m : ℕ) (b : Bool) → nat_eq m n ≡ b → IsNodes (record { value = w.value; revision = z; lease = w.lease }) (nodes_record x (owned s.tree (pos n))) → KeyFits z (put_or_else (cond b (Some (Some w)) None) None) (SessionKey m) s opened
  nodes-fit w m true e nodes =
      let o : Option Stored = Some (record { value = w.value; revision = z; lease = w.lease }) in
      let own : NodesMean (session_at (pos n) opened) (owned s.tree (pos n)) o = subst (λ (y : Option Session). NodesMean y (owned s.tree (pos n)) o) (sym session-own) nodes in
      subst (λ (i : ℕ). NodesMean (session_at (pos i) opened) (owned s.tree (pos i)) o) (sym (eqb-true m n e)) own
  nodes-fit w m false e nodes = λ o h. subst (λ (y : Option Session). NodesMean y (owned s.tree (pos m)) o) (sym (session-other m e)) h

  -- the list of its nodes isn't written
  pub nodes-stay : (old : Session) → x.layout ≡ old.layout → (m : ℕ) (b : Bool) → nat_eq m n ≡ b → session_at (pos n) s ≡ Some old → (o : Option Stored) → NodesMean (session_at (pos m) s) (owned s.tree (pos m)) o → NodesMean (session_at (pos m) opened) (owned s.tree (pos m)) o
  nodes-stay old layout m true e was o h =
      let same : m ≡ n = eqb-true m n e in
      let before : session_at (pos m) s ≡ Some old = ap (λ (i : ℕ). session_at (pos i) s) same ∙ was in
      let after : session_at (pos m) opened ≡ Some x = ap (λ (i : ℕ). session_at (pos i) opened) same ∙ session-own in
      subst (λ (y : Option Session). NodesMean y (owned s.tree (pos m)) o) (sym after) (nodes-any old x (owned s.tree (pos m)) o layout (subst (λ (y : Option Session). NodesMean y (owned s.tree (pos m)) o) before h))
  nodes-stay old layout m false e was o h = subst (λ (y : Option Session). NodesMean y (owned s.tree (pos m)) o) (sym (session-other m e)) h
