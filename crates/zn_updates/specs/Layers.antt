-- A view with keys laid over it, as the parts of a multi left them; and when a choice on it is right.
use Rattle.std.specs.Prelude.{◌<◌, ◌^◌, ◌≡◌, ℕ, ℤ, pos, ◌≤ℤ◌, ◌++◌, Option, Some, None, IfSome}
use Rattle.ev_types.specs.declared.answer.Kv.{Kv}
use Rattle.ev_types.specs.Store.{last_revision}
use Rattle.zk_model.specs.declared.request.Part.{Part}
use Rattle.zk_model.specs.Single.{single}
use Rattle.zk_service.specs.States.{State, Session, IsSound, limit_of, session_at}
use Rattle.zn_layout.specs.Keys.{Key, HeadKey, key_bytes}
use Rattle.zn_layout.specs.StandsFor.{Stored, Means}
use Rattle.zn_view.specs.declared.plan.Who.{Who}
use Rattle.zn_view.specs.Needs.{own}
use Rattle.zn_view.specs.Seen.{View, seen}
use Rattle.zn_updates.specs.Choices.{Choice, Refuse, Make}
use Rattle.zn_updates.specs.Right.{IsRight}

-- the view with the keys of another laid over it, which show in place of its own
abbrev pub layered : View → View → View
layered over v = record v { keys = over.keys ++ v.keys }

-- what was put at a revision of 0 was put by this update
abbrev pub stored_own : ℤ → Option Kv → Option Stored
stored_own z None = None
stored_own z (Some kv) = Some (record { value = kv.value; revision = own z kv.mod_revision; lease = kv.lease })

-- what was found was put at a revision of an etcd, or at 0
abbrev pub IsPutBelow : Option Kv → Type 0
IsPutBelow o = IfSome o (λ (kv : Kv). (pos 0 ≤ℤ kv.mod_revision) × (kv.mod_revision ≤ℤ last_revision))

-- within an update of this zxid, each key but the head that the view saw means in the state what was seen, at such a revision
abbrev pub Shows : ℤ → View → State → Type 0
Shows z v s = (k : Key) → (k ≡ HeadKey → ⊥) → (o : Option Kv) → seen v (key_bytes k) ≡ Some o → Means s k (stored_own z o) × IsPutBelow o

-- the code of a refusal, none of an update
abbrev pub code_of : Choice → Option ℤ
code_of (Refuse code) = Some code
code_of (Make cs ts draft) = None

-- The choice is right in every sound state that the view shows and in which the session is open, at every zxid and every time below
-- 2^62 milliseconds. At every time it has the same code, or none.
pub record IsChosen (p : Part) (who : Who) (v : View) (choice : ℕ → Choice) : Type 0 where
  pub right : (s : State) (z : ℤ) (now : ℕ) → now < 2 ^ 62 → IsSound s → Shows z v s → (x : Session) → session_at who.session s ≡ Some x
      → IsRight z s (choice now) (single s.tree (limit_of x) who.session p z now)
  pub same_code : (now : ℕ) → code_of (choice now) ≡ code_of (choice 0)
