-- Which nodes have a record of their counts.
use Rattle.std.proofs.Common.{◌≡◌, ℤ, pos, true, Option, Some, None, refl, ap, ◌∙◌, arith}
use Rattle.std.proofs.lemmas.Int.{ints}
use Rattle.zk_model.specs.declared.node.Node.{Node}
use Rattle.zk_service.specs.States.{State, Session, IsSound, session_at}
use Rattle.zn_layout.specs.StandsFor.{is_counted, is_counted_in}

-- the number 0, which owns each node that is not ephemeral, is no session's
no_session : (s : State) → IsSound s → session_at (pos 0) s ≡ None
no_session s sound = elim (session_at (pos 0) s) as (λ (x : Option Session). session_at (pos 0) s ≡ x → x ≡ None) [
  | None ↦ λ e. refl
  | Some y ↦ λ e. let h = sound.numbered (pos 0) y e in absurd (omega (arith, ints, h))
] refl

-- a node that no session owns has one
pub plain-counted : (s : State) (n : Node) → IsSound s → n.owner ≡ pos 0 → is_counted_in s (Some n) ≡ true
plain-counted s n sound free = ap (λ (o : ℤ). is_counted (session_at o s)) free ∙ ap is_counted (no_session s sound)

-- it follows from the node's owner alone, as long as the same session is open under that number
pub counted-same : (s t : State) (n : Node) → session_at n.owner t ≡ session_at n.owner s → is_counted_in t (Some n) ≡ is_counted_in s (Some n)
counted-same s t n same = ap is_counted same
