-- The head that a view saw is that of the state.
use Rattle.std.proofs.Common.{◌≡◌, pos, refl, subst}
use Rattle.std.specs.Prelude.{Option, Some, None}
use Rattle.ev_types.specs.declared.answer.Kv.{Kv}
use Rattle.ev_types.specs.Ranges.{Keys}
use Rattle.zk_service.specs.States.{State}
use Rattle.zn_layout.specs.Keys.{HeadKey, key_bytes}
use Rattle.zn_layout.specs.StandsFor.{StandsFor, HeadMeans}
use Rattle.zn_view.specs.Seen.{View, seen, found_of, head_of, head_zxid, head_number}
use Rattle.zn_view.specs.Views.{Agrees}
use Rattle.zn_view.proofs.AsSeen.{agrees-seen}

abbrev IsTold : Option Kv → State → Type 0
IsTold o s = (head_zxid o ≡ s.zxid) × (head_number o ≡ pos s.updates)

means-told : (o : Option Kv) (s : State) → HeadMeans o s → IsTold o s
means-told None s none = absurd none
means-told (Some kv) s is = (is.zxid, is.number)

told_in : (v : View) (m : Keys) (s : State) (o : Option (Option Kv)) → seen v (key_bytes HeadKey) ≡ o → (o ≡ None → ⊥) → StandsFor m s → Agrees v m → IsTold (found_of o) s
told_in v m s None e saw stands a = absurd (saw refl)
told_in v m s (Some o) e saw stands a = means-told o s (subst (λ (y : Option Kv). HeadMeans y s) (agrees-seen v m (key_bytes HeadKey) o a e) stands.head)

pub last_update-told : (v : View) (m : Keys) (s : State) → StandsFor m s → Agrees v m → (seen v (key_bytes HeadKey) ≡ None → ⊥) → IsTold (head_of v) s
last_update-told v m s stands a saw = told_in v m s (seen v (key_bytes HeadKey)) refl saw stands a
