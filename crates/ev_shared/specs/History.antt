-- What a shared store went through. Its history is the list of its events, the oldest first, and its state is what they lead to.
use Rattle.std.specs.Prelude.{◌≡◌, ◌⊎◌, ◌≤ℤ◌, ℤ, List, [], ◌∷◌, ◌++◌, Some, false, unwrap_or}
use Rattle.ev_types.specs.Denials.{carry, has_lease}
use Rattle.ev_types.specs.Lapses.{lapse}
use Rattle.ev_types.specs.Store.{Store, last_revision, revision}
use Rattle.ev_shared.specs.declared.event.Event.{Event}
use Rattle.ev_shared.specs.declared.event.Event.TheVariants as event

-- an ask is carried out with this answer; a lease lapses
abbrev pub Follows : Store → Event → Store → Type 0
Follows s (event.Asked q a) t = carry s q.value ≡ Some (t, a.value)
Follows s (event.Lapsed id) t = lapse s id ≡ Some t

-- the events lead from the first store to this one
abbrev pub Replays : Store → List Event → Store → Type 0
Replays s [] t = t ≡ s
Replays s (e ∷ es) t = (mid : Store) × Follows s e mid × Replays mid es t

-- the history has what it had, and perhaps more after it
abbrev pub GoesOn : List Event → List Event → Type 0
GoesOn old new = (more : List Event) × (new ≡ old ++ more)

-- the store after a lease lapsed; as it was where the lease is not there, or the store is full
abbrev pub lapsed : Store → ℤ → Store
lapsed s id = unwrap_or (lapse s id) s

-- the store stands at its last revision
abbrev pub IsFull : Store → Type 0
IsFull s = last_revision ≤ℤ revision s

-- the lease is not there; or the store is full, and then a lapse that would remove keys is left undone
abbrev pub IsSettled : Store → ℤ → Type 0
IsSettled s id = (has_lease s id ≡ false) ⊎ IsFull s
