-- The puts of a store's revisions, as its watchers are told of them (etcd API reference, `Event`: a put has the key as it is
-- after it).
use Rattle.std.specs.Prelude.{ℕ, ◌+◌, ℤ, pos, Bool, true, false, List, [], ◌∷◌, ◌++◌, drop}
use Rattle.std.specs.FinMap.{get}
use Rattle.ev_types.specs.declared.answer.Kv.{Kv}
use Rattle.ev_types.specs.Ranges.{Keys}
use Rattle.ev_types.specs.Store.{Store, Change, Puts, Removes, put_over, changed, after_changes, store_at}

-- the puts of revision r, over the keys before it
abbrev pub puts_in : ℤ → Keys → List Change → List Kv
puts_in r m [] = []
puts_in r m (Puts k v lease ∷ cs) = put_over r k v lease (get m k) ∷ puts_in r (changed r m (Puts k v lease)) cs
puts_in r m (Removes k ∷ cs) = puts_in r (changed r m (Removes k)) cs

-- the puts of further revisions, of which the first has number r, over the keys before them
abbrev pub puts_from : ℕ → Keys → List (List Change) → List Kv
puts_from r m [] = []
puts_from r m (cs ∷ css) = puts_in (pos r) m cs ++ puts_from (r + 1) (after_changes (pos r) m cs) css

-- the puts of all revisions above r, in order
unfoldable pub puts_above : Store → ℕ → List Kv
puts_above s r = puts_from (r + 1) (store_at s r) (drop r s.revisions)

-- ---- the change that a put was

abbrev pub is_put : Change → Bool
is_put (Puts k v lease) = true
is_put (Removes k) = false

abbrev pub put_of : Kv → Change
put_of kv = Puts kv.key kv.value kv.lease
