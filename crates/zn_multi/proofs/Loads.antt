-- The bytes of the paths of several sessions.
use Rattle.std.proofs.Common.{ℕ, ℤ, ◌+◌, List, [], ◌∷◌, ◌++◌, refl, arith}
use Rattle.zn_view.specs.Seen.{View}
use Rattle.zn_multi.specs.Deciding.{AreOwnedLoads, IsOwnedLoad}

pub loads_push : (v : View) (ids : List ℤ) (id : ℤ) (n a : ℕ) → AreOwnedLoads v ids n → IsOwnedLoad v id a → AreOwnedLoads v (ids ++ id ∷ []) (n + a)
loads_push v [] id n a none owned = (a, 0, owned, refl, omega (arith, none))
loads_push v (x ∷ ids) id n a (p, q, first, rest, sum) owned = (p, q + a, first, loads_push v ids id q a rest owned, omega (arith, sum))
