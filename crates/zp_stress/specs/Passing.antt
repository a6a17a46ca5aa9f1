-- Lines of a schedule: each is applied where it is possible, and passed over otherwise. What is closed stays closed, so all later
-- lines of a connection that has ended are passed over.
use Rattle.std.specs.Prelude.{◌≡◌, List, [], ◌∷◌, Option, Some, None}
use Rattle.zt_text.specs.declared.script.Happening.{Happening}
use Rattle.zt_text.specs.declared.script.Why.{Why}
use Rattle.zp_script.specs.Faults.{fault}
use Rattle.zp_script.specs.Happens.{Happens}
use Rattle.zp_script.specs.Worlds.{World}

-- by the first of its tests that fails
abbrev pub PassesBy : World → Happening → World → Option Why → Type 0
PassesBy w h w' None = Happens w h w'
PassesBy w h w' (Some why) = w' ≡ w

abbrev pub Passes : World → Happening → World → Type 0
Passes w h w' = PassesBy w h w' (fault w h)

-- several, in order
abbrev pub PassesAll : World → List Happening → World → Type 0
PassesAll w [] w' = w' ≡ w
PassesAll w (h ∷ hs) w' = (mid : World) × Passes w h mid × PassesAll mid hs w'
