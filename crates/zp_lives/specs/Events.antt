-- A list of events: the steps of one connection, in order, and what happens beside them.
use Rattle.std.specs.Prelude.{◌≡◌, List, [], ◌∷◌}
use Rattle.zp_script.specs.Worlds.{World}
use Rattle.zp_run.specs.Runs.{Step}

-- They lead from a world to a world. `Takes` says how a step is taken, and `Beside` what may happen at any other time.
pub data Events (Beside : World → World → Type 0) (Takes : World → Step → World → Type 0) : World → List Step → World → Type 0 where
  ends : {w w' : World} {steps : List Step} → steps ≡ [] → w' ≡ w → Events Beside Takes w steps w'
  beside : {w w' : World} {steps : List Step} (mid : World) → Beside w mid → Events Beside Takes mid steps w' → Events Beside Takes w steps w'
  takes : {w w' : World} {steps : List Step} (s : Step) (more : List Step) (mid : World) → steps ≡ s ∷ more → Takes w s mid → Events Beside Takes mid more w' → Events Beside Takes w steps w'
