-- What each event of a list keeps is kept by all of them. Another way of taking steps, as of a connection that is answered from a
-- copy of the store, has the same law.
use Rattle.std.proofs.Common.{List, subst, sym}
use Rattle.zp_script.specs.Worlds.{World}
use Rattle.zp_lives.specs.Events.{Events, beside, ends, takes}
use Rattle.zp_run.specs.Runs.{Step}

module _ (Beside : World → World → Type 0) (Takes : World → Step → World → Type 0) (P : World → Type 0) (aside : (w w' : World) → Beside w w' → P w → P w') (steps : (w w' : World) (s : Step) → Takes w s w' → P w → P w') where
  pub events-keep : (w w' : World) (ss : List Step) → Events Beside Takes w ss w' → P w → P w'
  events-keep w w' ss (ends none same) k = subst P (sym same) k
  events-keep w w' ss (beside mid h more) k = events-keep mid w' ss more (aside w mid h k)
  events-keep w w' ss (takes s rest mid is h more) k = events-keep mid w' rest more (steps w mid s h k)
