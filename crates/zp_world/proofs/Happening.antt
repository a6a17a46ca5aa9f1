-- What was done to the parts of a world is what a line does. The parts are those of the world v, which is w.
use Rattle.std.proofs.Common.{◌≡◌, ℕ, ◌+◌, sym, ap, ◌∙◌, subst, [], ◌∷◌, ◌++◌}
use Rattle.std.specs.Prelude.{Some, ℤ}
use Rattle.ev_types.specs.Lapses.{foreign, lapse}
use Rattle.ev_types.specs.Store.{Store, revision}
use Rattle.zk_transcript.specs.declared.transcript.TranscriptLine.TheVariants.{Lapse as LapseLine}
use Rattle.zp_script.specs.Effects.{LapsesTo, PutTo}
use Rattle.zp_script.specs.Worlds.{World}
use Rattle.zx_base.specs.Maps.{Bytes}

pub lapses-to : (v w w' : World) (s : Store) (id : ℤ) → v ≡ w → lapse v.store id ≡ Some s → w' ≡ record v { store = s; lines = v.lines ++ LapseLine (revision s) id ∷ [] } → LapsesTo id w w' (lapse w.store id)
lapses-to v w w' s id is h e = subst (λ (x : World). LapsesTo id x w' (lapse x.store id)) is (subst (LapsesTo id v w') (sym h) e)

pub put-to : (v w w' : World) (s : Store) (k x : Bytes) → v ≡ w → foreign v.store k x ≡ Some s → w' ≡ record v { store = s } → PutTo w w' (foreign w.store k x)
put-to v w w' s k x is h e = subst (λ (y : World). PutTo y w' (foreign y.store k x)) is (subst (PutTo v w') (sym h) e)

pub ticks-to : (v w w' : World) (m n : ℕ) → v ≡ w → m ≡ n → w' ≡ record v { clock = v.clock + m } → w' ≡ record w { clock = w.clock + n }
ticks-to v w w' m n is same e = e ∙ ap (λ (k : ℕ). record v { clock = v.clock + k }) same ∙ ap (λ (x : World). record x { clock = x.clock + n }) is
