use Rattle.std.proofs.Common.{◌∙◌}
use Rattle.zk_effects.proofs.KeptEffects.{kept-none, kept-some}
use Rattle.zk_effects.proofs.effects.Effects.triggers.Goals as goal

pub returns-in-Some : goal.returns-in-Some
returns-in-Some c = λ u shown. (let kept = kept-some _ c.in-Some.effect.now _ _ c.in-Some.ensures (c.args.self.now.each c.args.place u c.requires shown) in c.as_slice.ensures ∙ kept.0)

pub returns-in-None : goal.returns-in-None
returns-in-None c = λ u shown. absurd (kept-none _ _ _ c.in-None.ensures (c.args.self.now.each c.args.place u c.requires shown))
