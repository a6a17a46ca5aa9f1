use Rattle.zn_view.proofs.view.View.lay.Goals as goal

pub invariant_of-self : goal.invariant_of-self
invariant_of-self c = (c.self.invariant.0, c.lay_in.ensures.kept c.requires c.self.invariant.1)
