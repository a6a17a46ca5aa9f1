use Rattle.zk_machine.proofs.WholeTrees.{sound-whole, sound-within}
use Rattle.zk_machine.proofs.laws.sound_trees_fit.Goals as goal

pub returns-clause-fit : goal.returns-clause-fit
returns-clause-fit c = λ s sound. sound-within s.sessions s.tree sound

pub returns-clause-whole : goal.returns-clause-whole
returns-clause-whole c = λ s sound. sound-whole s.sessions s.tree sound
