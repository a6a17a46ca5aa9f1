use Rattle.zn_layout.proofs.Foreign.{foreign-stands}
use Rattle.zn_layout.proofs.laws.foreign_stands.Goals as goal

pub returns : goal.returns
returns c = λ s new k v state outside h done. foreign-stands s new k v done outside state h
