use Rattle.std.proofs.Common.{ap, ◌∙◌}
use Rattle.std.specs.Map.{values_of}
use Rattle.zk_machine.specs.Entries.{map_of}
use Rattle.zk_machine.proofs.EntryLaws.{empty-map}
use Rattle.zk_machine.proofs.paths.PathMap.new.Goals as goal

pub returns : goal.returns
returns g c = ap (λ es. map_of (values_of es)) c.new.ensures.empty ∙ empty-map
