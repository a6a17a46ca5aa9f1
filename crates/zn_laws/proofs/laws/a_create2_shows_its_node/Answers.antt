use Rattle.zn_laws.proofs.Created.{create2-shown}
use Rattle.zn_laws.proofs.laws.a_create2_shows_its_node.Goals as goal

pub returns : goal.returns
returns c = λ s limit session path content acl flags z now made sound e. create2-shown s limit session path content acl flags z now made sound e
