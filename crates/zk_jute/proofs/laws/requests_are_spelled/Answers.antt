use Rattle.zk_jute.proofs.Conforming.{request_back}
use Rattle.zk_jute.proofs.Numbered.{opcode_numbered-number_of}
use Rattle.zk_jute.proofs.RequestLaws.{found, only, one}
use Rattle.zk_jute.proofs.laws.requests_are_spelled.Goals as goal

pub returns-clause-found : goal.returns-clause-found
returns-clause-found c = found

pub returns-clause-only : goal.returns-clause-only
returns-clause-only c = only

pub returns-clause-one : goal.returns-clause-one
returns-clause-one c = one

pub returns-clause-made : goal.returns-clause-made
returns-clause-made c = request_back

pub returns-clause-numbered : goal.returns-clause-numbered
returns-clause-numbered c = opcode_numbered-number_of
