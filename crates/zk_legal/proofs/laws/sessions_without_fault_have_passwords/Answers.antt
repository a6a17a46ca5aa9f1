use Rattle.zk_legal.proofs.Passwords.{open-password}
use Rattle.zk_legal.proofs.laws.sessions_without_fault_have_passwords.Goals as goal

pub returns : goal.returns
returns c = open-password
