use Rattle.zk_legal.proofs.NoFault.{history_fault-none, order_fault-none}
use Rattle.zk_judge.proofs.laws.lawful_transcripts_are_runs.Goals as goal

pub returns : goal.returns
returns c = λ lines verdict. (history_fault-none lines verdict.0.history, order_fault-none lines verdict.0.order, verdict.1)
