use Rattle.std.proofs.Common.{refl}
use Rattle.zs_close.proofs.EndPlans.{agrees-for, nodes-few}
use Rattle.zs_reap.proofs.laws.a_sound_session_has_few_nodes.Goals as goal

pub returns : goal.returns
returns c = λ id v s real sound of kv r saw nodes. nodes-few v id real of.0 s of.1 r.paths (agrees-for v id r.paths of.0 of.2) r refl kv saw nodes sound
