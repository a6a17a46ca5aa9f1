-- What is known of a result that two clauses speak of, and of a move that does the same.
use Rattle.std.proofs.Common.{◌≡◌, List, subst}
use Rattle.std.specs.Prelude.{Result, Ok, Err, IfOk}
use Rattle.zx_base.specs.declared.memory.Memory.{Memory}
use Rattle.zp_step.specs.declared.action.Action.{Action}
use Rattle.zp_step.specs.Replies.{Is}
use Rattle.zp_step.specs.Stages.{Core}
use Rattle.zp_core.specs.Meanings.{Leads}
use Rattle.zp_core.specs.declared.client.Client.{Client}
use Rattle.zp_core.specs.declared.moves.Move.{Move}

pub ok-both : {T E : Type 0} (r : Result T E) (P Q S : T → Type 0) → ((x : T) → P x → Q x → S x) → IfOk r P → IfOk r Q → IfOk r S
ok-both (Ok x) P Q S f p q = f x p q
ok-both (Err e) P Q S f p q = tt

pub gives-same : (r : Result Move Memory) (client : Client) (x y : Core × List Action) → x ≡ y → IfOk r (Leads (Is x) client) → IfOk r (Leads (Is y) client)
gives-same r client x y e h = subst (λ (z : Core × List Action). IfOk r (Leads (Is z) client)) e h
