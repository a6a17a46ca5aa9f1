-- Each other number is found.
use Rattle.std.proofs.Common.{◌≡◌, Option, Some, None, refl}
use Rattle.zx_base.proofs.Options.{some_none}
use Rattle.std.specs.Prelude.{is_some}
use Rattle.zt_text.specs.declared.script.Why.TheVariants as why
use Rattle.zp_script.specs.Faults.{fault, if_fails}
use Rattle.zp_script.specs.Worlds.{Conn, conn_at}
use Rattle.zp_script.proofs.laws.numbers_are_used_once.Goals as goal

not-found : (o : Option Conn) → if_fails (is_some o) why.NumberInUse None ≡ None → o ≡ None
not-found None p = refl
not-found (Some x) p = absurd (some_none p)

pub returns-clause-open : goal.returns-clause-open
unfolding fault
returns-clause-open c = λ w n p id passwd layout possible. not-found (conn_at n w) possible

pub returns-clause-reap : goal.returns-clause-reap
unfolding fault
returns-clause-reap c = λ w n p id possible. not-found (conn_at n w) possible
