use Rattle.std.proofs.Common.{arith}
use Rattle.std.proofs.lemmas.Grind.{common_steps}
use Rattle.ev_store.proofs.Keys.{present-all, store_at-first}
use Rattle.std.proofs.lemmas.List.{take_all}
use Rattle.ev_store.proofs.store.Store.find.Goals as goal

pub returns-then-is_present : goal.returns-then-is_present
returns-then-is_present c = grind (arith, common_steps, take_all, present-all c.args.self.now)

pub returns-else-is_present : goal.returns-else-is_present
returns-else-is_present c = grind (arith, common_steps, store_at-first)
