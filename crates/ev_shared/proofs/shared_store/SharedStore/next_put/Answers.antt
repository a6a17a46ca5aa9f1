use Rattle.ev_shared.proofs.Shown.{looks_next}
use Rattle.ev_shared.proofs.shared_store.SharedStore.next_put.Goals as goal

pub returns-in-Ok-Put : goal.returns-in-Ok-Put
returns-in-Ok-Put g c =
    let looks = rw c.in-Ok-Put.field-0-is at c.in-Ok-Put.ensures.looks in
    looks_next c.look.new.self.store c.args.key.now c.args.from c.looks.next c.in-Ok-Put.kv c.looks.invariant.3 looks
