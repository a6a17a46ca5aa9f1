-- An entry is told.
use Rattle.zp_core.specs.Meanings.{stage_of}
use Rattle.zp_core.proofs.Closing.{IsEntryIn, entry-handles}
use Rattle.zp_core.proofs.inputs.handle_open.Goals as goal

pub returns-in-Entry : goal.returns-in-Entry
returns-in-Entry c =
    let is : IsEntryIn c.args.input.now c.deref.result.now = rw c.in-Entry.is c.deref.ensures in
    entry-handles c.tell.result c.args.client.now c.tell.new.client (stage_of c.args.stage) c.args.input.now c.deref.result.now c.args.now is c.tell.ensures
