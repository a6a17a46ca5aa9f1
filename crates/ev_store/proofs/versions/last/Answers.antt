use Rattle.std.proofs.Common.{sym, ◌∙◌}
use Rattle.ev_store.proofs.Index.{last_state-is}
use Rattle.ev_store.proofs.versions.last.Goals as goal

pub returns : goal.returns
returns c = c.shown.ensures ∙ sym (last_state-is c.args.key.now c.args.versions.now c.in_ok-last.field-0.now (sym c.in_ok-last.ensures.value))
