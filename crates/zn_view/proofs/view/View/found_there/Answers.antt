use Rattle.std.proofs.Common.{sym, option_copied}
use Rattle.zn_view.proofs.KeyKinds.{seen-kept}
use Rattle.zn_view.proofs.view.View.found_there.Goals as goal

pub returns-in-Some-clause-kept : goal.returns-in-Some-clause-kept
returns-in-Some-clause-kept c = seen-kept c.args.key.now c.keys-keys.result.now (option_copied c.in-Some.found) c.keys-keys.ensures.kept (sym c.in-Some.ensures)
