-- What a look-up finds is one of the views.
use Rattle.std.proofs.Common.{sym, subst}
use Rattle.std.specs.Prelude.{Option, IfSome}
use Rattle.std.proofs.lemmas.Map.Entries.{All-lookup}
use Rattle.zx_base.specs.Maps.{same}
use Rattle.zn_view.specs.Seen.{View}
use Rattle.zp_kept.specs.Entries.{HasNoLists}
use Rattle.zp_kept.proofs.views.find_in.Goals as goal

pub returns-clause-plain : goal.returns-clause-plain
returns-clause-plain c = subst (λ (o : Option View). IfSome o HasNoLists) (sym c.peek.ensures) (All-lookup HasNoLists (same c.args.path.now) c.args.cache.now.entries c.requires.1)
