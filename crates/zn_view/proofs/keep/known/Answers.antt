use Rattle.std.proofs.Common.{ap, sym, ◌∙◌, option_copied}
use Rattle.std.specs.Prelude.{option_map}
use Rattle.zn_view.proofs.KeptActs.{counts-of}
use Rattle.zn_view.proofs.keep.known.Goals as goal

pub returns-in-Some-clause-counts : goal.returns-in-Some-clause-counts
returns-in-Some-clause-counts c = counts-of c.args.key.now c.args.keys.now (option_copied c.in-Some.found) c.requires (sym c.found_among.ensures ∙ ap (option_map option_copied) c.in-Some.is)
