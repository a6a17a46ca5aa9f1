-- What is kept is what differs.
use Rattle.std.proofs.Common.{not, rules, sym, ap, ◌∙◌, subst}
use Rattle.std.proofs.lemmas.Fn.{filter_same}
use Rattle.zx_base.specs.Maps.{Bytes, same}
use Rattle.zn_layout.specs.Records.{ArePaths}
use Rattle.zn_updates.proofs.ListBounds.{without-within}
use Rattle.zn_updates.specs.OwnedLists.{without}
use Rattle.zn_updates.proofs.owned.without.Goals as goal

kept : goal.returns-clause-is
kept c =
    c.from_vec.ensures ∙ filter_same _ (λ (q : Bytes). not (same c.args.path.now q)) _ (λ x b f' called. search rules) _ _ c.retain.ensures.filtered ∙ ap (without c.args.path.now) c.into_vec-list.ensures

pub returns-clause-is : goal.returns-clause-is
returns-clause-is c = kept c

pub returns-clause-within : goal.returns-clause-within
returns-clause-within c = λ within. subst ArePaths (sym (kept c)) (without-within c.args.path.now c.args.paths within)
