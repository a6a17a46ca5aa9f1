use Rattle.zn_view.proofs.Listing.{listed-children}
use Rattle.zn_view.proofs.laws.children_are_listed.Goals as goal

pub returns : goal.returns
returns c = listed-children
