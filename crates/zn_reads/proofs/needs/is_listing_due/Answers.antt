use Rattle.std.proofs.Common.{not, Bool, ap, subst, sym}
use Rattle.zn_reads.specs.Wanting.{IsListingDue}
use Rattle.zn_reads.proofs.Needed.{listing-due}
use Rattle.zn_reads.proofs.needs.is_listing_due.Goals as goal

pub returns : goal.returns
returns c = subst (λ (b : Bool). IsListingDue c.args.view.now c.args.path.now b) (sym (ap not c.is_listed.ensures)) (listing-due c.args.view.now c.args.path.now)
