use Rattle.std.proofs.Common.{subst, sym}
use Rattle.ev_fields.specs.Unparsed.{IsUnparsed}
use Rattle.ev_fields.proofs.Fits.{unparsed_by}
use Rattle.ev_fields.proofs.parsed.tape_of.Goals as goal

pub returns-in-Err-clause-fault : goal.returns-in-Err-clause-fault
returns-in-Err-clause-fault c = subst (IsUnparsed c.args.text.now) (sym c.fault_of.ensures) (unparsed_by c.args.text.now c.parse.result c.in-Err.error c.in-Err.is c.parse.ensures.invalid c.parse.ensures.never_duplicate)
