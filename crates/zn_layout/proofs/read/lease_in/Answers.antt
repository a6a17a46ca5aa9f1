use Rattle.zn_layout.proofs.Leases.{lease-not_one, lease-length, lease-read}
use Rattle.zn_layout.proofs.read.lease_in.Goals as goal

pub returns-in_default : goal.returns-in_default
returns-in_default c = lease-not_one c.args.value.now c.in_default.ensures

pub returns-then-numbers-ne-LEASE_NUMBERS : goal.returns-then-numbers-ne-LEASE_NUMBERS
returns-then-numbers-ne-LEASE_NUMBERS c = lease-length c.args.value.now c.in-Some.numbers.now c.in-Some.ensures c.if-numbers-ne-LEASE_NUMBERS.true

pub returns : goal.returns
returns c = lease-read c.args.value.now c.in-Some.numbers.now c.lease_of.result c.bounded_lease.result c.in-Some.ensures c.lease_of.ensures.value c.lease_of.ensures.fits c.bounded_lease.ensures
