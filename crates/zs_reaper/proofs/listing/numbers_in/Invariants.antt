use Rattle.std.proofs.Common.{◌≡◌, take}
use Rattle.zs_reaper.specs.Listing.{numbers_in}
use Rattle.zs_reaper.proofs.listing.numbers_in.Given as goal

abbrev pub invariant-keys : goal.invariant-keys
invariant-keys l = l.found.items ≡ numbers_in l.kind (take l.kv-index l.kvs)
