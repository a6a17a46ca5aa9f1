use Rattle.std.proofs.Common.{◌≡◌, take}
use Rattle.zs_reaper.specs.Listing.{without_of}
use Rattle.zs_reaper.proofs.listing.without.Given as goal

abbrev pub invariant-numbers : goal.invariant-numbers
invariant-numbers l = l.lapsed.items ≡ without_of (take l.number-index l.numbers) l.living
