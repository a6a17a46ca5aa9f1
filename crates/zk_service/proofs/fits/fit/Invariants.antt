use Rattle.std.proofs.Common.{◌≡◌, ◌+◌, take}
use Rattle.zk_service.proofs.ReplySizes.{size}
use Rattle.zk_service.proofs.fits.fit.Given as goal

abbrev pub invariant-loop-text : goal.invariant-loop-text
invariant-loop-text l = l.left + size (take l.text-index l.texts) ≡ l.room
