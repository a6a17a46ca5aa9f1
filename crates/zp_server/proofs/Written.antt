-- A text that was written, or a front of it up to a fault of the sink.
use Rattle.std.proofs.Common.{◌≡◌, List, ℕ, Bool, true, false, refl}
use Rattle.std.specs.Prelude.{IsTrue}
use Rattle.zx_outside.specs.Writing.{Takes, TakesFront, counts_after_write}
use Rattle.zx_outside.specs.declared.sink.Took.TheVariants as took
use Rattle.zp_server.specs.Telling.{Output, WritesAll}

pub writes_all : (b : Bool) (text : List ℕ) (o o' : Output) → (IsTrue b → Takes text o.taken o'.taken) → (b ≡ false → TakesFront text o.taken o'.taken)
    → (b ≡ false → o'.counts ≡ counts_after_write took.Failed o.counts) → (IsTrue b → o'.counts ≡ o.counts) → WritesAll b text o o'
writes_all true text o o' taken front count unharmed = record { taken = taken refl; unharmed = unharmed refl }
writes_all false text o o' taken front count unharmed = record { taken = front refl; harmed = count refl }
