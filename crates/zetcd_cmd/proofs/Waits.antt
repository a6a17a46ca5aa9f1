-- From one idle turn to the next, and where the waiting ends.
use Rattle.std.proofs.Common.{ℕ, ◌+◌, ◌<◌, arith, refl}
use Rattle.zx_outside.specs.Counts.{InputCounts}
use Rattle.zx_outside.specs.Reading.{counts_after_read}
use Rattle.zx_outside.specs.declared.source.Got.TheVariants as got
use Rattle.zetcd_cmd.specs.Outcomes.{patience, IsUnharmed}
use Rattle.zetcd_cmd.specs.Streams.{Waited, MayWait}

pub Waited-none : (start : InputCounts) → Waited start 0 start
Waited-none start = record { faults = refl; least = omega arith; most = omega arith; within = omega arith }

-- one turn more
Waited-turn : (start before : InputCounts) (turns : ℕ) → Waited start turns before → turns < patience → Waited start (turns + 1) (counts_after_read got.Nothing before)
Waited-turn start before turns w more =
    let least = w.least in
    let most = w.most in
    record { faults = w.faults; least = omega arith; most = omega arith; within = omega arith }

pub IsUnharmed-waited : (start now : InputCounts) (turns : ℕ) → MayWait start turns now → IsUnharmed start now
IsUnharmed-waited start now turns w =
    let most = w.0.most in
    let more = w.1 in
    record { faults = w.0.faults; idles = omega arith }

pub IsUnharmed-none : (start : InputCounts) → IsUnharmed start start
IsUnharmed-none start = record { faults = refl; idles = omega arith }
