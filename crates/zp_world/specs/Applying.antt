-- What applying one line of a script answers.
use Rattle.std.specs.Prelude.{◌≡◌, pos, ◌≤ℤ◌, [], Some, Result, Ok, Err}
use Rattle.zt_text.specs.declared.script.Happening.{Happening}
use Rattle.zt_text.specs.declared.script.Happening.TheVariants as line
use Rattle.zp_script.specs.Faults.{fault}
use Rattle.zp_script.specs.Happens.{Happens}
use Rattle.zp_script.specs.Worlds.{World}
use Rattle.zp_world.specs.declared.fault.ApplyFault.{ApplyFault}
use Rattle.zp_world.specs.declared.fault.ApplyFault.TheVariants.{NotPossible, Memory}

-- a session's number is at least 1, as each line that is read has it
abbrev pub IsOfScript : Happening → Type 0
IsOfScript (line.Open c p id passwd layout) = pos 1 ≤ℤ id
IsOfScript (line.Reap c p id) = pos 1 ≤ℤ id
IsOfScript _ = Unit {0}

-- it happens; or it is not possible, for the first of its tests that fails, and the world is as before; where memory was refused,
-- nothing is said here
abbrev pub Applies : World → Happening → Result (Unit {0}) ApplyFault → World → Type 0
Applies w h (Ok x) w' = Happens w h w'
Applies w h (Err (NotPossible cause)) w' = (fault w h ≡ Some cause) × (w' ≡ w)
Applies w h (Err Memory) w' = Unit {0}

-- the world has no entry: each world that a script leads to has that of the first update, but one that was refused memory has let
-- go of its entries
abbrev pub IsSpent : World → Type 0
IsSpent w = w.entries ≡ []
