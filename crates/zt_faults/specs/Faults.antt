-- When a fault is found in a line of a script.
use Rattle.std.specs.Prelude.{◌≡◌, Option, Some, None}
use Rattle.zt_text.specs.declared.script.Happening.{Happening}
use Rattle.zt_faults.specs.declared.fault.LineFault.{LineFault}

-- there is a fault exactly if the line says nothing
abbrev pub IsFound : Option LineFault → Option Happening → Type 0
IsFound None read = (h : Happening) × (read ≡ Some h)
IsFound (Some fault) read = read ≡ None
