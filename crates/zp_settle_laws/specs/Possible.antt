-- A line that is possible has a world after it.
use Rattle.std.specs.Prelude.{Bool, None, false, true, ◌≡◌}
use Rattle.zp_script.specs.Faults.{fault}
use Rattle.zp_script.specs.Happens.{Happens}
use Rattle.zp_script.specs.Worlds.{World}
use Rattle.zp_world_laws.specs.Accounting.{IsAccounted}
use Rattle.zt_text.specs.declared.script.Happening.TheVariants as line
use Rattle.zt_text.specs.declared.script.Happening.{Happening}

-- Of these it is not shown. After them a connection may take up a frame, decide a request, or read a record that it found.
abbrev pub is_taken_up : Happening → Bool
is_taken_up (line.Frame c bytes) = true
is_taken_up (line.Arrive c bytes) = true
is_taken_up (line.Answer c) = true
is_taken_up (line.Entry c) = true
is_taken_up (line.Settle c) = true
is_taken_up _ = false

-- any other line happens where its tests pass
abbrev pub PossibleLinesHappen : Type 0
PossibleLinesHappen = (w : World) (h : Happening) → IsAccounted w → is_taken_up h ≡ false → fault w h ≡ None → (w' : World) × Happens w h w'
