-- What a reader of values gives, by what the definitions read its bytes as.
use Rattle.std.specs.Prelude.{◌≡◌, ℕ, List, Result, Ok, Err}
use Rattle.zk_wire.specs.declared.fault.Fault.{Fault}
use Rattle.zk_wire.specs.declared.fault.Fault.TheVariants.{Memory, Unreadable}
use Rattle.zk_jute.specs.JuteReading.{Read}

-- the value that was read, as `view` shows it, and the bytes after it are what the definitions read, or the fault is theirs;
-- nothing is said where memory was refused
abbrev pub Gives : {X Y : Type 0} → (X → Y) → Result X Fault → List ℕ → Read Y → Type 0
Gives view (Ok x) after read = read ≡ Ok (view x, after)
Gives view (Err Memory) after read = Unit {0}
Gives view (Err (Unreadable left)) after read = read ≡ Err left
