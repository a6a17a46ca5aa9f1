-- What writing some bytes makes of a sink.
use Rattle.std.specs.Prelude.{◌≡◌, ℕ, Bool, true, false, List, [], Option, Result, Ok, Err}
use Rattle.zx_outside.specs.Counts.{OutputCounts, one_more}
use Rattle.zx_outside.specs.Writing.{Takes, TakesFront}
use Rattle.zp_conn.specs.declared.writing.WriteFault.{WriteFault}

-- all were taken, or a front of them up to a fault of the sink
abbrev pub Wrote : Result (Unit {0}) WriteFault → List ℕ → Option (List ℕ) → Option (List ℕ) → OutputCounts → OutputCounts → Type 0
Wrote (Ok _) bytes taken taken' counts counts' = Takes bytes taken taken' × (counts' ≡ counts)
Wrote (Err _) bytes taken taken' counts counts' = TakesFront bytes taken taken' × (counts'.faults ≡ one_more counts.faults)

-- what is held was written, and nothing is held any more
abbrev pub Flushes : Result (Unit {0}) WriteFault → List ℕ → List ℕ → Option (List ℕ) → Option (List ℕ) → OutputCounts → OutputCounts → Type 0
Flushes result held held' taken taken' counts counts' = Wrote result held taken taken' counts counts' × (held' ≡ [])

-- it was written where that was due
abbrev pub FlushesIf : Bool → Result (Unit {0}) WriteFault → List ℕ → List ℕ → Option (List ℕ) → Option (List ℕ) → OutputCounts → OutputCounts → Type 0
FlushesIf true result held held' taken taken' counts counts' = Flushes result held held' taken taken' counts counts'
FlushesIf false result held held' taken taken' counts counts' = (result ≡ Ok tt) × (held' ≡ held) × (taken' ≡ taken) × (counts' ≡ counts)
