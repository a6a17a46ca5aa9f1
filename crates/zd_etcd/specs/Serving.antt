-- How a server of the etcd in memory ended: what the net counted, and what was written.
use Rattle.std.specs.Prelude.{◌≡◌, ◌⊎◌, ℕ, ◌+◌, ◌-◌, ◌^◌, ◌<◌, min, max, List, [], ◌∷◌, ◌++◌, codes, Option, Result, Ok, Err}
use Rattle.zx_outside.specs.Counts.{OutputCounts, one_more}
use Rattle.zx_outside.specs.Writing.{Takes, TakesFront, counts_after_write}
use Rattle.zx_outside.specs.declared.sink.Took.TheVariants as took
use Rattle.zx_net.specs.Nets.{NetCounts}
use Rattle.zd_etcd.specs.declared.serving.EtcdEnd.{EtcdEnd}
use Rattle.zd_etcd.specs.declared.serving.EtcdEnd.TheVariants as ends
use Rattle.zd_etcd.specs.declared.serving.Stop.{Stop}
use Rattle.zd_etcd.specs.declared.serving.Stop.TheVariants as stop

-- ---- what is written

abbrev pub listening_text : List ℕ → List ℕ
listening_text listen = codes "listening " ++ (listen ++ 10 ∷ [])

abbrev pub net_fault_text : List ℕ
net_fault_text = codes "net fault\n"

-- ---- what is counted

-- a count after n more; it stops at 2^64 - 1
abbrev pub more : ℕ → ℕ → ℕ
more n count = max count (min (count + n) (2 ^ 64 - 1))

-- the counts of a net after n accepted connections
abbrev pub accepts : ℕ → NetCounts → NetCounts
accepts n counts = record counts { accepted = more n counts.accepted }

-- the counts of a net after a fault of a door
abbrev pub door_fault : NetCounts → NetCounts
door_fault counts = record counts { door_faults = one_more counts.door_faults }

-- the counts of the sink: a write fault is one fault, and there is none else
abbrev pub counts_at_end : EtcdEnd → OutputCounts → OutputCounts
counts_at_end ends.WriteFault counts = counts_after_write took.Failed counts
counts_at_end _ counts = counts

-- ---- the parts

-- n connections were accepted; or fewer, and then the door had a fault, or memory was refused
abbrev pub EtcdStops : Result (Unit {0}) Stop → ℕ → NetCounts → NetCounts → Type 0
EtcdStops (Ok _) n counts counts' = counts' ≡ accepts n counts
EtcdStops (Err stop.Door) n counts counts' = (k : ℕ) × (k < n) × (counts' ≡ door_fault (accepts k counts))
EtcdStops (Err stop.Memory) n counts counts' = (k : ℕ) × (k < n) × (counts' ≡ accepts k counts)

-- a fault of the net was told, or a front of it up to a fault of the sink
abbrev pub Faults : EtcdEnd → Option (List ℕ) → Option (List ℕ) → Type 0
Faults ends.Net taken taken' = Takes net_fault_text taken taken'
Faults ends.WriteFault taken taken' = TakesFront net_fault_text taken taken'
Faults _ taken taken' = ⊥

-- what is written once no further connection is accepted
abbrev pub EtcdFinishes : Result (Unit {0}) Stop → EtcdEnd → Option (List ℕ) → Option (List ℕ) → Type 0
EtcdFinishes (Ok _) end taken taken' = (end ≡ ends.Done) × (taken' ≡ taken)
EtcdFinishes (Err stop.Door) end taken taken' = Faults end taken taken'
EtcdFinishes (Err stop.Memory) end taken taken' = (end ≡ ends.Memory) × (taken' ≡ taken)

-- how it ended once it listened
abbrev pub EtcdAccepts : EtcdEnd → ℕ → NetCounts → NetCounts → Option (List ℕ) → Option (List ℕ) → Type 0
EtcdAccepts ends.Done limit counts counts' taken taken' = (counts' ≡ accepts limit counts) × (taken' ≡ taken)
EtcdAccepts ends.Net limit counts counts' taken taken' = (n : ℕ) × (n < limit) × (counts' ≡ door_fault (accepts n counts)) × Takes net_fault_text taken taken'
EtcdAccepts ends.WriteFault limit counts counts' taken taken' = (n : ℕ) × (n < limit) × (counts' ≡ door_fault (accepts n counts)) × TakesFront net_fault_text taken taken'
EtcdAccepts ends.Memory limit counts counts' taken taken' = (n : ℕ) × (n < limit) × (counts' ≡ accepts n counts) × (taken' ≡ taken)

-- ---- the whole

-- The line that says that it listens was written, and then it ended so.
abbrev pub EtcdListened : EtcdEnd → List ℕ → ℕ → NetCounts → NetCounts → Option (List ℕ) → Option (List ℕ) → Type 0
EtcdListened end listen limit counts counts' taken taken' =
    (between : Option (List ℕ)) × Takes (listening_text listen) taken between × EtcdAccepts end limit counts counts' between taken'

-- The address could not be listened on.
abbrev pub Unbound : EtcdEnd → NetCounts → NetCounts → Option (List ℕ) → Option (List ℕ) → Type 0
Unbound end counts counts' taken taken' = (counts' ≡ door_fault counts) × Faults end taken taken'

-- How it ended. With Done as many connections as the limit allows were accepted, and no door had a fault. With Net a door had one,
-- which is told, and fewer connections were accepted. Out of memory, no door had one.
abbrev pub EtcdEnds : EtcdEnd → List ℕ → ℕ → NetCounts → NetCounts → Option (List ℕ) → Option (List ℕ) → Type 0
EtcdEnds ends.Done listen limit counts counts' taken taken' = EtcdListened ends.Done listen limit counts counts' taken taken'
EtcdEnds ends.Net listen limit counts counts' taken taken' =
    Unbound ends.Net counts counts' taken taken' ⊎ EtcdListened ends.Net listen limit counts counts' taken taken'
EtcdEnds ends.WriteFault listen limit counts counts' taken taken' =
    ((counts' ≡ counts) × TakesFront (listening_text listen) taken taken')
    ⊎ (Unbound ends.WriteFault counts counts' taken taken' ⊎ EtcdListened ends.WriteFault listen limit counts counts' taken taken')
EtcdEnds ends.Memory listen limit counts counts' taken taken' =
    ((counts' ≡ counts) × (taken' ≡ taken)) ⊎ EtcdListened ends.Memory listen limit counts counts' taken taken'
