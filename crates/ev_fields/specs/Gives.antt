-- For clauses: how the result of a function that reads agrees with the definition of the reading.
use Rattle.std.specs.Prelude.{◌≡◌, Result, Ok, Err, ⊤}
use Rattle.ev_fields.specs.declared.field.Field.{Field}
use Rattle.ev_fields.specs.declared.fault.JsonFault.{JsonFault}
use Rattle.ev_fields.specs.declared.fault.JsonFault.TheVariants as fault

-- the fault names the member that the reading names, or is out of memory
abbrev pub Fails : {A : Type 0} → JsonFault → Result A Field → Type 0
Fails fault.Memory reading = ⊤
Fails fault.NotJson reading = ⊥
Fails (fault.Unreadable f) reading = reading ≡ Err f

-- the function returned what the reading gives, unless memory ran out
abbrev pub Gives : {A : Type 0} → Result A JsonFault → Result A Field → Type 0
Gives (Ok x) reading = reading ≡ Ok x
Gives (Err e) reading = Fails e reading

-- the function returned a value that is seen as what the reading gives, unless memory ran out
abbrev pub GivesAs : {X A : Type 0} → (X → A) → Result X JsonFault → Result A Field → Type 0
GivesAs view (Ok x) reading = reading ≡ Ok (view x)
GivesAs view (Err e) reading = Fails e reading
