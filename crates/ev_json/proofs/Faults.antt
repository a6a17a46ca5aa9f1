-- A body that was not parsed reads as nothing.
use Rattle.std.proofs.Common.{ℕ, List, Result}
use Rattle.serde_json.specs.Data.{Data}
use Rattle.ev_fields.specs.declared.field.Field.{Field}
use Rattle.ev_fields.specs.declared.fault.JsonFault.{JsonFault}
use Rattle.ev_fields.specs.declared.fault.JsonFault.TheVariants as fault
use Rattle.ev_fields.specs.Unparsed.{IsUnparsed}
use Rattle.ev_json.specs.Bodies.{FaultOf}

pub FaultOf-unparsed : {A : Type 0} (reading : Data → Result A Field) (body : List ℕ) (e : JsonFault) → IsUnparsed body e → FaultOf reading body e
unfolding FaultOf
FaultOf-unparsed reading body fault.Memory h = tt
FaultOf-unparsed reading body fault.NotJson h = h
FaultOf-unparsed reading body (fault.Unreadable f) h = absurd h

pub ruleset unparsed = (FaultOf-unparsed)
