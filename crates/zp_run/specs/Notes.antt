-- What a trace tells of events. An entry is told by its value, whoever owns it.
use Rattle.std.specs.Prelude.{ℕ, List, [], ◌∷◌, ◌++◌, map, flat_map, Option, Some, None}
use Rattle.std.specs.Arc.{arc_value}
use Rattle.zn_layout.specs.declared.entry.Entry.{Entry}
use Rattle.zp_step.specs.declared.input.Input.{Input}
use Rattle.zp_step.specs.declared.input.Input.TheVariants as input
use Rattle.zp_step.specs.Ending.{sends}
use Rattle.zp_run.specs.Runs.{Step}
use Rattle.zp_run.specs.declared.event.Event.{Event}
use Rattle.zp_run.specs.declared.event.Event.TheVariants as event

pub data NotedInput : Type 0 where
  OfEntry : (e : Entry) → NotedInput
  Plain : (x : Input) → NotedInput

abbrev pub noted_input : Input → NotedInput
noted_input (input.Entry e) = OfEntry (arc_value e)
noted_input x = Plain x

pub data Noted : Type 0 where
  In : (x : NotedInput) (now : ℕ) → Noted
  Out : (bytes : List ℕ) → Noted

abbrev pub noted : Event → Noted
noted (event.In x now) = In (noted_input x) now
noted (event.Out bytes) = Out bytes

abbrev pub with_note : Option (List Noted) → Noted → Option (List Noted)
with_note None n = None
with_note (Some ns) n = Some (ns ++ n ∷ [])

abbrev pub with_notes : Option (List Noted) → List Noted → Option (List Noted)
with_notes None ms = None
with_notes (Some ns) ms = Some (ns ++ ms)

-- what is noted of a step, and of a run: each input, and then the packets that it gave
abbrev pub notes_in : Step → List Noted
notes_in s = In (noted_input s.input) s.time ∷ map Out (sends s.out)

abbrev pub notes_of : List Step → List Noted
notes_of ss = flat_map notes_in ss
