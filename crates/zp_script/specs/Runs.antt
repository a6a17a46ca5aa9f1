-- The world before anything happened, and what a script makes of it.
use Rattle.std.specs.Prelude.{◌≡◌, pos, List, [], ◌∷◌, length, Some}
use Rattle.std.specs.FinMap.{empty}
use Rattle.ev_types.specs.declared.answer.Answer.{Answer}
use Rattle.ev_types.specs.Store.{Store, new_store}
use Rattle.ev_types.specs.Denials.{carry}
use Rattle.zk_transcript.specs.Legal.{Tick}
use Rattle.zn_layout.specs.declared.entry.Entry.{Entry}
use Rattle.zn_layout.specs.Begin.{begin_ask}
use Rattle.zk_transcript.specs.History.{begin_lines}
use Rattle.zt_text.specs.declared.script.Happening.{Happening}
use Rattle.zp_script.specs.Worlds.{World}
use Rattle.zp_script.specs.Happens.{Happens}

-- the entry of Begin, which is update 1 and has zxid 2
abbrev pub first_entry : Entry
first_entry = record { number = pos 1; zxid = pos 2; triggers = [] }

-- over this store, with Begin alone in the transcript and the clock at 0
abbrev pub world_over : Store → World
world_over s = record { store = s; clock = 0; conns = empty; strays = []; lines = begin_lines 0; entries = first_entry ∷ [] }

-- the world over the store that Begin makes of a new one, carried out at time 0
abbrev pub IsFirst : World → Type 0
IsFirst w = (s : Store) × (a : Answer) × (carry new_store (begin_ask 0) ≡ Some (s, a)) × (w ≡ world_over s)

-- the clock and the number of lines as a happening left them
abbrev pub tick_of : World → Tick
tick_of w = record { clock = w.clock; lines = length w.lines }

-- several happenings, in order, each with the clock and the number of lines that it left
abbrev pub RunsFrom : World → List Happening → List Tick → World → Type 0
RunsFrom w [] ticks w' = (ticks ≡ []) × (w' ≡ w)
RunsFrom w (h ∷ hs) ticks w' = (mid : World) × (more : List Tick) × Happens w h mid × (ticks ≡ tick_of mid ∷ more) × RunsFrom mid hs more w'

-- they lead from the first world to this one
abbrev pub Runs : List Happening → List Tick → World → Type 0
Runs hs ticks w = (first : World) × IsFirst first × RunsFrom first hs ticks w
