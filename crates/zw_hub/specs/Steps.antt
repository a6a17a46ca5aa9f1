-- The steps of the threads that share the list, and what each step leaves known. A thread's view is the list that it saw
-- last and the number of its steps:
--   the writer publishes an entry, or closes   its view becomes the new list, with one step more
--   a reader enters                            its view becomes the list as it is at that step, with one step more
--   a reader leaves                            no view changes
--   a reader's seat is handed out              the new view has seen nothing
--   a reader's seat is given back              no view changes
--   the writer ends                            no view changes, and no reader enters any more
use Rattle.std.specs.Prelude.{◌≡◌, ℕ, ◌+◌, ◌<◌, pos, List}
use mathlib.Core.Option.{some}
use lib.ListN.{get_elem?}
use Rattle.zw_hub.specs.declared.published.Published.{Published}
use Rattle.zw_hub.specs.declared.rule.View.{View}
use Rattle.zw_hub.specs.Lists.{empty, Extends}

abbrev pub nothing_seen : View
nothing_seen = record { list = empty (pos 0); steps = 0 }

-- this list extends the one that a thread saw last, where it has seen any
abbrev pub ExtendsSeen : Published → View → Type 0
ExtendsSeen list v = 0 < v.steps → Extends list v.list

-- the list extends the one that each thread saw last
abbrev pub Keeps : Published → List View → Type 0
Keeps list views = (seat : ℕ) (v : View) → get_elem? views seat ≡ some v → ExtendsSeen list v

-- one step of a thread, at which the list went from x to y: the thread has now seen y, which extends what it saw last
abbrev pub SeesOnce : View → Published → Published → View → Type 0
SeesOnce v x y w = (w.list ≡ y) × (w.steps ≡ v.steps + 1) × ExtendsSeen y v
