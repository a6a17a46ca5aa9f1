-- A sink that was left alone.
use Rattle.std.specs.Prelude.{◌≡◌}
use Rattle.ev_http.specs.Sinks.{SinkTold}

-- It tells what it told before: nothing was written, and no fault counted.
abbrev pub Rests : SinkTold → SinkTold → Type 0
Rests sink sink' = (sink'.taken ≡ sink.taken) × (sink'.counts ≡ sink.counts) × (sink'.name ≡ sink.name)
