-- What the program answers, as the definitions' data.
use Rattle.std.specs.Prelude.{List}
use Rattle.zk_model.specs.declared.reply.Notice.{Notice}
use Rattle.zk_service.specs.Answers.{Told}
use Rattle.zk_model.specs.Watches.{Watches, Seen}
use Rattle.zk_answers.specs.declared.watches.Seen.{Seen as SeenSoFar}
use Rattle.zk_answers.specs.declared.told.Told.{Told as Reported}

abbrev pub seen_of : SeenSoFar → Seen
seen_of s = record { watches = s.watches; notices = s.notices }

-- what firing leaves armed, and the notices that it gives
abbrev pub fired_of : SeenSoFar → Watches × List Notice
fired_of s = (s.watches, s.notices)

abbrev pub told_of : Reported → Told
told_of a = record { reply = a.reply; notices = a.notices; watches = a.watches }
