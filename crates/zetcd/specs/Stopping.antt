-- Of which statuses a person is told in words.
use Rattle.std.specs.Prelude.{Bool, true, false}
use Rattle.zetcd_cmd.specs.declared.status.Status.{Status}
use Rattle.zetcd_cmd.specs.declared.status.Status.TheVariants as status

-- the run stopped before its end; at its end, and where the words are no command's, the output says all there is to say
abbrev pub has_stopped : Status → Bool
has_stopped status.Done = false
has_stopped status.Usage = false
has_stopped status.Unlawful = false
has_stopped _ = true
