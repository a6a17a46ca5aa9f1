use Rattle.std.proofs.Common.{◌≡◌}
use Rattle.ev_json.specs.Answers.{puts_of}
use Rattle.ev_json.proofs.line_value.puts.Given as goal

abbrev pub invariant-loop-event : goal.invariant-loop-event
invariant-loop-event l = l.kvs.items ≡ puts_of l.yielded
