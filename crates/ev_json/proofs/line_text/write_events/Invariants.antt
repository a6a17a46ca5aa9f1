use Rattle.std.proofs.Common.{◌≡◌, ◌++◌, map, take}
use Rattle.std.specs.List.{flat_map}
use Rattle.ev_json.specs.Messages.{event_data}
use Rattle.ev_fields.specs.Open.{data_tokens}
use Rattle.ev_json.proofs.line_text.write_events.Given as goal

abbrev pub invariant-loop-kv : goal.invariant-loop-kv
invariant-loop-kv l = l.text ≡ l.fn.out ++ flat_map data_tokens (map event_data (take l.kv-index l.kvs))
