use Rattle.std.proofs.Common.{◌≡◌, ◌++◌, map, take}
use Rattle.std.specs.List.{flat_map}
use Rattle.ev_fields.specs.Open.{data_tokens}
use Rattle.ev_json.proofs.message.all_of.Given as goal

abbrev pub invariant-loop-item : goal.invariant-loop-item
invariant-loop-item g l = l.text ≡ l.fn.out ++ flat_map data_tokens (map g.M.Message.shape (take l.item-index l.items))
