-- Operations that read and change nothing.
use Rattle.std.specs.Prelude.{pos, Bool, false, List, [], ◌∷◌, Option, Some, None}
use Rattle.std.specs.List.{list_all}
use Rattle.std.specs.Ordering.{int_eq}
use Rattle.ev_types.specs.declared.answer.Kv.{Kv}
use Rattle.ev_types.specs.declared.answer.RangeAns.{RangeAns}
use Rattle.ev_types.specs.declared.ask.Act.{Act}
use Rattle.ev_types.specs.declared.ask.Act.TheVariants as act
use Rattle.ev_types.specs.declared.ask.RangeReq.{RangeReq}
use Rattle.zx_base.specs.Maps.{Bytes}

-- the range of one key, at present
abbrev pub key_range : Bytes → RangeReq
key_range k = record { key = k; end = []; revision = pos 0; limit = pos 0; keys_only = false }

abbrev pub read_key : Bytes → Act
read_key k = act.Range (key_range k)

-- what the range of one key finds, by what the key has
abbrev pub one_found : Option Kv → RangeAns
one_found None = record { kvs = []; more = false; count = pos 0 }
one_found (Some kv) = record { kvs = kv ∷ []; more = false; count = pos 1 }

-- the operation is a range at the present
abbrev pub is_present_read : Act → Bool
is_present_read (act.Range q) = int_eq q.revision (pos 0)
is_present_read (act.Put k v lease) = false
is_present_read (act.Delete k) = false

abbrev pub are_present_reads : List Act → Bool
are_present_reads acts = list_all is_present_read acts
