-- Ranges of keys (etcd API reference, `RangeRequest`, `RangeResponse`).
use Rattle.std.specs.Prelude.{ℤ, pos, nat_abs, Bool, not, ◌&&◌, ◌||◌, List, [], ◌∷◌, length, take, map, nat_lt, int_lt, if◌then◌else◌}
use Rattle.std.specs.Ordering.{is_lt, nat_cmp}
use Rattle.std.specs.Cmp.Lexicographic.{slice_cmp}
use Rattle.std.specs.FinMap.{retain_keys, values}
use Rattle.ev_types.specs.declared.answer.Kv.{Kv}
use Rattle.ev_types.specs.declared.answer.RangeAns.{RangeAns}
use Rattle.ev_types.specs.declared.ask.RangeReq.{RangeReq}
use Rattle.zx_base.specs.Maps.{Bytes, Map, same}

-- what a store holds: a finite map from keys
abbrev pub Keys : Type 0
Keys = Map Kv

-- whether a comes before b in the order of bytes
abbrev pub comes_before : Bytes → Bytes → Bool
comes_before a b = is_lt (slice_cmp nat_cmp a b)

-- whether a key is below an end; the one byte 0 is no end
abbrev pub is_below : Bytes → Bytes → Bool
is_below end k = same end (0 ∷ []) || comes_before k end

-- whether a key is in a range: it is the first key where the end is empty, and otherwise it isn't before the first key and is
-- below the end
unfoldable pub is_within : Bytes → Bytes → Bytes → Bool
is_within from end k = if same end [] then same k from else not (comes_before k from) && is_below end k

-- all that a range has, in the order of the keys
unfoldable pub in_range : RangeReq → Keys → List Kv
in_range r m = values (retain_keys m (is_within r.key r.end))

-- a key as it is given: without its value where only keys are asked for
abbrev pub shown : Bool → Kv → Kv
shown keys_only kv = if keys_only then record kv { value = [] } else kv

-- the first so many; a limit that isn't above 0 is no limit
abbrev pub limited : ℤ → List Kv → List Kv
limited limit kvs = if int_lt (pos 0) limit then take (nat_abs limit) kvs else kvs

-- what a range answers that has these keys: the first of them, whether some were left out, and how many there are in all
abbrev pub found_among : RangeReq → List Kv → RangeAns
found_among r all = record {
  kvs = map (shown r.keys_only) (limited r.limit all);
  more = nat_lt (length (limited r.limit all)) (length all);
  count = pos (length all);
}

-- what a range answers
abbrev pub found : RangeReq → Keys → RangeAns
found r m = found_among r (in_range r m)
