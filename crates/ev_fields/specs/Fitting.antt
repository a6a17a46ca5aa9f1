-- Which tokens of JSON are those of a value that can be held: it nests at most 127 deep, and its numbers are no larger than floats.
use Rattle.std.specs.Prelude.{ℕ, ◌+◌, ◌-◌, List, [], ◌∷◌, Bool, true, false, nat_lt, is_some, Option, Some, None, if◌then◌else◌}
use Rattle.json.specs.Token.{Token, begin_object, end_object, begin_array, end_array, key, string, number, boolean, null, bad}
use Rattle.serde_json.specs.Read.{number_of}

abbrev pub opened : ℕ → Option ℕ
opened depth = if nat_lt depth 127 then Some (depth + 1) else None

-- inside how many objects and arrays the next token stands; none where this one does not fit
abbrev pub depth_after : ℕ → Token → Option ℕ
depth_after depth begin_object = opened depth
depth_after depth end_object = Some (depth - 1)
depth_after depth begin_array = opened depth
depth_after depth end_array = Some (depth - 1)
depth_after depth (key s) = Some depth
depth_after depth (string s) = Some depth
depth_after depth (number s) = if is_some (number_of s) then Some depth else None
depth_after depth (boolean b) = Some depth
depth_after depth null = Some depth
depth_after depth bad = Some depth

-- all tokens fit, from a place that is inside so many objects and arrays; none fit after one that did not
unfoldable pub fits_at : Option ℕ → List Token → Bool
fits_at None ts = false
fits_at (Some depth) [] = true
fits_at (Some depth) (t ∷ ts) = fits_at (depth_after depth t) ts
