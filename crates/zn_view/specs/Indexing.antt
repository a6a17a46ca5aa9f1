-- The keys of a view by their bytes, for a request that looks up many.
use denote.Ref.{Bor}
use Rattle.std.specs.Prelude.{◌≡◌, List, [], ◌∷◌, Option, Some, None, option_copied, option_map, if◌then◌else◌}
use Rattle.std.specs.BTreeMap as tree
use Rattle.std.specs.BTreeMap.{BTreeMap}
use Rattle.std.specs.Ordering.{nat_cmp}
use Rattle.std.specs.Cmp.Lexicographic.{slice_cmp}
use Rattle.ev_types.specs.declared.answer.Kv.{Kv}
use Rattle.zx_base.specs.Maps.{Bytes, same}
use Rattle.zn_view.specs.declared.snapshot.SeenKey.{SeenKey}
use Rattle.zn_view.specs.Seen.{View, seen}

-- what an index shows under a key: None where the key is no key of it
abbrev pub found_under : BTreeMap Bytes (Option (Bor Kv)) → Bytes → Option (Option Kv)
found_under index k = option_map option_copied (tree.get (slice_cmp nat_cmp) index k)

-- these look-ups are those of the view
abbrev pub IsIndex : View → (Bytes → Option (Option Kv)) → Type 0
IsIndex v found = (k : Bytes) → found k ≡ seen v k

-- what was found under a key before, or else what one more key shows of it
abbrev pub or_seen : Bytes → Option (Option Kv) → SeenKey → Option (Option Kv)
or_seen k None x = if same x.key k then Some x.found else None
or_seen k (Some found) x = Some found

-- what was found under a key before, or else what the first of more keys shows of it
abbrev pub seen_from : Bytes → Option (Option Kv) → List SeenKey → Option (Option Kv)
seen_from k o [] = o
seen_from k o (x ∷ xs) = seen_from k (or_seen k o x) xs
