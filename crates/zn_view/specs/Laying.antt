-- A key that is put in place of what a view saw of it.
use Rattle.std.specs.Prelude.{List, [], ◌∷◌, if◌then◌else◌}
use Rattle.zx_base.specs.Maps.{same}
use Rattle.zn_view.specs.declared.snapshot.SeenKey.{SeenKey}
use Rattle.zn_view.specs.Seen.{View}

-- the first key with the same bytes gives way to this one; where there is none, this one comes after the others
abbrev pub placed : SeenKey → List SeenKey → List SeenKey
placed x [] = x ∷ []
placed x (y ∷ ys) = if same y.key x.key then x ∷ ys else y ∷ placed x ys

abbrev pub with_laid : View → SeenKey → View
with_laid v x = record v { keys = placed x v.keys }
