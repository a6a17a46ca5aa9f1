-- Which of some keys a view lacks, as wants.
use Rattle.std.specs.Prelude.{Bool, false, ◌||◌, cond, List, [], ◌∷◌, ◌++◌, fold, is_some}
use Rattle.std.specs.List.{list_any}
use Rattle.zx_base.specs.Maps.{Bytes, same}
use Rattle.zn_view.specs.declared.snapshot.SeenKey.{SeenKey}
use Rattle.zn_view.specs.declared.want.Want.{Want}
use Rattle.zn_view.specs.declared.want.Want.TheVariants as want
use Rattle.zn_view.specs.Seen.{View, seen}

abbrev pub is_want_of : Bytes → Want → Bool
is_want_of k (want.Key q) = same q k
is_want_of k (want.Children p) = false

-- a key is named where it was not looked up and isn't named yet
abbrev pub with_want : View → List Want → Bytes → List Want
with_want v ws k = cond (is_some (seen v k) || list_any (is_want_of k) ws) ws (ws ++ want.Key k ∷ [])

abbrev pub lacking : View → List Bytes → List Want
lacking v ks = fold (with_want v) [] ks

-- whether a key was known before, or is one of these
abbrev pub known_from : Bytes → Bool → List SeenKey → Bool
known_from k known [] = known
known_from k known (x ∷ xs) = known_from k (known || same x.key k) xs
