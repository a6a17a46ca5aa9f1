-- A set of paths as the list of its members, and the codes by which a proof tells such sets, and armed watches, apart.
use Rattle.std.specs.Prelude.{Bool, List, [], ◌∷◌}
use Rattle.std.specs.List.{list_any}
use Rattle.std.specs.Coded.{Coded, code_by, coded×, coded_list, coded_ℕ}
use Rattle.std.specs.FinMap.{empty, insert}
use Rattle.std.specs.FinSet as set
use Rattle.zx_base.specs.Maps.{Bytes, same}
use Rattle.zk_model.specs.Watches.{PathSet, Watches}

-- a list as the set of its members
abbrev pub set_of : List Bytes → PathSet
set_of [] = empty
set_of (p ∷ ps) = insert (set_of ps) p tt

-- whether a list has a path
abbrev pub has : Bytes → List Bytes → Bool
has path ps = list_any (λ p. same p path) ps

abbrev pub coded_set : Coded PathSet
coded_set = set.code (coded_list coded_ℕ)

abbrev pub coded_watches : Coded Watches
coded_watches = code_by (PathSet × PathSet) (coded× coded_set coded_set) (λ w. (w.on_data, w.on_children)) (λ p. record { on_data = p.0; on_children = p.1 }) (λ w i. w)
