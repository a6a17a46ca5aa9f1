-- Proof only: a store and a change as their parts, so that two that differ can be told apart.
use Rattle.std.specs.Prelude.{◌≡◌, ℤ, List, Option, Some, None, refl}
use Rattle.std.specs.Coded.{Coded, code_by, coded×, coded_ℕ, coded_ℤ, coded_list, coded_option}
use Rattle.std.specs.FinMap as map
use Rattle.std.specs.Ordering.{int_cmp}
use Rattle.ev_types.specs.Store.{Change, Puts, Removes, Store}
use Rattle.zx_base.specs.Maps.{Bytes}

abbrev pub ChangeParts : Type 0
ChangeParts = Bytes × Option (Bytes × ℤ)

abbrev pub change_parts : Change → ChangeParts
change_parts (Puts k v lease) = (k, Some (v, lease))
change_parts (Removes k) = (k, None)

abbrev pub change_content : Bytes → Option (Bytes × ℤ) → Change
change_content k (Some p) = Puts k p.0 p.1
change_content k None = Removes k

pub change_back : (c : Change) → change_content (change_parts c).0 (change_parts c).1 ≡ c
change_back (Puts k v lease) = refl
change_back (Removes k) = refl

abbrev pub change_code : Coded Change
change_code = code_by ChangeParts (coded× (coded_list coded_ℕ) (coded_option (coded× (coded_list coded_ℕ) coded_ℤ))) change_parts (λ p. change_content p.0 p.1) change_back

abbrev pub store_code : Coded Store
store_code =
    code_by (List (List Change) × (map.FinMap int_cmp ℤ × ℤ)) (coded× (coded_list (coded_list change_code)) (coded× (map.code coded_ℤ coded_ℤ) coded_ℤ))
    (λ s. (s.revisions, (s.leases, s.floor))) (λ p. record { revisions = p.0; leases = p.1.0; floor = p.1.1 }) (λ _. refl)
