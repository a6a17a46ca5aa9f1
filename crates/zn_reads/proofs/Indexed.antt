-- What was found at a path, by its keys.
use Rattle.std.proofs.Common.{◌≡◌, ℕ, ℤ, ◌+◌, ◌<◌, length, take, get_or, append_assoc, true, false, List, [], ◌∷◌, ◌++◌, Option, Some, None, refl, sym, ap, ◌∙◌}
use Rattle.std.specs.Prelude.{map, if◌then◌else◌}
use Rattle.std.proofs.lemmas.List.{get_or-map, map_more}
use Rattle.zx_base.specs.Maps.{Bytes}
use Rattle.zk_model.specs.Paths.{is_path}
use Rattle.zn_layout.specs.Keys.{CountsKey, DataKey, key_bytes}
use Rattle.zn_view.specs.Seen.{View}
use Rattle.zn_view.specs.Lookups.{found_at}
use Rattle.zw_watch.specs.declared.seen_path.SeenPath.{SeenPath}
use Rattle.zw_watch.specs.declared.seen_path.WatchList.{WatchList}
use Rattle.zw_watch.specs.declared.seen_path.WatchList.TheVariants.{Datas, Exists, Children}
use Rattle.zn_reads.specs.SeenPaths.{at_by, at_place, changed_at, counts_at, place_at, seen_path, Place}

by_list : (v : View) (list : WatchList) (p : Bytes) → at_place v (key_bytes (DataKey p), counts_at list p) ≡ changed_at list (found_at v (DataKey p)) (found_at v (CountsKey p))
by_list v Datas p = refl
by_list v Exists p = refl
by_list v Children p = refl

at_by-place : (v : View) (list : WatchList) (p : Bytes) → at_by v (place_at list p) ≡ (seen_path v list p).at
at_by-place v list p =
    elim (is_path p) as (λ b. at_by v (if b then Some (key_bytes (DataKey p), counts_at list p) else None) ≡ (if b then changed_at list (found_at v (DataKey p)) (found_at v (CountsKey p)) else None)) [
      | true ↦ by_list v list p
      | false ↦ refl
    ]

seen_by-place : (v : View) (list : WatchList) (texts : List Bytes) (places : List (Option Place)) (i : ℕ) (text : Bytes) (place : Option Place) (at : Option ℤ) → places ≡ map (place_at list) texts → i < length texts → text ≡ get_or texts i text → place ≡ get_or places i place → at ≡ at_by v place
    → record { path = text; list = list; at = at } ≡ seen_path v list (get_or texts i text)
seen_by-place v list texts places i text place at all within named placed is =
    let own : place ≡ place_at list text = placed ∙ ap (λ (l : List (Option Place)). get_or l i place) all ∙ get_or-map (place_at list) texts i text place within ∙ ap (place_at list) (sym named) in
    let found : at ≡ (seen_path v list text).at = is ∙ ap (at_by v) own ∙ at_by-place v list text in
    (λ j. record { path = text; list = list; at = found j }) ∙ ap (seen_path v list) named

-- one path more
pub seen-more : (v : View) (list : WatchList) (start now : List SeenPath) (texts : List Bytes) (places : List (Option Place)) (i : ℕ) (text : Bytes) (place : Option Place) (at : Option ℤ) → places ≡ map (place_at list) texts → i < length texts → text ≡ get_or texts i text → place ≡ get_or places i place
    → at ≡ at_by v place → now ≡ start ++ map (seen_path v list) (take i texts) → now ++ record { path = text; list = list; at = at } ∷ [] ≡ start ++ map (seen_path v list) (take (i + 1) texts)
seen-more v list start now texts places i text place at all within named placed is so_far =
    ap (λ (x : SeenPath). now ++ x ∷ []) (seen_by-place v list texts places i text place at all within named placed is)
    ∙ ap (λ (l : List SeenPath). l ++ seen_path v list (get_or texts i text) ∷ []) so_far
    ∙ append_assoc start (map (seen_path v list) (take i texts)) (seen_path v list (get_or texts i text) ∷ [])
    ∙ ap (λ (l : List SeenPath). start ++ l) (sym (map_more (seen_path v list) texts i text within))
