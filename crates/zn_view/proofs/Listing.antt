-- What a view lists of a node are its children.
use Rattle.std.proofs.Common.{◌≡◌, Bool, true, false, List, [], ◌∷◌, ◌++◌, Some, refl, sym, ap, ◌∙◌}
use Rattle.std.specs.Prelude.{map, drop, All, IsTrue, if◌then◌else◌}
use Rattle.std.proofs.lemmas.List.Elements.{All-head, All-tail}
use Rattle.ev_types.specs.Ranges.{Keys}
use Rattle.zk_model.specs.Paths.{is_path}
use Rattle.zk_model.specs.Znodes.{children}
use Rattle.zk_service.specs.States.{State, IsSound}
use Rattle.zx_base.specs.Maps.{Bytes, same}
use Rattle.zx_base.proofs.MapLaws.{same-true}
use Rattle.zn_layout.specs.Listing.{child_front, HasValidPaths}
use Rattle.zn_layout.specs.StandsFor.{StandsFor}
use Rattle.zn_layout.proofs.Listing.{children_listed}
use Rattle.zn_view.specs.declared.snapshot.SeenChildren.{SeenChildren}
use Rattle.zn_view.specs.Asks.{children_start, children_until}
use Rattle.zn_view.specs.Seen.{View, listed_in, listed}
use Rattle.zn_view.specs.Views.{Agrees, children_kept}

listed-kept : (m : Keys) (p : Bytes) (xs : List SeenChildren) (ps : List Bytes) → All (λ (x : SeenChildren). x.paths ≡ children_kept m x.path) xs → listed_in p xs ≡ Some ps → ps ≡ children_kept m p
listed-kept m p [] ps all h = absurd (cc)
listed-kept m p (x ∷ xs) ps all h =
    step (same x.path p) refl h (All-head (λ (y : SeenChildren). y.paths ≡ children_kept m y.path) x xs all) (listed-kept m p xs ps (All-tail (λ (y : SeenChildren). y.paths ≡ children_kept m y.path) x xs all))
  where
    step : (b : Bool) → same x.path p ≡ b → (if b then Some x.paths else listed_in p xs) ≡ Some ps → x.paths ≡ children_kept m x.path → (listed_in p xs ≡ Some ps → ps ≡ children_kept m p) → ps ≡ children_kept m p
    step true e f first later = let is : x.paths ≡ ps = cc in sym is ∙ first ∙ ap (children_kept m) (same-true x.path p e)
    step false e f first later = later f

dropped : (p : Bytes) (qs : List Bytes) → map (drop 9) (map (λ q. child_front p ++ q) qs) ≡ qs
dropped p [] = refl
dropped p (q ∷ qs) = ap (λ (r : List Bytes). q ∷ r) (dropped p qs)

-- the range's keys are those of the children, with nine bytes before the path
children_kept-is : (m : Keys) (s : State) (p : Bytes) → StandsFor m s → IsSound s → HasValidPaths s.tree → IsTrue (is_path p) → children_kept m p ≡ children s.tree p
unfolding children_kept children_start children_until
children_kept-is m s p stands sound valid path = ap (λ (ks : List Bytes). map (drop 9) ks) (children_listed m s p stands sound valid path) ∙ dropped p (children s.tree p)

-- what a view of a state lists of a node are the paths of its children, in their order
pub listed-children : (v : View) (m : Keys) (s : State) (p : Bytes) (ps : List Bytes) → StandsFor m s → IsSound s → HasValidPaths s.tree → IsTrue (is_path p) → Agrees v m → listed v p ≡ Some ps → ps ≡ children s.tree p
listed-children v m s p ps stands sound valid path agrees h = listed-kept m p v.lists ps agrees.lists h ∙ children_kept-is m s p stands sound valid path
