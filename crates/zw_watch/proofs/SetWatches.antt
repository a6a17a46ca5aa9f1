-- A setWatches on a tree is what comes of the paths as they were seen there.
use Rattle.std.proofs.Common.{◌≡◌, ℕ, ◌+◌, ◌<◌, ◌≤◌, length, drop, get_or, ℤ, Bool, true, false, List, [], ◌∷◌, ◌++◌, Option, Some, None, refl, sym, ap, ◌∙◌}
use Rattle.std.specs.Prelude.{map, option_map, int_lt, if◌then◌else◌}
use Rattle.std.proofs.lemmas.List.{at_drop_more, at_drop_all}
use Rattle.zx_base.specs.Maps.{Bytes}
use Rattle.zk_model.specs.declared.node.Node.{Node}
use Rattle.zk_model.specs.Paths.{is_path}
use Rattle.zk_model.specs.Watches.{Watches, Seen, see_data, see_exist, see_children, see_all, set_watches, valid_at}
use Rattle.zk_model.specs.Znodes.{Tree}
use Rattle.zw_watch.specs.declared.rearm.Rearming.{Rearming}
use Rattle.zw_watch.specs.declared.rearm.Rearming.TheVariants.{Tells, ArmsData, ArmsChildren}
use Rattle.zw_watch.specs.declared.seen_path.SeenPath.{SeenPath}
use Rattle.zw_watch.specs.declared.seen_path.WatchList.TheVariants.{Datas, Exists, Children}
use Rattle.zw_watch.specs.SeenPaths.{rearming_of, with_rearming, see_at, see_paths, unseen, path_on, paths_on, IsSetWatches}

-- ---- one path

with_rearming-if : (b : Bool) (s : Seen) (p : Bytes) (x y : Rearming) → (if b then with_rearming s p x else with_rearming s p y) ≡ with_rearming s p (if b then x else y)
with_rearming-if true s p x y = refl
with_rearming-if false s p x y = refl

pub see_data-rearming : (since : ℤ) (s : Seen) (p : Bytes) (n : Option Node) → see_data since s p n ≡ with_rearming s p (rearming_of since (is_path p) Datas (option_map (λ (x : Node). x.mzxid) n))
see_data-rearming since s p None = refl
see_data-rearming since s p (Some n) = with_rearming-if (int_lt since n.mzxid) s p (Tells 3) ArmsData

pub see_exist-rearming : (since : ℤ) (s : Seen) (p : Bytes) (n : Option Node) (b : Bool) → see_exist b s p n ≡ with_rearming s p (rearming_of since b Exists (option_map (λ (x : Node). x.mzxid) n))
see_exist-rearming since s p (Some n) b = refl
see_exist-rearming since s p None true = refl
see_exist-rearming since s p None false = refl

pub see_children-rearming : (since : ℤ) (s : Seen) (p : Bytes) (n : Option Node) → see_children since s p n ≡ with_rearming s p (rearming_of since (is_path p) Children (option_map (λ (x : Node). x.pzxid) n))
see_children-rearming since s p None = refl
see_children-rearming since s p (Some n) = with_rearming-if (int_lt since n.pzxid) s p (Tells 4) ArmsChildren

-- ---- all paths

pub see_paths-append : (since : ℤ) (s : Seen) (xs ys : List SeenPath) → see_paths since s (xs ++ ys) ≡ see_paths since (see_paths since s xs) ys
unfolding see_paths
see_paths-append since s [] ys = refl
see_paths-append since s (x ∷ xs) ys = see_paths-append since (see_at since s x) xs ys

see_all-paths : (f : Seen → Bytes → Seen) (g : Bytes → SeenPath) (since : ℤ) (s : Seen) (ps : List Bytes) → ((p : Bytes) (x : Seen) → f x p ≡ see_at since x (g p)) → see_all f s ps ≡ see_paths since s (map g ps)
unfolding see_paths
see_all-paths f g since s [] h = refl
see_all-paths f g since s (p ∷ ps) h = ap (λ (x : Seen). see_all f x ps) (h p s) ∙ see_all-paths f g since (see_at since s (g p)) ps h

pub set_watches-paths : (t : Tree) (since : ℤ) (datas exists children : List Bytes) (w : Watches) → set_watches t since datas exists children w ≡ see_paths since (unseen w) (paths_on t datas exists children)
unfolding set_watches
set_watches-paths t since datas exists children w =
    let on_data : Seen → Bytes → Seen = λ s p. see_data since s p (valid_at p t) in
    let on_exist : Seen → Bytes → Seen = λ s p. see_exist (is_path p) s p (valid_at p t) in
    let on_children : Seen → Bytes → Seen = λ s p. see_children since s p (valid_at p t) in
    let first = map (path_on t Datas) datas in
    let second = map (path_on t Exists) exists in
    let third = map (path_on t Children) children in
    ap (λ (s : Seen). see_all on_children (see_all on_exist s exists) children) (see_all-paths on_data (path_on t Datas) since (unseen w) datas (λ p x. see_data-rearming since x p (valid_at p t)))
    ∙ ap (λ (s : Seen). see_all on_children s children) (see_all-paths on_exist (path_on t Exists) since (see_paths since (unseen w) first) exists (λ p x. see_exist-rearming since x p (valid_at p t) (is_path p)))
    ∙ see_all-paths on_children (path_on t Children) since (see_paths since (see_paths since (unseen w) first) second) children (λ p x. see_children-rearming since x p (valid_at p t))
    ∙ sym (see_paths-append since (unseen w) (first ++ second) third ∙ ap (λ (s : Seen). see_paths since s third) (see_paths-append since (unseen w) first second))

pub is_set-watches : (since : ℤ) (w : Watches) (xs : List SeenPath) (s : Seen) → s ≡ see_paths since (unseen w) xs → IsSetWatches since w xs s
is_set-watches since w xs s h = λ t datas exists children is.
    set_watches-paths t since datas exists children w ∙ sym (ap (see_paths since (unseen w)) is) ∙ sym h

-- ---- as a loop goes through them

pub see_paths-next : (since : ℤ) (s next : Seen) (xs : List SeenPath) (i : ℕ) (x : SeenPath) → i < length xs → x ≡ get_or xs i x → next ≡ see_at since s x
    → see_paths since next (drop (i + 1) xs) ≡ see_paths since s (drop i xs)
unfolding see_paths
see_paths-next since s next xs i x h is sees = sym (
    at_drop_more (see_paths since s) xs i x h
    ∙ ap (λ (y : SeenPath). see_paths since (see_at since s y) (drop (i + 1) xs)) (sym is)
    ∙ ap (λ (y : Seen). see_paths since y (drop (i + 1) xs)) (sym sees))

pub see_paths-done : (since : ℤ) (s : Seen) (xs : List SeenPath) (i : ℕ) → length xs ≤ i → s ≡ see_paths since s (drop i xs)
unfolding see_paths
see_paths-done since s xs i h = sym (at_drop_all (see_paths since s) xs i h)
