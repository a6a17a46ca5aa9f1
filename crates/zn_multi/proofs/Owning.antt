-- How many bytes the paths of a session's nodes have, from a tree to those that the parts of a multi make of it.
use Rattle.std.proofs.Common.{Ordering, ◌≡◌, ℕ, suc, ℤ, pos, ◌+◌, ◌*◌, ◌≤◌, Bool, true, false, cond, not, length, List, [], ◌∷◌, map, Option, Some, None, refl, sym, ap, ◌∙◌, subst, ⊎_elim, arith}
use Rattle.std.specs.Prelude.{is_some, nat_abs, if◌then◌else◌, ◌==◌}
use Rattle.std.specs.FinMap.{get, insert, remove, entries, entries-insert}
use Rattle.std.specs.FinMap.Entries.{put}
use Rattle.std.specs.List.{sum_by}
use Rattle.std.specs.Ordering.{int_eq, nat_cmp}
use Rattle.std.specs.Cmp.Lexicographic.{slice_cmp, nat_list_cmp_total}
use Rattle.std.specs.declared.cmp.Ordering.TheVariants.{Less, Equal, Greater}
use Rattle.std.proofs.lemmas.Bool.Decides.{Decides-int_eq}
use Rattle.std.proofs.lemmas.List.Sums.{sum_by-cons}
use Rattle.zx_base.specs.Maps.{Bytes}
use Rattle.zx_base.proofs.MapLaws.{either, ext, get-insert_same, get-insert_other, get-remove_same, get-remove_other, remove-absent}
use Rattle.zk_model.specs.declared.node.Node.{Node}
use Rattle.zk_model.specs.declared.request.Part.{Part}
use Rattle.zk_model.specs.declared.request.Part.TheVariants.{Create, Delete, SetData, Check}
use Rattle.zk_model.specs.Limits.{max_version}
use Rattle.zk_model.specs.Paths.{parent}
use Rattle.zk_model.specs.Single.{at_parent, check, create_at, create_node, create_under, delete, effect, form_refusal, is_ephemeral, is_full, made_path, matches, named, removed_under, set_data, single, with_child, with_content, without_child}
use Rattle.zk_model.specs.Znodes.{Tree, new_node, num_children, owned, owned_by}
use Rattle.zk_model.proofs.Paths.{apart_from_parent}
use Rattle.zk_service.proofs.Owned.{get-owned, get-owned_as, if_owned}
use Rattle.zk_service.proofs.SoundEffects.{Leads}
use Rattle.zn_layout.proofs.Paths.{path_short}
use Rattle.zn_updates.proofs.CreateClauses.{valid_path}
use Rattle.zn_updates.proofs.Forms.{create_path_valid}
use Rattle.zn_multi.proofs.MappedTrees.{same-keys}
use Rattle.zn_multi.proofs.Walking.{leads_of, made_below, unless}

abbrev firsts_size : List (Bytes × Node) → ℕ
firsts_size es = sum_by length (map (λ (e : Bytes × Node). e.0) es)

abbrev keys_size : Tree → ℕ
keys_size m = firsts_size (entries m)

put-least : (k : Bytes) (v : Node) (es : List (Bytes × Node)) → firsts_size es ≤ firsts_size (put (slice_cmp nat_cmp) k v es)
put-least k v [] = omega arith
put-least k v (e ∷ es) = at (put-least k v es) (slice_cmp nat_cmp k e.0) refl
  where
    rest : List Bytes
    rest = map (λ (x : Bytes × Node). x.0) es

    at : firsts_size es ≤ firsts_size (put (slice_cmp nat_cmp) k v es) → (o : Ordering) → slice_cmp nat_cmp k e.0 ≡ o → firsts_size (e ∷ es) ≤ firsts_size (put (slice_cmp nat_cmp) k v (e ∷ es))
    at h Less is = rw is (omega (arith, sum_by-cons length k (e.0 ∷ rest)))
    at h Equal is = rw is (omega arith)
    at h Greater is = rw is (omega (arith, h, sum_by-cons length e.0 rest, sum_by-cons length e.0 (map (λ (x : Bytes × Node). x.0) (put (slice_cmp nat_cmp) k v es))))

put-most : (k : Bytes) (v : Node) (es : List (Bytes × Node)) → firsts_size (put (slice_cmp nat_cmp) k v es) ≤ firsts_size es + length k
put-most k v [] = omega (arith, sum_by-cons length k [])
put-most k v (e ∷ es) = at (put-most k v es) (slice_cmp nat_cmp k e.0) refl
  where
    rest : List Bytes
    rest = map (λ (x : Bytes × Node). x.0) es

    at : firsts_size (put (slice_cmp nat_cmp) k v es) ≤ firsts_size es + length k → (o : Ordering) → slice_cmp nat_cmp k e.0 ≡ o → firsts_size (put (slice_cmp nat_cmp) k v (e ∷ es)) ≤ firsts_size (e ∷ es) + length k
    at h Less is = rw is (omega (arith, sum_by-cons length k (e.0 ∷ rest)))
    at h Equal is = rw is (omega arith)
    at h Greater is = rw is (omega (arith, h, sum_by-cons length e.0 rest, sum_by-cons length e.0 (map (λ (x : Bytes × Node). x.0) (put (slice_cmp nat_cmp) k v es))))

insert-least : (m : Tree) (k : Bytes) (v : Node) → keys_size m ≤ keys_size (insert m k v)
insert-least m k v = subst (λ (es : List (Bytes × Node)). keys_size m ≤ firsts_size es) (sym (entries-insert nat_list_cmp_total m k v)) (put-least k v (entries m))

insert-most : (m : Tree) (k : Bytes) (v : Node) → keys_size (insert m k v) ≤ keys_size m + length k
insert-most m k v = subst (λ (es : List (Bytes × Node)). firsts_size es ≤ keys_size m + length k) (sym (entries-insert nat_list_cmp_total m k v)) (put-most k v (entries m))

remove-most : (m : Tree) (k : Bytes) → keys_size (remove m k) ≤ keys_size m
remove-most m k = at (get m k) refl
  where
    back : (v : Node) → get m k ≡ Some v → insert (remove m k) k v ≡ m
    back v there = ext (insert (remove m k) k v) m (λ r. ⊎_elim
        (λ e. subst (λ (x : Bytes). get (insert (remove m k) k v) x ≡ get m x) (sym e) (get-insert_same (remove m k) k v ∙ sym there))
        (λ far. get-insert_other (remove m k) k r v far ∙ get-remove_other m k r far)
        (either r k))

    at : (o : Option Node) → get m k ≡ o → keys_size (remove m k) ≤ keys_size m
    at None e = subst (λ (t : Tree). keys_size t ≤ keys_size m) (sym (remove-absent m k e)) (omega arith)
    at (Some v) e = subst (λ (t : Tree). keys_size (remove m k) ≤ keys_size t) (back v e) (insert-least (remove m k) k v)

-- ---- the paths of a session's nodes

abbrev pub path_load : Tree → ℤ → ℕ
path_load t o = sum_by length (owned t o)

some_owned : (o : ℤ) (a b : Node) → a.owner ≡ b.owner → is_some (if_owned o (Some a)) ≡ is_some (if_owned o (Some b))
some_owned o a b same = at (int_eq a.owner o) refl
  where
    at : (c : Bool) → int_eq a.owner o ≡ c → is_some (cond (int_eq a.owner o) (Some a) None) ≡ is_some (cond (int_eq b.owner o) (Some b) None)
    at true e = ap (λ x. is_some (cond x (Some a) None)) e ∙ sym (ap (λ x. is_some (cond x (Some b) None)) (ap (λ (y : ℤ). int_eq y o) (sym same) ∙ e))
    at false e = ap (λ x. is_some (cond x (Some a) None)) e ∙ sym (ap (λ x. is_some (cond x (Some b) None)) (ap (λ (y : ℤ). int_eq y o) (sym same) ∙ e))

load-change : (t : Tree) (k : Bytes) (v old : Node) (o : ℤ) → get t k ≡ Some old → v.owner ≡ old.owner → path_load (insert t k v) o ≡ path_load t o
load-change t k v old o there same = ap (λ (l : List Bytes). sum_by length l) (same-keys (owned_by (insert t k v) o) (owned_by t o) (λ r. ⊎_elim
    (λ e. subst (λ (x : Bytes). is_some (get (owned_by (insert t k v) o) x) ≡ is_some (get (owned_by t o) x)) (sym e)
    (ap (λ (n : Option Node). is_some n) (get-owned_as (insert t k v) o k (Some v) (get-insert_same t k v)) ∙ some_owned o v old same ∙ sym (ap (λ (n : Option Node). is_some n) (get-owned_as t o k (Some old) there))))
    (λ far. ap (λ (n : Option Node). is_some n) (get-owned_as (insert t k v) o r (get t r) (get-insert_other t k r v far) ∙ sym (get-owned t o r)))
    (either r k)))

load-new : (t : Tree) (k : Bytes) (v : Node) (o : ℤ) → get t k ≡ None → path_load (insert t k v) o ≤ path_load t o + (if int_eq v.owner o then length k else 0)
load-new t k v o none = at (int_eq v.owner o) refl
  where
    own-in : int_eq v.owner o ≡ true → owned_by (insert t k v) o ≡ insert (owned_by t o) k v
    own-in inside = ext (owned_by (insert t k v) o) (insert (owned_by t o) k v) (λ r. ⊎_elim
        (λ e. subst (λ (x : Bytes). get (owned_by (insert t k v) o) x ≡ get (insert (owned_by t o) k v) x) (sym e)
        (get-owned_as (insert t k v) o k (Some v) (get-insert_same t k v) ∙ ap (λ b. cond b (Some v) None) inside ∙ sym (get-insert_same (owned_by t o) k v)))
        (λ far. get-owned_as (insert t k v) o r (get t r) (get-insert_other t k r v far) ∙ sym (get-owned t o r) ∙ sym (get-insert_other (owned_by t o) k r v far))
        (either r k))

    own-out : int_eq v.owner o ≡ false → owned_by (insert t k v) o ≡ owned_by t o
    own-out out = ext (owned_by (insert t k v) o) (owned_by t o) (λ r. ⊎_elim
        (λ e. subst (λ (x : Bytes). get (owned_by (insert t k v) o) x ≡ get (owned_by t o) x) (sym e)
        (get-owned_as (insert t k v) o k (Some v) (get-insert_same t k v) ∙ ap (λ b. cond b (Some v) None) out ∙ sym (get-owned_as t o k None none)))
        (λ far. get-owned_as (insert t k v) o r (get t r) (get-insert_other t k r v far) ∙ sym (get-owned t o r))
        (either r k))

    at : (b : Bool) → int_eq v.owner o ≡ b → path_load (insert t k v) o ≤ path_load t o + (if b then length k else 0)
    at true e = subst (λ (m : Tree). keys_size m ≤ path_load t o + length k) (sym (own-in e)) (insert-most (owned_by t o) k v)
    at false e = subst (λ (m : Tree). keys_size m ≤ path_load t o + 0) (sym (own-out e)) (omega arith)

load-gone : (t : Tree) (k : Bytes) (o : ℤ) → path_load (remove t k) o ≤ path_load t o
load-gone t k o = subst (λ (m : Tree). keys_size m ≤ path_load t o) (sym own-gone) (remove-most (owned_by t o) k)
  where
    own-gone : owned_by (remove t k) o ≡ remove (owned_by t o) k
    own-gone = ext (owned_by (remove t k) o) (remove (owned_by t o) k) (λ r. ⊎_elim
        (λ e. subst (λ (x : Bytes). get (owned_by (remove t k) o) x ≡ get (remove (owned_by t o) k) x) (sym e)
        (get-owned_as (remove t k) o k None (get-remove_same t k) ∙ sym (get-remove_same (owned_by t o) k)))
        (λ far. get-owned_as (remove t k) o r (get t r) (get-remove_other t k r far) ∙ sym (get-owned t o r) ∙ sym (get-remove_other (owned_by t o) k r far))
        (either r k))

-- ---- each part adds one path at most, to the nodes of its session

abbrev pub spare : ℤ → ℤ → ℕ → ℕ
spare id o n = if int_eq id o then 1024 * n else 0

abbrev pub Bears : Tree → ℤ → ℕ → Tree → Type 0
Bears first id n t = (o : ℤ) → (o ≡ pos 0 → ⊥) → path_load t o ≤ path_load first o + spare id o n

module _ (first : Tree) (id : ℤ) (n : ℕ) (t : Tree) (bears : Bears first id n t) where
  more : (b : Bool) → (if b then 1024 * n else 0) ≤ (if b then 1024 * suc n else 0)
  more true = omega arith
  more false = omega arith

  lighter : (u : Tree) → ((o : ℤ) → path_load u o ≤ path_load t o) → Bears first id (suc n) u
  lighter u less o owns = let a = less o in let b = bears o owns in let c = more (int_eq id o) in omega (arith, a, b, c)

  module _ (limit : ℕ) (z : ℤ) (now : ℕ) where
    module _ (flags : ℤ) (content path : Bytes) (short : (up : Node) → length (made_path flags path up) ≤ 1024) where
      abbrev owner : ℤ
      owner = if is_ephemeral flags then id else pos 0

      added : (b : Bool) (o : ℤ) (k : ℕ) → (o ≡ pos 0 → ⊥) → k ≤ 1024 → (if int_eq (if b then id else pos 0) o then k else 0) + spare id o n ≤ spare id o (suc n)
      added true o k owns le = at (int_eq id o)
        where
          at : (c : Bool) → (if c then k else 0) + (if c then 1024 * n else 0) ≤ (if c then 1024 * suc n else 0)
          at true = omega (arith, le)
          at false = omega arith
      added false o k owns le = at (int_eq (pos 0) o) refl
        where
          at : (c : Bool) → int_eq (pos 0) o ≡ c → (if c then k else 0) + spare id o n ≤ spare id o (suc n)
          at true e = absurd (owns (sym ((Decides-int_eq (pos 0) o).0 e)))
          at false e = let h = more (int_eq id o) in omega (arith, h)

      grown : (q p : Bytes) (up fresh : Node) → get t q ≡ Some up → parent p ≡ Some q → get t p ≡ None → fresh.owner ≡ owner → length p ≤ 1024 → Bears first id (suc n) (insert (insert t q (with_child up z)) p fresh)
      grown q p up fresh there below none mine le o owns =
          let between : path_load (insert t q (with_child up z)) o ≡ path_load t o = load-change t q (with_child up z) up o there refl in
          let a = load-new (insert t q (with_child up z)) p fresh o (get-insert_other t q p (with_child up z) (apart_from_parent p q below) ∙ none) in
          let owned_as : (if int_eq fresh.owner o then length p else 0) ≡ (if int_eq owner o then length p else 0) = ap (λ (i : ℤ). if int_eq i o then length p else 0) mine in
          let b = bears o owns in
          let c = added (is_ephemeral flags) o (length p) owns le in
          omega (arith, between, a, owned_as, b, c)

      node_bears : (q : Bytes) (up : Node) (o : Option Node) → parent (named flags path) ≡ Some q → get t q ≡ Some up → get t (made_path flags path up) ≡ o → Leads (Bears first id (suc n)) (create_node t limit id flags content z now q up (made_path flags path up) o)
      node_bears q up (Some old) below there is = tt
      node_bears q up None below there is =
          unless (Bears first id (suc n)) (not (int_eq up.owner (pos 0))) _ _
          (unless (Bears first id (suc n)) (is_full t limit id flags up) _ _
          (grown q (made_path flags path up) up (new_node content owner z now) there (made_below flags path q up below) is refl (short up)))

      under_bears : (q : Bytes) (o : Option Node) → parent (named flags path) ≡ Some q → get t q ≡ o → Leads (Bears first id (suc n)) (create_under t limit id flags content z now path q o)
      under_bears q None below is = tt
      under_bears q (Some up) below is = node_bears q up (get t (made_path flags path up)) below is refl

      create_bears : (o : Option Bytes) → parent (named flags path) ≡ o → Leads (Bears first id (suc n)) (create_at t limit id flags content z now path o)
      create_bears None is = tt
      create_bears (Some q) is = under_bears q (get t q) is refl

    without_bears : (p q : Bytes) (o : Option Node) → parent p ≡ Some q → get t q ≡ o → Bears first id (suc n) (removed_under t p z (Some q) o)
    without_bears p q None below is = lighter (remove t p) (load-gone t p)
    without_bears p q (Some up) below is = lighter (insert (remove t p) q (without_child up z)) (λ o.
        let same = load-change (remove t p) q (without_child up z) up o (get-remove_other t p q (λ e. apart_from_parent p q below (sym e)) ∙ is) refl in
        let less = load-gone t p o in
        omega (arith, same, less))

    removed_bears : (p : Bytes) (o : Option Bytes) → parent p ≡ o → Bears first id (suc n) (removed_under t p z o (at_parent t o))
    removed_bears p None is = lighter (remove t p) (load-gone t p)
    removed_bears p (Some q) is = without_bears p q (get t q) is refl

    delete_bears : (p : Bytes) (version : ℤ) (o : Option Node) → Leads (Bears first id (suc n)) (delete t p version z o)
    delete_bears p version None = tt
    delete_bears p version (Some x) =
        unless (Bears first id (suc n)) (not (matches version x.version)) _ _ (unless (Bears first id (suc n)) (not (num_children t p == 0)) _ _ (removed_bears p (parent p) refl))

    set_bears : (p content : Bytes) (version : ℤ) (o : Option Node) → get t p ≡ o → Leads (Bears first id (suc n)) (set_data t p content version z now o)
    set_bears p content version None is = tt
    set_bears p content version (Some x) is =
        unless (Bears first id (suc n)) (not (matches version x.version)) _ _ (unless (Bears first id (suc n)) (int_eq x.version max_version) _ _
        (lighter (insert t p (with_content x content z now)) (λ o. let same = load-change t p (with_content x content z now) x o is refl in omega (arith, same))))

    check_bears : (version : ℤ) (o : Option Node) → Leads (Bears first id (suc n)) (check t version o)
    check_bears version None = tt
    check_bears version (Some x) = unless (Bears first id (suc n)) (not (matches version x.version)) _ _ (lighter t (λ o. omega arith))

    effect_bears : (p : Part) → form_refusal p ≡ None → Leads (Bears first id (suc n)) (effect t limit id p z now)
    unfolding effect
    effect_bears (Create path content acl flags) form = create_bears flags content path
        (λ up. path_short (made_path flags path up) (valid_path path content acl flags form (create_path_valid path content acl flags form) (nat_abs up.creates))) (parent (named flags path)) refl
    effect_bears (Delete path version) form = delete_bears path version (get t path)
    effect_bears (SetData path content version) form = set_bears path content version (get t path) refl
    effect_bears (Check path version) form = check_bears version (get t path)

    pub single_bears : (p : Part) → Leads (Bears first id (suc n)) (single t limit id p z now)
    unfolding single
    single_bears p = leads_of (Bears first id (suc n)) (form_refusal p) (effect t limit id p z now) (λ form. effect_bears p form)

pub bears_start : (first : Tree) (id : ℤ) → Bears first id 0 first
bears_start first id o owns = omega arith
