-- Groups of paths after a change of the tree.
use Rattle.std.proofs.Common.{◌≡◌, ◌≢◌, ℤ, Bool, true, false, cond, not, Option, Some, None, length, List, [], ◌∷◌, refl, sym, ap, ◌∙◌, subst, map, ⊎_elim}
use Rattle.std.specs.declared.cmp.Ordering.TheVariants.{Less, Equal, Greater}
use Rattle.std.specs.Cmp.Lexicographic.{nat_list_cmp_total}
use Rattle.std.specs.List.{filter}
use Rattle.std.specs.Prelude.{option_map}
use Rattle.std.specs.Ordering.{int_cmp, int_eq}
use Rattle.std.specs.BTreeMap as btree
use Rattle.std.specs.BTreeMap.{is_at}
use Rattle.std.specs.Map.{lookup}
use Rattle.std.specs.FinMap.{empty, get, get-empty, insert, remove, keys, len, len-entries, entries, entries_sorted, entries-insert, retain_keys, same_entries_map}
use Rattle.std.specs.FinMap.Entries.{put, by_order, is_sorted}
use Rattle.std.proofs.lemmas.Bool.Decides.{Decides-int_eq}
use Rattle.std.proofs.lemmas.List.{length-map}
use Rattle.zx_base.specs.Maps.{Bytes, Map, same}
use Rattle.zx_base.proofs.MapLaws.{ext, either, same-refl, same-false, get-retain, get-insert_same, get-insert_other, get-remove_same, get-remove_other, retain-insert_in, retain-insert_out, retain-remove, remove-absent}
use Rattle.zk_model.specs.declared.node.Node.{Node}
use Rattle.zk_model.specs.Paths.{parent, is_child, is_at_path}
use Rattle.zk_model.specs.Znodes.{Tree, below, children, num_children, owned, owned_by, is_owner}
use Rattle.zk_model.proofs.Paths.{is_child-yes, is_child-no}
use Rattle.zk_service.proofs.Owned.{get-owned, get-owned_as, owned_by-gone}
use Rattle.zk_machine.specs.Entries.{order, Entries, map_of}
use Rattle.zk_machine.specs.Writes.{owner_at}
use Rattle.zk_machine.specs.Groups.{Group, Families, Owners, family, group_of, owned_group, HasFamilies, HasOwners, HasFamily, HasOwner}
use Rattle.zk_machine.proofs.EntryLaws.{entries-empty, entries-map, others, remove-map, sorted-where}
use Rattle.zx_base.proofs.Booleans.{true-from_T}
use Rattle.zx_base.proofs.Options.{cond-none, none_some}

-- ---- keys after a change

-- some keys in order, and one more in its place
abbrev pub put_key : Bytes → List Bytes → List Bytes
put_key k [] = k ∷ []
put_key k (x ∷ xs) = by_order (order k x) (k ∷ x ∷ xs) (x ∷ xs) (x ∷ put_key k xs)

abbrev pub other_keys : Bytes → List Bytes → List Bytes
other_keys k = filter (λ p. not (same p k))

module _ {X : Type 0} where
  keys-put : (k : Bytes) (v : X) (es : Entries X) → map (λ (e : Bytes × X). e.0) (put order k v es) ≡ put_key k (map (λ (e : Bytes × X). e.0) es)
  keys-put k v [] = refl
  keys-put k v (e ∷ es) =
      elim (order k e.0) as (λ r. map (λ (x : Bytes × X). x.0) (by_order r ((k, v) ∷ e ∷ es) ((e.0, v) ∷ es) (e ∷ put order k v es))
      ≡ by_order r (k ∷ e.0 ∷ map (λ (x : Bytes × X). x.0) es) (e.0 ∷ map (λ (x : Bytes × X). x.0) es) (e.0 ∷ put_key k (map (λ (x : Bytes × X). x.0) es))) [
        | Less ↦ refl
        | Equal ↦ refl
        | Greater ↦ ap (λ (ks : List Bytes). e.0 ∷ ks) (keys-put k v es)
      ]

  pub keys-insert : (m : Map X) (k : Bytes) (v : X) → keys (insert m k v) ≡ put_key k (keys m)
  keys-insert m k v = ap (λ (es : Entries X). map (λ (e : Bytes × X). e.0) es) (entries-insert nat_list_cmp_total m k v) ∙ keys-put k v (entries m)

  keys-others : (k : Bytes) (es : Entries X) → map (λ (e : Bytes × X). e.0) (others k es) ≡ other_keys k (map (λ (e : Bytes × X). e.0) es)
  keys-others k [] = refl
  keys-others k (e ∷ es) =
      elim (not (same e.0 k)) as (λ b. map (λ (x : Bytes × X). x.0) (cond b (e ∷ others k es) (others k es)) ≡ cond b (e.0 ∷ other_keys k (map (λ (x : Bytes × X). x.0) es)) (other_keys k (map (λ (x : Bytes × X). x.0) es))) [
        | true ↦ ap (λ (ks : List Bytes). e.0 ∷ ks) (keys-others k es)
        | false ↦ keys-others k es
      ]

  in_order : (m : Map X) → is_sorted order (entries m) ≡ true
  in_order m = true-from_T _ (entries_sorted m)

  map_of-entries : (m : Map X) → map_of (entries m) ≡ m
  map_of-entries m = same_entries_map _ _ (entries-map (entries m) (in_order m))

  entries-remove : (m : Map X) (k : Bytes) → entries (remove m k) ≡ others k (entries m)
  entries-remove m k =
      ap (λ (x : Map X). entries (remove x k)) (sym (map_of-entries m)) ∙ ap (λ (x : Map X). entries x) (sym (remove-map k (entries m) (in_order m)))
      ∙ entries-map (others k (entries m)) (sorted-where (λ p. not (same p k)) (entries m) (in_order m))

  pub keys-remove : (m : Map X) (k : Bytes) → keys (remove m k) ≡ other_keys k (keys m)
  keys-remove m k = ap (λ (es : Entries X). map (λ (e : Bytes × X). e.0) es) (entries-remove m k) ∙ keys-others k (entries m)

  -- a key that is put again
  put_again : (m : Map X) (k : Bytes) (old : X) → get m k ≡ Some old → insert m k old ≡ m
  put_again m k old there = ext _ _ (λ q. ⊎_elim
      (λ (e : q ≡ k). ap (get (insert m k old)) e ∙ get-insert_same m k old ∙ sym (ap (get m) e ∙ there))
      (λ (a : q ≢ k). get-insert_other m k q old a)
      (either q k))

  keys-same : (m : Map X) (k : Bytes) (old v : X) → get m k ≡ Some old → keys (insert m k v) ≡ keys m
  keys-same m k old v there = keys-insert m k v ∙ sym (keys-insert m k old) ∙ ap (λ (n : Map X). keys n) (put_again m k old there)

  pub len-keys : (m : Map X) → len m ≡ length (keys m)
  len-keys m = len-entries m ∙ sym (length-map (entries m) (λ (e : Bytes × X). e.0))

-- ---- one group that changed

changed : (b : Bool) → b ≡ true → (g h : Group) → cond b g h ≡ g
changed true e g h = refl
changed false e g h = absurd (cc)

kept : (b : Bool) → b ≡ false → (g h : Group) → cond b g h ≡ h
kept true e g h = absurd (cc)
kept false e g h = refl

-- ---- children

no_child : (path p : Bytes) → parent path ≡ None → is_child p path ≡ false
unfolding is_child
no_child path p none = ap (λ o. is_at_path o p) none

pub none_below : (t : Tree) (p q : Bytes) → is_child p q ≡ false → get (below t p) q ≡ None
none_below t p q h = get-retain t (is_child p) q ∙ ap (λ b. cond b (get t q) None) h

-- a put at a path that is no child of p leaves the children of p as they were
children-put_other : (t : Tree) (p q : Bytes) (n : Node) → is_child p q ≡ false → children (insert t q n) p ≡ children t p
children-put_other t p q n h = ap (λ (x : Tree). keys x) (retain-insert_out t (is_child p) q n h)

children-gone_other : (t : Tree) (p q : Bytes) → is_child p q ≡ false → children (remove t q) p ≡ children t p
children-gone_other t p q h = ap (λ (x : Tree). keys x) (retain-remove t (is_child p) q ∙ remove-absent (below t p) q (none_below t p q h))

pub families-put_root : (t : Tree) (m : Families) (q : Bytes) (n : Node) → parent q ≡ None → HasFamilies t m → HasFamilies (insert t q n) m
families-put_root t m q n none has = λ p. has p ∙ sym (children-put_other t p q n (no_child q p none))

pub families-gone_root : (t : Tree) (m : Families) (q : Bytes) → parent q ≡ None → HasFamilies t m → HasFamilies (remove t q) m
families-gone_root t m q none has = λ p. has p ∙ sym (children-gone_other t p q (no_child q p none))

pub families-put : (t : Tree) (m u : Families) (q r : Bytes) (n : Node) → parent q ≡ Some r → HasFamily m u r (insert (family m r) q tt) → HasFamilies t m → HasFamilies (insert t q n) u
families-put t m u q r n is changes has = λ p. ⊎_elim
    (λ (e : p ≡ r). subst (λ (x : Bytes). keys (family u x) ≡ children (insert t q n) x) (sym e)
    (ap (λ (g : Group). keys g) (changes r ∙ changed _ (same-refl r) _ _) ∙ keys-insert (family m r) q tt ∙ ap (put_key q) (has r)
    ∙ sym (keys-insert (below t r) q n) ∙ ap (λ (x : Tree). keys x) (sym (retain-insert_in t (is_child r) q n (is_child-yes q r is)))))
    (λ (a : p ≢ r). ap (λ (g : Group). keys g) (changes p ∙ kept _ (same-false p r a) _ _) ∙ has p ∙ sym (children-put_other t p q n (is_child-no q p r is (λ e. a (sym e)))))
    (either p r)

pub families-gone : (t : Tree) (m u : Families) (q r : Bytes) → parent q ≡ Some r → HasFamily m u r (remove (family m r) q) → HasFamilies t m → HasFamilies (remove t q) u
families-gone t m u q r is changes has = λ p. ⊎_elim
    (λ (e : p ≡ r). subst (λ (x : Bytes). keys (family u x) ≡ children (remove t q) x) (sym e)
    (ap (λ (g : Group). keys g) (changes r ∙ changed _ (same-refl r) _ _) ∙ keys-remove (family m r) q ∙ ap (other_keys q) (has r)
    ∙ sym (keys-remove (below t r) q) ∙ ap (λ (x : Tree). keys x) (sym (retain-remove t (is_child r) q))))
    (λ (a : p ≢ r). ap (λ (g : Group). keys g) (changes p ∙ kept _ (same-false p r a) _ _) ∙ has p ∙ sym (children-gone_other t p q (is_child-no q p r is (λ e. a (sym e)))))
    (either p r)

-- ---- nodes of sessions

pub owned_by-put : (t : Tree) (q : Bytes) (n : Node) (id : ℤ) → int_eq n.owner id ≡ true → owned_by (insert t q n) id ≡ insert (owned_by t id) q n
owned_by-put t q n id mine = ext _ _ (λ r. ⊎_elim
    (λ (e : r ≡ q). subst (λ (x : Bytes). get (owned_by (insert t q n) id) x ≡ get (insert (owned_by t id) q n) x) (sym e)
    (get-owned_as (insert t q n) id q (Some n) (get-insert_same t q n) ∙ ap (λ b. cond b (Some n) None) mine ∙ sym (get-insert_same (owned_by t id) q n)))
    (λ (a : r ≢ q). get-owned_as (insert t q n) id r (get t r) (get-insert_other t q r n a) ∙ sym (get-owned t id r) ∙ sym (get-insert_other (owned_by t id) q r n a))
    (either r q))

pub owned_by-put_out : (t : Tree) (q : Bytes) (n : Node) (id : ℤ) → int_eq n.owner id ≡ false → owned_by (insert t q n) id ≡ remove (owned_by t id) q
owned_by-put_out t q n id other = ext _ _ (λ r. ⊎_elim
    (λ (e : r ≡ q). subst (λ (x : Bytes). get (owned_by (insert t q n) id) x ≡ get (remove (owned_by t id) q) x) (sym e)
    (get-owned_as (insert t q n) id q (Some n) (get-insert_same t q n) ∙ ap (λ b. cond b (Some n) None) other ∙ sym (get-remove_same (owned_by t id) q)))
    (λ (a : r ≢ q). get-owned_as (insert t q n) id r (get t r) (get-insert_other t q r n a) ∙ sym (get-owned t id r) ∙ sym (get-remove_other (owned_by t id) q r a))
    (either r q))

owned_by-put_other : (t : Tree) (q : Bytes) (n : Node) (id : ℤ) → get t q ≡ None → int_eq n.owner id ≡ false → owned_by (insert t q n) id ≡ owned_by t id
owned_by-put_other t q n id none other = owned_by-put_out t q n id other ∙ remove-absent (owned_by t id) q (get-owned_as t id q None none)

owned_by-gone_other : (t : Tree) (q : Bytes) (n : Node) (id : ℤ) → get t q ≡ Some n → int_eq n.owner id ≡ false → owned_by (remove t q) id ≡ owned_by t id
owned_by-gone_other t q n id there other =
    owned_by-gone t q id ∙ remove-absent (owned_by t id) q (get-owned_as t id q (Some n) there ∙ ap (λ b. cond b (Some n) None) other)

pub owners-put : (t : Tree) (m u : Owners) (q : Bytes) (n : Node) → get t q ≡ None → HasOwner m u n.owner (insert (owned_group m n.owner) q tt) → HasOwners t m → HasOwners (insert t q n) u
owners-put t m u q n none changes has = λ id. by_owner id (int_eq n.owner id) refl
  where
    by_owner : (id : ℤ) (b : Bool) → int_eq n.owner id ≡ b → keys (owned_group u id) ≡ owned (insert t q n) id
    by_owner id true e =
        ap (λ (g : Group). keys g) (changes id ∙ changed _ e _ _) ∙ keys-insert (owned_group m n.owner) q tt
        ∙ ap (put_key q) (has n.owner ∙ ap (owned t) ((Decides-int_eq n.owner id).0 e))
        ∙ sym (keys-insert (owned_by t id) q n) ∙ ap (λ (x : Tree). keys x) (sym (owned_by-put t q n id e))
    by_owner id false e = ap (λ (g : Group). keys g) (changes id ∙ kept _ e _ _) ∙ has id ∙ ap (λ (x : Tree). keys x) (sym (owned_by-put_other t q n id none e))

pub owners-gone : (t : Tree) (m u : Owners) (q : Bytes) (n : Node) → get t q ≡ Some n → HasOwner m u n.owner (remove (owned_group m n.owner) q) → HasOwners t m → HasOwners (remove t q) u
owners-gone t m u q n there changes has = λ id. by_owner id (int_eq n.owner id) refl
  where
    by_owner : (id : ℤ) (b : Bool) → int_eq n.owner id ≡ b → keys (owned_group u id) ≡ owned (remove t q) id
    by_owner id true e =
        ap (λ (g : Group). keys g) (changes id ∙ changed _ e _ _) ∙ keys-remove (owned_group m n.owner) q
        ∙ ap (other_keys q) (has n.owner ∙ ap (owned t) ((Decides-int_eq n.owner id).0 e))
        ∙ sym (keys-remove (owned_by t id) q) ∙ ap (λ (x : Tree). keys x) (sym (owned_by-gone t q id))
    by_owner id false e = ap (λ (g : Group). keys g) (changes id ∙ kept _ e _ _) ∙ has id ∙ ap (λ (x : Tree). keys x) (sym (owned_by-gone_other t q n id there e))

-- ---- a node in the place of another one of the same owner

children-put_there : (t : Tree) (p q : Bytes) (old n : Node) → get t q ≡ Some old → children (insert t q n) p ≡ children t p
children-put_there t p q old n there = at (is_child p q) refl
  where
    at : (b : Bool) → is_child p q ≡ b → children (insert t q n) p ≡ children t p
    at false e = children-put_other t p q n e
    at true e =
        ap (λ (x : Tree). keys x) (retain-insert_in t (is_child p) q n e)
        ∙ keys-same (below t p) q old n (get-retain t (is_child p) q ∙ (λ i. cond (e i) (there i) None))

pub families-put_there : (t u : Tree) (m : Families) (q : Bytes) (old n : Node) → u ≡ insert t q n → get t q ≡ Some old → HasFamilies t m → HasFamilies u m
families-put_there t u m q old n puts there has = λ p. has p ∙ sym (ap (λ (x : Tree). children x p) puts ∙ children-put_there t p q old n there)

pub owners-put_there : (t u : Tree) (m : Owners) (q : Bytes) (old n : Node) → u ≡ insert t q n → get t q ≡ Some old → old.owner ≡ n.owner → HasOwners t m → HasOwners u m
owners-put_there t u m q old n puts there same has = λ id. has id ∙ sym (ap (λ (x : Tree). owned x id) puts ∙ at id (int_eq n.owner id) refl)
  where
    old_at : (id : ℤ) (b : Bool) → int_eq n.owner id ≡ b → get (owned_by t id) q ≡ cond b (Some old) None
    old_at id b e = get-owned_as t id q (Some old) there ∙ ap (λ x. cond x (Some old) None) (ap (λ (o : ℤ). int_eq o id) same ∙ e)

    at : (id : ℤ) (b : Bool) → int_eq n.owner id ≡ b → owned (insert t q n) id ≡ owned t id
    at id true e = ap (λ (x : Tree). keys x) (owned_by-put t q n id e) ∙ keys-same (owned_by t id) q old n (old_at id true e)
    at id false e = ap (λ (x : Tree). keys x) (owned_by-put_out t q n id e ∙ remove-absent (owned_by t id) q (old_at id false e))

pub groups-put_there : (t u : Tree) (fs : Families) (os : Owners) (q : Bytes) (n : Node) → u ≡ insert t q n → owner_at t q ≡ Some n.owner → HasFamilies t fs × HasOwners t os → HasFamilies u fs × HasOwners u os
groups-put_there t u fs os q n puts owner has = at (get t q) refl
  where
    some_same : (a b : ℤ) → Some a ≡ Some b → a ≡ b
    some_same a b e = cc

    at : (o : Option Node) → get t q ≡ o → HasFamilies u fs × HasOwners u os
    at None there = absurd (none_some (sym (ap (option_map (λ (x : Node). x.owner)) there) ∙ owner))
    at (Some old) there =
        let same : old.owner ≡ n.owner = some_same old.owner n.owner (sym (ap (option_map (λ (x : Node). x.owner)) there) ∙ owner) in
        (families-put_there t u fs q old n puts there has.0, owners-put_there t u os q old n puts there same has.1)

-- ---- a group that is put back, or is not kept any more

pub family-put : (m mid n : Families) (q : Bytes) (g h : Group) → mid ≡ remove m q → n ≡ insert mid q h → h ≡ g → HasFamily m n q g
family-put m mid n q g h removes puts is = λ p. ap (λ (x : Families). family x p) (puts ∙ ap (λ (x : Families). insert x q h) removes) ∙ ⊎_elim
    (λ (e : p ≡ q). subst (λ (x : Bytes). family (insert (remove m q) q h) x ≡ cond (same x q) g (family m x)) (sym e)
    (ap group_of (get-insert_same (remove m q) q h) ∙ is ∙ sym (changed _ (same-refl q) g (family m q))))
    (λ (a : p ≢ q). ap group_of (get-insert_other (remove m q) q p h a ∙ get-remove_other m q p a) ∙ sym (kept _ (same-false p q a) g (family m p)))
    (either p q)

pub family-gone : (m n : Families) (q : Bytes) (g : Group) → n ≡ remove m q → g ≡ empty → HasFamily m n q g
family-gone m n q g removes is = λ p. ap (λ (x : Families). family x p) removes ∙ ⊎_elim
    (λ (e : p ≡ q). subst (λ (x : Bytes). family (remove m q) x ≡ cond (same x q) g (family m x)) (sym e)
    (ap group_of (get-remove_same m q) ∙ sym is ∙ sym (changed _ (same-refl q) g (family m q))))
    (λ (a : p ≢ q). ap group_of (get-remove_other m q p a) ∙ sym (kept _ (same-false p q a) g (family m p)))
    (either p q)

pub owner-gone : (m n : Owners) (id : ℤ) (g : Group) → ((s : ℤ) → btree.get int_cmp n s ≡ cond (int_eq id s) None (btree.get int_cmp m s)) → g ≡ empty → HasOwner m n id g
owner-gone m n id g removes is = λ s. ap group_of (removes s) ∙ by s (int_eq id s)
  where
    by : (s : ℤ) (b : Bool) → group_of (cond b None (btree.get int_cmp m s)) ≡ cond b g (owned_group m s)
    by s true = sym is
    by s false = refl

-- nothing can be taken out of a group that is not kept
pub remove-nothing : (q : Bytes) (o : Option Group) → o ≡ None → remove (group_of o) q ≡ empty
remove-nothing q o none = ap (λ (x : Option Group). remove (group_of x) q) none ∙ remove-absent empty q (get-empty order q)

-- ---- what is read off a group

pub keys-empty : (X : Type 0) → keys (empty {X = X} {R = order}) ≡ []
keys-empty X = ap (map (λ (e : Bytes × X). e.0)) entries-empty

-- ---- no nodes

retain-nothing : (f : Bytes → Bool) → retain_keys (empty {X = Node} {R = order}) f ≡ empty
retain-nothing f = ext _ _ (λ q. get-retain empty f q ∙ ap (λ o. cond (f q) o None) (get-empty order q) ∙ cond-none (f q) ∙ sym (get-empty order q))

no_keys : (f : Bytes → Bool) → keys (retain_keys (empty {X = Node} {R = order}) f) ≡ []
no_keys f = ap (λ (x : Tree). keys x) (retain-nothing f) ∙ keys-empty Node

pub families-none : (t : Tree) (m : Families) → t ≡ empty → m ≡ empty → HasFamilies t m
families-none t m no_nodes no_groups = λ p.
    ap (λ (x : Families). keys (family x p)) no_groups ∙ ap (λ (o : Option Group). keys (group_of o)) (get-empty order p) ∙ keys-empty (Unit {0})
    ∙ sym (ap (λ (x : Tree). children x p) no_nodes ∙ no_keys (is_child p))

pub owners-none : (t : Tree) (m : Owners) → t ≡ empty → m.entries ≡ [] → HasOwners t m
owners-none t m no_nodes no_groups = λ id.
    ap (λ (es : List (ℤ × Group)). keys (group_of (lookup (is_at (int_cmp id)) es))) no_groups ∙ keys-empty (Unit {0})
    ∙ sym (ap (λ (x : Tree). owned x id) no_nodes ∙ no_keys (λ p. is_owner id (get empty p)))

pub family-children : (t u : Tree) (m : Families) (p : Bytes) (o : Option Group) → HasFamilies t m → t ≡ u → o ≡ get m p → keys (group_of o) ≡ children u p
family-children t u m p o has same is = ap (λ (x : Option Group). keys (group_of x)) is ∙ has p ∙ ap (λ (x : Tree). children x p) same

pub family-len : (t u : Tree) (m : Families) (p : Bytes) (o : Option Group) → HasFamilies t m → t ≡ u → o ≡ get m p → len (group_of o) ≡ num_children u p
family-len t u m p o has same is = len-keys (group_of o) ∙ ap length (family-children t u m p o has same is) ∙ sym (len-keys (below u p))

pub owner-owned : (t u : Tree) (m : Owners) (id : ℤ) (o : Option Group) → HasOwners t m → t ≡ u → o ≡ btree.get int_cmp m id → keys (group_of o) ≡ owned u id
owner-owned t u m id o has same is = ap (λ (x : Option Group). keys (group_of x)) is ∙ has id ∙ ap (λ (x : Tree). owned x id) same

pub owner-len : (t u : Tree) (m : Owners) (id : ℤ) (o : Option Group) → HasOwners t m → t ≡ u → o ≡ btree.get int_cmp m id → len (group_of o) ≡ length (owned u id)
owner-len t u m id o has same is = len-keys (group_of o) ∙ ap length (owner-owned t u m id o has same is)
