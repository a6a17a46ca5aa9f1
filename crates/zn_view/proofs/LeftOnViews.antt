-- What the parts of a multi leave on a view, they leave on every view that sees more. So a view determines it.
use Rattle.std.proofs.Common.{◌≡◌, ℕ, ℤ, pos, Bool, true, false, List, [], ◌∷◌, length, Option, Some, None, refl, sym, ap, ◌∙◌, subst, ◌-◌, ◌⊎◌, inl, inr}
use Rattle.std.specs.Prelude.{MatchOption, int_lt, is_some, nat_abs, option_map, if◌then◌else◌}
use Rattle.std.proofs.lemmas.Bool.{and_from, and_parts, true≢false}
use Rattle.ev_types.specs.declared.answer.Kv.{Kv}
use Rattle.zk_model.specs.declared.request.Part.{Part}
use Rattle.zk_model.specs.declared.request.Part.TheVariants as part
use Rattle.zk_model.specs.Limits.{max_owned}
use Rattle.zk_model.specs.Paths.{is_child, parent}
use Rattle.zk_model.specs.Single.{form_refusal, is_ephemeral, is_sequential, named}
use Rattle.zx_base.specs.Maps.{Bytes, same}
use Rattle.zx_base.proofs.Options.{some_is, some_none}
use Rattle.zn_layout.specs.declared.record.CountRec.{CountRec}
use Rattle.zn_layout.specs.declared.record.NodeRec.{NodeRec}
use Rattle.zn_layout.specs.declared.record.SessionRec.{SessionRec}
use Rattle.zn_layout.specs.Begin.{first_counts}
use Rattle.zn_layout.specs.Counts.{one_less, one_more}
use Rattle.zn_layout.specs.Keys.{Key, CountsKey, DataKey, SessionKey, key_bytes}
use Rattle.zn_layout.proofs.ListRecords.{session_value-injective}
use Rattle.zn_layout.proofs.Nodes.{counts_value-injective, node_value-injective}
use Rattle.zn_view.specs.declared.leaving.NodeNow.{NodeNow}
use Rattle.zn_view.specs.declared.leaving.TreeChange.{TreeChange}
use Rattle.zn_view.specs.declared.leaving.TreeChange.TheVariants.{Created, Deleted, DataSet}
use Rattle.zn_view.specs.Leaving.{are_seen, counted, counts_after, counts_with, create_change, delete_change, is_checked, is_owner_seen, node_after, node_now, node_path, node_with, room_after, owner_of, set_change, set_once, with_change, AreCountsNow, AreCountsShown, CheckLeaves, CreateLeaves, DeleteLeaves, IsLeft, IsLeftBy, IsNodeNow, IsNodeShown, IsRoomFor, IsRoomNow, IsRoomShown, NodeLeaves, PartLeaves, SetLeaves}
use Rattle.zn_view.specs.Seen.{View, seen}
use Rattle.zn_view.specs.Views.{counts_of_parent}

-- ---- known there too, or not known yet

abbrev pub Sooner : {A : Type 0} → Option A → Option A → Type 0
Sooner a b = (a ≡ None) ⊎ (a ≡ b)

map_sooner : {A B : Type 0} (f : A → B) (a b : Option A) → Sooner a b → Sooner (option_map f a) (option_map f b)
map_sooner f a b (inl e) = inl (ap (option_map f) e)
map_sooner f a b (inr e) = inr (ap (option_map f) e)

moved : {A : Type 0} (a b x y : Option A) → a ≡ x → b ≡ y → Sooner x y → Sooner a b
moved a b x y e f (inl h) = inl (e ∙ h)
moved a b x y e f (inr h) = inr (e ∙ h ∙ sym f)

if_sooner : {A : Type 0} (b c : Bool) (x : Option A) → (b ≡ true → c ≡ true) → Sooner (if b then x else None) (if c then x else None)
if_sooner false c x h = inl refl
if_sooner true c x h = inr (ap (λ d. if d then x else None) (sym (h refl)))

-- ---- after a change

test_sooner : {A : Type 0} (b : Bool) (x a c : Option A) → Sooner a c → Sooner (if b then x else a) (if b then x else c)
test_sooner true x a c h = inr refl
test_sooner false x a c h = h

mapped_sooner : {A : Type 0} (b : Bool) (f : A → A) (a c : Option A) → Sooner a c → Sooner (if b then option_map f a else a) (if b then option_map f c else c)
mapped_sooner true f a c h = map_sooner f a c h
mapped_sooner false f a c h = h

node_with_sooner : (p : Bytes) (e : TreeChange) (a b : Option (Option NodeNow)) → Sooner a b → Sooner (node_with p a e) (node_with p b e)
node_with_sooner p (Created q owner) a b h = test_sooner (same q p) _ a b h
node_with_sooner p (Deleted q owner) a b h = test_sooner (same q p) _ a b h
node_with_sooner p (DataSet q) a b h = mapped_sooner (same q p) (option_map set_once) a b h

counts_with_sooner : (p : Bytes) (e : TreeChange) (a b : Option (Option CountRec)) → Sooner a b → Sooner (counts_with p a e) (counts_with p b e)
counts_with_sooner p (Created q owner) a b h = test_sooner (same q p) _ _ _ (mapped_sooner (is_child p q) (option_map one_more) a b h)
counts_with_sooner p (Deleted q owner) a b h = test_sooner (same q p) _ _ _ (mapped_sooner (is_child p q) (option_map one_less) a b h)
counts_with_sooner p (DataSet q) a b h = h

node_after_sooner : (p : Bytes) (changes : List TreeChange) (a b : Option (Option NodeNow)) → Sooner a b → Sooner (node_after changes p a) (node_after changes p b)
node_after_sooner p [] a b h = h
node_after_sooner p (e ∷ changes) a b h = node_after_sooner p changes (node_with p a e) (node_with p b e) (node_with_sooner p e a b h)

counts_after_sooner : (p : Bytes) (changes : List TreeChange) (a b : Option (Option CountRec)) → Sooner a b → Sooner (counts_after changes p a) (counts_after changes p b)
counts_after_sooner p [] a b h = h
counts_after_sooner p (e ∷ changes) a b h = counts_after_sooner p changes (counts_with p a e) (counts_with p b e) (counts_with_sooner p e a b h)

counted_sooner : (n m : Option (Option NodeNow)) (c d : Option (Option CountRec)) → Sooner n m → Sooner c d → Sooner (counted n c) (counted m d)
counted_sooner n m c d h (inl e) = inl (ap (counted n) e)
counted_sooner n m c d h (inr e) = subst (λ (x : Option (Option CountRec)). Sooner (counted n c) (counted m x)) e (same_counts c)
  where
    same_counts : (x : Option (Option CountRec)) → Sooner (counted n x) (counted m x)
    same_counts None = inl refl
    same_counts (Some None) = map_sooner (option_map (λ (k : NodeNow). first_counts)) n m h
    same_counts (Some (Some x)) = inr refl

-- ---- what is shown is one

node_shown_same : (o : Option Kv) (a b : Option (Option NodeNow)) → IsNodeShown (Some o) a → IsNodeShown (Some o) b → a ≡ b
node_shown_same None a b h g = h ∙ sym g
node_shown_same (Some kv) a b (r, i, e) (t, j, f) = e ∙ ap (λ (y : NodeRec). Some (Some (node_now y.version y.owner))) (node_value-injective r t i.0 j.0 (sym i.1 ∙ j.1)) ∙ sym f

counts_shown_same : (o : Option Kv) (a b : Option (Option CountRec)) → AreCountsShown (Some o) a → AreCountsShown (Some o) b → a ≡ b
counts_shown_same None a b h g = h ∙ sym g
counts_shown_same (Some kv) a b (r, i, e) (t, j, f) = e ∙ ap (λ (y : CountRec). Some (Some y)) (counts_value-injective r t i.0 j.0 (sym i.1 ∙ j.1)) ∙ sym f

room_shown_same : (o : Option Kv) (a b : Option ℕ) → IsRoomShown (Some o) a → IsRoomShown (Some o) b → a ≡ b
room_shown_same None a b h g = h ∙ sym g
room_shown_same (Some kv) a b (r, i, e) (t, j, f) = e ∙ ap (λ (y : SessionRec). Some (max_owned y.layout - length y.paths)) (session_value-injective r t i.0 j.0 (sym i.1 ∙ j.1)) ∙ sym f

-- ---- changes, by what was looked up

with_change_sooner : (changes : List TreeChange) (a b : Option TreeChange) → Sooner a b → Sooner (with_change changes a) (with_change changes b)
with_change_sooner changes a b (inl e) = inl (ap (with_change changes) e)
with_change_sooner changes a b (inr e) = inr (ap (with_change changes) e)

module _ (p : Bytes) (owner : ℤ) where
  no_counts : (a : Option (Option NodeNow)) (c : Option (Option NodeNow)) (d : Option ℕ) → create_change p owner a None c d ≡ None
  no_counts None c d = refl
  no_counts (Some None) c d = refl
  no_counts (Some (Some up)) c d = refl

  no_node : (a : Option (Option NodeNow)) (b : Option (Option CountRec)) (d : Option ℕ) → create_change p owner a b None d ≡ None
  no_node None b d = refl
  no_node (Some None) b d = refl
  no_node (Some (Some up)) None d = refl
  no_node (Some (Some up)) (Some None) d = refl
  no_node (Some (Some up)) (Some (Some counts)) d = refl

  no_room : (a : Option (Option NodeNow)) (b : Option (Option CountRec)) (c : Option (Option NodeNow)) → create_change p owner a b c None ≡ None
  no_room None b c = refl
  no_room (Some None) b c = refl
  no_room (Some (Some up)) None c = refl
  no_room (Some (Some up)) (Some None) c = refl
  no_room (Some (Some up)) (Some (Some counts)) None = refl
  no_room (Some (Some up)) (Some (Some counts)) (Some None) = refl
  no_room (Some (Some up)) (Some (Some counts)) (Some (Some n)) = refl

  create_sooner : (a x : Option (Option NodeNow)) (b y : Option (Option CountRec)) (c z : Option (Option NodeNow)) (d w : Option ℕ) → Sooner a x → Sooner b y → Sooner c z → Sooner d w → Sooner (create_change p owner a b c d) (create_change p owner x y z w)
  create_sooner a x b y c z d w (inl e) f g h = inl (ap (λ (o : Option (Option NodeNow)). create_change p owner o b c d) e)
  create_sooner a x b y c z d w (inr e) (inl f) g h = inl (ap (λ (o : Option (Option CountRec)). create_change p owner a o c d) f ∙ no_counts a c d)
  create_sooner a x b y c z d w (inr e) (inr f) (inl g) h = inl (ap (λ (o : Option (Option NodeNow)). create_change p owner a b o d) g ∙ no_node a b d)
  create_sooner a x b y c z d w (inr e) (inr f) (inr g) (inl h) = inl (ap (λ (o : Option ℕ). create_change p owner a b c o) h ∙ no_room a b c)
  create_sooner a x b y c z d w (inr e) (inr f) (inr g) (inr h) = inr (λ i. create_change p owner (e i) (f i) (g i) (h i))

path_sooner : (sequential : Bool) (path : Bytes) (a b : Option (Option CountRec)) → Sooner a b → Sooner (node_path sequential path a) (node_path sequential path b)
path_sooner false path a b h = inr refl
path_sooner true path a b (inl e) = inl (ap (node_path true path) e)
path_sooner true path a b (inr e) = inr (ap (node_path true path) e)

-- ---- a view, and one that sees more

module _ (v u : View) (grows : (k : Bytes) (o : Option Kv) → seen v k ≡ Some o → seen u k ≡ Some o) where
  by_seen : {A : Type 0} (R : Option (Option Kv) → Option A → Type 0) → ((a : Option A) → R None a → a ≡ None) → ((o : Option Kv) (a b : Option A) → R (Some o) a → R (Some o) b → a ≡ b)
      → (k : Bytes) (a b : Option A) → R (seen v k) a → R (seen u k) b → Sooner a b
  by_seen R none same k a b h g = at (seen v k) refl h
    where
      at : (o : Option (Option Kv)) → seen v k ≡ o → R o a → Sooner a b
      at None e i = inl (none a i)
      at (Some o) e i = inr (same o a b i (subst (λ w. R w b) (grows k o e) g))

  pub node_sooner : (changes : List TreeChange) (p : Bytes) (a b : Option (Option NodeNow)) → IsNodeNow v changes p a → IsNodeNow u changes p b → Sooner a b
  node_sooner changes p a b (x, s, e) (y, t, f) = moved a b _ _ e f (node_after_sooner p changes x y (by_seen IsNodeShown (λ c h. h) node_shown_same (key_bytes (DataKey p)) x y s t))

  pub counts_sooner : (changes : List TreeChange) (p : Bytes) (a b : Option (Option CountRec)) → AreCountsNow v changes p a → AreCountsNow u changes p b → Sooner a b
  counts_sooner changes p a b (n, x, r, s, e) (m, y, q, t, f) = moved a b _ _ e f (counts_after_sooner p changes (counted n x) (counted m y)
      (counted_sooner n m x y (by_seen IsNodeShown (λ c h. h) node_shown_same (key_bytes (DataKey p)) n m r q) (by_seen AreCountsShown (λ c h. h) counts_shown_same (key_bytes (CountsKey p)) x y s t)))

  room_sooner : (changes : List TreeChange) (id : ℤ) (a b : Option ℕ) → IsRoomNow v changes id a → IsRoomNow u changes id b → Sooner a b
  room_sooner changes id a b (x, s, e) (y, t, f) = moved a b _ _ e f (map_sooner (room_after changes id) x y (by_seen IsRoomShown (λ c h. h) room_shown_same (key_bytes (SessionKey (nat_abs id))) x y s t))

  for_sooner : (changes : List TreeChange) (ephemeral : Bool) (id : ℤ) (a b : Option ℕ) → IsRoomFor v changes ephemeral id a → IsRoomFor u changes ephemeral id b → Sooner a b
  for_sooner changes true id a b h g = room_sooner changes id a b h g
  for_sooner changes false id a b h g = inr (h ∙ sym g)

  still_seen : (k : Bytes) → is_some (seen v k) ≡ true → is_some (seen u k) ≡ true
  still_seen k = at (seen v k) refl
    where
      at : (o : Option (Option Kv)) → seen v k ≡ o → is_some o ≡ true → is_some (seen u k) ≡ true
      at None e h = absurd (true≢false (sym h))
      at (Some o) e h = ap (λ (w : Option (Option Kv)). is_some w) (grows k o e)

  all_still_seen : (ks : List Key) → are_seen v ks ≡ true → are_seen u ks ≡ true
  all_still_seen [] h = refl
  all_still_seen (k ∷ ks) h = let both = and_parts _ _ h in and_from _ _ (still_seen (key_bytes k) both.0) (all_still_seen ks both.1)

  owner_still_seen : (owner : ℤ) → is_owner_seen v owner ≡ true → is_owner_seen u owner ≡ true
  owner_still_seen owner = at (int_lt owner (pos 1))
    where
      at : (b : Bool) → (if b then true else is_some (seen v (key_bytes (SessionKey (nat_abs owner))))) ≡ true → (if b then true else is_some (seen u (key_bytes (SessionKey (nat_abs owner))))) ≡ true
      at true h = refl
      at false h = still_seen (key_bytes (SessionKey (nat_abs owner))) h

  -- ---- each part

  node_leaves_sooner : (changes : List TreeChange) (ephemeral : Bool) (id : ℤ) (up up' : Option (Option NodeNow)) (counts counts' : Option (Option CountRec)) (node node' : Option Bytes) (next next' : Option (List TreeChange))
      → Sooner up up' → Sooner counts counts' → Sooner node node' → NodeLeaves v changes ephemeral id up counts node next → NodeLeaves u changes ephemeral id up' counts' node' next' → Sooner next next'
  node_leaves_sooner changes ephemeral id up up' counts counts' None node' next next' a b c h g = inl h
  node_leaves_sooner changes ephemeral id up up' counts counts' (Some p) node' next next' a b (inl bad) h g = absurd (some_none bad)
  node_leaves_sooner changes ephemeral id up up' counts counts' (Some p) None next next' a b (inr bad) h g = absurd (some_none bad)
  node_leaves_sooner changes ephemeral id up up' counts counts' (Some p) (Some q) next next' a b (inr same) (there, owned, there_is, owned_is, is) g =
      let (there', owned', there_is', owned_is', is') = subst (λ (r : Bytes). NodeLeaves u changes ephemeral id up' counts' (Some r) next') (sym (some_is same)) g in
      moved next next' _ _ is is' (with_change_sooner changes _ _ (create_sooner p (owner_of ephemeral id) up up' counts counts' there there' owned owned' a b (node_sooner changes p there there' there_is there_is') (for_sooner changes ephemeral id owned owned' owned_is owned_is')))

  create_leaves_sooner : (changes : List TreeChange) (path : Bytes) (sequential ephemeral : Bool) (id : ℤ) (above : Option Bytes) (a b : Option (List TreeChange))
      → CreateLeaves v changes path sequential ephemeral id above a → CreateLeaves u changes path sequential ephemeral id above b → Sooner a b
  create_leaves_sooner changes path sequential ephemeral id None a b h g = inl h
  create_leaves_sooner changes path sequential ephemeral id (Some q) a b (up, counts, up_is, counts_are, leaves) (up', counts', up_is', counts_are', leaves') =
      let same = counts_sooner changes q counts counts' counts_are counts_are' in
      node_leaves_sooner changes ephemeral id up up' counts counts' (node_path sequential path counts) (node_path sequential path counts') a b (node_sooner changes q up up' up_is up_is') same (path_sooner sequential path counts counts' same) leaves leaves'

  module _ (p : Bytes) (version : ℤ) where
    delete_grows : (n : Option (Option NodeNow)) (counts : Option (Option CountRec)) → Sooner (delete_change v p version n counts) (delete_change u p version n counts)
    delete_grows None counts = inl refl
    delete_grows (Some None) counts = inl refl
    delete_grows (Some (Some n)) None = inl refl
    delete_grows (Some (Some n)) (Some None) = inl refl
    delete_grows (Some (Some n)) (Some (Some counts)) = if_sooner _ _ (Some (Deleted p n.owner)) (λ h.
        let all = and_parts _ _ h in
        let looked = and_parts _ _ all.1 in
        and_from _ _ all.0 (and_from _ _ (all_still_seen (counts_of_parent (parent p)) looked.0) (owner_still_seen n.owner looked.1)))

    no_counts_gone : (n : Option (Option NodeNow)) → delete_change v p version n None ≡ None
    no_counts_gone None = refl
    no_counts_gone (Some None) = refl
    no_counts_gone (Some (Some n)) = refl

    delete_sooner : (n n' : Option (Option NodeNow)) (c c' : Option (Option CountRec)) → Sooner n n' → Sooner c c' → Sooner (delete_change v p version n c) (delete_change u p version n' c')
    delete_sooner n n' c c' (inl e) g = inl (ap (λ (o : Option (Option NodeNow)). delete_change v p version o c) e)
    delete_sooner n n' c c' (inr e) (inl g) = inl (ap (λ (o : Option (Option CountRec)). delete_change v p version n o) g ∙ no_counts_gone n)
    delete_sooner n n' c c' (inr e) (inr g) = moved _ _ _ _ refl (λ i. delete_change u p version (sym e i) (sym g i)) (delete_grows n c)

    set_grows : (n : Option (Option NodeNow)) → Sooner (set_change v p version n) (set_change u p version n)
    set_grows None = inl refl
    set_grows (Some None) = inl refl
    set_grows (Some (Some n)) = if_sooner _ _ (Some (DataSet p)) (λ h. let both = and_parts _ _ h in and_from _ _ both.0 (still_seen (key_bytes (CountsKey p)) both.1))

    set_sooner : (n n' : Option (Option NodeNow)) → Sooner n n' → Sooner (set_change v p version n) (set_change u p version n')
    set_sooner n n' (inl e) = inl (ap (λ (o : Option (Option NodeNow)). set_change v p version o) e)
    set_sooner n n' (inr e) = moved _ _ _ _ refl (ap (set_change u p version) (sym e)) (set_grows n)

    check_sooner : (changes : List TreeChange) (n n' : Option (Option NodeNow)) → Sooner n n' → Sooner (if is_checked version n then Some changes else None) (if is_checked version n' then Some changes else None)
    check_sooner changes n n' (inl e) = inl (ap (λ (o : Option (Option NodeNow)). if is_checked version o then Some changes else None) e)
    check_sooner changes n n' (inr e) = inr (ap (λ (o : Option (Option NodeNow)). if is_checked version o then Some changes else None) e)

    delete_leaves_sooner : (changes : List TreeChange) (a b : Option (List TreeChange)) → DeleteLeaves v changes p version a → DeleteLeaves u changes p version b → Sooner a b
    delete_leaves_sooner changes a b (n, c, ni, ci, e) (n', c', ni', ci', e') =
        moved a b _ _ e e' (with_change_sooner changes _ _ (delete_sooner n n' c c' (node_sooner changes p n n' ni ni') (counts_sooner changes p c c' ci ci')))

    set_leaves_sooner : (changes : List TreeChange) (a b : Option (List TreeChange)) → SetLeaves v changes p version a → SetLeaves u changes p version b → Sooner a b
    set_leaves_sooner changes a b (n, ni, e) (n', ni', e') = moved a b _ _ e e' (with_change_sooner changes _ _ (set_sooner n n' (node_sooner changes p n n' ni ni')))

    check_leaves_sooner : (changes : List TreeChange) (a b : Option (List TreeChange)) → CheckLeaves v changes p version a → CheckLeaves u changes p version b → Sooner a b
    check_leaves_sooner changes a b (n, ni, e) (n', ni', e') = moved a b _ _ e e' (check_sooner changes n n' (node_sooner changes p n n' ni ni'))

  part_sooner : (id : ℤ) (changes : List TreeChange) (p : Part) (a b : Option (List TreeChange)) → PartLeaves id v changes p a → PartLeaves id u changes p b → Sooner a b
  part_sooner id changes (part.Create path d acl f) a b h g = create_leaves_sooner changes path (is_sequential f) (is_ephemeral f) id (parent (named f path)) a b h g
  part_sooner id changes (part.Delete path x) a b h g = delete_leaves_sooner path x changes a b h g
  part_sooner id changes (part.SetData path d x) a b h g = set_leaves_sooner path x changes a b h g
  part_sooner id changes (part.Check path x) a b h g = check_leaves_sooner path x changes a b h g

  by_sooner : (id : ℤ) (old : Option (List TreeChange)) (p : Part) (a b : Option (List TreeChange)) → IsLeftBy id v old p a → IsLeftBy id u old p b → Sooner a b
  by_sooner id None p a b h g = inl h
  by_sooner id (Some changes) p a b h g = at (form_refusal p) h g
    where
      at : (o : Option ℤ) → MatchOption o (PartLeaves id v changes p a) (λ code. a ≡ None) → MatchOption o (PartLeaves id u changes p b) (λ code. b ≡ None) → Sooner a b
      at None i j = part_sooner id changes p a b i j
      at (Some code) i j = inl i

  -- ---- all parts

  pub left_sooner : (id : ℤ) (before : List Part) (a b : Option (List TreeChange)) → IsLeft id v before a → IsLeft id u before b → Sooner a b
  left_sooner id [] a b h g = inr (h ∙ sym g)
  left_sooner id (p ∷ before) a b (old, is, by) (old', is', by') = go (left_sooner id before old old' is is')
    where
      go : Sooner old old' → Sooner a b
      go (inl none) = inl (subst (λ (o : Option (List TreeChange)). IsLeftBy id v o p a) none by)
      go (inr same) = by_sooner id old p a b by (subst (λ (o : Option (List TreeChange)). IsLeftBy id u o p b) (sym same) by')

-- what is left on a view is left on one that sees more
pub left_still : (v u : View) → ((k : Bytes) (o : Option Kv) → seen v k ≡ Some o → seen u k ≡ Some o) → (id : ℤ) (before : List Part) (changes : List TreeChange) (b : Option (List TreeChange))
    → IsLeft id v before (Some changes) → IsLeft id u before b → b ≡ Some changes
left_still v u grows id before changes b h g = go (left_sooner v u grows id before (Some changes) b h g)
  where
    go : Sooner (Some changes) b → b ≡ Some changes
    go (inl bad) = absurd (some_none bad)
    go (inr same) = sym same

-- and so are the counts of a node that is there
pub counts_still : (v u : View) → ((k : Bytes) (o : Option Kv) → seen v k ≡ Some o → seen u k ≡ Some o) → (changes : List TreeChange) (p : Bytes) (counts : CountRec) (b : Option (Option CountRec))
    → AreCountsNow v changes p (Some (Some counts)) → AreCountsNow u changes p b → b ≡ Some (Some counts)
counts_still v u grows changes p counts b h g = go (counts_sooner v u grows changes p (Some (Some counts)) b h g)
  where
    go : Sooner (Some (Some counts)) b → b ≡ Some (Some counts)
    go (inl bad) = absurd (some_none bad)
    go (inr same) = sym same
