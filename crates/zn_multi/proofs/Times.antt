-- Whether a part is refused, and with which code, depends neither on the zxid nor on the time: no test looks at a node's zxids,
-- times and data.
use Rattle.std.proofs.Common.{◌≡◌, ℕ, suc, ℤ, pos, Bool, true, false, cond, not, ◌&&◌, ◌||◌, length, List, [], ◌∷◌, ◌++◌, Option, Some, None, refl, sym, ap, ◌∙◌, subst, ⊎_elim}
use Rattle.std.specs.Prelude.{option_map, nat_le, if◌then◌else◌, ◌==◌}
use Rattle.std.specs.FinMap.{get, insert, remove, retain_keys, keys, len}
use Rattle.std.specs.Ordering.{int_eq}
use Rattle.zx_base.specs.Maps.{Bytes}
use Rattle.zx_base.proofs.MapLaws.{either, ext, get-insert_same, get-insert_other, get-remove_same, get-remove_other, get-retain}
use Rattle.zk_model.specs.declared.node.Node.{Node}
use Rattle.zk_model.specs.declared.node.Trigger.{Trigger}
use Rattle.zk_model.specs.declared.reply.PartResult.{PartResult}
use Rattle.zk_model.specs.declared.request.Part.{Part}
use Rattle.zk_model.specs.declared.request.Part.TheVariants.{Create, Delete, SetData, Check}
use Rattle.zk_model.specs.Limits.{max_creates, max_version}
use Rattle.zk_model.specs.Multi.{Parts, Stopped, Passed, parts_of, then_parts, touched_by, owner_list}
use Rattle.zk_model.specs.Paths.{is_child, parent}
use Rattle.zk_model.specs.Single.{Outcome, Refused, Done, at_parent, check, create_at, create_node, create_under, delete, effect, form_refusal, is_ephemeral, is_full, made_path, matches, named, removed_under, set_data, single, unless_refused, with_child, with_content, without_child}
use Rattle.zk_model.specs.Znodes.{Tree, below, is_owner, new_node, num_children, owned, owned_by}
use Rattle.zn_multi.proofs.MappedTrees.{get-mapped, keys-mapped, len-mapped, mapped}

-- ---- a tree of nodes without zxids, times and data

abbrev bare : Node → Node
bare n = record n { content = []; czxid = pos 0; mzxid = pos 0; pzxid = pos 0; ctime = pos 0; mtime = pos 0 }

abbrev shape : Tree → Tree
shape t = mapped bare t

get-shape : (t : Tree) (q : Bytes) → get (shape t) q ≡ option_map bare (get t q)
get-shape t q = get-mapped bare t q

keys-shape : (t : Tree) → keys (shape t) ≡ keys t
keys-shape t = keys-mapped bare t

len-shape : (t : Tree) → len (shape t) ≡ len t
len-shape t = len-mapped bare t

-- ---- changes of it

shape-insert : (t : Tree) (k : Bytes) (v : Node) → shape (insert t k v) ≡ insert (shape t) k (bare v)
shape-insert t k v = ext (shape (insert t k v)) (insert (shape t) k (bare v)) (λ q.
    ⊎_elim
    (λ e. subst (λ (x : Bytes). get (shape (insert t k v)) x ≡ get (insert (shape t) k (bare v)) x) (sym e)
    (get-shape (insert t k v) k ∙ ap (option_map bare) (get-insert_same t k v) ∙ sym (get-insert_same (shape t) k (bare v))))
    (λ far. get-shape (insert t k v) q ∙ ap (option_map bare) (get-insert_other t k q v far) ∙ sym (get-shape t q) ∙ sym (get-insert_other (shape t) k q (bare v) far))
    (either q k))

shape-remove : (t : Tree) (k : Bytes) → shape (remove t k) ≡ remove (shape t) k
shape-remove t k = ext (shape (remove t k)) (remove (shape t) k) (λ q.
    ⊎_elim
    (λ e. subst (λ (x : Bytes). get (shape (remove t k)) x ≡ get (remove (shape t) k) x) (sym e)
    (get-shape (remove t k) k ∙ ap (option_map bare) (get-remove_same t k) ∙ sym (get-remove_same (shape t) k)))
    (λ far. get-shape (remove t k) q ∙ ap (option_map bare) (get-remove_other t k q far) ∙ sym (get-shape t q) ∙ sym (get-remove_other (shape t) k q far))
    (either q k))

bare-cond : (b : Bool) (o : Option Node) → option_map bare (cond b o None) ≡ cond b (option_map bare o) None
bare-cond true o = refl
bare-cond false o = refl

shape-retain : (t : Tree) (f : Bytes → Bool) → shape (retain_keys t f) ≡ retain_keys (shape t) f
shape-retain t f = ext (shape (retain_keys t f)) (retain_keys (shape t) f) (λ q.
    get-shape (retain_keys t f) q ∙ ap (option_map bare) (get-retain t f q) ∙ bare-cond (f q) (get t q) ∙ ap (λ (o : Option Node). cond (f q) o None) (sym (get-shape t q)) ∙ sym (get-retain (shape t) f q))

bare-twice : (o : Option Node) → option_map bare (option_map bare o) ≡ option_map bare o
bare-twice None = refl
bare-twice (Some n) = refl

shape-twice : (t : Tree) → shape (shape t) ≡ shape t
shape-twice t = ext (shape (shape t)) (shape t) (λ q. get-shape (shape t) q ∙ ap (option_map bare) (get-shape t q) ∙ bare-twice (get t q) ∙ sym (get-shape t q))

num_children-shape : (t : Tree) (p : Bytes) → num_children (shape t) p ≡ num_children t p
num_children-shape t p = ap len (sym (shape-retain t (is_child p))) ∙ len-shape (below t p)

owner-bare : (id : ℤ) (o : Option Node) → is_owner id (option_map bare o) ≡ is_owner id o
owner-bare id None = refl
owner-bare id (Some n) = refl

owned-shape : (t : Tree) (id : ℤ) → owned (shape t) id ≡ owned t id
owned-shape t id =
    ap keys ((λ i. retain_keys (shape t) (λ (p : Bytes). (ap (is_owner id) (get-shape t p) ∙ owner-bare id (get t p)) i)) ∙ sym (shape-retain t (λ (p : Bytes). is_owner id (get t p))))
    ∙ keys-shape (owned_by t id)

put-shape : (t : Tree) (k : Bytes) (v w : Node) → bare v ≡ bare w → shape (insert t k v) ≡ shape (insert (shape t) k w)
put-shape t k v w e = shape-insert t k v ∙ (λ i. insert (sym (shape-twice t) i) k (e i)) ∙ sym (shape-insert (shape t) k w)

-- ---- outcomes

abbrev IsAlike : Outcome → Outcome → Type 0
IsAlike (Refused code) (Refused other) = code ≡ other
IsAlike (Refused code) (Done r u g) = ⊥
IsAlike (Done r u g) (Refused code) = ⊥
IsAlike (Done r u g) (Done s w h) = shape u ≡ shape w

alike_if : (a b : Bool) (code : ℤ) (x y : Outcome) → a ≡ b → (a ≡ false → IsAlike x y) → IsAlike (if a then Refused code else x) (if b then Refused code else y)
alike_if true true code x y e h = refl
alike_if true false code x y e h = absurd (cc)
alike_if false true code x y e h = absurd (cc)
alike_if false false code x y e h = h refl

module _ (t : Tree) (limit : ℕ) (id z y : ℤ) (now time : ℕ) where
  -- ---- create

  module _ (flags : ℤ) (content path : Bytes) where
    full-shape : (up : Node) → is_full t limit id flags up ≡ is_full (shape t) limit id flags (bare up)
    full-shape up = ap (λ (l : List Bytes). int_eq up.creates max_creates || (is_ephemeral flags && nat_le limit (length l))) (sym (owned-shape t id))

    node-alike : (q : Bytes) (up : Node) (p : Bytes) (o : Option Node) → IsAlike (create_node t limit id flags content z now q up p o) (create_node (shape t) limit id flags content y time q (bare up) p (option_map bare o))
    node-alike q up p (Some old) = refl
    node-alike q up p None =
        alike_if (not (int_eq up.owner (pos 0))) (not (int_eq up.owner (pos 0))) _ _ _ refl (λ _.
        alike_if (is_full t limit id flags up) (is_full (shape t) limit id flags (bare up)) _ _ _ (full-shape up) (λ _.
        shape-insert (insert t q (with_child up z)) p _
        ∙ (λ i. insert (put-shape t q (with_child up z) (with_child (bare up) y) refl i) p (bare (new_node content (if is_ephemeral flags then id else pos 0) z now)))
        ∙ sym (shape-insert (insert (shape t) q (with_child (bare up) y)) p (new_node content (if is_ephemeral flags then id else pos 0) y time))))

    under-alike : (q : Bytes) (o : Option Node) → IsAlike (create_under t limit id flags content z now path q o) (create_under (shape t) limit id flags content y time path q (option_map bare o))
    under-alike q None = refl
    under-alike q (Some up) =
        subst (λ (o : Option Node). IsAlike (create_node t limit id flags content z now q up (made_path flags path up) (get t (made_path flags path up))) (create_node (shape t) limit id flags content y time q (bare up) (made_path flags path up) o))
        (sym (get-shape t (made_path flags path up))) (node-alike q up (made_path flags path up) (get t (made_path flags path up)))

    create-alike : (o : Option Bytes) → IsAlike (create_at t limit id flags content z now path o) (create_at (shape t) limit id flags content y time path o)
    create-alike None = refl
    create-alike (Some q) = subst (λ (o : Option Node). IsAlike (create_under t limit id flags content z now path q (get t q)) (create_under (shape t) limit id flags content y time path q o)) (sym (get-shape t q)) (under-alike q (get t q))

  -- ---- delete

  gone-shape : (p : Bytes) → shape (remove t p) ≡ shape (remove (shape t) p)
  gone-shape p = shape-remove t p ∙ ap (λ (w : Tree). remove w p) (sym (shape-twice t)) ∙ sym (shape-remove (shape t) p)

  under-shape : (p q : Bytes) (o : Option Node) → shape (removed_under t p z (Some q) o) ≡ shape (removed_under (shape t) p y (Some q) (option_map bare o))
  under-shape p q None = gone-shape p
  under-shape p q (Some up) =
      shape-insert (remove t p) q (without_child up z) ∙ (λ i. insert (gone-shape p i) q (bare up)) ∙ sym (shape-insert (remove (shape t) p) q (without_child (bare up) y))

  removed-shape : (p : Bytes) (o : Option Bytes) → shape (removed_under t p z o (at_parent t o)) ≡ shape (removed_under (shape t) p y o (at_parent (shape t) o))
  removed-shape p None = gone-shape p
  removed-shape p (Some q) = under-shape p q (get t q) ∙ ap (λ (o : Option Node). shape (removed_under (shape t) p y (Some q) o)) (sym (get-shape t q))

  delete-alike : (p : Bytes) (version : ℤ) (o : Option Node) → IsAlike (delete t p version z o) (delete (shape t) p version y (option_map bare o))
  delete-alike p version None = refl
  delete-alike p version (Some n) =
      alike_if (not (matches version n.version)) (not (matches version n.version)) _ _ _ refl (λ _.
      alike_if (not (num_children t p == 0)) (not (num_children (shape t) p == 0)) _ _ _ (ap (λ (k : ℕ). not (k == 0)) (sym (num_children-shape t p))) (λ _. removed-shape p (parent p)))

  -- ---- setData and check

  set-alike : (p content : Bytes) (version : ℤ) (o : Option Node) → IsAlike (set_data t p content version z now o) (set_data (shape t) p content version y time (option_map bare o))
  set-alike p content version None = refl
  set-alike p content version (Some n) =
      alike_if (not (matches version n.version)) (not (matches version n.version)) _ _ _ refl (λ _.
      alike_if (int_eq n.version max_version) (int_eq n.version max_version) _ _ _ refl (λ _. put-shape t p (with_content n content z now) (with_content (bare n) content y time) refl))

  check-alike : (version : ℤ) (o : Option Node) → IsAlike (check t version o) (check (shape t) version (option_map bare o))
  check-alike version None = refl
  check-alike version (Some n) = alike_if (not (matches version n.version)) (not (matches version n.version)) _ _ _ refl (λ _. sym (shape-twice t))

  -- ---- each part

  effect-alike : (p : Part) → IsAlike (effect t limit id p z now) (effect (shape t) limit id p y time)
  unfolding effect
  effect-alike (Create path content acl flags) = create-alike flags content path (parent (named flags path))
  effect-alike (Delete path version) = subst (λ (o : Option Node). IsAlike (delete t path version z (get t path)) (delete (shape t) path version y o)) (sym (get-shape t path)) (delete-alike path version (get t path))
  effect-alike (SetData path content version) = subst (λ (o : Option Node). IsAlike (set_data t path content version z now (get t path)) (set_data (shape t) path content version y time o)) (sym (get-shape t path)) (set-alike path content version (get t path))
  effect-alike (Check path version) = subst (λ (o : Option Node). IsAlike (check t version (get t path)) (check (shape t) version o)) (sym (get-shape t path)) (check-alike version (get t path))

  by_refusal : (refusal : Option ℤ) (a b : Outcome) → IsAlike a b → IsAlike (unless_refused refusal a) (unless_refused refusal b)
  by_refusal (Some code) a b h = refl
  by_refusal None a b h = h

  single-alike : (p : Part) → IsAlike (single t limit id p z now) (single (shape t) limit id p y time)
  unfolding single
  single-alike p = by_refusal (form_refusal p) (effect t limit id p z now) (effect (shape t) limit id p y time) (effect-alike p)

-- ---- all parts

abbrev AreAlike : Parts → Parts → Type 0
AreAlike (Stopped k code) (Stopped j other) = (k ≡ j) × (code ≡ other)
AreAlike (Stopped k code) (Passed rs u gs ss) = ⊥
AreAlike (Passed rs u gs ss) (Stopped k code) = ⊥
AreAlike (Passed rs u gs ss) (Passed qs w hs us) = ss ≡ us

alike_then : (r s : PartResult) (g h : List Trigger) (a b : List ℤ) (x y : Parts) → a ≡ b → AreAlike x y → AreAlike (then_parts r g a x) (then_parts s h b y)
alike_then r s g h a b (Stopped k code) (Stopped j other) e same = (ap (λ (n : ℕ). suc n) same.0, same.1)
alike_then r s g h a b (Stopped k code) (Passed rs u gs ss) e same = absurd same
alike_then r s g h a b (Passed rs u gs ss) (Stopped k code) e same = absurd same
alike_then r s g h a b (Passed rs u gs ss) (Passed qs w hs us) e same = λ i. e i ++ same i

both_alike : (x y w : Parts) → AreAlike x w → AreAlike y w → AreAlike x y
both_alike (Stopped k code) (Stopped j other) (Stopped i third) h e = (h.0 ∙ sym e.0, h.1 ∙ sym e.1)
both_alike (Stopped k code) (Stopped j other) (Passed rs u gs ss) h e = absurd h
both_alike (Stopped k code) (Passed rs u gs ss) (Stopped i third) h e = absurd e
both_alike (Stopped k code) (Passed rs u gs ss) (Passed qs w hs us) h e = absurd h
both_alike (Passed rs u gs ss) (Stopped k code) (Stopped i third) h e = absurd h
both_alike (Passed rs u gs ss) (Stopped k code) (Passed qs w hs us) h e = absurd e
both_alike (Passed rs u gs ss) (Passed qs w hs us) (Stopped i third) h e = absurd h
both_alike (Passed rs u gs ss) (Passed qs w hs us) (Passed ps v is vs) h e = h ∙ sym e

owner-list : (o : Option Node) → owner_list o ≡ owner_list (option_map bare o)
owner-list None = refl
owner-list (Some n) = refl

touched-shape : (t : Tree) (id : ℤ) (p : Part) → touched_by t id p ≡ touched_by (shape t) id p
touched-shape t id (Create path content acl flags) = refl
touched-shape t id (Delete path version) = owner-list (get t path) ∙ ap owner_list (sym (get-shape t path))
touched-shape t id (SetData path content version) = refl
touched-shape t id (Check path version) = refl

-- the parts pass, and make or remove nodes of these sessions
pub record IsPassed (ss : List ℤ) (x : Parts) : Type 0 where
  pub results : List PartResult
  pub tree : Tree
  pub triggers : List Trigger
  pub is : x ≡ Passed results tree triggers ss

module _ (limit : ℕ) (id : ℤ) where
  abbrev then_rest : Tree → ℤ → ℕ → Part → List Part → Outcome → Parts
  then_rest t z now p ps o = elim o as (λ x. Parts) [ Refused code ↦ Stopped 0 code | Done r u g ↦ then_parts r g (touched_by t id p) (parts_of u limit id ps z now) ]

  parts_next : (t : Tree) (z : ℤ) (now : ℕ) (p : Part) (ps : List Part) → parts_of t limit id (p ∷ ps) z now ≡ then_rest t z now p ps (single t limit id p z now)
  unfolding parts_of
  parts_next t z now p ps = refl

  parts_none : (t : Tree) (z y : ℤ) (now time : ℕ) → AreAlike (parts_of t limit id [] z now) (parts_of (shape t) limit id [] y time)
  unfolding parts_of
  parts_none t z y now time = refl

  rest-alike : (t : Tree) (z y : ℤ) (now time : ℕ) (p : Part) (ps : List Part) → ((u w : Tree) → shape u ≡ shape w → AreAlike (parts_of u limit id ps z now) (parts_of w limit id ps y time)) → (a b : Outcome) → IsAlike a b
      → AreAlike (then_rest t z now p ps a) (then_rest (shape t) y time p ps b)
  rest-alike t z y now time p ps later (Refused code) (Refused other) h = (refl, h)
  rest-alike t z y now time p ps later (Refused code) (Done r u g) h = absurd h
  rest-alike t z y now time p ps later (Done r u g) (Refused code) h = absurd h
  rest-alike t z y now time p ps later (Done r u g) (Done s w k) h = alike_then r s g k (touched_by t id p) (touched_by (shape t) id p) _ _ (touched-shape t id p) (later u w h)

  -- parts on a tree, and on that tree without zxids, times and data
  shape-alike : (ps : List Part) (t : Tree) (z y : ℤ) (now time : ℕ) → AreAlike (parts_of t limit id ps z now) (parts_of (shape t) limit id ps y time)
  shape-alike [] t z y now time = parts_none t z y now time
  shape-alike (p ∷ ps) t z y now time =
      subst (λ (x : Parts × Parts). AreAlike x.0 x.1) (λ i. (sym (parts_next t z now p ps) i, sym (parts_next (shape t) y time p ps) i))
      (rest-alike t z y now time p ps
      (λ u w e. both_alike _ _ (parts_of (shape w) limit id ps (pos 0) 0)
      (subst (λ (x : Tree). AreAlike (parts_of u limit id ps z now) (parts_of x limit id ps (pos 0) 0)) e (shape-alike ps u z (pos 0) now 0))
      (shape-alike ps w y (pos 0) time 0))
      (single t limit id p z now) (single (shape t) limit id p y time) (single-alike t limit id z y now time p))

  -- at any two zxids and times
  always-alike : (ps : List Part) (t : Tree) (z y : ℤ) (now time : ℕ) → AreAlike (parts_of t limit id ps z now) (parts_of t limit id ps y time)
  always-alike ps t z y now time = both_alike _ _ (parts_of (shape t) limit id ps (pos 0) 0) (shape-alike ps t z (pos 0) now 0) (shape-alike ps t y (pos 0) time 0)

  stopped_as : (k : ℕ) (code : ℤ) (x : Parts) → AreAlike (Stopped k code) x → x ≡ Stopped k code
  stopped_as k code (Stopped j other) h = λ i. Stopped (sym h.0 i) (sym h.1 i)
  stopped_as k code (Passed rs u gs ss) h = absurd h

  pub stopped-always : (ps : List Part) (t : Tree) (z y : ℤ) (now time k : ℕ) (code : ℤ) → parts_of t limit id ps z now ≡ Stopped k code → parts_of t limit id ps y time ≡ Stopped k code
  stopped-always ps t z y now time k code e = stopped_as k code (parts_of t limit id ps y time) (subst (λ (x : Parts). AreAlike x (parts_of t limit id ps y time)) e (always-alike ps t z y now time))

  passed_as : (rs : List PartResult) (u : Tree) (gs : List Trigger) (ss : List ℤ) (x : Parts) → AreAlike (Passed rs u gs ss) x → IsPassed ss x
  passed_as rs u gs ss (Stopped k code) h = absurd h
  passed_as rs u gs ss (Passed qs w hs us) h = record { results = qs; tree = w; triggers = hs; is = λ i. Passed qs w hs (sym h i) }

  pub passed-always : (ps : List Part) (t : Tree) (z y : ℤ) (now time : ℕ) (rs : List PartResult) (u : Tree) (gs : List Trigger) (ss : List ℤ) → parts_of t limit id ps z now ≡ Passed rs u gs ss → IsPassed ss (parts_of t limit id ps y time)
  passed-always ps t z y now time rs u gs ss e = passed_as rs u gs ss (parts_of t limit id ps y time) (subst (λ (x : Parts). AreAlike x (parts_of t limit id ps y time)) e (always-alike ps t z y now time))
