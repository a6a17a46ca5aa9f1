-- What a request makes of a sound tree is sound: a create in each mode, a delete, a setData, several of them, and the removal of
-- many nodes.
use Rattle.std.proofs.Common.{◌≡◌, ◌≢◌, ℕ, ℤ, pos, ◌+◌, ◌<◌, ◌≤◌, Bool, true, false, not, ◌&&◌, length, List, [], ◌∷◌, ◌++◌, Option, Some, None, refl, sym, ◌∙◌, inl, inr, arith, ◌+ℤ◌}
use Rattle.std.specs.Prelude.{◌≤ℤ◌, IsTrue, ⊤, nat_le, nat_lt, nat_abs, if◌then◌else◌, ◌==◌}
use Rattle.std.specs.List.{AllByRecursion, flat_map}
use Rattle.std.specs.Ordering.{int_eq}
use Rattle.std.proofs.lemmas.Bool.{and_parts}
use Rattle.std.proofs.lemmas.Bool.Decides.{Decides-int_eq, nat_tests}
use Rattle.std.proofs.lemmas.Int.{ints}
use Rattle.std.specs.FinMap.{get, insert, remove}
use Rattle.zx_base.specs.Maps.{Bytes, same}
use Rattle.zx_base.proofs.MapLaws.{get-insert_same, get-insert_other, get-remove_other, apart-from_same}
use Rattle.zk_model.specs.Limits.{max_creates, max_frame, max_load, max_long, max_version}
use Rattle.zk_model.specs.declared.node.Node.{Node}
use Rattle.zk_model.specs.declared.node.Trigger.{Trigger}
use Rattle.zk_model.specs.declared.reply.PartResult.{PartResult}
use Rattle.zk_model.specs.declared.request.Acl.{Acl}
use Rattle.zk_model.specs.declared.request.Part.{Part}
use Rattle.zk_model.specs.declared.request.Part.TheVariants.{Create, Delete, SetData, Check}
use Rattle.zk_model.specs.Paths.{root, parent, is_path, is_sequence_prefix, sequence_path}
use Rattle.zk_jute.specs.Records.{part_contents}
use Rattle.zk_model.specs.Znodes.{Tree, num_children, owned, new_node}
use Rattle.zk_model.specs.Single.{Outcome, Refused, Done, form_refusal, path_refusal, or_else, with_child, without_child, named, made_path, is_full, is_ephemeral, is_sequential, create_node, create_under, create_at, create, removed_under, at_parent, removed, delete, with_content, set_data, check, matches, effect, unless_refused, single}
use Rattle.zk_model.specs.Multi.{Parts, Stopped, Passed, then_parts, touched_by, parts_of, Several, Denied, Codes, All as AllDone, settled, several, load}
use Rattle.zk_service.specs.States.{Session, Sessions, IsCounted, IsSoundTree, IsPast, IsBoundedNode, limit_of}
use Rattle.zk_model.specs.Codes.{bad_arguments}
use Rattle.zk_jute.proofs.Lists.{first_of_both, second_of_both}
use Rattle.zk_model.proofs.Paths.{apart_from_parent}
use Rattle.zk_model.proofs.SequencePaths.{sequence-valid}
use Rattle.zk_model.proofs.SequenceParents.{parent-sequence}
use Rattle.zk_service.proofs.Children.{num_children-change, none-from_count}
use Rattle.zk_service.proofs.Owned.{num_owned-change}
use Rattle.zk_service.proofs.SoundTrees.{Each, each-put, each-gone, MayOwn, sound-change, sound-new, sound-gone}
use Rattle.zx_base.proofs.Booleans.{or-split, false-not_true, not_false}

-- a sound tree under these open sessions, and what is true of each node
pub record Holds (opened : Sessions) (Q : Bytes → Node → Type 0) (t : Tree) : Type 0 where
  pub sound : IsSoundTree opened t
  pub bounded : Each Q t

-- a tree of the updates from the first zxid to z
abbrev pub Stands : Sessions → ℤ → ℤ → Tree → Type 0
Stands opened first z t = Holds opened (IsBoundedNode first z) t

-- ---- outcomes

abbrev pub Leads : (Tree → Type 0) → Outcome → Type 0
Leads P (Refused code) = ⊤
Leads P (Done r u g) = P u

unless : (P : Tree → Type 0) (b : Bool) (code : ℤ) (o : Outcome) → (b ≡ false → Leads P o) → Leads P (if b then Refused code else o)
unless P true code o leads = tt
unless P false code o leads = leads refl

not_equal : (x y : ℤ) → int_eq x y ≡ false → x ≢ y
not_equal x y h e = false-not_true h ((Decides-int_eq x y).1 e)

-- ---- the session of a request: an open one, which has this limit

abbrev pub IsOpen : Sessions → ℕ → ℤ → Type 0
IsOpen opened limit session = (x : Session) × (get opened session ≡ Some x) × (limit ≡ limit_of x)

pub record Acts (opened : Sessions) (limit : ℕ) (session : ℤ) : Type 0 where
  pub whose : IsOpen opened limit session
  pub least : pos 0 ≤ℤ session
  pub most : session ≤ℤ max_long

pub past_now : (first z : ℤ) → first ≤ℤ z → IsPast first z z
past_now first z h = record { least = h; most = omega (arith, ints) }

abbrev owner_by : ℤ → ℤ → ℤ
owner_by session flags = if is_ephemeral flags then session else pos 0

-- ---- what is true of each node stays true where a request of this session changes it at this zxid

-- the removal of a child
abbrev IsKeptBelow : (Bytes → Node → Type 0) → ℤ → Type 0
IsKeptBelow Q z = (p : Bytes) (n : Node) → Q p n → Q p (without_child n z)

record IsKept (Q : Bytes → Node → Type 0) (session z : ℤ) : Type 0 where
  made : (p content : Bytes) (flags : ℤ) (now : ℕ) → IsTrue (is_path p) → Q p (new_node content (owner_by session flags) z now)
  above : (p : Bytes) (n : Node) → Q p n → Q p (with_child n z)
  below : IsKeptBelow Q z
  changed : (p content : Bytes) (n : Node) (now : ℕ) → n.version ≢ max_version → Q p n → Q p (with_content n content z now)

-- the removal of a child, where soundness alone is asked
abbrev Anything : Bytes → Node → Type 0
Anything p n = ⊤

kept-anything : (session z : ℤ) → IsKept Anything session z
kept-anything session z = record { made = λ p content flags now valid. tt; above = λ p n w. tt; below = λ p n w. tt; changed = λ p content n now short w. tt }

-- the ranges of a node's numbers
children-bounded : (first z : ℤ) → first ≤ℤ z → (p : Bytes) (n : Node) (creates : ℤ) → IsBoundedNode first z p n → IsBoundedNode first z p (record n { pzxid = z; creates = creates })
children-bounded first z begun p n creates w = record {
  valid = w.valid;
  made = w.made;
  changed = w.changed;
  children_changed = past_now first z begun;
  made_at = w.made_at;
  changed_at = w.changed_at;
  version_least = w.version_least;
  version_most = w.version_most;
  owner_least = w.owner_least;
  owner_most = w.owner_most;
}

below-bounded : (first z : ℤ) → first ≤ℤ z → IsKeptBelow (IsBoundedNode first z) z
below-bounded first z begun p n w = children-bounded first z begun p n n.creates w

kept-bounded : (first session z : ℤ) → first ≤ℤ z → pos 0 ≤ℤ session → session ≤ℤ max_long → IsKept (IsBoundedNode first z) session z
kept-bounded first session z begun least most = record {
  made = λ p content flags now valid. record {
    valid = valid;
    made = past_now first z begun;
    changed = past_now first z begun;
    children_changed = past_now first z begun;
    made_at = omega (arith, ints);
    changed_at = omega (arith, ints);
    version_least = omega (arith, ints);
    version_most = omega (arith, ints);
    owner_least = (owner_bounds (is_ephemeral flags)).0;
    owner_most = (owner_bounds (is_ephemeral flags)).1;
  };
  above = λ p n w. children-bounded first z begun p n (n.creates +ℤ pos 1) w;
  below = below-bounded first z begun;
  changed = λ p content n now short w.
      let low = w.version_least in
      let high = w.version_most in
      record {
        valid = w.valid;
        made = w.made;
        changed = past_now first z begun;
        children_changed = w.children_changed;
        made_at = w.made_at;
        changed_at = omega (arith, ints);
        version_least = omega (arith, ints);
        version_most = omega (arith, ints, short);
        owner_least = w.owner_least;
        owner_most = w.owner_most;
      };
}
  where
    owner_bounds : (b : Bool) → (pos 0 ≤ℤ (if b then session else pos 0)) × ((if b then session else pos 0) ≤ℤ max_long)
    owner_bounds true = (least, most)
    owner_bounds false = (omega (arith, ints), omega (arith, ints))

-- ---- a node changes, and stays whose it was

holds-change : (opened : Sessions) (Q : Bytes → Node → Type 0) (t : Tree) (k : Bytes) (old v : Node) → Holds opened Q t → get t k ≡ Some old → v.owner ≡ old.owner → IsCounted v (num_children t k)
    → length v.content ≤ max_frame → (Q k old → Q k v) → Holds opened Q (insert t k v)
holds-change opened Q t k old v st there same counted small within = record {
  sound = sound-change opened t k old v st.sound there same counted small;
  bounded = each-put Q t k v st.bounded (within (st.bounded k old there));
}

-- ---- create

module _ (opened : Sessions) (Q : Bytes → Node → Type 0) (t : Tree) (limit : ℕ) (session flags : ℤ) (content : Bytes) (z : ℤ) (now : ℕ) (path : Bytes) (st : Holds opened Q t) (kept : IsKept Q session z)
    (whose : IsOpen opened limit session) (small : length content ≤ max_frame) (form : (if is_sequential flags then is_sequence_prefix path else is_path path) ≡ true) where
  abbrev fresh : Node
  fresh = new_node content (owner_by session flags) z now

  module _ (q : Bytes) (up : Node) (below : parent (named flags path) ≡ Some q) (there : get t q ≡ Some up) (none : get t (made_path flags path up) ≡ None)
      (plain : int_eq up.owner (pos 0) ≡ true) (room : is_full t limit session flags up ≡ false) where
    abbrev p : Bytes
    p = made_path flags path up

    abbrev above : Node
    above = with_child up z

    abbrev between : Tree
    between = insert t q above

    below_q : parent p ≡ Some q
    below_q = by_mode (is_sequential flags) below
      where
        by_mode : (b : Bool) → parent (if b then path ++ 49 ∷ [] else path) ≡ Some q → parent (if b then sequence_path path (nat_abs up.creates) else path) ≡ Some q
        by_mode true e = parent-sequence path (nat_abs up.creates) ∙ e
        by_mode false e = e

    valid : IsTrue (is_path p)
    valid = by_mode (is_sequential flags) form
      where
        by_mode : (b : Bool) → (if b then is_sequence_prefix path else is_path path) ≡ true → IsTrue (is_path (if b then sequence_path path (nat_abs up.creates) else path))
        by_mode true e = sequence-valid path (nat_abs up.creates) e
        by_mode false e = e

    creates_below : (up.creates +ℤ pos 1) ≤ℤ max_creates
    creates_below =
        let apart = not_equal up.creates max_creates (or-split (int_eq up.creates max_creates) (is_ephemeral flags && nat_le limit (length (owned t session))) room).0 in
        let most = (st.sound.counted q up there).most in
        omega (arith, ints)

    counts_above : (n : ℕ) → n ≤ num_children t q + 1 → IsCounted above n
    counts_above n le = let counted = (st.sound.counted q up there).counted in record { counted = omega (arith, ints); most = creates_below }

    is_plain : up.owner ≡ pos 0
    is_plain = (Decides-int_eq up.owner (pos 0)).0 plain

    in_between : Holds opened Q between
    in_between = holds-change opened Q t q up above st there refl (counts_above (num_children t q) (omega arith)) (st.sound.small q up there) (kept.above q up)

    owned_still : length (owned between session) ≡ length (owned t session)
    owned_still = num_owned-change t q above up session there refl

    may_own : MayOwn opened between (owner_by session flags)
    may_own = by_mode (is_ephemeral flags) (or-split (int_eq up.creates max_creates) (is_ephemeral flags && nat_le limit (length (owned t session))) room).1 whose
      where
        by_mode : (b : Bool) → (b && nat_le limit (length (owned t session))) ≡ false → IsOpen opened limit session → MayOwn opened between (if b then session else pos 0)
        by_mode false h x = inl refl
        by_mode true h x = let few : length (owned t session) < limit = grind (arith, nat_tests) in inr (x.0, x.1, omega (arith, few, owned_still, x.2))

    holds-made : Holds opened Q (insert between p fresh)
    holds-made = record {
      sound = sound-new opened between p q above fresh in_between.sound (get-insert_other t q p above (apart_from_parent p q below_q) ∙ none) below_q (get-insert_same t q above) is_plain
          (counts_above (num_children between q + 1) (let e = num_children-change t q above up q there in omega (arith, e)))
          (record { counted = omega (arith, ints); most = omega (arith, ints) }) may_own small;
      bounded = each-put Q between p fresh in_between.bounded (kept.made p content flags now valid);
    }

  made_node : (q : Bytes) (up : Node) (o : Option Node) → parent (named flags path) ≡ Some q → get t q ≡ Some up → get t (made_path flags path up) ≡ o
      → Leads (Holds opened Q) (create_node t limit session flags content z now q up (made_path flags path up) o)
  made_node q up (Some old) below there is = tt
  made_node q up None below there is =
      unless (Holds opened Q) (not (int_eq up.owner (pos 0))) _ _ (λ h.
      unless (Holds opened Q) (is_full t limit session flags up) _ _ (λ room. holds-made q up below there is (not_false _ h) room))

  made_under : (q : Bytes) (o : Option Node) → parent (named flags path) ≡ Some q → get t q ≡ o → Leads (Holds opened Q) (create_under t limit session flags content z now path q o)
  made_under q None below is = tt
  made_under q (Some up) below is = made_node q up (get t (made_path flags path up)) below is refl

  made_at : (o : Option Bytes) → parent (named flags path) ≡ o → Leads (Holds opened Q) (create_at t limit session flags content z now path o)
  made_at None is = tt
  made_at (Some q) is = made_under q (get t q) is refl

  create-leads : Leads (Holds opened Q) (create t limit session flags content z now path)
  create-leads = made_at (parent (named flags path)) refl

-- ---- the removal of a node without children

module _ (opened : Sessions) (Q : Bytes → Node → Type 0) (z : ℤ) (t : Tree) (p : Bytes) (st : Holds opened Q t) (kept : IsKeptBelow Q z) (inner : p ≢ root) (childless : (r : Bytes) → parent r ≡ Some p → get t r ≡ None) where
  gone : Holds opened Q (remove t p)
  gone = record { sound = sound-gone opened t p st.sound inner childless; bounded = each-gone Q t p st.bounded }

  without : (q : Bytes) (o : Option Node) → parent p ≡ Some q → get t q ≡ o → Holds opened Q (removed_under t p z (Some q) o)
  without q None below is = gone
  without q (Some up) below is =
      let there : get (remove t p) q ≡ Some up = get-remove_other t p q (λ e. apart_from_parent p q below (sym e)) ∙ is in
      let counted = gone.sound.counted q up there in
      holds-change opened Q (remove t p) q up (without_child up z) gone there refl (record { counted = counted.counted; most = counted.most }) (gone.sound.small q up there) (kept q up)

  at_its_parent : (o : Option Bytes) → parent p ≡ o → Holds opened Q (removed_under t p z o (at_parent t o))
  at_its_parent None is = gone
  at_its_parent (Some q) is = without q (get t q) is refl

  holds-removed : Holds opened Q (removed t p z)
  holds-removed = at_its_parent (parent p) refl

pub stands-removed : (opened : Sessions) (first z : ℤ) (t : Tree) (p : Bytes) → Stands opened first z t → first ≤ℤ z → p ≢ root → ((r : Bytes) → parent r ≡ Some p → get t r ≡ None)
    → Stands opened first z (removed t p z)
stands-removed opened first z t p st begun inner childless = holds-removed opened (IsBoundedNode first z) z t p st (below-bounded first z begun) inner childless

-- ---- delete, setData and check

zero_is : (n : ℕ) → not (n == 0) ≡ false → n ≡ 0
zero_is n h = grind (arith, nat_tests, not_false (n == 0) h)

delete-leads : (opened : Sessions) (Q : Bytes → Node → Type 0) (z : ℤ) (t : Tree) (p : Bytes) (version : ℤ) (o : Option Node) → Holds opened Q t → IsKeptBelow Q z → p ≢ root → Leads (Holds opened Q) (delete t p version z o)
delete-leads opened Q z t p version None st kept inner = tt
delete-leads opened Q z t p version (Some n) st kept inner =
    unless (Holds opened Q) (not (matches version n.version)) _ _ (λ _.
    unless (Holds opened Q) (not (num_children t p == 0)) _ _ (λ h. holds-removed opened Q z t p st kept inner (λ r up. none-from_count t p r (zero_is (num_children t p) h) up)))

set_data-leads : (opened : Sessions) (Q : Bytes → Node → Type 0) (session z : ℤ) (t : Tree) (p content : Bytes) (version : ℤ) (now : ℕ) (o : Option Node) → Holds opened Q t → IsKept Q session z → length content ≤ max_frame → get t p ≡ o
    → Leads (Holds opened Q) (set_data t p content version z now o)
set_data-leads opened Q session z t p content version now None st kept small is = tt
set_data-leads opened Q session z t p content version now (Some n) st kept small is =
    unless (Holds opened Q) (not (matches version n.version)) _ _ (λ _.
    unless (Holds opened Q) (int_eq n.version max_version) _ _ (λ h.
    let counted = st.sound.counted p n is in
    holds-change opened Q t p n (with_content n content z now) st is refl (record { counted = counted.counted; most = counted.most }) small (kept.changed p content n now (not_equal n.version max_version h))))

check-leads : (opened : Sessions) (Q : Bytes → Node → Type 0) (t : Tree) (version : ℤ) (o : Option Node) → Holds opened Q t → Leads (Holds opened Q) (check t version o)
check-leads opened Q t version None st = tt
check-leads opened Q t version (Some n) st = unless (Holds opened Q) (not (matches version n.version)) _ _ (λ _. st)

-- ---- one request

leads-unrefused : (P : Tree → Type 0) (refusal : Option ℤ) (o : Outcome) → (refusal ≡ None → Leads P o) → Leads P (unless_refused refusal o)
leads-unrefused P (Some code) o leads = tt
leads-unrefused P None o leads = leads refl

none_else : (a b : Option ℤ) → or_else a b ≡ None → a ≡ None
none_else (Some c) b h = absurd (cc)
none_else None b h = refl

no_refusal : (b : Bool) → path_refusal b ≡ None → b ≡ true
no_refusal true h = refl
no_refusal false h = absurd (cc)

form_create : (path content : Bytes) (acl : List Acl) (flags : ℤ) → form_refusal (Create path content acl flags) ≡ None → (if is_sequential flags then is_sequence_prefix path else is_path path) ≡ true
unfolding form_refusal
form_create path content acl flags h = no_refusal _ (none_else (path_refusal (if is_sequential flags then is_sequence_prefix path else is_path path)) _ h)

form_delete : (path : Bytes) (version : ℤ) → form_refusal (Delete path version) ≡ None → path ≢ root
unfolding form_refusal
form_delete path version h = apart-from_same path root (is_false (same path root) (and_parts (is_path path) (not (same path root)) (no_refusal _ h)).1)
  where
    is_false : (b : Bool) → not b ≡ true → b ≡ false
    is_false true e = absurd (cc)
    is_false false e = refl

-- data no longer than a frame
abbrev pub IsShort : Bytes → Type 0
IsShort content = length content ≤ max_frame

abbrev pub IsSmallPart : Part → Type 0
IsSmallPart p = AllByRecursion IsShort (part_contents p)

module _ (opened : Sessions) (Q : Bytes → Node → Type 0) (limit : ℕ) (session z : ℤ) (now : ℕ) (kept : IsKept Q session z) (whose : IsOpen opened limit session) where
  effect-leads : (t : Tree) (p : Part) → Holds opened Q t → IsSmallPart p → form_refusal p ≡ None → Leads (Holds opened Q) (effect t limit session p z now)
  unfolding effect
  effect-leads t (Create path content acl flags) st small form = create-leads opened Q t limit session flags content z now path st kept whose small.0 (form_create path content acl flags form)
  effect-leads t (Delete path version) st small form = delete-leads opened Q z t path version (get t path) st kept.below (form_delete path version form)
  effect-leads t (SetData path content version) st small form = set_data-leads opened Q session z t path content version now (get t path) st kept small.0 refl
  effect-leads t (Check path version) st small form = check-leads opened Q t version (get t path) st

  part-leads : (t : Tree) (p : Part) → Holds opened Q t → IsSmallPart p → Leads (Holds opened Q) (single t limit session p z now)
  unfolding single
  part-leads t p st small = leads-unrefused (Holds opened Q) (form_refusal p) (effect t limit session p z now) (λ form. effect-leads t p st small form)

-- a part leads from a sound tree to a sound one, whatever its zxids and times are
pub single-sound : (opened : Sessions) (limit : ℕ) (session z : ℤ) (now : ℕ) → IsOpen opened limit session → (t : Tree) (p : Part) → IsSoundTree opened t → IsSmallPart p → Leads (IsSoundTree opened) (single t limit session p z now)
single-sound opened limit session z now whose t p sound small =
    sound_of (single t limit session p z now) (part-leads opened Anything limit session z now (kept-anything session z) whose t p (record { sound = sound; bounded = λ q n is. tt }) small)
  where
    sound_of : (o : Outcome) → Leads (Holds opened Anything) o → Leads (IsSoundTree opened) o
    sound_of (Refused code) leads = tt
    sound_of (Done r u g) leads = leads.sound

module _ (opened : Sessions) (limit : ℕ) (session first z : ℤ) (now : ℕ) (begun : first ≤ℤ z) (acts : Acts opened limit session) where
  pub single-leads : (t : Tree) (p : Part) → Stands opened first z t → IsSmallPart p → Leads (Stands opened first z) (single t limit session p z now)
  single-leads t p st small = part-leads opened (IsBoundedNode first z) limit session z now (kept-bounded first session z begun acts.least acts.most) acts.whose t p st small

  -- ---- several

  abbrev PartsLead : Parts → Type 0
  PartsLead (Stopped place code) = ⊤
  PartsLead (Passed results t triggers touched) = Stands opened first z t

  then-lead : (r : PartResult) (g : List Trigger) (touched : List ℤ) (ps : Parts) → PartsLead ps → PartsLead (then_parts r g touched ps)
  then-lead r g touched (Stopped place code) lead = tt
  then-lead r g touched (Passed results t triggers more) lead = lead

  parts-lead : (t : Tree) (ps : List Part) → Stands opened first z t → AllByRecursion IsShort (flat_map part_contents ps) → PartsLead (parts_of t limit session ps z now)
  unfolding parts_of
  parts-lead t [] st small = st
  parts-lead t (p ∷ ps) st small =
      next (single t limit session p z now) (single-leads t p st (first_of_both IsShort (part_contents p) (flat_map part_contents ps) small)) (λ u here. parts-lead u ps here (second_of_both IsShort (part_contents p) (flat_map part_contents ps) small))
    where
      next : (o : Outcome) → Leads (Stands opened first z) o → ((u : Tree) → Stands opened first z u → PartsLead (parts_of u limit session ps z now))
          → PartsLead (elim o [ Refused code ↦ Stopped 0 code | Done r u g ↦ then_parts r g (touched_by t session p) (parts_of u limit session ps z now) ])
      next (Refused code) lead more = tt
      next (Done r u g) lead more = then-lead r g (touched_by t session p) (parts_of u limit session ps z now) (more u lead)

  abbrev pub SeveralLead : Several → Type 0
  SeveralLead (Denied code) = ⊤
  SeveralLead (Codes row) = ⊤
  SeveralLead (AllDone results t triggers) = Stands opened first z t

  settled-lead : (t : Tree) (ps : List Part) (done : Parts) → PartsLead done → SeveralLead (settled t ps done)
  settled-lead t ps (Stopped place code) lead = tt
  settled-lead t ps (Passed results u triggers touched) lead = by_load (nat_lt max_load (load t ps touched))
    where
      by_load : (b : Bool) → SeveralLead (if b then Denied bad_arguments else AllDone results u triggers)
      by_load true = tt
      by_load false = lead

  pub several-lead : (t : Tree) (ps : List Part) → Stands opened first z t → AllByRecursion IsShort (flat_map part_contents ps) → SeveralLead (several t limit session ps z now)
  unfolding several
  several-lead t ps st small = settled-lead t ps (parts_of t limit session ps z now) (parts-lead t ps st small)
