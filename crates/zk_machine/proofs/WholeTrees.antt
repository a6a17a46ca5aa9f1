-- A whole tree stays whole under each request, and so its numbers stay within their fields.
use Rattle.std.proofs.Common.{◌≡◌, ◌≢◌, ℕ, ℤ, pos, ◌+◌, ◌≤◌, Bool, true, false, not, ◌&&◌, ◌||◌, length, List, [], ◌∷◌, ◌++◌, Option, Some, None, refl, sym, ap, ◌∙◌, subst, ⊎_elim, arith, ◌+ℤ◌}
use Rattle.std.specs.Prelude.{◌≤ℤ◌, nat_abs, nat_le, if◌then◌else◌, ◌==◌}
use Rattle.std.specs.List.{AllByRecursion}
use Rattle.std.specs.Cmp.Lexicographic.{slice_cmp}
use Rattle.std.specs.Ordering.{int_eq, nat_cmp}
use Rattle.std.proofs.lemmas.Bool.Decides.{nat_tests}
use Rattle.std.proofs.lemmas.Int.{ints}
use Rattle.std.specs.FinMap.{get, insert, remove, empty, get-empty}
use Rattle.zx_base.specs.Maps.{Bytes}
use Rattle.zx_base.proofs.MapLaws.{either, get-insert_same, get-insert_other, get-remove_same, get-remove_other}
use Rattle.zx_base.proofs.Options.{some_is, some_none}
use Rattle.zk_model.specs.Limits.{max_creates, max_frame, max_version}
use Rattle.zk_model.specs.declared.node.Node.{Node}
use Rattle.zk_model.specs.declared.request.Part.{Part}
use Rattle.zk_model.specs.declared.request.Part.TheVariants.{Create, Delete, SetData, Check}
use Rattle.zk_model.specs.Multi.{data_len}
use Rattle.zk_model.specs.Paths.{parent, sequence_path}
use Rattle.zk_model.specs.Single.{Outcome, Refused, Done, with_child, without_child, named, made_path, is_full, is_ephemeral, is_sequential, create_node, create_under, create_at, create, removed_under, at_parent, removed, delete, with_content, set_data, check, matches, effect, form_refusal, unless_refused, single}
use Rattle.zk_model.specs.Znodes.{Tree, num_children, owned, new_node}
use Rattle.zk_model.proofs.Paths.{apart_from_parent, is_child-no}
use Rattle.zk_model.proofs.SequenceParents.{parent-sequence}
use Rattle.zk_service.specs.States.{Sessions, IsSoundTree}
use Rattle.zk_service.proofs.Children.{no_children, none-from_count, not_root, num_children-change, num_children-gone, num_children-new, num_children-new_other, some_or_none}
use Rattle.zk_service.proofs.SoundEffects.{Leads}
use Rattle.zk_service.proofs.SoundTrees.{each-put, same_node, still_there}
use Rattle.zk_machine.specs.Faults.{After, IsClosed, IsCounted, IsWhole, IsWithin, StaysWithin}

-- ---- trees that are whole

pub empty-whole : IsWhole empty
empty-whole = record {
  closed = λ p q below none. get-empty (slice_cmp nat_cmp) p;
  within = λ p n is. absurd (some_none (sym is ∙ get-empty (slice_cmp nat_cmp) p));
}

pub sound-within : (opened : Sessions) (t : Tree) → IsSoundTree opened t → IsWithin t
sound-within opened t sound p n there = let counted = sound.counted p n there in record { counted = counted.counted; creates = counted.most; small = sound.small p n there }

pub sound-whole : (opened : Sessions) (t : Tree) → IsSoundTree opened t → IsWhole t
sound-whole opened t sound = record { closed = closed; within = sound-within opened t sound }
  where
    closed : IsClosed t
    closed p q below none = ⊎_elim
        (λ e. e)
        (λ w.
        let up = sound.parents p w.0 w.1 (not_root p q below) in
        let same : up.path ≡ q = some_is (sym up.is ∙ below) in
        absurd (some_none (sym up.has.there ∙ ap (get t) same ∙ none)))
        (some_or_none (get t p))

-- ---- a node changes, comes or goes

closed-put : (t : Tree) (k : Bytes) (v : Node) → IsClosed t → ((q : Bytes) → parent k ≡ Some q → get t q ≢ None) → IsClosed (insert t k v)
closed-put t k v closed under p q below none = ⊎_elim
    (λ e. absurd (some_none (sym (get-insert_same t k v) ∙ sym (ap (get (insert t k v)) e) ∙ none)))
    (λ far.
    let gone : get t q ≡ None = sym (get-insert_other t k q v far) ∙ none in
    ⊎_elim
    (λ e. absurd (under q (ap parent (sym e) ∙ below) gone))
    (λ apart. get-insert_other t k p v apart ∙ closed p q below gone)
    (either p k))
    (either q k)

whole-change : (t : Tree) (k : Bytes) (old v : Node) → IsWhole t → get t k ≡ Some old → IsCounted v (num_children t k) → IsWhole (insert t k v)
whole-change t k old v whole there counted = record {
  closed = closed-put t k v whole.closed (λ q below none. some_none (sym there ∙ whole.closed k q below none));
  within = each-put (λ p n. IsCounted n (num_children (insert t k v) p)) t k v
      (λ p n is. subst (λ (j : ℕ). IsCounted n j) (sym (num_children-change t k v old p there)) (whole.within p n is))
      (subst (λ (j : ℕ). IsCounted v j) (sym (num_children-change t k v old k there)) counted);
}

module _ (t : Tree) (k q : Bytes) (up v : Node) (whole : IsWhole t) (none : get t k ≡ None) (below : parent k ≡ Some q) (there : get t q ≡ Some up)
    (counted : IsCounted up (num_children t q + 1)) (fresh : IsCounted v 0) where
  abbrev grown : Tree
  grown = insert t k v

  childless : num_children grown k ≡ 0
  childless = num_children-new_other t k v k (is_child-no k k q below (λ e. apart_from_parent k q below (sym e))) ∙ no_children t k (λ r h. whole.closed r k h none)

  counts : (p : Bytes) (n : Node) → get t p ≡ Some n → IsCounted n (num_children grown p)
  counts p n is = ⊎_elim
      (λ e.
      let at_q : n ≡ up = same_node t q n up (sym (ap (get t) e) ∙ is) there in
      subst (λ (j : ℕ). IsCounted n j) (sym (ap (num_children grown) e ∙ num_children-new t k v q none below)) (subst (λ (m : Node). IsCounted m (num_children t q + 1)) (sym at_q) counted))
      (λ far. subst (λ (j : ℕ). IsCounted n j) (sym (num_children-new_other t k v p (is_child-no k p q below (λ e. far (sym e))))) (whole.within p n is))
      (either p q)

  whole-new : IsWhole grown
  whole-new = record {
    closed = closed-put t k v whole.closed (λ r above gone. some_none (sym there ∙ ap (get t) (some_is (sym below ∙ above)) ∙ gone));
    within = each-put (λ p n. IsCounted n (num_children grown p)) t k v counts (subst (λ (j : ℕ). IsCounted v j) (sym childless) fresh);
  }

fewer_counted : (n : Node) (j k : ℕ) → j ≤ k → IsCounted n k → IsCounted n j
fewer_counted n j k le is = let c = is.counted in record { counted = omega (arith, ints); creates = is.creates; small = is.small }

whole-gone : (t : Tree) (k : Bytes) → IsWhole t → ((r : Bytes) → parent r ≡ Some k → get t r ≡ None) → IsWhole (remove t k)
whole-gone t k whole childless = record {
  closed = λ p q below none. gone p (⊎_elim
      (λ e. childless p (below ∙ ap Some e))
      (λ far. whole.closed p q below (sym (get-remove_other t k q far) ∙ none))
      (either q k));
  within = λ p n is.
      let was = still_there t k p n is in
      fewer_counted n (num_children (remove t k) p) (num_children t p) (num_children-gone t k p) (whole.within p n was.1);
}
  where
    gone : (p : Bytes) → get t p ≡ None → get (remove t k) p ≡ None
    gone p none = ⊎_elim (λ e. ap (get (remove t k)) e ∙ get-remove_same t k) (λ far. get-remove_other t k p far ∙ none) (either p k)

-- ---- what a request leads to

lead_unless : (b : Bool) (code : ℤ) (o : Outcome) → (b ≡ false → Leads IsWhole o) → Leads IsWhole (if b then Refused code else o)
lead_unless true code o leads = tt
lead_unless false code o leads = leads refl

lead_unrefused : (refusal : Option ℤ) (o : Outcome) → Leads IsWhole o → Leads IsWhole (unless_refused refusal o)
lead_unrefused (Some code) o leads = tt
lead_unrefused None o leads = leads

-- the path that a new node gets has the parent that was looked up for it
pub parent-made : (flags : ℤ) (path q : Bytes) (up : Node) → parent (named flags path) ≡ Some q → parent (made_path flags path up) ≡ Some q
parent-made flags path q up below = by_mode (is_sequential flags) below
  where
    by_mode : (b : Bool) → parent (if b then path ++ 49 ∷ [] else path) ≡ Some q → parent (if b then sequence_path path (nat_abs up.creates) else path) ≡ Some q
    by_mode true e = parent-sequence path (nat_abs up.creates) ∙ e
    by_mode false e = e

module _ (t : Tree) (limit : ℕ) (session flags : ℤ) (content : Bytes) (z : ℤ) (now : ℕ) (path : Bytes) (whole : IsWhole t) (small : length content ≤ max_frame) where
  module _ (q : Bytes) (up : Node) (below : parent (named flags path) ≡ Some q) (there : get t q ≡ Some up) (none : get t (made_path flags path up) ≡ None)
      (room : is_full t limit session flags up ≡ false) where
    abbrev p : Bytes
    p = made_path flags path up

    abbrev above : Node
    above = with_child up z

    abbrev between : Tree
    between = insert t q above

    below_q : parent p ≡ Some q
    below_q = parent-made flags path q up below

    fewer_creates : (up.creates +ℤ pos 1) ≤ℤ max_creates
    fewer_creates = by_test (int_eq up.creates max_creates) refl room
      where
        by_test : (b : Bool) → int_eq up.creates max_creates ≡ b → (b || (is_ephemeral flags && nat_le limit (length (owned t session)))) ≡ false → (up.creates +ℤ pos 1) ≤ℤ max_creates
        by_test true e h = absurd (cc)
        by_test false e h =
            let most = (whole.within q up there).creates in
            grind (arith, ints, e)

    counts_above : (n : ℕ) → n ≤ num_children t q + 1 → IsCounted above n
    counts_above n le = let c = whole.within q up there in let counted = c.counted in record { counted = omega (arith, ints); creates = fewer_creates; small = c.small }

    whole-made : IsWhole (insert between p (new_node content (if is_ephemeral flags then session else pos 0) z now))
    whole-made =
        whole-new between p q above (new_node content (if is_ephemeral flags then session else pos 0) z now)
        (whole-change t q up above whole there (counts_above (num_children t q) (omega arith)))
        (get-insert_other t q p above (apart_from_parent p q below_q) ∙ none) below_q (get-insert_same t q above)
        (counts_above (num_children between q + 1) (let e = num_children-change t q above up q there in omega (arith, e)))
        (record { counted = omega (arith, ints); creates = omega (arith, ints); small = small })

  made_node : (q : Bytes) (up : Node) (o : Option Node) → parent (named flags path) ≡ Some q → get t q ≡ Some up → get t (made_path flags path up) ≡ o
      → Leads IsWhole (create_node t limit session flags content z now q up (made_path flags path up) o)
  made_node q up (Some old) below there is = tt
  made_node q up None below there is = lead_unless (not (int_eq up.owner (pos 0))) _ _ (λ plain. lead_unless (is_full t limit session flags up) _ _ (λ room. whole-made q up below there is room))

  made_under : (q : Bytes) (o : Option Node) → parent (named flags path) ≡ Some q → get t q ≡ o → Leads IsWhole (create_under t limit session flags content z now path q o)
  made_under q None below is = tt
  made_under q (Some up) below is = made_node q up (get t (made_path flags path up)) below is refl

  made_at : (o : Option Bytes) → parent (named flags path) ≡ o → Leads IsWhole (create_at t limit session flags content z now path o)
  made_at None is = tt
  made_at (Some q) is = made_under q (get t q) is refl

  create-whole : Leads IsWhole (create t limit session flags content z now path)
  create-whole = made_at (parent (named flags path)) refl

module _ (t : Tree) (p : Bytes) (z : ℤ) (whole : IsWhole t) (childless : (r : Bytes) → parent r ≡ Some p → get t r ≡ None) where
  left : IsWhole (remove t p)
  left = whole-gone t p whole childless

  without : (q : Bytes) (o : Option Node) → parent p ≡ Some q → get t q ≡ o → IsWhole (removed_under t p z (Some q) o)
  without q None below is = left
  without q (Some up) below is =
      let there : get (remove t p) q ≡ Some up = get-remove_other t p q (λ e. apart_from_parent p q below (sym e)) ∙ is in
      let c = left.within q up there in
      whole-change (remove t p) q up (without_child up z) left there (record { counted = c.counted; creates = c.creates; small = c.small })

  by_parent : (o : Option Bytes) → parent p ≡ o → IsWhole (removed_under t p z o (at_parent t o))
  by_parent None is = left
  by_parent (Some q) is = without q (get t q) is refl

  whole-removed : IsWhole (removed t p z)
  whole-removed = by_parent (parent p) refl

delete-whole : (t : Tree) (p : Bytes) (version z : ℤ) (o : Option Node) → IsWhole t → Leads IsWhole (delete t p version z o)
delete-whole t p version z None whole = tt
delete-whole t p version z (Some n) whole =
    lead_unless (not (matches version n.version)) _ _ (λ same.
    lead_unless (not (num_children t p == 0)) _ _ (λ h.
    whole-removed t p z whole (λ r up. none-from_count t p r (by_test (num_children t p == 0) refl h) up)))
  where
    by_test : (b : Bool) → (num_children t p == 0) ≡ b → not b ≡ false → num_children t p ≡ 0
    by_test true e h = grind (arith, nat_tests, e)
    by_test false e h = absurd (cc)

set_data-whole : (t : Tree) (p content : Bytes) (version z : ℤ) (now : ℕ) (o : Option Node) → IsWhole t → length content ≤ max_frame → get t p ≡ o → Leads IsWhole (set_data t p content version z now o)
set_data-whole t p content version z now None whole small is = tt
set_data-whole t p content version z now (Some n) whole small is =
    lead_unless (not (matches version n.version)) _ _ (λ same.
    lead_unless (int_eq n.version max_version) _ _ (λ room.
    let c = whole.within p n is in
    whole-change t p n (with_content n content z now) whole is (record { counted = c.counted; creates = c.creates; small = small })))

check-whole : (t : Tree) (version : ℤ) (o : Option Node) → IsWhole t → Leads IsWhole (check t version o)
check-whole t version None whole = tt
check-whole t version (Some n) whole = lead_unless (not (matches version n.version)) _ _ (λ same. whole)

-- ---- requests, one after the other

module _ (limit : ℕ) (session z : ℤ) (now : ℕ) where
  effect-whole : (t : Tree) (p : Part) → IsWhole t → data_len p ≤ max_frame → Leads IsWhole (effect t limit session p z now)
  unfolding effect
  effect-whole t (Create path content acl flags) whole small = create-whole t limit session flags content z now path whole small
  effect-whole t (Delete path version) whole small = delete-whole t path version z (get t path) whole
  effect-whole t (SetData path content version) whole small = set_data-whole t path content version z now (get t path) whole small refl
  effect-whole t (Check path version) whole small = check-whole t version (get t path) whole

  single-whole : (t : Tree) (p : Part) → IsWhole t → data_len p ≤ max_frame → Leads IsWhole (single t limit session p z now)
  unfolding single
  single-whole t p whole small = lead_unrefused (form_refusal p) (effect t limit session p z now) (effect-whole t p whole small)

  pub parts-within : (t : Tree) (ps : List Part) → IsWhole t → AllByRecursion (λ p. data_len p ≤ max_frame) ps → StaysWithin t limit session ps z now
  unfolding StaysWithin
  parts-within t [] whole small = tt
  parts-within t (p ∷ ps) whole small = (whole.within, small.0, next (single t limit session p z now) (single-whole t p whole small.0) (λ u here. parts-within u ps here small.1))
    where
      next : (o : Outcome) → Leads IsWhole o → ((u : Tree) → IsWhole u → StaysWithin u limit session ps z now) → After o (λ u. StaysWithin u limit session ps z now)
      next (Refused code) lead more = tt
      next (Done r u g) lead more = more u lead
