-- What a walk over the changes keeps of the keys of a range, key by key.
use Rattle.std.proofs.Common.{◌≡◌, ℕ, ◌+◌, ◌<◌, ◌^◌, length, Bool, true, false, cond, ℤ, pos, List, [], ◌∷◌, Option, Some, None, refl, sym, ap, ◌∙◌, subst}
use Rattle.std.specs.Ordering.{nat_cmp}
use Rattle.std.specs.Cmp.Lexicographic.{slice_cmp}
use Rattle.std.specs.FinMap.{get, empty}
use Rattle.std.specs.List.{list_all}
use Rattle.std.specs.List.Sorted.{IsStrictlySortedBy}
use Rattle.std.specs.Map.{lookup, keys_of, values_of}
use Rattle.std.specs.BTreeMap.{is_at}
use Rattle.zx_base.specs.Maps.{Bytes, same}
use Rattle.zx_base.proofs.MapLaws.{same-true}
use Rattle.ev_types.specs.declared.answer.Kv.{Kv}
use Rattle.ev_types.specs.declared.ask.RangeReq.{RangeReq}
use Rattle.ev_types.specs.Ranges.{is_within, found, found_among}
use Rattle.ev_types.specs.Store.{Change, Puts, Removes, after_changes, keys_from}
use Rattle.ev_types.proofs.Names.{names-tie}
use Rattle.ev_store.specs.declared.change.Content.{Content}
use Rattle.ev_store.specs.Changes.{change_of, puts_once}
use Rattle.ev_store.proofs.Entries.{values-in_range}
use Rattle.ev_store.proofs.Folding.{get-after_changes}
use Rattle.ev_store.specs.Folds.{kv_after_put, key_after_change, key_after_changes, key_after_revisions, within_change, within_changes, within_revisions}
use Rattle.zx_base.proofs.Booleans.{cond-same}

-- the range of all keys
pub is_within_all : (k : Bytes) → is_within [] (0 ∷ []) k ≡ true
unfolding is_within
is_within_all [] = refl
is_within_all (x ∷ k) = refl

-- what is held of it is what each key has
pub held_all : (range : RangeReq) (css : List (List Change)) (f : Bytes → Option Kv) → ((k : Bytes) → is_within range.key range.end k ≡ true) →
    ((q : Bytes) → f q ≡ within_revisions range 1 q None css) → (q : Bytes) → f q ≡ key_after_revisions 1 q None css
held_all range css f all gets q = gets q ∙ ap (λ b. cond b (key_after_revisions 1 q None css) None) (all q)

module _ (range : RangeReq) where
  within : Bytes → Bool
  within = is_within range.key range.end

  -- a key in the range that the change writes takes what the change says, and any other stays
  written : (k q : Bytes) (w : Option Kv → Option Kv) (f : Bytes → Option Kv) → within k ≡ true →
      cond (is_at (slice_cmp nat_cmp k) q) (w (f k)) (f q) ≡ cond (within q) (cond (same k q) (w (f q)) (f q)) (f q)
  written k q w f inside =
      ap (λ b. cond b (w (f k)) (f q)) (names-tie k q)
      ∙ elim (same k q) as (λ b. same k q ≡ b → cond b (w (f k)) (f q) ≡ cond (within q) (cond b (w (f q)) (f q)) (f q)) [
        | true ↦ λ e. ap (λ x. w (f x)) (same-true k q e) ∙ ap (λ b. cond b (w (f q)) (f q)) (sym (subst (λ (x : Bytes). within x ≡ true) (same-true k q e) inside))
        | false ↦ λ e. sym (cond-same (within q) (f q))
      ] refl

  pub hold-put : (r : ℤ) (k v : Bytes) (lease : ℤ) (found : Kv) (f g : Bytes → Option Kv) → is_within range.key range.end k ≡ true → found ≡ kv_after_put r k v lease (f k) →
      ((q : Bytes) → g q ≡ cond (is_at (slice_cmp nat_cmp k) q) (Some found) (f q)) → (q : Bytes) → g q ≡ within_change range r q (f q) (Puts k v lease)
  unfolding within
  hold-put r k v lease found f g inside is writes q =
      writes q ∙ ap (λ x. cond (is_at (slice_cmp nat_cmp k) q) (Some x) (f q)) is ∙ written k q (λ o. Some (kv_after_put r k v lease o)) f inside

  pub hold-remove : (r : ℤ) (k : Bytes) (f g : Bytes → Option Kv) → is_within range.key range.end k ≡ true →
      ((q : Bytes) → g q ≡ cond (is_at (slice_cmp nat_cmp k) q) None (f q)) → (q : Bytes) → g q ≡ within_change range r q (f q) (Removes k)
  unfolding within
  hold-remove r k f g inside writes q = writes q ∙ written k q (λ o. None) f inside

  passed : (k q : Bytes) (x o : Option Kv) → within k ≡ false → o ≡ cond (within q) (cond (same k q) x o) o
  passed k q x o outside =
      elim (same k q) as (λ b. same k q ≡ b → o ≡ cond (within q) (cond b x o) o) [
        | true ↦ λ e. ap (λ b. cond b x o) (sym (subst (λ (y : Bytes). within y ≡ false) (same-true k q e) outside))
        | false ↦ λ e. sym (cond-same (within q) o)
      ] refl

  -- a change outside the range
  pub hold-pass : (r : ℤ) (k : Bytes) (content : Option Content) (q : Bytes) (o : Option Kv) → is_within range.key range.end k ≡ false → o ≡ within_change range r q o (change_of k content)
  unfolding within
  hold-pass r k None q o outside = passed k q None o outside
  hold-pass r k (Some c) q o outside = passed k q (Some (kv_after_put r k c.value c.lease o)) o outside

  chosen_twice : {A : Type 0} (b : Bool) (x : A → A) (y : A → A) (o : A) → cond b (x (cond b (y o) o)) (cond b (y o) o) ≡ cond b (x (y o)) o
  chosen_twice true x y o = refl
  chosen_twice false x y o = refl

  pub within_changes-cons : (r : ℤ) (q : Bytes) (o : Option Kv) (c : Change) (cs : List Change) → within_changes range r q (within_change range r q o c) cs ≡ within_changes range r q o (c ∷ cs)
  unfolding within
  within_changes-cons r q o c cs = chosen_twice (within q) (λ p. key_after_changes r q p cs) (λ p. key_after_change r q p c) o

  pub within_revisions-cons : (r : ℕ) (q : Bytes) (o : Option Kv) (cs : List Change) (css : List (List Change)) →
      within_revisions range (r + 1) q (within_changes range (pos r) q o cs) css ≡ within_revisions range r q o (cs ∷ css)
  unfolding within
  within_revisions-cons r q o cs css = chosen_twice (within q) (λ p. key_after_revisions (r + 1) q p css) (λ p. key_after_changes (pos r) q p cs) o

  -- what both walks leave of a key
  pub looked : (r : ℤ) (q : Bytes) (css : List (List Change)) (cs : List Change) → list_all puts_once css ≡ true → length css < 2 ^ 62 → puts_once cs ≡ true →
      within_changes range r q (within_revisions range 1 q None css) cs ≡ cond (is_within range.key range.end q) (get (after_changes r (keys_from 1 empty css) cs) q) None
  unfolding within
  looked r q css cs once short next_once =
      chosen_twice (within q) (λ p. key_after_changes r q p cs) (λ p. key_after_revisions 1 q p css) None
      ∙ ap (λ o. cond (within q) o None) (sym (get-after_changes css cs r q once short next_once))

  -- the entries that both walks leave are those of the range
  pub looked-values : (r : ℤ) (css : List (List Change)) (cs : List Change) (before after : List (Bytes × Kv)) → list_all puts_once css ≡ true → length css < 2 ^ 62 → puts_once cs ≡ true →
      IsStrictlySortedBy (slice_cmp nat_cmp) (keys_of after) →
      ((q : Bytes) → lookup (is_at (slice_cmp nat_cmp q)) before ≡ within_revisions range 1 q None css) →
      ((q : Bytes) → lookup (is_at (slice_cmp nat_cmp q)) after ≡ within_changes range r q (lookup (is_at (slice_cmp nat_cmp q)) before) cs) →
      found_among range (values_of after) ≡ found range (after_changes r (keys_from 1 empty css) cs)
  looked-values r css cs before after once short next_once ordered first then =
      ap (found_among range) (values-in_range range (after_changes r (keys_from 1 empty css) cs) after ordered
      (λ q. then q ∙ ap (λ o. within_changes range r q o cs) (first q) ∙ looked r q css cs once short next_once))
