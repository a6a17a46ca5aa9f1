-- The keys that the parts of a multi read, one part after the other, are those that the multi reads.
use Rattle.std.proofs.Common.{drop, ◌≡◌, ℕ, ℤ, Bool, true, false, List, [], ◌∷◌, ◌++◌, Option, Some, None, refl, sym, ap, ◌∙◌, subst, ◌⊎◌, inl, inr, ⊎_elim, ◌+◌, ◌≤◌, length, arith}
use Rattle.std.specs.Prelude.{IfSome, MatchOption, is_some, map, nat_abs, if◌then◌else◌}
use Rattle.std.specs.List.{flat_map}
use Rattle.std.proofs.lemmas.List.{length-append, map-append}
use Rattle.zx_base.specs.Maps.{Bytes}
use Rattle.zx_base.proofs.Options.{none_some, some_is, some_none}
use Rattle.zk_model.specs.declared.request.Acl.{Acl}
use Rattle.zk_model.specs.declared.request.Part.{Part}
use Rattle.zk_model.specs.declared.request.Part.TheVariants as part
use Rattle.zk_model.specs.Paths.{parent, sequence_path, with_one}
use Rattle.zk_model.specs.Single.{form_refusal, is_ephemeral, is_sequential, named}
use Rattle.zn_layout.specs.declared.record.CountRec.{CountRec}
use Rattle.zn_layout.specs.Keys.{Key, DataKey, key_bytes}
use Rattle.zn_view.specs.declared.leaving.NodeNow.{NodeNow}
use Rattle.zn_view.specs.declared.leaving.TreeChange.{TreeChange}
use Rattle.zn_view.specs.declared.want.Want.{Want}
use Rattle.zn_view.specs.Leaving.{is_checked, node_path, with_change, AreCountsNow, CreateLeaves, IsLeft, IsLeftBy, NodeLeaves, PartLeaves}
use Rattle.zn_view.specs.Needs.{FollowsFrom, FollowsPart, key_want}
use Rattle.zn_view.specs.Seen.{View}
use Rattle.zn_view.specs.Views.{part_keys, part_reads}
use Rattle.zn_view.proofs.LeftOnViews.{counts_still, left_still}
use Rattle.zn_view.proofs.Members.{In, in_either, in_left, in_right}
use Rattle.zn_updates.specs.KeysRead.{owner_nodes, plain_data, start_keys}
use Rattle.zn_updates.proofs.DeleteClauses.{owner_follows, owner_to}
use Rattle.zn_multi.specs.Reading.{data_at, sequence_data, AreCountsAbove, AreRead, AreReadFrom, IsCreateLeft, IsFormedRead, IsPartRead, IsReadBy, Left}
use Rattle.zn_multi.specs.declared.reading.PartRead.{PartRead}

module _ (id : ℤ) (v : View) where
  formed_reads : (p : Part) → form_refusal p ≡ None → part_reads id p ≡ part_keys id p
  formed_reads p e = ap (λ (o : Option ℤ). if is_some o then [] else part_keys id p) e

  refused_reads : (p : Part) (code : ℤ) → form_refusal p ≡ Some code → part_reads id p ≡ []
  refused_reads p code e = ap (λ (o : Option ℤ). if is_some o then [] else part_keys id p) e

  -- ---- the key of a sequence node, by what the parts before leave

  module _ (before : List Part) (path d : Bytes) (a : List Acl) (f : ℤ) (left : Left) (is : IsLeft id v before left) where
    abbrev above : Option Bytes
    above = parent (named f path)

    above_is : is_sequential f ≡ true → parent (with_one path) ≡ above
    above_is e = ap (λ b. parent (if b then with_one path else path)) (sym e)

    number_from : is_sequential f ≡ true → (l : Left) → l ≡ left → (q : Option Bytes) → q ≡ above → (counts : Option (Option CountRec)) → AreCountsAbove v l q counts → (k : Key) → In k (data_at (node_path true path counts)) → FollowsPart id v before (part.Create path d a f) (key_want k)
    number_from e l same q up None are k bad = absurd bad
    number_from e l same q up (Some None) are k bad = absurd bad
    number_from e l same q up (Some (Some c)) are k (inr bad) = absurd bad
    number_from e None same q up (Some (Some c)) are k (inl here) = absurd (some_none are)
    number_from e (Some changes) same None up (Some (Some c)) are k (inl here) = absurd (some_none are)
    number_from e (Some changes) same (Some q) up (Some (Some c)) are k (inl here) =
        (e, changes, subst (IsLeft id v before) (sym same) is, q, above_is e ∙ sym up, c, are, ap key_want (sym here))

    create_from : (counts : Option (Option CountRec)) → AreCountsAbove v left above counts → (b : Bool) → is_sequential f ≡ b → (k : Key) → In k (sequence_data b (node_path b path counts)) → FollowsPart id v before (part.Create path d a f) (key_want k)
    create_from counts are false e k bad = absurd bad
    create_from counts are true e k i = number_from e left refl above refl counts are k i

    create_to : (counts : Option (Option CountRec)) → AreCountsAbove v left above counts → (w : Want) → FollowsPart id v before (part.Create path d a f) w → (k : Key) × In k (sequence_data (is_sequential f) (node_path (is_sequential f) path counts)) × (w ≡ key_want k)
    create_to counts are w (e, changes, were, q, up, c, counted, w_is) =
        let all : left ≡ Some changes = left_still v v (λ k o h. h) id before changes left were is in
        let here : AreCountsNow v changes q counts = subst (λ (t : Left × Option Bytes). AreCountsAbove v t.0 t.1 counts) (λ i. (all i, (sym (above_is e) ∙ up) i)) are in
        let found : counts ≡ Some (Some c) = counts_still v v (λ k o h. h) changes q c counts counted here in
        let p : Bytes = sequence_path path (nat_abs c.creates) in
        (DataKey p, subst (λ (t : Bool × Option (Option CountRec)). In (DataKey p) (sequence_data t.0 (node_path t.0 path t.1))) (λ i. (sym e i, sym found i)) (inl refl), w_is)

  -- its key is among those that are read
  pub path_in : (s : Bool) (path : Bytes) (counts : Option (Option CountRec)) (p : Bytes) → node_path s path counts ≡ Some p → (xs ys : List Key) → In (DataKey p) (((xs ++ plain_data s path) ++ ys) ++ sequence_data s (node_path s path counts))
  path_in true path counts p h xs ys = in_right (DataKey p) ((xs ++ plain_data true path) ++ ys) (data_at (node_path true path counts)) (subst (λ (o : Option Bytes). In (DataKey p) (data_at o)) (sym h) (inl refl))
  path_in false path counts p h xs ys = in_left (DataKey p) ((xs ++ plain_data false path) ++ ys) [] (in_left (DataKey p) (xs ++ plain_data false path) ys (in_right (DataKey p) xs (DataKey path ∷ []) (inl (ap DataKey (some_is h)))))

  -- ---- what a part reads is what it reads alone, and what follows

  record IsMore (before : List Part) (p : Part) (own : List Key) : Type 0 where
    more : List Key
    keys : own ≡ part_keys id p ++ more
    from : (k : Key) → In k more → FollowsPart id v before p (key_want k)
    to : (w : Want) → FollowsPart id v before p w → (k : Key) × In k more × (w ≡ key_want k)

  all_in : (xs : List Key) (k : Key) → In k xs → In k (xs ++ [])
  all_in xs k i = in_left k xs [] i

  append_empty : (xs : List Key) → xs ≡ xs ++ []
  append_empty [] = refl
  append_empty (x ∷ xs) = ap (λ (l : List Key). x ∷ l) (append_empty xs)

  more_of : (before : List Part) (p : Part) (left : Left) → IsLeft id v before left → (own : List Key) (next : Left) → IsFormedRead id v left p own next → IsMore before p own
  more_of before (part.Create path d a f) left is own next h = record {
    more = sequence_data (is_sequential f) (node_path (is_sequential f) path h.counts);
    keys = h.keys;
    from = create_from before path d a f left is h.counts h.counts_are (is_sequential f) refl;
    to = create_to before path d a f left is h.counts h.counts_are;
  }
  more_of before (part.Delete path x) left is own next h = record {
    more = owner_nodes h.owner;
    keys = h.keys;
    from = λ k i. owner_follows path x v h.owner h.owner_is k i;
    to = λ w follows. owner_to path x v h.owner h.owner_is w follows;
  }
  more_of before (part.SetData path d x) left is own next h = record { more = []; keys = h.0 ∙ append_empty (part_keys id (part.SetData path d x)); from = λ k bad. absurd bad; to = λ w bad. absurd bad }
  more_of before (part.Check path x) left is own next h = record { more = []; keys = h.0 ∙ append_empty (part_keys id (part.Check path x)); from = λ k bad. absurd bad; to = λ w bad. absurd bad }

  pub formed_keys : (p : Part) (left : Left) (own : List Key) (next : Left) → IsFormedRead id v left p own next → (k : Key) → In k (part_keys id p) → In k own
  formed_keys (part.Create path d a f) left own next h k i = subst (In k) (sym h.keys) (in_left k (part_keys id (part.Create path d a f)) (sequence_data (is_sequential f) (node_path (is_sequential f) path h.counts)) i)
  formed_keys (part.Delete path x) left own next h k i = subst (In k) (sym h.keys) (in_left k (part_keys id (part.Delete path x)) (owner_nodes h.owner) i)
  formed_keys (part.SetData path d x) left own next h k i = subst (In k) (sym h.0) i
  formed_keys (part.Check path x) left own next h k i = subst (In k) (sym h.0) i

  module _ (p : Part) (before : List Part) (form : form_refusal p ≡ None) (own : List Key) (is_more : IsMore before p own) where
    own_read : (k : Key) → In k own → In k (part_reads id p) ⊎ FollowsPart id v before p (key_want k)
    own_read k i = ⊎_elim
        (λ a. inl (subst (In k) (sym (formed_reads p form)) a))
        (λ b. inr (is_more.from k b))
        (in_either k (part_keys id p) is_more.more (subst (In k) is_more.keys i))

    read_own : (k : Key) → In k (part_reads id p) → In k own
    read_own k i = subst (In k) (sym is_more.keys) (in_left k (part_keys id p) is_more.more (subst (In k) (formed_reads p form) i))

    follows_own : (w : Want) → FollowsPart id v before p w → (k : Key) × In k own × (w ≡ key_want k)
    follows_own w follows = let k = is_more.to w follows in (k.0, subst (In k.0) (sym is_more.keys) (in_right k.0 (part_keys id p) is_more.more k.1), k.2)

  -- ---- what is left with one part more

  create_left : (changes : List TreeChange) (path : Bytes) (s e : Bool) (above : Option Bytes) (counts : Option (Option CountRec)) (next : Left) → AreCountsAbove v (Some changes) above counts → IsCreateLeft v (Some changes) e id above counts (node_path s path counts) next → CreateLeaves v changes path s e id above next
  create_left changes path s e None counts next are h = h
  create_left changes path s e (Some q) counts next are (up, up_is, leaves) = (up, counts, up_is, are, leaves)

  part_left : (changes : List TreeChange) (p : Part) (own : List Key) (next : Left) → IsFormedRead id v (Some changes) p own next → PartLeaves id v changes p next
  part_left changes (part.Create path d a f) own next h = create_left changes path (is_sequential f) (is_ephemeral f) (parent (named f path)) h.counts next h.counts_are h.next_is
  part_left changes (part.Delete path x) own next h = h.next_is
  part_left changes (part.SetData path d x) own next h = h.1
  part_left changes (part.Check path x) own next h = h.1

  none_left : (p : Part) (own : List Key) (next : Left) → IsFormedRead id v None p own next → next ≡ None
  none_left (part.Create path d a f) own next h = h.next_is
  none_left (part.Delete path x) own next h = h.next_is
  none_left (part.SetData path d x) own next h = h.1
  none_left (part.Check path x) own next h = h.1

  left_by : (left : Left) (p : Part) (own : List Key) (next : Left) → IsReadBy id v left p own next → IsLeftBy id v left p next
  left_by None p own next h = at (form_refusal p) h
    where
      at : (o : Option ℤ) → MatchOption o (IsFormedRead id v None p own next) (λ code. (own ≡ []) × (next ≡ None)) → next ≡ None
      at None k = none_left p own next k
      at (Some code) k = k.1
  left_by (Some changes) p own next h = at (form_refusal p) h
    where
      at : (o : Option ℤ) → MatchOption o (IsFormedRead id v (Some changes) p own next) (λ code. (own ≡ []) × (next ≡ None)) → MatchOption o (PartLeaves id v changes p next) (λ code. next ≡ None)
      at None k = part_left changes p own next k
      at (Some code) k = k.1

  left_next : (p : Part) (before : List Part) (left : Left) → IsLeft id v before left → (own : List Key) (next : Left) → IsReadBy id v left p own next → IsLeft id v (p ∷ before) next
  left_next p before left is own next h = (left, is, left_by left p own next h)

  -- ---- one part

  by_form : (left : Left) (p : Part) (own : List Key) (next : Left) → IsReadBy id v left p own next → ((form_refusal p ≡ None) × IsFormedRead id v left p own next) ⊎ ((code : ℤ) × (form_refusal p ≡ Some code) × (own ≡ []) × (next ≡ None))
  by_form left p own next h =
      (elim (form_refusal p) as (λ o. form_refusal p ≡ o → MatchOption o (IsFormedRead id v left p own next) (λ code. (own ≡ []) × (next ≡ None)) → ((form_refusal p ≡ None) × IsFormedRead id v left p own next) ⊎ ((code : ℤ) × (form_refusal p ≡ Some code) × (own ≡ []) × (next ≡ None))) [
        | None ↦ λ e k. inl (e, k)
        | Some code ↦ λ e k. inr (code, e, k.0, k.1)
      ]) refl h

  one_from : (p : Part) (before : List Part) (left : Left) → IsLeft id v before left → (own : List Key) (next : Left) → IsReadBy id v left p own next → (k : Key) → In k own → In k (part_reads id p) ⊎ ((form_refusal p ≡ None) × FollowsPart id v before p (key_want k))
  one_from p before left is own next h k i = ⊎_elim
      (λ a. ⊎_elim (λ x. inl x) (λ y. inr (a.0, y)) (own_read p before a.0 own (more_of before p left is own next a.1) k i))
      (λ b. absurd (subst (In k) b.2 i))
      (by_form left p own next h)

  one_to : (p : Part) (before : List Part) (left : Left) → IsLeft id v before left → (own : List Key) (next : Left) → IsReadBy id v left p own next → (k : Key) → In k (part_reads id p) → In k own
  one_to p before left is own next h k i = ⊎_elim
      (λ a. read_own p before a.0 own (more_of before p left is own next a.1) k i)
      (λ b. absurd (subst (In k) (refused_reads p b.0 b.1) i))
      (by_form left p own next h)

  one_follows : (p : Part) (before : List Part) (left : Left) → IsLeft id v before left → (own : List Key) (next : Left) → IsReadBy id v left p own next → (w : Want) → form_refusal p ≡ None → FollowsPart id v before p w → (k : Key) × In k own × (w ≡ key_want k)
  one_follows p before left is own next h w form follows = ⊎_elim
      (λ a. follows_own p before a.0 own (more_of before p left is own next a.1) w follows)
      (λ b. absurd (none_some (sym form ∙ b.1)))
      (by_form left p own next h)

  -- ---- all parts

  pub read_from : (ps before : List Part) (left : Left) → IsLeft id v before left → (ks : List Key) → AreReadFrom id v left ps ks → (k : Key) → In k ks → In k (flat_map (part_reads id) ps) ⊎ FollowsFrom id v before ps (key_want k)
  read_from [] before left is ks h k i = absurd (subst (In k) h i)
  read_from (p ∷ ps) before left is ks (own, next, rest, one, more, all) k i = ⊎_elim
      (λ a. ⊎_elim (λ x. inl (in_left k (part_reads id p) (flat_map (part_reads id) ps) x)) (λ y. inr (inl y)) (one_from p before left is own next one k a))
      (λ b. ⊎_elim (λ x. inl (in_right k (part_reads id p) (flat_map (part_reads id) ps) x)) (λ y. inr (inr y)) (read_from ps (p ∷ before) next (left_next p before left is own next one) rest more k b))
      (in_either k own rest (subst (In k) all i))

  pub read_to : (ps before : List Part) (left : Left) → IsLeft id v before left → (ks : List Key) → AreReadFrom id v left ps ks → (k : Key) → In k (flat_map (part_reads id) ps) → In k ks
  read_to [] before left is ks h k i = absurd i
  read_to (p ∷ ps) before left is ks (own, next, rest, one, more, all) k i = subst (In k) (sym all) (⊎_elim
      (λ a. in_left k own rest (one_to p before left is own next one k a))
      (λ b. in_right k own rest (read_to ps (p ∷ before) next (left_next p before left is own next one) rest more k b))
      (in_either k (part_reads id p) (flat_map (part_reads id) ps) i))

  pub follows_to : (ps before : List Part) (left : Left) → IsLeft id v before left → (ks : List Key) → AreReadFrom id v left ps ks → (w : Want) → FollowsFrom id v before ps w → (k : Key) × In k ks × (w ≡ key_want k)
  follows_to [] before left is ks h w bad = absurd bad
  follows_to (p ∷ ps) before left is ks (own, next, rest, one, more, all) w (inl here) =
      let k = one_follows p before left is own next one w here.0 here.1 in
      (k.0, subst (In k.0) (sym all) (in_left k.0 own rest k.1), k.2)
  follows_to (p ∷ ps) before left is ks (own, next, rest, one, more, all) w (inr later) =
      let k = follows_to ps (p ∷ before) next (left_next p before left is own next one) rest more w later in
      (k.0, subst (In k.0) (sym all) (in_right k.0 own rest k.1), k.2)

  pub start_left : IsLeft id v [] (Some [])
  start_left = refl

-- ---- as the code keeps them: each part makes one change at most

module _ (n : ℕ) where
  abbrev IsFew : ℕ → Left → Type 0
  IsFew k left = IfSome left (λ (changes : List TreeChange). length changes ≤ k)

  more_few : (left : Left) → IsFew n left → IsFew (n + 1) left
  more_few None h = tt
  more_few (Some changes) h = omega (arith, h)

  change_few : (changes : List TreeChange) (c : Option TreeChange) → length changes ≤ n → IsFew (n + 1) (with_change changes c)
  change_few changes None h = tt
  change_few changes (Some c) h = omega (arith, h, length-append changes (c ∷ []))

  node_few : (v : View) (changes : List TreeChange) (e : Bool) (id : ℤ) (up : Option (Option NodeNow)) (counts : Option (Option CountRec)) (node : Option Bytes) (next : Left) → length changes ≤ n → NodeLeaves v changes e id up counts node next → IsFew (n + 1) next
  node_few v changes e id up counts None next h is = subst (IsFew (n + 1)) (sym is) tt
  node_few v changes e id up counts (Some p) next h (there, owned, there_is, owned_is, is) = subst (IsFew (n + 1)) (sym is) (change_few changes _ h)

  check_few : (changes : List TreeChange) (b : Bool) → length changes ≤ n → IsFew (n + 1) (if b then Some changes else None)
  check_few changes false h = tt
  check_few changes true h = more_few (Some changes) h

  part_few : (id : ℤ) (v : View) (changes : List TreeChange) (p : Part) (next : Left) → length changes ≤ n → PartLeaves id v changes p next → IsFew (n + 1) next
  part_few id v changes (part.Create path d a f) next h is = at (parent (named f path)) is
    where
      at : (o : Option Bytes) → CreateLeaves v changes path (is_sequential f) (is_ephemeral f) id o next → IsFew (n + 1) next
      at None none = subst (IsFew (n + 1)) (sym none) tt
      at (Some q) (up, counts, up_is, counts_are, made) = node_few v changes (is_ephemeral f) id up counts (node_path (is_sequential f) path counts) next h made
  part_few id v changes (part.Delete path x) next h (m, counts, mi, ci, is) = subst (IsFew (n + 1)) (sym is) (change_few changes _ h)
  part_few id v changes (part.SetData path d x) next h (m, mi, is) = subst (IsFew (n + 1)) (sym is) (change_few changes _ h)
  part_few id v changes (part.Check path x) next h (m, mi, is) = subst (IsFew (n + 1)) (sym is) (check_few changes (is_checked x m) h)

  next_few : (id : ℤ) (v : View) (left : Left) (p : Part) (next : Left) → IsLeftBy id v left p next → IsFew n left → IsFew (n + 1) next
  next_few id v None p next is few = subst (IsFew (n + 1)) (sym is) tt
  next_few id v (Some changes) p next is few = at (form_refusal p) is
    where
      at : (o : Option ℤ) → MatchOption o (PartLeaves id v changes p next) (λ code. next ≡ None) → IsFew (n + 1) next
      at None k = part_few id v changes p next few k
      at (Some code) k = subst (IsFew (n + 1)) (sym k) tt

-- what a part reads if its form is not refused
pub formed_read : (id : ℤ) (v : View) (left : Left) (p : Part) (own : List Key) (next : Left) → form_refusal p ≡ None → IsFormedRead id v left p own next → IsReadBy id v left p own next
formed_read id v left p own next form h = subst (λ (o : Option ℤ). MatchOption o (IsFormedRead id v left p own next) (λ code. (own ≡ []) × (next ≡ None))) (sym form) h

abbrev NothingRead : List Key → Left → Type 0
NothingRead own next = (own ≡ []) × (next ≡ None)

pub refused_read : (id : ℤ) (v : View) (left : Left) (p : Part) (code : ℤ) → form_refusal p ≡ Some code → IsReadBy id v left p [] None
refused_read id v left p code form = subst (λ (o : Option ℤ). MatchOption o (IsFormedRead id v left p [] None) (λ c. NothingRead [] None)) (sym form) (refl, refl)

-- one list of keys after another
pub keys_after : (ks : List Bytes) (a b : List Key) (new : List Bytes) → ks ≡ map key_bytes a → new ≡ ks ++ map key_bytes b → new ≡ map key_bytes (a ++ b)
keys_after ks a b new is more = more ∙ ap (λ (l : List Bytes). l ++ map key_bytes b) is ∙ sym (map-append key_bytes a b)

-- ---- what was read so far, and what the rest reads

append_after : (a b rest : List Key) → a ++ (b ++ rest) ≡ (a ++ b) ++ rest
append_after [] b rest = refl
append_after (k ∷ a) b rest = ap (λ (l : List Key). k ∷ l) (append_after a b rest)

abbrev pub IsReadAfter : ℤ → View → List Part → ℕ → Left → List Bytes → Type 0
IsReadAfter id v parts i left keys =
    (sofar : List Key)
    × (keys ≡ map key_bytes (start_keys id ++ sofar))
    × ((rest : List Key) → AreReadFrom id v left (drop i parts) rest → AreRead id v parts (sofar ++ rest))
    × IfSome left (λ (changes : List TreeChange). length changes ≤ i)

pub part_after : (id : ℤ) (v : View) (parts : List Part) (i : ℕ) (p : Part) (left : Left) (keys : List Bytes) (r : PartRead) (new : List Bytes)
    → drop i parts ≡ p ∷ drop (i + 1) parts
    → IsPartRead id v left p r
    → new ≡ keys ++ r.keys
    → IsReadAfter id v parts i left keys
    → IsReadAfter id v parts (i + 1) r.left new
part_after id v parts i p left keys r new here part more h = (
  h.0 ++ part.own,
  keys_after keys (start_keys id ++ h.0) part.own new h.1 (more ∙ ap (λ (l : List Bytes). keys ++ l) part.keys),
  λ rest reads. subst (AreRead id v parts) (append_after h.0 part.own rest)
      (h.2 (part.own ++ rest) (subst (λ (ps : List Part). AreReadFrom id v left ps (part.own ++ rest)) (sym here) (part.own, r.left, rest, part.read, reads, refl))),
  next_few i id v left p r.left (left_by id v left p part.own r.left part.read) h.3,
)

pub all_after : (id : ℤ) (v : View) (parts : List Part) (i : ℕ) (left : Left) (keys : List Bytes) → drop i parts ≡ [] → IsReadAfter id v parts i left keys → (ks : List Key) × AreRead id v parts ks × (keys ≡ map key_bytes (start_keys id ++ ks))
all_after id v parts i left keys none h =
    (h.0 ++ [], h.2 [] (subst (λ (ps : List Part). AreReadFrom id v left ps []) (sym none) refl), h.1 ∙ ap (λ (l : List Key). map key_bytes (start_keys id ++ l)) (append_none h.0))
  where
    append_none : (a : List Key) → a ≡ a ++ []
    append_none [] = refl
    append_none (k ∷ a) = ap (λ (l : List Key). k ∷ l) (append_none a)
