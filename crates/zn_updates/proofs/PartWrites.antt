-- Which keys the choice of a part writes, and how many bytes.
use Rattle.std.proofs.Common.{◌≡◌, ℕ, ◌+◌, ◌≤◌, ℤ, pos, true, false, Bool, length, List, [], ◌∷◌, ◌++◌, Option, Some, None, refl, sym, ◌∙◌, subst, inl, inr, arith}
use Rattle.std.specs.Prelude.{All, IsTrue, nat_abs, nat_le, not}
use Rattle.std.specs.List.{sum_by}
use Rattle.std.specs.Ordering.{int_eq}
use Rattle.std.proofs.lemmas.Bool.Decides.{Decides-int_eq}
use Rattle.std.proofs.lemmas.List.Elements.{All-nil, All-cons}
use Rattle.zx_base.specs.Maps.{Bytes}
use Rattle.zx_base.proofs.Options.{some_none}
use Rattle.zk_model.specs.declared.request.Part.{Part}
use Rattle.zk_model.specs.declared.request.Part.TheVariants as part
use Rattle.zk_model.specs.Limits.{max_creates, max_owned, max_version}
use Rattle.zk_model.specs.Paths.{is_path}
use Rattle.zk_model.specs.Single.{matches}
use Rattle.zn_layout.specs.declared.record.CountRec.{CountRec}
use Rattle.zn_layout.specs.declared.record.SessionRec.{SessionRec}
use Rattle.zn_layout.specs.Begin.{new_record, first_counts}
use Rattle.zn_layout.specs.Changes.{KeyChange, delete_key, put_key}
use Rattle.zn_layout.specs.Keys.{Key, DataKey, CountsKey, SessionKey, key_bytes}
use Rattle.zn_layout.specs.Records.{counts_value, has_counts, node_value}
use Rattle.zn_layout.proofs.Paths.{path_short}
use Rattle.zn_view.specs.Seen.{View}
use Rattle.zn_view.specs.Views.{part_keys}
use Rattle.zn_view.proofs.Members.{In, in_contains}
use Rattle.zn_view.proofs.Sizes.{counts-size, counts_value-size, data-size, node_value-size, session-size}
use Rattle.zn_updates.specs.declared.seen.SeenData.{SeenData}
use Rattle.zn_updates.specs.declared.seen.SeenCounts.{SeenCounts}
use Rattle.zn_layout.specs.Counts.{one_less, one_more}
use Rattle.zn_updates.specs.Choices.{create_changes, create_choice, create_owned, delete_changes, delete_choice, delete_here, delete_owned, put_owned, set_data_choice, set_record}
use Rattle.zn_updates.specs.OwnedLists.{with_node, without_node}
use Rattle.zn_updates.specs.Parts.{check_choice, part_content, plain_size, AreOwn, IfData, IfOwn, IsOwnChange, IsTouching}
use Rattle.zn_updates.proofs.WellMade.{changes_cond}

number_is : (m n : ℕ) → SessionKey m ≡ SessionKey n → n ≡ m
number_is m n e = let same : m ≡ n = cc in sym same

not_owned : (owner : ℤ) → int_eq owner (pos 0) ≡ false → owner ≡ pos 0 → ⊥
not_owned owner e is = true_false (sym ((Decides-int_eq owner (pos 0)).1 is) ∙ e)
  where
    true_false : true ≡ false → ⊥
    true_false bad = cc

module _ (id : ℤ) (v : View) (r : Part) where
  abbrev Own : List KeyChange → Type 0
  Own cs = All (IsOwnChange id v r) cs

  own_put : (k : Key) (value : Bytes) → length (key_bytes k) ≤ 1033 → ((n : ℕ) → k ≡ SessionKey n → IsTouching id v r n) → IsOwnChange id v r (put_key k value)
  own_put k value short nodes = record { short = short; gone = λ e. absurd (some_none e); nodes = nodes }

  own_gone : (k : Key) → length (key_bytes k) ≤ 1033 → In k (part_keys id r) → ((n : ℕ) → k ≡ SessionKey n → IsTouching id v r n) → IsOwnChange id v r (delete_key k)
  own_gone k short inside nodes = record { short = short; gone = λ e. in_contains k (part_keys id r) inside; nodes = nodes }

  not_data : (p : Bytes) (n : ℕ) → DataKey p ≡ SessionKey n → IsTouching id v r n
  not_data p n e = absurd (cc)

  not_counts : (p : Bytes) (n : ℕ) → CountsKey p ≡ SessionKey n → IsTouching id v r n
  not_counts p n e = absurd (cc)

  data_short : (p : Bytes) → IsTrue (is_path p) → length (key_bytes (DataKey p)) ≤ 1033
  data_short p valid = omega (arith, data-size p, path_short p valid)

  counts_short : (p : Bytes) → IsTrue (is_path p) → length (key_bytes (CountsKey p)) ≤ 1033
  counts_short p valid = omega (arith, counts-size p, path_short p valid)

  nodes_short : (n : ℕ) → length (key_bytes (SessionKey n)) ≤ 1033
  nodes_short n = omega (arith, session-size n)

  own_data : (p value : Bytes) → IsTrue (is_path p) → IsOwnChange id v r (put_key (DataKey p) value)
  own_data p value valid = own_put (DataKey p) value (data_short p valid) (not_data p)

  own_counts : (p value : Bytes) → IsTrue (is_path p) → IsOwnChange id v r (put_key (CountsKey p) value)
  own_counts p value valid = own_put (CountsKey p) value (counts_short p valid) (not_counts p)

  own_nodes : (owner : ℤ) (nodes : SessionRec) → IsTouching id v r (nat_abs owner) → Own (put_owned owner nodes ∷ [])
  own_nodes owner nodes touching = All-cons (IsOwnChange id v r) (put_owned owner nodes) []
      (own_put (SessionKey (nat_abs owner)) _ (nodes_short (nat_abs owner)) (λ n e. subst (IsTouching id v r) (sym (number_is (nat_abs owner) n e)) touching)) (All-nil (IsOwnChange id v r))

  -- ---- create

  module _ (p q content : Bytes) (valid : IsTrue (is_path p)) (also : IsTrue (is_path q)) (now : ℕ) (small : length content ≤ length (part_content r)) where
    created_own : (b : Bool) (owner : ℤ) (above : CountRec) (more : List KeyChange) → Own more → Own (create_changes p q content now owner b above ++ more)
    created_own true owner above more rest =
        All-cons (IsOwnChange id v r) (put_key (DataKey p) (node_value (new_record content now owner))) (put_key (CountsKey p) (counts_value first_counts) ∷ put_key (CountsKey q) (counts_value (one_more above)) ∷ more) (own_data p _ valid)
        (All-cons (IsOwnChange id v r) (put_key (CountsKey p) (counts_value first_counts)) (put_key (CountsKey q) (counts_value (one_more above)) ∷ more) (own_counts p _ valid)
        (All-cons (IsOwnChange id v r) (put_key (CountsKey q) (counts_value (one_more above))) more (own_counts q _ also) rest))
    created_own false owner above more rest =
        All-cons (IsOwnChange id v r) (put_key (DataKey p) (node_value (new_record content now owner))) (put_key (CountsKey q) (counts_value (one_more above)) ∷ more) (own_data p _ valid)
        (All-cons (IsOwnChange id v r) (put_key (CountsKey q) (counts_value (one_more above))) more (own_counts q _ also) rest)

    persistent_own : (above : CountRec) → AreOwn id v r (create_changes p q content now (pos 0) true above)
    persistent_own above = record {
      each = created_own true (pos 0) above [] (All-nil (IsOwnChange id v r));
      light = omega (arith, node_value-size (new_record content now (pos 0)), counts_value-size first_counts, counts_value-size (one_more above), small);
    }

    -- the list of the session's nodes does not count
    owned_light : (b : Bool) (above : CountRec) (session : ℤ) (nodes : SessionRec) → sum_by plain_size (create_changes p q content now session b above ++ put_owned session nodes ∷ []) ≤ 55 + length (part_content r)
    owned_light true above session nodes = omega (arith, node_value-size (new_record content now session), counts_value-size first_counts, counts_value-size (one_more above), small)
    owned_light false above session nodes = omega (arith, node_value-size (new_record content now session), counts_value-size (one_more above), small)

    owned_own : (above : CountRec) (session : ℤ) (o : Option SessionRec) → IsTouching id v r (nat_abs session) → IfOwn id v r (create_owned p q content now above session o)
    owned_own above session None touching = tt
    owned_own above session (Some nodes) touching = changes_cond (λ cs ts. AreOwn id v r cs) (nat_le (max_owned nodes.layout) (length nodes.paths)) _ _ (λ _. tt) (λ e. record {
      each = created_own (has_counts nodes.layout) session above (put_owned session (with_node p nodes) ∷ []) (own_nodes session (with_node p nodes) touching);
      light = owned_light (has_counts nodes.layout) above session (with_node p nodes);
    })

    pub create-own : (ephemeral : Bool) (session : ℤ) (x : Option SeenData) (c : Option SeenCounts) (taken : Bool) (nodes : Option SessionRec) → (ephemeral ≡ true → IsTouching id v r (nat_abs session)) → IfOwn id v r (create_choice p q content now ephemeral session x c taken nodes)
    unfolding create_choice
    create-own ephemeral session None c taken nodes touching = tt
    create-own ephemeral session (Some x) None taken nodes touching = tt
    create-own ephemeral session (Some x) (Some c) true nodes touching = tt
    create-own ephemeral session (Some x) (Some c) false nodes touching =
        changes_cond (λ cs ts. AreOwn id v r cs) (not (int_eq x.owner (pos 0))) _ _ (λ _. tt)
        (λ _. changes_cond (λ cs ts. AreOwn id v r cs) (int_eq c.counts.creates max_creates) _ _ (λ _. tt)
        (λ _. changes_cond (λ cs ts. AreOwn id v r cs) ephemeral _ _ (λ e. owned_own c.counts session nodes (touching e)) (λ _. persistent_own c.counts)))

-- ---- delete

module _ (id : ℤ) (v : View) (p q : Bytes) (version : ℤ) (valid : IsTrue (is_path p)) (also : IsTrue (is_path q)) where
  abbrev r : Part
  r = part.Delete p version

  deleted_own : (b : Bool) (above : CountRec) (more : List KeyChange) → Own id v r more → Own id v r (delete_changes p q b above ++ more)
  deleted_own true above more rest =
      All-cons (IsOwnChange id v r) (delete_key (DataKey p)) (delete_key (CountsKey p) ∷ put_key (CountsKey q) (counts_value (one_less above)) ∷ more) (own_gone id v r (DataKey p) (data_short id v r p valid) (inl refl) (not_data id v r p))
      (All-cons (IsOwnChange id v r) (delete_key (CountsKey p)) (put_key (CountsKey q) (counts_value (one_less above)) ∷ more) (own_gone id v r (CountsKey p) (counts_short id v r p valid) (inr (inl refl)) (not_counts id v r p))
      (All-cons (IsOwnChange id v r) (put_key (CountsKey q) (counts_value (one_less above))) more (own_counts id v r q _ also) rest))
  deleted_own false above more rest =
      All-cons (IsOwnChange id v r) (delete_key (DataKey p)) (put_key (CountsKey q) (counts_value (one_less above)) ∷ more) (own_gone id v r (DataKey p) (data_short id v r p valid) (inl refl) (not_data id v r p))
      (All-cons (IsOwnChange id v r) (put_key (CountsKey q) (counts_value (one_less above))) more (own_counts id v r q _ also) rest)

  -- the list of the owner's nodes does not count
  deleted_light : (b : Bool) (above : CountRec) → sum_by plain_size (delete_changes p q b above) ≤ 55
  deleted_light true above = omega (arith, counts_value-size (one_less above))
  deleted_light false above = omega (arith, counts_value-size (one_less above))

  removed_light : (b : Bool) (above : CountRec) (owner : ℤ) (nodes : SessionRec) → sum_by plain_size (delete_changes p q b above ++ put_owned owner nodes ∷ []) ≤ 55
  removed_light true above owner nodes = omega (arith, counts_value-size (one_less above))
  removed_light false above owner nodes = omega (arith, counts_value-size (one_less above))

  pub delete-own : (x : Option SeenData) (c a : Option SeenCounts) (nodes : Option SessionRec) → IfData v p x → IfOwn id v r (delete_choice p q version x c a nodes)
  unfolding delete_choice
  delete-own None c a nodes is = tt
  delete-own (Some x) None a nodes is = tt
  delete-own (Some x) (Some c) a nodes is =
      changes_cond (λ cs ts. AreOwn id v r cs) (not (matches version x.version)) _ _ (λ _. tt) (λ _. changes_cond (λ cs ts. AreOwn id v r cs) (not (int_eq c.counts.children (pos 0))) _ _ (λ _. tt) (λ _. here a))
    where
      plain : (b : Bool) (above : CountRec) → AreOwn id v r (delete_changes p q b above)
      plain true above = record { each = deleted_own true above [] (All-nil (IsOwnChange id v r)); light = deleted_light true above }
      plain false above = record { each = deleted_own false above [] (All-nil (IsOwnChange id v r)); light = deleted_light false above }

      from : (b : Bool) (o : Option SessionRec) (above : CountRec) → int_eq x.owner (pos 0) ≡ false → IfOwn id v r (delete_owned p q b above x.owner o)
      from b None above owns = tt
      from b (Some listed) above owns = record {
        each = deleted_own b above (put_owned x.owner (without_node p listed) ∷ []) (own_nodes id v r x.owner (without_node p listed) (x, is, not_owned x.owner owns, refl));
        light = removed_light b above x.owner (without_node p listed);
      }

      here : (o : Option SeenCounts) → IfOwn id v r (delete_here p q x c.is_stored o nodes)
      here None = tt
      here (Some above) = changes_cond (λ cs ts. AreOwn id v r cs) (int_eq x.owner (pos 0)) _ _ (λ _. plain c.is_stored above.counts) (λ owns. from c.is_stored nodes above.counts owns)

-- ---- setData and check

pub set-own : (id : ℤ) (v : View) (p content : Bytes) (version : ℤ) (now : ℕ) (x : Option SeenData) (c : Option SeenCounts) → IsTrue (is_path p) → IfOwn id v (part.SetData p content version) (set_data_choice p content version now x c)
unfolding set_data_choice
set-own id v p content version now None c valid = tt
set-own id v p content version now (Some x) None valid = tt
set-own id v p content version now (Some x) (Some c) valid =
    changes_cond (λ cs ts. AreOwn id v (part.SetData p content version) cs) (not (matches version x.version)) _ _ (λ _. tt) (λ _. changes_cond (λ cs ts. AreOwn id v (part.SetData p content version) cs) (int_eq x.version max_version) _ _ (λ _. tt) (λ _. record {
      each = All-cons (IsOwnChange id v (part.SetData p content version)) (put_key (DataKey p) (node_value (set_record x content now))) [] (own_data id v (part.SetData p content version) p _ valid) (All-nil (IsOwnChange id v (part.SetData p content version)));
      light = omega (arith, node_value-size (set_record x content now));
    }))

pub check-own : (id : ℤ) (v : View) (p : Bytes) (version : ℤ) (x : Option SeenData) → IfOwn id v (part.Check p version) (check_choice version x)
unfolding check_choice
check-own id v p version None = tt
check-own id v p version (Some x) = changes_cond (λ cs ts. AreOwn id v (part.Check p version) cs) (not (matches version x.version)) _ _ (λ _. tt) (λ _. record { each = All-nil (IsOwnChange id v (part.Check p version)); light = omega arith })
