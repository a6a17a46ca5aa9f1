-- What each choice writes are records with no lease, and not the head.
use Rattle.std.proofs.Common.{◌<◌, ◌^◌, ◌≡◌, ℕ, ◌-◌, ◌≤◌, ℤ, pos, true, false, Bool, length, List, [], ◌∷◌, ◌++◌, Option, Some, None, refl, sym, subst, arith}
use Rattle.std.specs.Prelude.{All, IfSome, IsTrue, nat_abs, nat_le, not}
use Rattle.std.specs.Ordering.{int_eq}
use Rattle.std.proofs.lemmas.Bool.{leb-false}
use Rattle.std.proofs.lemmas.List.Elements.{All-nil, All-cons}
use Rattle.zx_base.specs.Maps.{Bytes}
use Rattle.zk_model.specs.declared.node.Trigger.TheVariants.{Created, Deleted, Changed, Children}
use Rattle.zk_model.specs.Limits.{max_creates, max_frame, max_owned, max_version}
use Rattle.zk_model.specs.Paths.{is_path}
use Rattle.zk_model.specs.Single.{matches}
use Rattle.zn_layout.specs.declared.record.CountRec.{CountRec}
use Rattle.zn_layout.specs.declared.record.SessionRec.{SessionRec}
use Rattle.zn_layout.specs.Begin.{new_record, first_counts}
use Rattle.zn_layout.specs.Changes.{KeyChange, delete_key, put_key}
use Rattle.zn_layout.specs.Keys.{Key, HeadKey, DataKey, CountsKey, SessionKey}
use Rattle.zn_layout.specs.Records.{counts_value, has_counts, node_value, session_value, IsCountRec, IsLongCount, IsSessionRec}
use Rattle.zn_view.specs.declared.kind.Kind.{Kind}
use Rattle.zn_view.specs.Seen.{IsOfKind}
use Rattle.zn_view.proofs.KeyKinds.{kind_of-key, kind_of_key}
use Rattle.zn_view.proofs.Sizes.{owned-most}
use Rattle.zn_updates.specs.declared.seen.SeenData.{SeenData}
use Rattle.zn_updates.specs.declared.seen.SeenCounts.{SeenCounts}
use Rattle.zn_layout.specs.Counts.{one_less, one_more}
use Rattle.zn_updates.specs.Choices.{create_changes, create_choice, create_owned, create_triggers, delete_changes, delete_choice, delete_here, delete_owned, delete_triggers, put_owned, set_data_choice, set_record}
use Rattle.zn_updates.specs.OwnedLists.{with_node, without_node}
use Rattle.zn_updates.specs.Parts.{check_choice, AreCountsWithin, AreKept, IfChanges, IsKeptChange}
use Rattle.zn_updates.specs.Seen.{IsDataWithin}
use Rattle.zn_updates.proofs.CreateFits.{new_record-within, one_more-within}
use Rattle.zn_updates.proofs.DeleteFits.{one_less-within}
use Rattle.zn_updates.proofs.ListBounds.{placed-within, without-within}
use Rattle.zn_updates.proofs.Meanings.{zero_within}
use Rattle.zn_updates.proofs.SetDataFits.{set_record-within}
use Rattle.zn_updates.proofs.Telling.{no_counts-within}
use Rattle.zn_updates.proofs.WellMade.{changes_cond, one_trigger, two_triggers}

of_kind : (k : Key) (value : Bytes) → IsOfKind (Some (kind_of_key k)) value → (k ≡ HeadKey → ⊥) → IsKeptChange (put_key k value)
of_kind k value kind apart = record { apart = apart; leaseless = refl; written = subst (λ (o : Option Kind). IsOfKind o value) (sym (kind_of-key k)) kind }

data_apart : (p : Bytes) → DataKey p ≡ HeadKey → ⊥
data_apart p e = cc

counts_apart : (p : Bytes) → CountsKey p ≡ HeadKey → ⊥
counts_apart p e = cc

nodes_apart : (n : ℕ) → SessionKey n ≡ HeadKey → ⊥
nodes_apart n e = cc

kept_counts : (p : Bytes) (c : CountRec) → IsCountRec c → IsKeptChange (put_key (CountsKey p) (counts_value c))
kept_counts p c within = of_kind (CountsKey p) (counts_value c) (c, (within, refl)) (counts_apart p)

kept_nodes : (id : ℤ) (r : SessionRec) → IsSessionRec r → IsKeptChange (put_owned id r)
kept_nodes id r within = of_kind (SessionKey (nat_abs id)) (session_value r) (r, (within, refl)) (nodes_apart (nat_abs id))

kept_gone : (k : Key) → (k ≡ HeadKey → ⊥) → IsKeptChange (delete_key k)
kept_gone k apart = record { apart = apart; leaseless = tt; written = tt }

one_kept : (c : KeyChange) → IsKeptChange c → All IsKeptChange (c ∷ [])
one_kept c h = All-cons IsKeptChange c [] h (All-nil IsKeptChange)

-- ---- setData

module _ (p content : Bytes) (now : ℕ) (valid : IsTrue (is_path p)) (time : now < 2 ^ 62) (short : length content ≤ max_frame) where
  pub set-kept : (version : ℤ) (x : Option SeenData) (c : Option SeenCounts) → IfSome x IsDataWithin → IfChanges AreKept (set_data_choice p content version now x c)
  unfolding set_data_choice
  set-kept version None c within = tt
  set-kept version (Some x) None within = tt
  set-kept version (Some x) (Some c) within =
      changes_cond AreKept (not (matches version x.version)) _ _ (λ _. tt) (λ _. changes_cond AreKept (int_eq x.version max_version) _ _ (λ _. tt) (λ room. record {
        changes = one_kept _ (of_kind (DataKey p) (node_value (set_record x content now)) (set_record x content now, (set_record-within x content now within room time short, refl)) (data_apart p));
        few = omega arith;
        triggers = one_trigger (Changed p) valid;
        told = omega arith;
      }))

-- ---- delete

module _ (p q : Bytes) (valid : IsTrue (is_path p)) (also : IsTrue (is_path q)) where
  deleted_kept : (b : Bool) (above : CountRec) (more : List KeyChange) → IsCountRec above → All IsKeptChange more → All IsKeptChange (delete_changes p q b above ++ more)
  deleted_kept true above more within rest =
      All-cons IsKeptChange (delete_key (DataKey p)) (delete_key (CountsKey p) ∷ put_key (CountsKey q) (counts_value (one_less above)) ∷ more) (kept_gone (DataKey p) (data_apart p))
      (All-cons IsKeptChange (delete_key (CountsKey p)) (put_key (CountsKey q) (counts_value (one_less above)) ∷ more) (kept_gone (CountsKey p) (counts_apart p))
      (All-cons IsKeptChange (put_key (CountsKey q) (counts_value (one_less above))) more (kept_counts q (one_less above) (one_less-within above within)) rest))
  deleted_kept false above more within rest =
      All-cons IsKeptChange (delete_key (DataKey p)) (put_key (CountsKey q) (counts_value (one_less above)) ∷ more) (kept_gone (DataKey p) (data_apart p))
      (All-cons IsKeptChange (put_key (CountsKey q) (counts_value (one_less above))) more (kept_counts q (one_less above) (one_less-within above within)) rest)

  deleted_few : (b : Bool) (above : CountRec) (more : List KeyChange) → length more ≤ 1 → length (delete_changes p q b above ++ more) ≤ 4
  deleted_few true above more h = omega (arith, h)
  deleted_few false above more h = omega (arith, h)

  pub delete-kept : (version : ℤ) (x : Option SeenData) (c a : Option SeenCounts) (nodes : Option SessionRec) → AreCountsWithin a → IfSome nodes IsSessionRec → IfChanges AreKept (delete_choice p q version x c a nodes)
  unfolding delete_choice
  delete-kept version None c a nodes within listed = tt
  delete-kept version (Some x) None a nodes within listed = tt
  delete-kept version (Some x) (Some c) a nodes within listed =
      changes_cond AreKept (not (matches version x.version)) _ _ (λ _. tt) (λ _. changes_cond AreKept (not (int_eq c.counts.children (pos 0))) _ _ (λ _. tt) (λ _. here a within))
    where
      plain : (b : Bool) (above : CountRec) → IsCountRec above → AreKept (delete_changes p q b above) (delete_triggers p q)
      plain true above w = record { changes = deleted_kept true above [] w (All-nil IsKeptChange); few = omega arith; triggers = two_triggers (Deleted p) (Children q) valid also; told = omega arith }
      plain false above w = record { changes = deleted_kept false above [] w (All-nil IsKeptChange); few = omega arith; triggers = two_triggers (Deleted p) (Children q) valid also; told = omega arith }

      from : (b : Bool) (o : Option SessionRec) (above : CountRec) → IsCountRec above → IfSome o IsSessionRec → IfChanges AreKept (delete_owned p q b above x.owner o)
      from b None above w h = tt
      from b (Some r) above w h = record {
        changes = deleted_kept b above (put_owned x.owner (without_node p r) ∷ []) w (one_kept _ (kept_nodes x.owner (without_node p r) (without-within p r.paths h)));
        few = deleted_few b above (put_owned x.owner (without_node p r) ∷ []) (omega arith);
        triggers = two_triggers (Deleted p) (Children q) valid also;
        told = omega arith;
      }

      here : (o : Option SeenCounts) → AreCountsWithin o → IfChanges AreKept (delete_here p q x c.is_stored o nodes)
      here None w = tt
      here (Some above) w = changes_cond AreKept (int_eq x.owner (pos 0)) _ _ (λ _. plain c.is_stored above.counts w) (λ _. from c.is_stored nodes above.counts w listed)

  -- ---- create

  module _ (content : Bytes) (short : length content ≤ max_frame) (now : ℕ) (time : now < 2 ^ 62) where
    created_kept : (b : Bool) (owner : ℤ) (above : CountRec) (more : List KeyChange) → IsLongCount owner → IsCountRec above → int_eq above.creates max_creates ≡ false → All IsKeptChange more → All IsKeptChange (create_changes p q content now owner b above ++ more)
    created_kept true owner above more long within room rest =
        All-cons IsKeptChange (put_key (DataKey p) (node_value (new_record content now owner))) (put_key (CountsKey p) (counts_value first_counts) ∷ put_key (CountsKey q) (counts_value (one_more above)) ∷ more)
        (of_kind (DataKey p) (node_value (new_record content now owner)) (new_record content now owner, (new_record-within content now owner time short long, refl)) (data_apart p))
        (All-cons IsKeptChange (put_key (CountsKey p) (counts_value first_counts)) (put_key (CountsKey q) (counts_value (one_more above)) ∷ more) (kept_counts p first_counts no_counts-within)
        (All-cons IsKeptChange (put_key (CountsKey q) (counts_value (one_more above))) more (kept_counts q (one_more above) (one_more-within above within room)) rest))
    created_kept false owner above more long within room rest =
        All-cons IsKeptChange (put_key (DataKey p) (node_value (new_record content now owner))) (put_key (CountsKey q) (counts_value (one_more above)) ∷ more)
        (of_kind (DataKey p) (node_value (new_record content now owner)) (new_record content now owner, (new_record-within content now owner time short long, refl)) (data_apart p))
        (All-cons IsKeptChange (put_key (CountsKey q) (counts_value (one_more above))) more (kept_counts q (one_more above) (one_more-within above within room)) rest)

    created_few : (b : Bool) (owner : ℤ) (above : CountRec) (more : List KeyChange) → length more ≤ 1 → length (create_changes p q content now owner b above ++ more) ≤ 4
    created_few true owner above more h = omega (arith, h)
    created_few false owner above more h = omega (arith, h)

    module _ (session : ℤ) (long : IsLongCount session) where
      persistent_kept : (above : CountRec) → IsCountRec above → int_eq above.creates max_creates ≡ false → AreKept (create_changes p q content now (pos 0) true above) (create_triggers p q)
      persistent_kept above w room = record { changes = created_kept true (pos 0) above [] zero_within w room (All-nil IsKeptChange); few = omega arith; triggers = two_triggers (Created p) (Children q) valid also; told = omega arith }

      -- a list that has room for one node more
      few_paths : (r : SessionRec) → nat_le (max_owned r.layout) (length r.paths) ≡ false → length r.paths < 2 ^ 31 - 1
      few_paths r e = omega (arith, leb-false (max_owned r.layout) (length r.paths) e, owned-most r.layout)

      owned_kept : (above : CountRec) (o : Option SessionRec) → IsCountRec above → int_eq above.creates max_creates ≡ false → IfSome o IsSessionRec → IfChanges AreKept (create_owned p q content now above session o)
      owned_kept above None w room h = tt
      owned_kept above (Some r) w room h = changes_cond AreKept (nat_le (max_owned r.layout) (length r.paths)) _ _ (λ _. tt) (λ e. record {
        changes = created_kept (has_counts r.layout) session above (put_owned session (with_node p r) ∷ []) long w room (one_kept _ (kept_nodes session (with_node p r) (placed-within p r.paths valid (few_paths r e) h)));
        few = created_few (has_counts r.layout) session above (put_owned session (with_node p r) ∷ []) (omega arith);
        triggers = two_triggers (Created p) (Children q) valid also;
        told = omega arith;
      })

      pub create-kept : (ephemeral : Bool) (x : Option SeenData) (c : Option SeenCounts) (taken : Bool) (nodes : Option SessionRec) → AreCountsWithin c → IfSome nodes IsSessionRec
          → IfChanges AreKept (create_choice p q content now ephemeral session x c taken nodes)
      unfolding create_choice
      create-kept ephemeral None c taken nodes within listed = tt
      create-kept ephemeral (Some x) None taken nodes within listed = tt
      create-kept ephemeral (Some x) (Some c) true nodes within listed = tt
      create-kept ephemeral (Some x) (Some c) false nodes within listed =
          changes_cond AreKept (not (int_eq x.owner (pos 0))) _ _ (λ _. tt)
          (λ _. changes_cond AreKept (int_eq c.counts.creates max_creates) _ _ (λ _. tt)
          (λ room. changes_cond AreKept ephemeral _ _ (λ _. owned_kept c.counts nodes within room listed) (λ _. persistent_kept c.counts within room)))

-- ---- check

pub check-kept : (version : ℤ) (x : Option SeenData) → IfChanges AreKept (check_choice version x)
unfolding check_choice
check-kept version None = tt
check-kept version (Some x) = changes_cond AreKept (not (matches version x.version)) _ _ (λ _. tt) (λ _. record {
  changes = All-nil IsKeptChange;
  few = omega arith;
  triggers = record { count = omega arith; valid = All-nil _ };
  told = omega arith;
})
