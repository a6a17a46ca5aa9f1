-- What the update of a single request puts was looked up, or is the counts of a node that was absent.
use Rattle.std.proofs.Common.{◌≡◌, ℕ, ℤ, pos, true, false, Bool, List, [], ◌∷◌, ◌++◌, length, Option, Some, None, refl, sym, subst, inl, inr}
use Rattle.std.specs.Prelude.{All, not, nat_abs, nat_le, if◌then◌else◌}
use Rattle.std.specs.Ordering.{int_eq}
use Rattle.std.proofs.lemmas.List.Elements.{All-nil, All-cons}
use Rattle.ev_types.specs.declared.answer.Kv.{Kv}
use Rattle.zk_model.specs.declared.node.Trigger.{Trigger}
use Rattle.zk_model.specs.Limits.{max_creates, max_owned, max_version}
use Rattle.zk_model.specs.Single.{matches}
use Rattle.zx_base.specs.Maps.{Bytes}
use Rattle.zn_layout.specs.declared.record.CountRec.{CountRec}
use Rattle.zn_layout.specs.declared.record.SessionRec.{SessionRec}
use Rattle.zn_layout.specs.Begin.{new_record, first_counts}
use Rattle.zn_layout.specs.Changes.{KeyChange, delete_key, put_key}
use Rattle.zn_layout.specs.Keys.{CountsKey, DataKey, Key, SessionKey}
use Rattle.zn_layout.specs.Records.{counts_value, has_counts, node_value}
use Rattle.zn_view.specs.Lookups.{HasSeen, sees}
use Rattle.zn_view.specs.Seen.{View}
use Rattle.zn_view.proofs.Members.{In}
use Rattle.zn_view.proofs.NewKeys.{IsAccounted}
use Rattle.zn_updates.specs.declared.seen.SeenCounts.{SeenCounts}
use Rattle.zn_updates.specs.declared.seen.SeenData.{SeenData}
use Rattle.zn_layout.specs.Counts.{one_less, one_more}
use Rattle.zn_updates.specs.Choices.{Choice, create_changes, create_choice, create_owned, delete_changes, delete_choice, delete_here, delete_owned, put_owned, set_data_choice}
use Rattle.zn_updates.specs.Deciding.{owner_seen}
use Rattle.zn_updates.specs.KeysRead.{delete_keys, set_data_keys}
use Rattle.zn_updates.specs.Making.{has_found}
use Rattle.zn_updates.specs.OwnedLists.{with_node, without_node}
use Rattle.zn_updates.specs.Parts.{IfChanges}
use Rattle.zn_updates.proofs.WellMade.{changes_cond}

abbrev AreAll : View → List Key → List KeyChange → List Trigger → Type 0
AreAll v ks cs ts = All (IsAccounted v ks) cs

-- each change of a choice is a deletion, or of one of these keys, or puts the counts of a node that was absent
abbrev pub AreAccounted : View → List Key → Choice → Type 0
AreAccounted v ks c = IfChanges (AreAll v ks) c

one : (v : View) (ks : List Key) (c : KeyChange) → IsAccounted v ks c → All (IsAccounted v ks) (c ∷ [])
one v ks c h = All-cons (IsAccounted v ks) c [] h (All-nil (IsAccounted v ks))

-- ---- setData

pub set_data-new : (v : View) (p content : Bytes) (version : ℤ) (now : ℕ) (session : ℤ) (x : Option SeenData) (c : Option SeenCounts) → AreAccounted v (set_data_keys p session) (set_data_choice p content version now x c)
unfolding set_data_choice
set_data-new v p content version now session None c = tt
set_data-new v p content version now session (Some x) None = tt
set_data-new v p content version now session (Some x) (Some c) =
    let P = AreAll v (set_data_keys p session) in
    changes_cond P (not (matches version x.version)) _ _ (λ _. tt) (λ _. changes_cond P (int_eq x.version max_version) _ _ (λ _. tt) (λ _. one v (set_data_keys p session) _ (inr (inl (inr (inr (inl refl)))))))

-- ---- delete of p below q

module _ (v : View) (p q : Bytes) (session : ℤ) where
  module _ (x : SeenData) where
    abbrev keys : List Key
    keys = delete_keys p (Some q) session x.owner

    deleted-new : (b : Bool) (above : CountRec) (more : List KeyChange) → All (IsAccounted v keys) more → All (IsAccounted v keys) (delete_changes p q b above ++ more)
    deleted-new true above more h =
        let put = put_key (CountsKey q) (counts_value (one_less above)) in
        All-cons (IsAccounted v keys) (delete_key (DataKey p)) (delete_key (CountsKey p) ∷ put ∷ more) (inl refl)
        (All-cons (IsAccounted v keys) (delete_key (CountsKey p)) (put ∷ more) (inl refl) (All-cons (IsAccounted v keys) put more (inr (inl (inr (inr (inr (inr (inl refl))))))) h))
    deleted-new false above more h =
        let put = put_key (CountsKey q) (counts_value (one_less above)) in
        All-cons (IsAccounted v keys) (delete_key (DataKey p)) (put ∷ more) (inl refl) (All-cons (IsAccounted v keys) put more (inr (inl (inr (inr (inr (inr (inl refl))))))) h)

    owner-in : int_eq x.owner (pos 0) ≡ false → In (SessionKey (nat_abs x.owner)) keys
    owner-in e = inr (inr (inr (inr (inr (subst (λ b. In (SessionKey (nat_abs x.owner)) (if b then [] else SessionKey (nat_abs x.owner) ∷ [])) (sym e) (inl refl))))))

    owned-new : (b : Bool) (above : CountRec) (o : Option SessionRec) → int_eq x.owner (pos 0) ≡ false → AreAccounted v keys (delete_owned p q b above x.owner o)
    owned-new b above None e = tt
    owned-new b above (Some r) e = deleted-new b above (put_owned x.owner (without_node p r) ∷ []) (one v keys (put_owned x.owner (without_node p r)) (inr (inl (owner-in e))))

    plain-new : (b : Bool) (above : CountRec) → All (IsAccounted v keys) (delete_changes p q b above)
    plain-new true above = deleted-new true above [] (All-nil (IsAccounted v keys))
    plain-new false above = deleted-new false above [] (All-nil (IsAccounted v keys))

    here-new : (b : Bool) (a : Option SeenCounts) (nodes : Option SessionRec) → AreAccounted v keys (delete_here p q x b a nodes)
    here-new b None nodes = tt
    here-new b (Some above) nodes = changes_cond (AreAll v keys) (int_eq x.owner (pos 0)) _ _ (λ _. plain-new b above.counts) (λ e. owned-new b above.counts nodes e)

  pub delete-new : (version : ℤ) (o : Option SeenData) (c a : Option SeenCounts) (nodes : Option SessionRec) → AreAccounted v (delete_keys p (Some q) session (owner_seen o)) (delete_choice p q version o c a nodes)
  unfolding delete_choice
  delete-new version None c a nodes = tt
  delete-new version (Some x) None a nodes = tt
  delete-new version (Some x) (Some c) a nodes =
      changes_cond (AreAll v (keys x)) (not (matches version x.version)) _ _ (λ _. tt) (λ _. changes_cond (AreAll v (keys x)) (not (int_eq c.counts.children (pos 0))) _ _ (λ _. tt) (λ _. here-new x c.is_stored a nodes))

-- ---- create of p below q, by keys that have the parent's counts and, for an ephemeral node, the list of the session's nodes

absent : (o : Option (Option Kv)) → (o ≡ None → ⊥) → has_found o ≡ false → o ≡ Some None
absent None some e = absurd (some refl)
absent (Some None) some e = refl
absent (Some (Some kv)) some e = let f : true ≡ false = e in absurd (cc)

module _ (v : View) (p q content : Bytes) (now : ℕ) (ephemeral : Bool) (session : ℤ) (ks : List Key) (above-in : In (CountsKey q) ks) (own-in : ephemeral ≡ true → In (SessionKey (nat_abs session)) ks) where
  created-new : (b : Bool) (owner : ℤ) (above : CountRec) (more : List KeyChange) → In (DataKey p) ks → sees v (DataKey p) ≡ Some None → All (IsAccounted v ks) more → All (IsAccounted v ks) (create_changes p q content now owner b above ++ more)
  created-new true owner above more inside none h =
      let data_put = put_key (DataKey p) (node_value (new_record content now owner)) in
      let counts_put = put_key (CountsKey p) (counts_value first_counts) in
      let above_put = put_key (CountsKey q) (counts_value (one_more above)) in
      All-cons (IsAccounted v ks) data_put (counts_put ∷ above_put ∷ more) (inr (inl inside))
      (All-cons (IsAccounted v ks) counts_put (above_put ∷ more) (inr (inr (p, refl, inside, none))) (All-cons (IsAccounted v ks) above_put more (inr (inl above-in)) h))
  created-new false owner above more inside none h =
      let data_put = put_key (DataKey p) (node_value (new_record content now owner)) in
      let above_put = put_key (CountsKey q) (counts_value (one_more above)) in
      All-cons (IsAccounted v ks) data_put (above_put ∷ more) (inr (inl inside)) (All-cons (IsAccounted v ks) above_put more (inr (inl above-in)) h)

  create_owned-new : (above : CountRec) (o : Option SessionRec) → In (DataKey p) ks → sees v (DataKey p) ≡ Some None → ephemeral ≡ true → AreAccounted v ks (create_owned p q content now above session o)
  create_owned-new above None inside none e = tt
  create_owned-new above (Some r) inside none e = changes_cond (AreAll v ks) (nat_le (max_owned r.layout) (length r.paths)) _ _ (λ _. tt)
      (λ _. created-new (has_counts r.layout) session above (put_owned session (with_node p r) ∷ []) inside none (one v ks (put_owned session (with_node p r)) (inr (inl (own-in e)))))

  -- where the parent's counts were seen, so was the key of the node's record
  pub create-new : (x : Option SeenData) (c : Option SeenCounts) (taken : Bool) (nodes : Option SessionRec) → ((w : SeenCounts) → c ≡ Some w → In (DataKey p) ks × HasSeen v (DataKey p)) → taken ≡ has_found (sees v (DataKey p))
      → AreAccounted v ks (create_choice p q content now ephemeral session x c taken nodes)
  unfolding create_choice
  create-new None c taken nodes there is = tt
  create-new (Some x) None taken nodes there is = tt
  create-new (Some x) (Some c) true nodes there is = tt
  create-new (Some x) (Some c) false nodes there is =
      let inside = (there c refl).0 in
      let none = absent (sees v (DataKey p)) (there c refl).1 (sym is) in
      changes_cond (AreAll v ks) (not (int_eq x.owner (pos 0))) _ _ (λ _. tt)
      (λ _. changes_cond (AreAll v ks) (int_eq c.counts.creates max_creates) _ _ (λ _. tt)
      (λ _. changes_cond (AreAll v ks) ephemeral _ _ (λ e. create_owned-new c.counts nodes inside none e) (λ _. created-new true (pos 0) c.counts [] inside none (All-nil (IsAccounted v ks)))))
