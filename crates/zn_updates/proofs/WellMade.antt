-- The changes of each update write each key once, with no lease, and are small.
use Rattle.std.proofs.Common.{◌≡◌, ℕ, ◌<◌, ◌≤◌, ℤ, pos, true, false, Bool, cond, length, List, [], ◌∷◌, ◌++◌, Option, Some, None, refl, ap, arith}
use Rattle.std.specs.Prelude.{All, IsTrue, nat_abs, nat_le, not, ◌&&◌, ◌||◌}
use Rattle.std.specs.List.{sum_by}
use Rattle.std.specs.Ordering.{int_eq}
use Rattle.std.proofs.lemmas.Bool.{leb-false}
use Rattle.std.proofs.lemmas.List.Elements.{All-nil, All-cons}
use Rattle.ev_types.specs.declared.answer.Kv.{Kv}
use Rattle.zx_base.specs.Maps.{Bytes, same}
use Rattle.zx_base.proofs.MapLaws.{same-false}
use Rattle.zk_model.specs.declared.node.Trigger.{Trigger}
use Rattle.zk_model.specs.declared.node.Trigger.TheVariants.{Created, Deleted, Changed, Children}
use Rattle.zk_model.specs.Limits.{max_creates, max_frame, max_owned, max_version}
use Rattle.zk_model.specs.Paths.{is_path, parent}
use Rattle.zk_model.specs.Single.{matches}
use Rattle.zk_model.proofs.ValidPaths.{parent-valid}
use Rattle.zn_layout.specs.declared.record.CountRec.{CountRec}
use Rattle.zn_layout.specs.declared.record.SessionRec.{SessionRec}
use Rattle.zn_layout.specs.Begin.{new_record, first_counts}
use Rattle.zn_layout.specs.Changes.{KeyChange, are_distinct, change_size, delete_key, head_put, put_key}
use Rattle.zn_layout.specs.Keys.{DataKey, CountsKey}
use Rattle.zn_layout.specs.Records.{counts_value, has_counts, node_value, IsHeadRec, IsSessionRec}
use Rattle.zk_model.specs.Watches.{trigger_path}
use Rattle.zn_layout.proofs.Paths.{path_short}
use Rattle.zn_view.specs.Asks.{IsLeaseless}
use Rattle.zn_view.proofs.Sizes.{counts-size, counts_value-size, data-size, node_value-size, owned-most, session-size, session_value-size}
use Rattle.zn_updates.specs.declared.seen.SeenData.{SeenData}
use Rattle.zn_updates.specs.declared.seen.SeenCounts.{SeenCounts}
use Rattle.zn_layout.specs.Counts.{one_less, one_more}
use Rattle.zn_updates.specs.Choices.{Choice, create_changes, create_choice, create_owned, create_triggers, delete_changes, delete_choice, delete_here, delete_owned, delete_triggers, put_owned, set_data_choice, set_record}
use Rattle.zn_updates.specs.Making.{IsNodesSeen}
use Rattle.zn_updates.specs.Parts.{IfChanges}
use Rattle.zn_updates.specs.OwnedLists.{with_node, without_node}
use Rattle.zn_updates.proofs.ListBounds.{placed-length, placed-within, without-length, without-within}

-- ---- triggers within their bounds

pub one_trigger : (t : Trigger) → IsTrue (is_path (trigger_path t)) → IsHeadRec (t ∷ [])
one_trigger t valid = record { count = omega arith; valid = All-cons (λ u. IsTrue (is_path (trigger_path u))) t [] valid (All-nil (λ u. IsTrue (is_path (trigger_path u)))) }

pub two_triggers : (t u : Trigger) → IsTrue (is_path (trigger_path t)) → IsTrue (is_path (trigger_path u)) → IsHeadRec (t ∷ u ∷ [])
two_triggers t u valid also = record { count = omega arith; valid = All-cons (λ w. IsTrue (is_path (trigger_path w))) t (u ∷ []) valid (one_trigger u also).valid }

-- ---- changes

-- each key once and with no lease, few ones, and under a premise small ones
pub record AreWellMade (P : Type 0) (cs : List KeyChange) (ts : List Trigger) : Type 0 where
  pub once : are_distinct (cs ++ head_put ts ∷ []) ≡ true
  pub leases : All IsLeaseless cs
  pub triggers : IsHeadRec ts
  pub told : length ts ≤ 2
  pub few : length cs ≤ 8
  pub small : P → sum_by change_size cs ≤ 1400000

pub changes_cond : (P : List KeyChange → List Trigger → Type 0) (b : Bool) (x y : Choice) → (b ≡ true → IfChanges P x) → (b ≡ false → IfChanges P y) → IfChanges P (cond b x y)
changes_cond P true x y f g = f refl
changes_cond P false x y f g = g refl

-- ---- setData

pub set_data-made : (P : Type 0) (p content : Bytes) (version : ℤ) (x : Option SeenData) (c : Option SeenCounts) (now : ℕ) → is_path p ≡ true → length content ≤ max_frame → IfChanges (AreWellMade P) (set_data_choice p content version now x c)
unfolding set_data_choice
set_data-made P p content version None c now valid short = tt
set_data-made P p content version (Some x) None now valid short = tt
set_data-made P p content version (Some x) (Some c) now valid short =
    changes_cond (AreWellMade P) (not (matches version x.version)) _ _ (λ _. tt) (λ _. changes_cond (AreWellMade P) (int_eq x.version max_version) _ _ (λ _. tt) (λ _. record {
      once = refl;
      leases = All-cons IsLeaseless (put_key (DataKey p) (node_value (set_record x content now))) [] refl (All-nil IsLeaseless);
      triggers = one_trigger (Changed p) valid;
      told = omega arith;
      few = omega arith;
      small = λ h. omega (arith, data-size p, path_short p valid, node_value-size (set_record x content now), short);
    }))

-- ---- a node and its parent

module _ (p q : Bytes) (valid : is_path p ≡ true) (below : parent p ≡ Some q) where
  pub parent-path : is_path q ≡ true
  parent-path = (parent-valid p q valid below).0

  other : same p q ≡ false
  other = same-false p q (λ e. let shorter = (parent-valid p q valid below).1 in omega (arith, shorter, ap length e))

  -- the node's counts and the parent's are two keys
  counts_once : (not (same p q || false) && true) ≡ true
  counts_once = ap (λ b. not (b || false) && true) other

  keys_short : (length p ≤ 1024) × (length q ≤ 1024)
  keys_short = (path_short p valid, path_short q parent-path)

  module _ (P : Type 0) where
    -- ---- delete

    delete_leases : (b : Bool) (above : CountRec) (more : List KeyChange) → All IsLeaseless more → All IsLeaseless (delete_changes p q b above ++ more)
    delete_leases true above more rest = All-cons IsLeaseless (delete_key (DataKey p)) (delete_key (CountsKey p) ∷ put_key (CountsKey q) (counts_value (one_less above)) ∷ more) tt
        (All-cons IsLeaseless (delete_key (CountsKey p)) (put_key (CountsKey q) (counts_value (one_less above)) ∷ more) tt
        (All-cons IsLeaseless (put_key (CountsKey q) (counts_value (one_less above))) more refl rest))
    delete_leases false above more rest = All-cons IsLeaseless (delete_key (DataKey p)) (put_key (CountsKey q) (counts_value (one_less above)) ∷ more) tt
        (All-cons IsLeaseless (put_key (CountsKey q) (counts_value (one_less above))) more refl rest)

    delete_plain : (b : Bool) (above : CountRec) → AreWellMade P (delete_changes p q b above) (delete_triggers p q)
    delete_plain true above = record {
      once = counts_once;
      leases = delete_leases true above [] (All-nil IsLeaseless);
      triggers = two_triggers (Deleted p) (Children q) valid parent-path;
      told = omega arith;
      few = omega arith;
      small = λ h. omega (arith, data-size p, counts-size p, counts-size q, counts_value-size (one_less above), keys_short.0, keys_short.1);
    }
    delete_plain false above = record {
      once = refl;
      leases = delete_leases false above [] (All-nil IsLeaseless);
      triggers = two_triggers (Deleted p) (Children q) valid parent-path;
      told = omega arith;
      few = omega arith;
      small = λ h. omega (arith, data-size p, counts-size q, counts_value-size (one_less above), keys_short.0, keys_short.1);
    }

    -- the list of the owner's nodes is small
    left_small : (owner : ℤ) (r : SessionRec) → IsSessionRec r → length r.paths ≤ max_owned r.layout → change_size (put_owned owner (without_node p r)) ≤ 62000
    left_small owner r listed few = omega (
      arith,
      session-size (nat_abs owner),
      session_value-size (without_node p r) (without-within p r.paths listed).valid,
      without-length p r.paths,
      few,
      owned-most r.layout,
    )

    delete_from : (b : Bool) (above : CountRec) (owner : ℤ) (r : SessionRec) → IsSessionRec r → (P → length r.paths ≤ max_owned r.layout) → AreWellMade P (delete_changes p q b above ++ put_owned owner (without_node p r) ∷ []) (delete_triggers p q)
    delete_from true above owner r listed few = record {
      once = counts_once;
      leases = delete_leases true above (put_owned owner (without_node p r) ∷ []) (All-cons IsLeaseless (put_owned owner (without_node p r)) [] refl (All-nil IsLeaseless));
      triggers = two_triggers (Deleted p) (Children q) valid parent-path;
      told = omega arith;
      few = omega arith;
      small = λ h. omega (arith, data-size p, counts-size p, counts-size q, counts_value-size (one_less above), left_small owner r listed (few h), keys_short.0, keys_short.1);
    }
    delete_from false above owner r listed few = record {
      once = refl;
      leases = delete_leases false above (put_owned owner (without_node p r) ∷ []) (All-cons IsLeaseless (put_owned owner (without_node p r)) [] refl (All-nil IsLeaseless));
      triggers = two_triggers (Deleted p) (Children q) valid parent-path;
      told = omega arith;
      few = omega arith;
      small = λ h. omega (arith, data-size p, counts-size q, counts_value-size (one_less above), left_small owner r listed (few h), keys_short.0, keys_short.1);
    }

    pub delete-made : (version : ℤ) (x : Option SeenData) (c a : Option SeenCounts) (nodes : Option SessionRec)
        → ((y : SeenData) (r : SessionRec) → x ≡ Some y → int_eq y.owner (pos 0) ≡ false → nodes ≡ Some r → IsSessionRec r × (P → length r.paths ≤ max_owned r.layout))
        → IfChanges (AreWellMade P) (delete_choice p q version x c a nodes)
    unfolding delete_choice
    delete-made version None c a nodes few = tt
    delete-made version (Some x) None a nodes few = tt
    delete-made version (Some x) (Some c) a nodes few =
        changes_cond (AreWellMade P) (not (matches version x.version)) _ _ (λ _. tt) (λ _. changes_cond (AreWellMade P) (not (int_eq c.counts.children (pos 0))) _ _ (λ _. tt) (λ _. here a))
      where
        owned_by : int_eq x.owner (pos 0) ≡ false → (o : Option SessionRec) → nodes ≡ o → (above : SeenCounts) → IfChanges (AreWellMade P) (delete_owned p q c.is_stored above.counts x.owner o)
        owned_by owns None e above = tt
        owned_by owns (Some r) e above = let listed = few x r refl owns e in delete_from c.is_stored above.counts x.owner r listed.0 listed.1

        here : (o : Option SeenCounts) → IfChanges (AreWellMade P) (delete_here p q x c.is_stored o nodes)
        here None = tt
        here (Some above) = changes_cond (AreWellMade P) (int_eq x.owner (pos 0)) _ _ (λ _. delete_plain c.is_stored above.counts) (λ owns. owned_by owns nodes refl above)

    -- ---- create

    module _ (content : Bytes) (short : length content ≤ max_frame) (now : ℕ) where
      create_leases : (b : Bool) (owner : ℤ) (above : CountRec) (more : List KeyChange) → All IsLeaseless more → All IsLeaseless (create_changes p q content now owner b above ++ more)
      create_leases true owner above more rest = All-cons IsLeaseless (put_key (DataKey p) (node_value (new_record content now owner))) (put_key (CountsKey p) (counts_value first_counts) ∷ put_key (CountsKey q) (counts_value (one_more above)) ∷ more) refl
          (All-cons IsLeaseless (put_key (CountsKey p) (counts_value first_counts)) (put_key (CountsKey q) (counts_value (one_more above)) ∷ more) refl
          (All-cons IsLeaseless (put_key (CountsKey q) (counts_value (one_more above))) more refl rest))
      create_leases false owner above more rest = All-cons IsLeaseless (put_key (DataKey p) (node_value (new_record content now owner))) (put_key (CountsKey q) (counts_value (one_more above)) ∷ more) refl
          (All-cons IsLeaseless (put_key (CountsKey q) (counts_value (one_more above))) more refl rest)

      create_plain : (above : CountRec) → AreWellMade P (create_changes p q content now (pos 0) true above) (create_triggers p q)
      create_plain above = record {
        once = counts_once;
        leases = create_leases true (pos 0) above [] (All-nil IsLeaseless);
        triggers = two_triggers (Created p) (Children q) valid parent-path;
        told = omega arith;
        few = omega arith;
        small = λ h. omega (
          arith,
          data-size p,
          counts-size p,
          counts-size q,
          node_value-size (new_record content now (pos 0)),
          counts_value-size first_counts,
          counts_value-size (one_more above),
          keys_short.0,
          keys_short.1,
          short,
        );
      }

      -- the list of the session's nodes is small
      more_small : (session : ℤ) (r : SessionRec) → IsSessionRec r → length r.paths < max_owned r.layout → change_size (put_owned session (with_node p r)) ≤ 63000
      more_small session r listed few = omega (
        arith,
        session-size (nat_abs session),
        session_value-size (with_node p r) (placed-within p r.paths valid (omega (arith, few, owned-most r.layout)) listed).valid,
        placed-length p r.paths,
        few,
        owned-most r.layout,
      )

      create_among : (b : Bool) (above : CountRec) (session : ℤ) (r : SessionRec) → IsSessionRec r → length r.paths < max_owned r.layout → AreWellMade P (create_changes p q content now session b above ++ put_owned session (with_node p r) ∷ []) (create_triggers p q)
      create_among true above session r listed few = record {
        once = counts_once;
        leases = create_leases true session above (put_owned session (with_node p r) ∷ []) (All-cons IsLeaseless (put_owned session (with_node p r)) [] refl (All-nil IsLeaseless));
        triggers = two_triggers (Created p) (Children q) valid parent-path;
        told = omega arith;
        few = omega arith;
        small = λ h. omega (
          arith,
          data-size p,
          counts-size p,
          counts-size q,
          node_value-size (new_record content now session),
          counts_value-size first_counts,
          counts_value-size (one_more above),
          more_small session r listed few,
          keys_short.0,
          keys_short.1,
          short,
        );
      }
      create_among false above session r listed few = record {
        once = refl;
        leases = create_leases false session above (put_owned session (with_node p r) ∷ []) (All-cons IsLeaseless (put_owned session (with_node p r)) [] refl (All-nil IsLeaseless));
        triggers = two_triggers (Created p) (Children q) valid parent-path;
        told = omega arith;
        few = omega arith;
        small = λ h. omega (
          arith,
          data-size p,
          counts-size q,
          node_value-size (new_record content now session),
          counts_value-size (one_more above),
          more_small session r listed few,
          keys_short.0,
          keys_short.1,
          short,
        );
      }

      create_for : (above : CountRec) (session : ℤ) (nodes : Option SessionRec) → ((r : SessionRec) → nodes ≡ Some r → IsSessionRec r) → IfChanges (AreWellMade P) (create_owned p q content now above session nodes)
      create_for above session None listed = tt
      create_for above session (Some r) listed = changes_cond (AreWellMade P) (nat_le (max_owned r.layout) (length r.paths)) _ _ (λ _. tt)
          (λ e. create_among (has_counts r.layout) above session r (listed r refl) (leb-false (max_owned r.layout) (length r.paths) e))

      pub create-made : (ephemeral : Bool) (session : ℤ) (x : Option SeenData) (c : Option SeenCounts) (taken : Bool) (nodes : Option SessionRec) → (ephemeral ≡ true → (r : SessionRec) → nodes ≡ Some r → IsSessionRec r)
          → IfChanges (AreWellMade P) (create_choice p q content now ephemeral session x c taken nodes)
      unfolding create_choice
      create-made ephemeral session None c taken nodes listed = tt
      create-made ephemeral session (Some x) None taken nodes listed = tt
      create-made ephemeral session (Some x) (Some c) true nodes listed = tt
      create-made ephemeral session (Some x) (Some c) false nodes listed =
          changes_cond (AreWellMade P) (not (int_eq x.owner (pos 0))) _ _ (λ _. tt)
          (λ _. changes_cond (AreWellMade P) (int_eq c.counts.creates max_creates) _ _ (λ _. tt)
          (λ _. changes_cond (AreWellMade P) ephemeral _ _ (λ e. create_for c.counts session nodes (listed e)) (λ _. create_plain c.counts)))

-- the record of a session's nodes that was seen
pub nodes-within : (o : Option (Option Kv)) (r : SessionRec) → IsNodesSeen o (Some r) → IsSessionRec r
nodes-within None r h = absurd h
nodes-within (Some None) r h = absurd h
nodes-within (Some (Some kv)) r h = h.0
