-- The choice of a create, by records that show the parent and the session and by whether the node is there, is what the create
-- comes to.
use Rattle.std.proofs.Common.{◌≡◌, ℕ, ℤ, pos, ◌-◌, ◌<◌, ◌≤◌, ◌^◌, Bool, true, false, cond, not, ◌||◌, ◌&&◌, List, [], ◌∷◌, ◌++◌, length, Option, Some, None, refl, sym, ap, ◌∙◌, subst, arith, is_some}
use Rattle.std.specs.Prelude.{nat_le, IsTrue}
use Rattle.std.specs.Ordering.{int_eq}
use Rattle.std.specs.FinMap.{get}
use Rattle.std.proofs.lemmas.Bool.Decides.{nat_tests}
use Rattle.zx_base.specs.Maps.{Bytes}
use Rattle.zk_model.specs.declared.node.Node.{Node}
use Rattle.zk_model.specs.declared.reply.PartResult.TheVariants as result
use Rattle.zk_model.specs.Codes.{no_node, no_children_for_ephemerals, system_error}
use Rattle.zk_model.specs.declared.layout.Layout.{Layout}
use Rattle.zk_model.specs.declared.layout.Layout.TheVariants.{One, Two}
use Rattle.zk_model.specs.Limits.{max_creates, max_frame, max_owned}
use Rattle.zk_model.specs.Paths.{parent, is_path}
use Rattle.zk_model.specs.Single.{Outcome, Refused, Done, is_ephemeral, create_node, with_child}
use Rattle.zk_model.specs.Znodes.{num_children, new_node, owned}
use Rattle.zk_service.specs.States.{State, Session, IsSound, limit_of, session_at}
use Rattle.zk_service.proofs.Children.{create_tree}
use Rattle.zn_layout.specs.declared.record.CountRec.{CountRec}
use Rattle.zn_layout.specs.declared.record.SessionRec.{SessionRec}
use Rattle.zn_layout.specs.Records.{has_counts, ArePaths, IsLongCount, IsSessionRec}
use Rattle.zn_layout.specs.StandsFor.{nodes_record}
use Rattle.zn_updates.specs.declared.seen.SeenData.{SeenData}
use Rattle.zn_updates.specs.declared.seen.SeenCounts.{SeenCounts}
use Rattle.zn_updates.specs.Seen.{IsSeenData, IsSeenCounts, ShowsData, ShowsCounts, ShowsOwned}
use Rattle.zn_updates.specs.Choices.{Refuse, Make, put_owned, create_changes, create_triggers, create_owned, create_here, create_choice}
use Rattle.zn_updates.specs.OwnedLists.{with_node}
use Rattle.zn_updates.specs.Right.{IsRight}
use Rattle.zn_updates.proofs.CreateFits.{create_fits, create_owned_fits, owned_headless}
use Rattle.zn_updates.proofs.Meanings.{zero_within}
use Rattle.zx_base.proofs.Booleans.{same-from_int_eq as int_eq-is}

few_paths : (l : Layout) (ps : List Bytes) → nat_le (max_owned l) (length ps) ≡ false → length ps < 2 ^ 31 - 1
few_paths One ps h = grind (arith, nat_tests)
few_paths Two ps h = grind (arith, nat_tests)

module _ (s : State) (p q content : Bytes) (flags session z : ℤ) (now : ℕ) (sound : IsSound s) (below : parent p ≡ Some q) (valid : IsTrue (is_path p))
    (time : now < 2 ^ 62) (short : length content ≤ max_frame) (y : Session) (opened : session_at session s ≡ Some y) (within : IsLongCount session) where
  -- below the node at q, which may be there
  abbrev pub created_under : Option Node → Option Node → Outcome
  created_under None here = Refused no_node
  created_under (Some up) here = create_node s.tree (limit_of y) session flags content z now q up p here

  module _ (up : Node) (x : SeenData) (above : SeenCounts) (there : get s.tree q ≡ Some up) (none : get s.tree p ≡ None) (seen : IsSeenData z x up) (d : Bool) (counted : IsSeenCounts z above up (num_children s.tree q) d) where
    same_owner : x.owner ≡ up.owner
    same_owner = ap (λ (w : SeenData). w.owner) seen.is

    same_creates : above.counts.creates ≡ up.creates
    same_creates = ap (λ (k : CountRec). k.creates) counted.is

    abbrev done : ℤ → Outcome
    done owner = Done (result.Created p) (create_tree s.tree q (with_child up z) p (new_node content owner z now)) (create_triggers p q)

    module _ (plain : up.owner ≡ pos 0) (room : int_eq above.counts.creates max_creates ≡ false) where
      persistent : IsRight z s (Make (create_changes p q content now (pos 0) true above.counts) (create_triggers p q) (result.Created p)) (done (pos 0))
      persistent = record {
        tree = create_tree s.tree q (with_child up z) p (new_node content (pos 0) z now);
        done = refl;
        fits = create_fits s p q content z now up above (pos 0) sound below there none plain d counted room time short zero_within refl;
        headless = refl;
      }

      -- the nodes of the session, as they are listed
      abbrev nodes : SessionRec
      nodes = nodes_record y (owned s.tree session)

      for_session : ArePaths (owned s.tree session) → (b : Bool) → nat_le (limit_of y) (length (owned s.tree session)) ≡ b
          → IsRight z s (cond b (Refuse system_error) (Make (create_changes p q content now session (has_counts y.layout) above.counts ++ put_owned session (with_node p nodes) ∷ []) (create_triggers p q) (result.Created p)))
          (cond b (Refused system_error) (done session))
      for_session listed true e = refl
      for_session listed false e = record {
        tree = create_tree s.tree q (with_child up z) p (new_node content session z now);
        done = refl;
        fits = create_owned_fits s p q content z now up above session sound below there none plain d counted room time short within y opened listed valid (few_paths y.layout (owned s.tree session) e);
        headless = owned_headless s p q content z now up above session sound below there none plain d counted room time short within y opened listed valid (few_paths y.layout (owned s.tree session) e) (has_counts y.layout);
      }

      by_nodes : (listed : Option SessionRec) → ShowsOwned listed y (owned s.tree session) → IsRight z s (create_owned p q content now above.counts session listed) (cond (nat_le (limit_of y) (length (owned s.tree session))) (Refused system_error) (done session))
      by_nodes None shows = absurd shows
      by_nodes (Some r) shows =
          subst (λ (k : SessionRec). IsRight z s (create_owned p q content now above.counts session (Some k)) (cond (nat_le (limit_of y) (length (owned s.tree session))) (Refused system_error) (done session))) (sym shows.is)
          (for_session (subst IsSessionRec shows.is shows.within) (nat_le (limit_of y) (length (owned s.tree session))) refl)

      by_flag : (listed : Option SessionRec) → (is_ephemeral flags ≡ true → ShowsOwned listed y (owned s.tree session)) → IsRight z s (create_here p q content now above.counts (is_ephemeral flags) session listed)
          (cond (is_ephemeral flags && nat_le (limit_of y) (length (owned s.tree session))) (Refused system_error) (done (cond (is_ephemeral flags) session (pos 0))))
      by_flag listed shows = elim (is_ephemeral flags) as (λ b. is_ephemeral flags ≡ b → IsRight z s (cond b (create_owned p q content now above.counts session listed) (Make (create_changes p q content now (pos 0) true above.counts) (create_triggers p q) (result.Created p)))
          (cond (b && nat_le (limit_of y) (length (owned s.tree session))) (Refused system_error) (done (cond b session (pos 0))))) [
            | true ↦ λ e. by_nodes listed (shows e)
            | false ↦ λ e. persistent
          ] refl

    -- the tests of the parent's owner and of its creates
    tests : (listed : Option SessionRec) → (is_ephemeral flags ≡ true → ShowsOwned listed y (owned s.tree session)) → (a b : Bool) → (a ≡ true → up.owner ≡ pos 0) → (b ≡ false → int_eq above.counts.creates max_creates ≡ false) →
        IsRight z s (cond (not a) (Refuse no_children_for_ephemerals) (cond b (Refuse system_error) (create_here p q content now above.counts (is_ephemeral flags) session listed)))
        (cond (not a) (Refused no_children_for_ephemerals) (cond (b || (is_ephemeral flags && nat_le (limit_of y) (length (owned s.tree session)))) (Refused system_error) (done (cond (is_ephemeral flags) session (pos 0)))))
    tests listed shows false b plain room = refl
    tests listed shows true true plain room = refl
    tests listed shows true false plain room = by_flag (plain refl) (room refl) listed shows

    create_with : (listed : Option SessionRec) → (is_ephemeral flags ≡ true → ShowsOwned listed y (owned s.tree session))
        → IsRight z s (create_choice p q content now (is_ephemeral flags) session (Some x) (Some above) false listed) (created_under (Some up) None)
    unfolding create_choice
    create_with listed shows =
        subst (λ (t : ℤ × ℤ). IsRight z s (cond (not (int_eq t.0 (pos 0))) (Refuse no_children_for_ephemerals) (cond (int_eq t.1 max_creates) (Refuse system_error) (create_here p q content now above.counts (is_ephemeral flags) session listed))) (created_under (Some up) None))
        (λ i. (sym same_owner i, sym same_creates i))
        (tests listed shows (int_eq up.owner (pos 0)) (int_eq up.creates max_creates) (int_eq-is up.owner (pos 0)) (λ e. ap (λ (n : ℤ). int_eq n max_creates) same_creates ∙ e))

  pub create_right : (x : Option SeenData) (above : Option SeenCounts) (listed : Option SessionRec) (up here : Option Node) (d : Bool) → get s.tree q ≡ up → get s.tree p ≡ here
      → ShowsData z x up → ShowsCounts z above up (num_children s.tree q) d → (is_ephemeral flags ≡ true → ShowsOwned listed y (owned s.tree session))
      → IsRight z s (create_choice p q content now (is_ephemeral flags) session x above (is_some here) listed) (created_under up here)
  unfolding create_choice
  create_right None above listed None here d there at_p seen counted shows = refl
  create_right None above listed (Some up) here d there at_p seen counted shows = absurd seen
  create_right (Some x) above listed None here d there at_p seen counted shows = absurd seen
  create_right (Some x) None listed (Some up) here d there at_p seen counted shows = absurd counted
  create_right (Some x) (Some c) listed (Some up) (Some old) d there at_p seen counted shows = refl
  create_right (Some x) (Some c) listed (Some up) None d there at_p seen counted shows = create_with up x c there at_p seen d counted listed shows
