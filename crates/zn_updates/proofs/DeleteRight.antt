-- The choice of a delete, by records that show the node, its parent and its owner, is what the delete comes to.
use Rattle.std.proofs.Common.{◌≡◌, ℕ, ℤ, pos, Bool, true, false, cond, not, Option, Some, None, refl, sym, ap, ◌∙◌, subst, arith, eqb}
use Rattle.std.specs.Prelude.{IfSome}
use Rattle.std.specs.Ordering.{int_eq}
use Rattle.std.specs.FinMap.{get}
use Rattle.std.proofs.lemmas.Bool.{true≢false}
use Rattle.std.proofs.lemmas.Bool.Decides.{nat_tests}
use Rattle.std.proofs.lemmas.Int.{ints}
use Rattle.zx_base.specs.Maps.{Bytes}
use Rattle.zx_base.proofs.Options.{some_is}
use Rattle.zk_model.specs.declared.node.Node.{Node}
use Rattle.zk_model.specs.declared.reply.PartResult.TheVariants as result
use Rattle.zk_model.specs.Codes.{bad_version, not_empty}
use Rattle.zk_model.specs.Paths.{parent}
use Rattle.zk_model.specs.Single.{Outcome, Refused, Done, matches, delete, removed, removed_under, removal, removal_under, at_parent, without_child}
use Rattle.zk_model.specs.Znodes.{Tree, num_children, owned}
use Rattle.zk_service.specs.States.{State, Session, IsSound, HasPlain, session_at}
use Rattle.zk_service.proofs.Children.{not_root}
use Rattle.zn_layout.specs.declared.record.CountRec.{CountRec}
use Rattle.zn_layout.specs.declared.record.SessionRec.{SessionRec}
use Rattle.zn_layout.specs.Records.{IsSessionRec}
use Rattle.zn_layout.specs.StandsFor.{is_counted_in}
use Rattle.zn_updates.specs.declared.seen.SeenData.{SeenData}
use Rattle.zn_updates.specs.declared.seen.SeenCounts.{SeenCounts}
use Rattle.zn_updates.specs.Seen.{IsSeenData, IsSeenCounts, ShowsData, ShowsCounts, ShowsOwned}
use Rattle.zn_updates.specs.Choices.{Choice, Refuse, Make, delete_changes, delete_triggers, delete_owned, delete_here, delete_choice}
use Rattle.zn_updates.specs.Right.{IsRight}
use Rattle.zn_updates.proofs.Deleting.{delete_tree}
use Rattle.zn_updates.proofs.DeleteFits.{delete_fits, delete_owned_fits, owned_headless, plain_headless}
use Rattle.zx_base.proofs.Booleans.{same-from_int_eq as int_eq-is, same-int as int_eq-same}

is_zero : (n : ℕ) → int_eq (pos n) (pos 0) ≡ eqb n 0
is_zero n = grind (arith, nat_tests, ints)

-- the parent of a node that is there is there, and has no owner
pub plain_parent : (s : State) (p q : Bytes) (n : Node) → IsSound s → parent p ≡ Some q → get s.tree p ≡ Some n → HasPlain s.tree q
plain_parent s p q n sound below here =
    let up = sound.parents p n here (not_root p q below) in
    subst (HasPlain s.tree) (some_is (sym up.is ∙ below)) up.has

module _ (s : State) (p q : Bytes) (version z : ℤ) (sound : IsSound s) (below : parent p ≡ Some q) where
  module _ (n : Node) (x : SeenData) (here : get s.tree p ≡ Some n) (seen : IsSeenData z x n) where
    up : HasPlain s.tree q
    up = plain_parent s p q n sound below here

    abbrev left : Tree
    left = delete_tree s.tree q (without_child up.node z) p

    same_tree : removed s.tree p z ≡ left
    same_tree = ap (λ (o : Option Bytes). removed_under s.tree p z o (at_parent s.tree o)) below ∙ ap (removed_under s.tree p z (Some q)) up.there

    same_triggers : removal p ≡ delete_triggers p q
    same_triggers = ap (removal_under p) below

    same_owner : x.owner ≡ n.owner
    same_owner = ap (λ (y : SeenData). y.owner) seen.is

    -- the node has a record of its counts, or none
    module _ (b : Bool) (stored : is_counted_in s (Some n) ≡ b) (above : SeenCounts) (d : Bool) (counted : IsSeenCounts z above up.node (num_children s.tree q) d) where
      abbrev done : Outcome
      done = Done result.Deleted (removed s.tree p z) (removal p)

      plain : int_eq x.owner (pos 0) ≡ true → IsRight z s (Make (delete_changes p q b above.counts) (delete_triggers p q) result.Deleted) done
      plain free = record {
        tree = left;
        done = λ i. Done result.Deleted (same_tree i) (same_triggers i);
        fits = delete_fits s p q z up.node n above sound below up.there here up.plain d counted b stored (sym same_owner ∙ int_eq-is x.owner (pos 0) free);
        headless = plain_headless s p q z up.node n above sound below up.there here up.plain d counted b;
      }

      -- the session that owns the node
      owner_of : (n.owner ≡ pos 0 → ⊥) → (y : Session) × (session_at n.owner s ≡ Some y)
      owner_of has_owner = sound.owners p n here has_owner

      from_owner : (y : Session) → session_at n.owner s ≡ Some y → (listed : SessionRec) → ShowsOwned (Some listed) y (owned s.tree n.owner) → IsRight z s (delete_owned p q b above.counts n.owner (Some listed)) done
      from_owner y opened listed shows =
          let paths = subst IsSessionRec shows.is shows.within in
          subst (λ (k : SessionRec). IsRight z s (delete_owned p q b above.counts n.owner (Some k)) done) (sym shows.is) (record {
            tree = left;
            done = λ i. Done result.Deleted (same_tree i) (same_triggers i);
            fits = delete_owned_fits s p q z up.node n above sound below up.there here up.plain d counted y opened paths b stored;
            headless = owned_headless s p q z up.node n above sound below up.there here up.plain d counted y opened paths b;
          })

      by_nodes : (listed : Option SessionRec) → (x.owner ≡ pos 0 → ⊥) → ((y : Session) → session_at x.owner s ≡ Some y → ShowsOwned listed y (owned s.tree x.owner)) → IsRight z s (delete_owned p q b above.counts x.owner listed) done
      by_nodes None has_owner shows =
          let session = owner_of (λ e. has_owner (same_owner ∙ e)) in
          absurd (shows session.0 (ap (λ (o : ℤ). session_at o s) same_owner ∙ session.1))
      by_nodes (Some listed) has_owner shows =
          let session = owner_of (λ e. has_owner (same_owner ∙ e)) in
          subst (λ (o : ℤ). IsRight z s (delete_owned p q b above.counts o (Some listed)) done) (sym same_owner)
          (from_owner session.0 session.1 listed (subst (λ (o : ℤ). ShowsOwned (Some listed) session.0 (owned s.tree o)) same_owner (shows session.0 (ap (λ (o : ℤ). session_at o s) same_owner ∙ session.1))))

      deletes : (listed : Option SessionRec) → ((x.owner ≡ pos 0 → ⊥) → (y : Session) → session_at x.owner s ≡ Some y → ShowsOwned listed y (owned s.tree x.owner)) → IsRight z s (delete_here p q x b (Some above) listed) done
      deletes listed shows = elim (int_eq x.owner (pos 0)) as (λ c. int_eq x.owner (pos 0) ≡ c → IsRight z s (cond c (Make (delete_changes p q b above.counts) (delete_triggers p q) result.Deleted) (delete_owned p q b above.counts x.owner listed)) done) [
        | true ↦ plain
        | false ↦ λ e.
            let has_owner : x.owner ≡ pos 0 → ⊥ = λ free. true≢false (sym (int_eq-same x.owner (pos 0) free) ∙ e) in
            by_nodes listed has_owner (shows has_owner)
      ] refl

    by_parent : (b : Bool) → is_counted_in s (Some n) ≡ b → (above : Option SeenCounts) (u : Option Node) (d : Bool) → u ≡ Some up.node → ShowsCounts z above u (num_children s.tree q) d → (listed : Option SessionRec)
        → ((x.owner ≡ pos 0 → ⊥) → (y : Session) → session_at x.owner s ≡ Some y → ShowsOwned listed y (owned s.tree x.owner))
        → IsRight z s (delete_here p q x b above listed) (Done result.Deleted (removed s.tree p z) (removal p))
    by_parent b stored above None d is counted listed shows = absurd (cc)
    by_parent b stored None (Some w) d is counted listed shows = absurd counted
    by_parent b stored (Some c) (Some w) d is counted listed shows = deletes b stored c d (subst (λ (y : Node). IsSeenCounts z c y (num_children s.tree q) d) (some_is is) counted) listed shows

    -- the tests of the version and of the children
    tests : (made : Choice) (done : Outcome) → IsRight z s made done → (b e : Bool) →
        IsRight z s (cond (not b) (Refuse bad_version) (cond (not e) (Refuse not_empty) made)) (cond (not b) (Refused bad_version) (cond (not e) (Refused not_empty) done))
    tests made over right false e = refl
    tests made over right true false = refl
    tests made over right true true = right

    delete_with : (c : SeenCounts) → IsSeenCounts z c n (num_children s.tree p) (is_counted_in s (Some n)) → (above : Option SeenCounts) (d : Bool) → ShowsCounts z above (get s.tree q) (num_children s.tree q) d
        → (listed : Option SessionRec) → ((x.owner ≡ pos 0 → ⊥) → (y : Session) → session_at x.owner s ≡ Some y → ShowsOwned listed y (owned s.tree x.owner))
        → IsRight z s (delete_choice p q version (Some x) (Some c) above listed) (delete s.tree p version z (Some n))
    unfolding delete_choice
    delete_with c own above d counted listed shows =
        let same_version : x.version ≡ n.version = ap (λ (y : SeenData). y.version) seen.is in
        let same_count : int_eq c.counts.children (pos 0) ≡ eqb (num_children s.tree p) 0 = ap (λ (k : CountRec). int_eq k.children (pos 0)) own.is ∙ is_zero (num_children s.tree p) in
        subst (λ (t : ℤ × Bool). IsRight z s (cond (not (matches version t.0)) (Refuse bad_version) (cond (not t.1) (Refuse not_empty) (delete_here p q x c.is_stored above listed))) (delete s.tree p version z (Some n)))
        (λ i. (sym same_version i, sym same_count i))
        (tests (delete_here p q x c.is_stored above listed) (Done result.Deleted (removed s.tree p z) (removal p)) (by_parent c.is_stored (sym own.stored) above (get s.tree q) d up.there counted listed shows) (matches version n.version) (eqb (num_children s.tree p) 0))

  pub delete_right : (x : Option SeenData) (c above : Option SeenCounts) (listed : Option SessionRec) (n : Option Node) → get s.tree p ≡ n
      → ShowsData z x n → ShowsCounts z c n (num_children s.tree p) (is_counted_in s n) → IfSome n (λ (u : Node). ShowsCounts z above (get s.tree q) (num_children s.tree q) true)
      → ((w : SeenData) → x ≡ Some w → (w.owner ≡ pos 0 → ⊥) → (y : Session) → session_at w.owner s ≡ Some y → ShowsOwned listed y (owned s.tree w.owner))
      → IsRight z s (delete_choice p q version x c above listed) (delete s.tree p version z n)
  unfolding delete_choice
  delete_right None c above listed None here seen own counted shows = refl
  delete_right None c above listed (Some n) here seen own counted shows = absurd seen
  delete_right (Some x) c above listed None here seen own counted shows = absurd seen
  delete_right (Some x) None above listed (Some n) here seen own counted shows = absurd own
  delete_right (Some x) (Some c) above listed (Some n) here seen own counted shows = delete_with n x here seen c own above true counted listed (shows x refl)
